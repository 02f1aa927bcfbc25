-- The numbers so far are told. Assumes nothing.
use Rattle.std.proofs.Common.{◌≡◌, take}
use Rattle.drum.specs.Numbers.{told}
use Rattle.drum.proofs.store.Given as goal

abbrev pub invariant-loop-i : goal.invariant-loop-i
invariant-loop-i l = l.answer ≡ told (take l.i l.number-items) l.initial.answer
