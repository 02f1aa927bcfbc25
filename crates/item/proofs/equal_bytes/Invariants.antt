-- The invariant: from `i` on, the strings are the same. Assumes nothing.
use Rattle.std.proofs.Common.{◌≡◌, drop}
use Rattle.item.proofs.equal_bytes.Given as goal

abbrev pub invariant-loop-i : goal.invariant-loop-i
invariant-loop-i l = drop l.i l.a ≡ drop l.i l.b
