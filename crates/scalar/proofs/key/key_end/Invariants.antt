-- The invariant: the search from here on finds what the search from the start finds. Assumes nothing.
use Rattle.std.proofs.Common.{◌≡◌, ◌≤◌, ◌-◌, length, drop}
use Rattle.scalar.specs.Key.{key_end, key_end_from}
use Rattle.scalar.specs.Code.{open_of}
use Rattle.scalar.proofs.key.key_end.Given as goal

abbrev pub invariant-loop-i : goal.invariant-loop-i
invariant-loop-i l = (l.i ≤ length l.s) × (l.depth ≤ l.i) × (key_end_from (open_of l.quote) l.depth l.i (drop l.i l.s) ≡ key_end l.s)

abbrev pub decreases-loop-i : goal.decreases-loop-i
decreases-loop-i l = length l.s - l.i
