-- The invariant: what is trimmed at the end of the part is what is trimmed at the end of the part up to `end`. Assumes nothing.
use Rattle.std.proofs.Common.{◌≡◌, ◌≤◌}
use Rattle.utf8.specs.White.{trim_end}
use Rattle.utf8.specs.Part.{part}
use Rattle.utf8.proofs.trim_end.Given as goal

abbrev pub invariant-loop-end : goal.invariant-loop-end
invariant-loop-end l = (l.from ≤ l.end) × (l.end ≤ l.to) × (trim_end (part l.s l.from l.to) ≡ trim_end (part l.s l.from l.end))

abbrev pub decreases-loop-end : goal.decreases-loop-end
decreases-loop-end l = l.end
