-- The invariant: what is leading from `from` is what lies before `at` and what is leading from there. Assumes nothing.
use Rattle.std.proofs.Common.{◌≡◌, ◌+◌, ◌-◌, ◌≤◌}
use Rattle.utf8.specs.White.{leading}
use Rattle.utf8.specs.Part.{part}
use Rattle.utf8.proofs.trim_start.Given as goal

abbrev pub invariant-loop-at : goal.invariant-loop-at
invariant-loop-at l = (l.from ≤ l.at) × (l.at ≤ l.to) × (l.from + leading (part l.s l.from l.to) ≡ l.at + leading (part l.s l.at l.to))

abbrev pub decreases-loop-at : goal.decreases-loop-at
decreases-loop-at l = l.to - l.at
