-- The invariant: no place before this one passes. Assumes nothing.
use Rattle.std.proofs.Common.{false, ℕ, ◌-◌, ◌≤◌, ◌<◌}
use Rattle.utf8.proofs.first_place.Given as goal

abbrev pub invariant-loop-place : goal.invariant-loop-place
invariant-loop-place g l = (l.from ≤ l.place) × (l.place ≤ l.to) × ((k : ℕ) → l.from ≤ k → k < l.place → goal.F-post g l.test k false)

abbrev pub decreases-loop-place : goal.decreases-loop-place
decreases-loop-place g l = l.to - l.place
