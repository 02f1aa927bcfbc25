-- The invariant: the places from `i` on have moved up by one. Assumes nothing.
use Rattle.std.proofs.Common.{◌≤◌}
use Rattle.entries.proofs.Runs.{Moved}
use Rattle.entries.proofs.sorted.insert.Given as goal

abbrev pub invariant-loop-i : goal.invariant-loop-i
invariant-loop-i l = (l.index ≤ l.i) × Moved l.initial.places l.places l.count l.i
