use Rattle.std.proofs.Common.{◌≤◌}
use Rattle.replay_utf8.proofs.print_edges.Given as goal

abbrev pub invariant-loop-number : goal.invariant-loop-number
invariant-loop-number g l = l.accepted ≤ l.number
