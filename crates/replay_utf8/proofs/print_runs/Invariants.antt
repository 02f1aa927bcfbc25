use Rattle.std.proofs.Common.{◌≤◌}
use Rattle.replay_utf8.proofs.print_runs.Given as goal

abbrev pub invariant-loop-code_point : goal.invariant-loop-code_point
invariant-loop-code_point g l = l.accepted ≤ l.code_point-counter
