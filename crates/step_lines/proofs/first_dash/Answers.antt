-- By whether a line stands behind that of the steps. Assumes nothing.
use Rattle.std.proofs.Common.{arith}
use Rattle.step_lines.proofs.Laws.{begins_none, begins_at}
use Rattle.step_lines.proofs.first_dash.Goals as goal

pub returns-then-at-len : goal.returns-then-at-len
returns-then-at-len c = begins_none c.args.lines.now _ (omega arith) c.behind_steps-at.ensures.0

pub returns : goal.returns
returns c = begins_at c.args.lines.now _ (omega arith) c.indent.ensures.value c.behind_steps-at.ensures.0
