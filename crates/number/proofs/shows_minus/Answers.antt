-- By the tests. Assumes nothing.
use Rattle.number.proofs.Laws.{text-minus, text-bare}
use Rattle.number.proofs.shows_minus.Goals as goal

pub returns-then-n : goal.returns-then-n
returns-then-n c = rw c.if-n.true (text-minus c.args.n.magnitude)

pub returns-else-n : goal.returns-else-n
returns-else-n c = rw c.if-n.false (text-bare c.args.n.magnitude)
