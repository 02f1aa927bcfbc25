-- By the first byte. Assumes nothing.
use Rattle.std.proofs.Common.{rules, arith}
use Rattle.std.proofs.lemmas.List.{take_rest}
use Rattle.number.proofs.Laws.{int-minus, int-other, int-empty}
use Rattle.number.proofs.sign_of.Goals as goal
use Rattle.number.proofs.sign_of.Goals.{in_default-via-then-t-lt1, in_default-via-else-t-lt1+in_default-1}

pub returns-in-45 : goal.returns-in-45
returns-in-45 c = rw (c.unsigned_abs.ensures.value, take_rest c.args.t.now 1) (int-minus c.args.t.now (λ e. omega arith) (omega arith))

pub returns-in_default : goal.returns-in_default
returns-in_default c = rw c.unsigned_abs-in_default.ensures.value (elim c.in_default.branch [
  | in_default-via-then-t-lt1 w ↦ search (rules, int-empty)
  | in_default-via-else-t-lt1+in_default-1 w ↦ search (rules, int-other)
])
