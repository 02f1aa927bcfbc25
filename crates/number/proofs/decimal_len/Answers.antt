use Rattle.std.proofs.Common.{arith}
use Rattle.number.proofs.Laws.{decimal_count}
use Rattle.number.proofs.decimal_len.Goals as goal

pub returns-clause-length : goal.returns-clause-length
returns-clause-length c = decimal_count c.ilog10.result c.args.n c.max.result (λ z. omega arith) (λ h. omega arith) (omega arith) c.ilog10.ensures.power_le c.ilog10.ensures.next_power_gt
