use Rattle.std.proofs.Common.{rules}
use Rattle.share.proofs.Laws.{greatest_found}
use Rattle.share.proofs.greatest_of.Goals as goal

pub returns-clause-is_greatest : goal.returns-clause-is_greatest
returns-clause-is_greatest c = greatest_found c.args.wishes.now c.max.result (search rules) (search rules)
