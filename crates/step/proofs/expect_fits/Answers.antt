-- The kind decides. Assumes nothing.
use Rattle.std.proofs.Common.{rules}
use Rattle.step.proofs.Fields.{none-or-mapping}
use Rattle.step.proofs.expect_fits.Goals as goal

pub returns : goal.returns
returns c = λ o f. none-or-mapping o _ _ _ c.is_none_or.ensures (λ x g. search (rules)) f
