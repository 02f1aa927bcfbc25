-- The lookup that is passed on is the definition's. Assumes nothing.
use Rattle.record.specs.Jobs.{step}
use Rattle.demands.proofs.Lookups.{itself, step-shown}
use Rattle.demands.proofs.step_item.Goals as goal

pub returns : goal.returns
returns c = step-shown _ _ _ (c.item_of.ensures step itself)
