-- The lookup that is passed on is the definition's. Assumes nothing.
use Rattle.record.specs.Jobs.{field}
use Rattle.demands.proofs.Lookups.{itself, field-shown}
use Rattle.demands.proofs.field_item.Goals as goal

pub returns : goal.returns
returns c = field-shown _ _ _ (c.item_of.ensures field itself)
