-- The check says that the record is good. Assumes nothing.
use Rattle.demands.proofs.Records.{good-as}
use Rattle.demands.proofs.Lookups.{itself, field-parts}
use Rattle.demands.proofs.refuses_other_places.Goals as goal

pub refuses_others-requires-clause-parts : goal.refuses_others-requires-clause-parts
refuses_others-requires-clause-parts c =
    (6, field-parts (good-as _ c.type_inv.«record» c.in-Good.is c.check_record.ensures) itself)
