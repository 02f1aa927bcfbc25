-- The check says that the record is good. Assumes nothing.
use Rattle.std.proofs.Common.{refl}
use Rattle.demands.proofs.Records.{good-as}
use Rattle.demands.proofs.Lookups.{itself, step-parts}
use Rattle.demands.proofs.refuses_other_numbers.Goals as goal

pub refuses_others-requires-clause-parts : goal.refuses_others-requires-clause-parts
refuses_others-requires-clause-parts c =
    (_, step-parts (good-as _ c.type_inv.«record» c.in-Good.is c.check_record.ensures) itself _ refl)
