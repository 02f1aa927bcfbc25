-- The check says that the record is good, and then the fields and the steps fill it. Assumes nothing.
use Rattle.std.proofs.Common.{arith}
use Rattle.demands.proofs.Records.{good-as}
use Rattle.demands.proofs.Lookups.{itself, field-parts, step-parts, last-there, steps-begin, start_fits}
use Rattle.demands.proofs.lookups_fill.Goals as goal

pub returns-in_default-field : goal.returns-in_default-field
returns-in_default-field c =
    let g = good-as _ c.type_inv.«record» c.in-Good.is c.check_record.ensures in
    absurd (last-there g c.field.result c.field.ensures (λ s e q. c.in_default-field.not-Found s e q))

pub fill-requires-clause-parts : goal.fill-requires-clause-parts
fill-requires-clause-parts c =
    let g = good-as _ c.type_inv.«record» c.in-Good.is c.check_record.ensures in
    field-parts g itself

pub overflow_add-start : goal.overflow_add-start
overflow_add-start c =
    let g = good-as _ c.type_inv.«record» c.in-Good.is c.check_record.ensures in
    omega (arith, start_fits g _ _ c.in-Found.ensures)

pub fill-requires-then-fill-clause-parts : goal.fill-requires-then-fill-clause-parts
fill-requires-then-fill-clause-parts c =
    let g = good-as _ c.type_inv.«record» c.in-Good.is c.check_record.ensures in
    step-parts g itself _ (steps-begin g _ _ c.in-Found.ensures)
