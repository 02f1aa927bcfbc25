-- The check, the place, then the walk over the headers. Assumes nothing.
use Rattle.std.proofs.Common.{ap, ◌∙◌, ◌-◌, arith}
use Rattle.std.proofs.lemmas.Grind.{common_steps}
use Rattle.refusal.proofs.Tools.{err_is}
use Rattle.record.specs.Contract.{span_of}
use Rattle.record.proofs.Lookups.{field-refused}
use Rattle.record.proofs.Answers.{opened_as, outside, field_outside, field_in}
use Rattle.record.proofs.field_at.Goals as goal

pub returns-then-not-contains : goal.returns-then-not-contains
returns-then-not-contains c =
    let o = opened_as _ c.type_inv.«record» c.in_ok-checked.ensures in
    field_outside o c.args.place (outside c.new.ensures.start c.new.ensures.end c.new.ensures.exhausted c.contains.ensures.value c.if-not-contains.true)

pub returns-in_err-checked : goal.returns-in_err-checked
returns-in_err-checked c = rw (err_is _ c.from_residual.ensures.1) (field-refused _ _ _ _ c.in_err-checked.ensures c.args.place)

pub returns : goal.returns
returns c =
    let o = opened_as _ c.type_inv.«record» c.in_ok-checked.ensures in
    let place = c.args.place in
    ap span_of c.nth_item.ensures ∙ field_in o place (place - 1) (grind (arith, common_steps)) (grind (arith, common_steps))
