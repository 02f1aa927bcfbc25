-- The check, the number, then the walk over the headers. Assumes nothing.
use Rattle.std.proofs.Common.{ap, ◌∙◌, ◌-◌, arith}
use Rattle.std.proofs.lemmas.Grind.{common_steps}
use Rattle.refusal.proofs.Tools.{err_is}
use Rattle.record.specs.Contract.{span_of}
use Rattle.record.proofs.Lookups.{step-refused}
use Rattle.record.proofs.Answers.{outside, step_outside, step_in}
use Rattle.record.proofs.StepPlaces.{opened_steps}
use Rattle.record.proofs.step_at.Goals as goal

pub returns-in_err-steps : goal.returns-in_err-steps
returns-in_err-steps c = rw (err_is _ c.from_residual.ensures.1) (step-refused _ _ _ _ c.in_err-steps.ensures c.args.number)

pub returns-then-not-contains : goal.returns-then-not-contains
returns-then-not-contains c =
    step_outside (opened_steps c.in_ok-steps.ensures) c.args.number (outside c.new.ensures.start c.new.ensures.end c.new.ensures.exhausted c.contains.ensures.value c.if-not-contains.true)

pub returns : goal.returns
returns c =
    let w = c.in_ok-steps.ensures in
    let number = c.args.number in
    ap span_of c.nth_item.ensures ∙ step_in (opened_steps w) _ number (number - 1) w.from (grind (arith, common_steps)) (grind (arith, common_steps))
