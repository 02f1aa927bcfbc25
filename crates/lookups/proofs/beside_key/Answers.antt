-- The step with the number, then its value. Assumes nothing.
use Rattle.std.proofs.Common.{sym, ap, ◌∙◌, arith}
use Rattle.refusal.proofs.Tools.{err_is}
use Rattle.record.specs.Contract.{span_of}
use Rattle.record.proofs.StepPlaces.{step-long}
use Rattle.lookups.proofs.Numbers.{number-found, value_refused, value-is}
use Rattle.lookups.proofs.beside_key.Goals as goal

pub returns-in_err-step : goal.returns-in_err-step
returns-in_err-step c = rw (err_is _ c.from_residual.ensures.1) (value_refused _ _ _ c.in_err-step.ensures)

pub invariant_of-record : goal.invariant_of-record
invariant_of-record c = record { short = (number-found _ _ (λ i. omega (arith, c.type_inv.«record» i)) (ap span_of (sym c.in-Some.is) ∙ c.in_ok-step.ensures)).there.size }

pub value_in-requires : goal.value_in-requires
value_in-requires c =
    let w = number-found _ _ (λ i. omega (arith, c.type_inv.«record» i)) (ap span_of (sym c.in-Some.is) ∙ c.in_ok-step.ensures) in
    omega (arith, w.there.stands.within, step-long w.step)

pub returns : goal.returns
returns c =
    let w = number-found _ _ (λ i. omega (arith, c.type_inv.«record» i)) (ap span_of (sym c.in-Some.is) ∙ c.in_ok-step.ensures) in
    value-is _ _ _ w (c.value_in.ensures w.step w.there.value w.there.stands)
