-- The value beside `times`, and what it comes to. Assumes nothing.
use Rattle.std.proofs.Common.{◌≡◌, sym, ap, ◌∙◌, arith}
use Rattle.refusal.specs.Base.{bytes}
use Rattle.refusal.proofs.Tools.{err_is}
use Rattle.refusal.specs.declared.Refusal.TheVariants.{TimesNotPositive}
use Rattle.record.specs.Contract.{span_of}
use Rattle.lookups.proofs.Numbers.{times-refused, value-small, times-missing, times-found}
use Rattle.lookups.proofs.told_times.Goals as goal

pub returns-in_err-found : goal.returns-in_err-found
unfolding bytes
returns-in_err-found c = rw (err_is _ c.from_residual.ensures.1) (times-refused _ _ c.in_err-found.ensures)

pub overflow_cast-step : goal.overflow_cast-step
unfolding bytes
overflow_cast-step c = omega (arith, value-small _ _ (λ i. omega (arith, c.type_inv.«record» i)) (bytes "times") c.in_ok-found.found c.in_ok-found.ensures)

pub returns-in_err-times : goal.returns-in_err-times
unfolding bytes
returns-in_err-times c =
    let o = c.in_err-times.ensures in
    let r : c.in_err-times.field-0.0 ≡ TimesNotPositive c.args.number = cc (rw o.ok_part at o.value) in
    rw (err_is _ c.from_residual-in_err-times.ensures.1, r) (times-missing _ _ (λ i. omega (arith, c.type_inv.«record» i)) (ap span_of (sym o.ok_part) ∙ c.in_ok-found.ensures))

pub invariant_of-record : goal.invariant_of-record
unfolding bytes
invariant_of-record c = record { short = (times-found _ _ (λ i. omega (arith, c.type_inv.«record» i)) (ap span_of (sym c.in_ok-times.ensures.ok_part) ∙ c.in_ok-found.ensures)).size }

pub returns : goal.returns
unfolding bytes
returns c =
    let w = times-found _ _ (λ i. omega (arith, c.type_inv.«record» i)) (ap span_of (sym c.in_ok-times.ensures.ok_part) ∙ c.in_ok-found.ensures) in
    c.times_at.ensures w.value w.found.fits w.found.stands ∙ w.is
