-- Refusals in their order, then the values. Assumes nothing.
use Rattle.std.proofs.Common.{◌≡◌, Bor, List, ℕ, refl, ap, ◌∙◌, subst}
use Rattle.refusal.proofs.Tools.{err_is}
use Rattle.refusal.specs.Base.{bytes}
use Rattle.refusal.specs.declared.Refusal.TheVariants.{NotOneCommand}
use Rattle.item.specs.Tree.{get}
use Rattle.meaning.specs.Meanings.{commands}
use Rattle.step.specs.Contract.{AgreesExpect, AgreesCommand}
use Rattle.step.proofs.Steps.{step-33, step-34, step-35, step-read}
use Rattle.step.proofs.read_entries.Goals as goal

pub returns-then-not-fits-clause-step : goal.returns-then-not-fits-clause-step
returns-then-not-fits-clause-step c = λ es h.
    let a = c.entries_in.ensures.entries es h in
    step-33 _ _ es (subst (AgreesExpect (get (bytes "expect") es)) c.if-not-fits.true (c.expect_fits-fits.ensures _ a.fields.expect))

pub returns-in_err-command-clause-step : goal.returns-in_err-command-clause-step
returns-in_err-command-clause-step c = λ es h.
    let a = c.entries_in.ensures.entries es h in
    let o = c.in_err-command.ensures in
    let r : c.in_err-command.field-0.0 ≡ NotOneCommand c.args.number = cc (rw o.ok_part at o.value) in
    rw (err_is _ c.from_residual.ensures.1, r)
    (step-34 _ _ es (subst (AgreesExpect (get (bytes "expect") es)) c.if-not-fits.false (c.expect_fits-fits.ensures _ a.fields.expect)) (subst (AgreesCommand (commands es)) o.ok_part a.command _))

pub returns-then-not-allowed-clause-step : goal.returns-then-not-allowed-clause-step
returns-then-not-allowed-clause-step c = λ es h.
    let a = c.entries_in.ensures.entries es h in
    let e = subst (AgreesExpect (get (bytes "expect") es)) c.if-not-fits.false (c.expect_fits-fits.ensures _ a.fields.expect) in
    let o = subst (AgreesCommand (commands es)) c.in_ok-command.ensures.ok_part a.command in
    step-35 _ _ es e o a.fields c.expect_allowed-allowed.result c.expect_allowed-allowed.ensures c.if-not-allowed.true

pub returns-clause-step : goal.returns-clause-step
returns-clause-step c = λ es h.
    let a = c.entries_in.ensures.entries es h in
    let e = subst (AgreesExpect (get (bytes "expect") es)) c.if-not-fits.false (c.expect_fits-fits.ensures _ a.fields.expect) in
    let o = subst (AgreesCommand (commands es)) c.in_ok-command.ensures.ok_part a.command in
    let there = c.in_ok-value.ensures.ok_part in
    let v = rw there at (c.at-value.ensures.value o.v o.entry.ranged (rw c.encoded.ensures o.entry.value)) in
    step-read _ _ es e o a.fields c.expect_allowed-allowed.result c.expect_allowed-allowed.ensures c.if-not-allowed.false _ refl refl v
    (ap (λ (b : Bor (List ℕ)). b.now) (rw there at c.at-value.ensures.bytes ∙ c.encoded.ensures)) (rw there at c.at-value.ensures.place)
