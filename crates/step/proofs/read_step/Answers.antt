-- A value that is there, a mapping, then its entries. Assumes nothing.
use Rattle.std.proofs.Common.{◌≡◌}
use Rattle.refusal.proofs.Tools.{err_is}
use Rattle.refusal.specs.declared.Refusal.TheVariants.{StepNotMapping}
use Rattle.meaning.specs.Meanings.{step_at}
use Rattle.step.proofs.Steps.{step-32, mapping-there}
use Rattle.step.proofs.read_step.Goals as goal

pub returns-in_err-entries-clause-step : goal.returns-in_err-entries-clause-step
returns-in_err-entries-clause-step c = λ y i.
    let o = c.in_err-entries.ensures in
    let r : c.in_err-entries.field-0.0 ≡ StepNotMapping c.args.number = cc (rw o.ok_part at o.value) in
    rw (err_is _ c.from_residual.ensures.1, r) (step-32 _ _ y (rw o.ok_part at (mapping-there y _ _ _ c.and_then.ensures (λ x g. g.1.1.1) i)))

pub returns-clause-step : goal.returns-clause-step
unfolding step_at
returns-clause-step c = λ y i.
    let m = rw c.in_ok-entries.ensures.ok_part at (mapping-there y _ _ _ c.and_then.ensures (λ x g. g.1.1.1) i) in
    rw m.is (c.read_entries.ensures.step m.entries m.holds)
