-- The mapping, then the value beside its key. Assumes nothing.
use Rattle.refusal.specs.Base.{bytes}
use Rattle.check_steps.proofs.Inner.{no_steps, in-entries}
use Rattle.check_steps.proofs.find_steps.Goals as goal

pub returns-in_err-mapping : goal.returns-in_err-mapping
returns-in_err-mapping c = λ v i. rw c.from_residual.ensures (no_steps v (c.in_err-mapping.ensures.entries v i))

pub returns : goal.returns
unfolding bytes
returns c = λ v i.
    let m = c.in_ok-mapping.ensures.entries v i in
    rw (← in-entries v m.entries m.is) (c.value_of.ensures.value m.entries m.holds)
