-- The reading, then what is written of it. Assumes nothing.
use Rattle.step.proofs.step_at.Goals as goal

pub returns-clause-step : goal.returns-clause-step
returns-clause-step c = λ y i.
    let r = c.in_ok-step.ensures.step y i in
    record { read = r.step; is = r.is; writes = c.put_step.ensures.step r.step r.stands }
