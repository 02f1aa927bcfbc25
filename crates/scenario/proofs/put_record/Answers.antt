-- The parts are read; then come the fields before the steps, the steps and the header. Assumes nothing.
use Rattle.refusal.proofs.Tools.{err_is}
use Rattle.step_lines.specs.StepLines.{step_lines}
use Rattle.scenario.proofs.Writing.{top-refused, steps-refused, record-wrote}
use Rattle.scenario.proofs.put_record.Goals as goal

pub returns-in_err-top-clause-whole : goal.returns-in_err-top-clause-whole
returns-in_err-top-clause-whole c = λ y g st.
    rw (err_is _ c.from_residual.ensures.1) (top-refused _ y (c.in_err-top.ensures.top y g st))

pub returns-in_err-steps-clause-whole : goal.returns-in_err-steps-clause-whole
returns-in_err-steps-clause-whole c = λ y g st.
    let t = c.in_ok-top.ensures.top y g st in
    rw (err_is _ c.from_residual-in_err-steps.ensures.1) (steps-refused (step_lines c.args.text.now) y t.is (c.in_err-steps.ensures.steps t.top.steps t.stands.steps))

pub returns-clause-whole : goal.returns-clause-whole
returns-clause-whole c = λ y g st.
    let t = c.in_ok-top.ensures.top y g st in
    record-wrote (step_lines c.args.text.now) y t.is c.open-header.ensures (c.put_top.ensures.fields t.top t.stands) (c.in_ok-steps.ensures.steps t.top.steps t.stands.steps) c.close.ensures
