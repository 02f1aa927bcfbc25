-- The check, then the search among the steps. Assumes nothing.
use Rattle.refusal.proofs.Tools.{err_is}
use Rattle.record.proofs.StepPlaces.{opened_steps}
use Rattle.lookups.proofs.Numbers.{by-id, id_refused}
use Rattle.lookups.proofs.with_id.Goals as goal

pub returns-in_err-steps : goal.returns-in_err-steps
returns-in_err-steps c = rw (err_is _ c.from_residual.ensures.1) (id_refused _ _ c.in_err-steps.ensures)

pub returns : goal.returns
returns c =
    let w = c.in_ok-steps.ensures in
    by-id (opened_steps w) _ w.from (c.find_id.ensures w.meaning.steps (rw w.bytes w.lie))
