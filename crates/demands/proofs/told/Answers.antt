-- By the two ends of the call. Assumes nothing.
use Rattle.demands.proofs.Calls.{tells-refusal, tells-nothing}
use Rattle.demands.proofs.told.Goals as goal

pub returns-in-Refused : goal.returns-in-Refused
returns-in-Refused c = tells-refusal _ _ _ _ c.read_scenario.ensures c.in-Refused.is c.told.ensures

pub returns-in-Read : goal.returns-in-Read
returns-in-Read c = tells-nothing _ _ _ _ c.read_scenario.ensures c.in-Read.is c.default.ensures.0 c.default.ensures.1.0 c.default.ensures.1.1
