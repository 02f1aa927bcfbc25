-- The size told lies within the record, and so many bytes of it are the reading's record. Assumes nothing.
use Rattle.demands.proofs.Calls.{refused-record, record-long, own-record}
use Rattle.demands.proofs.record_of.Goals as goal

pub slice_bounds-result-end : goal.slice_bounds-result-end
slice_bounds-result-end c = record-long _ _ _ _ c.read_scenario.ensures c.in-Read.is c.read_scenario.auto.«record»

pub returns-in-Refused : goal.returns-in-Refused
returns-in-Refused c = refused-record _ _ _ _ c.read_scenario.ensures c.in-Refused.is

pub returns-in-Read : goal.returns-in-Read
returns-in-Read c = own-record _ _ _ _ c.read_scenario.ensures c.in-Read.is
