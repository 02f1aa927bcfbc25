-- The size told lies within the record, and the check accepts those bytes. Assumes nothing.
use Rattle.std.proofs.Common.{◌∙◌}
use Rattle.demands.proofs.Calls.{record-fits, record-long, told-good}
use Rattle.demands.proofs.reads_good_records.Goals as goal

pub slice_bounds-is_good-end : goal.slice_bounds-is_good-end
slice_bounds-is_good-end c = record-fits _ _ _ _ c.read_scenario.ensures c.in-Read.is c.read_scenario.auto.«record»

pub slice_bounds-is_good-end-in-Read : goal.slice_bounds-is_good-end-in-Read
slice_bounds-is_good-end-in-Read c = record-long _ _ _ _ c.read_scenario.ensures c.in-Read.is c.read_scenario.auto.«record»

pub returns-in-Read : goal.returns-in-Read
returns-in-Read c = c.is_good.ensures ∙ told-good _ _ _ _ c.read_scenario.ensures c.in-Read.is
