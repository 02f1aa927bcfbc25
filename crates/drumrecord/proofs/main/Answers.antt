-- The size told lies within the record. Assumes nothing.
use Rattle.std.proofs.Common.{sym, arith, length-take-le}
use Rattle.scenario.proofs.ReadScenario.{sizes-fit}
use Rattle.drumrecord.proofs.main.Goals as goal

pub slice_bounds-write_all-end : goal.slice_bounds-write_all-end
slice_bounds-write_all-end c =
    let w = sizes-fit _ _ _ _ _ _ _ _ _ c.in-Read.is c.read_scenario.ensures.answer in
    sym (length-take-le _ _ (omega (arith, w.1, c.read_scenario.auto.record, c.deref-in-Read.ensures.len)))
