-- The sizes told lie within the record and the lines. Assumes nothing.
use Rattle.std.proofs.Common.{sym, arith, length-take-le}
use Rattle.scenario.proofs.ReadScenario.{sizes-fit}
use Rattle.drumread.proofs.main.Goals as goal

pub slice_bounds-print_read-end : goal.slice_bounds-print_read-end
slice_bounds-print_read-end c =
    let w = sizes-fit _ _ _ _ _ _ _ _ _ c.in-Read.is c.read_scenario.ensures.answer in
    sym (length-take-le _ _ (omega (arith, w.1, c.read_scenario.auto.record, c.deref-in-Read.ensures.len)))

pub slice_bounds-print_read-end-in-Read : goal.slice_bounds-print_read-end-in-Read
slice_bounds-print_read-end-in-Read c =
    let w = sizes-fit _ _ _ _ _ _ _ _ _ c.in-Read.is c.read_scenario.ensures.answer in
    sym (length-take-le _ _ (omega (arith, w.2, c.read_scenario.auto.lines, c.deref-in-Read-2.ensures.len)))
