-- The check of the record, that of the list, then the steps. Assumes nothing.
use Rattle.std.proofs.Common.{sym, ◌∙◌}
use Rattle.refusal.proofs.Tools.{err_is}
use Rattle.record.proofs.Views.{some_is}
use Rattle.record.proofs.StepPlaces.{opened_steps}
use Rattle.check_steps.specs.Names.{names_in}
use Rattle.check_steps.proofs.Names.{listed}
use Rattle.check_steps.proofs.Answers.{no_record, bad-list, refused-is, passed_is}
use Rattle.check_steps.proofs.checked.Goals as goal

pub returns-in_err-steps : goal.returns-in_err-steps
returns-in_err-steps c =
    let a = c.args in
    rw (err_is _ c.from_residual.ensures.1) (no_record a.«record».now a.lines.now a.names.now c.in_err-steps.ensures)

pub returns-then-not-is_list : goal.returns-then-not-is_list
returns-then-not-is_list c = bad-list (opened_steps c.in_ok-steps.ensures) _ _ (sym c.if-not-is_list.true ∙ c.is_list.ensures)

pub slice_bounds-check_all-count : goal.slice_bounds-check_all-count
slice_bounds-check_all-count c =
    let n = some_is (names_in c.args.names.now) (sym c.is_list.ensures ∙ c.if-not-is_list.false) in
    (listed _ n.0 n.1).long

pub slice_bounds-check_all-start : goal.slice_bounds-check_all-start
slice_bounds-check_all-start c =
    let n = some_is (names_in c.args.names.now) (sym c.is_list.ensures ∙ c.if-not-is_list.false) in
    (listed _ n.0 n.1).long

pub returns : goal.returns
returns c =
    let n = some_is (names_in c.args.names.now) (sym c.is_list.ensures ∙ c.if-not-is_list.false) in
    let w = c.in_ok-steps.ensures in
    passed_is (opened_steps w) _ _ n.0 n.1 (c.in_ok-check_all.ensures n.0 (listed _ n.0 n.1).is w.meaning.steps (rw w.bytes w.lie))

pub returns-in_err-check_all : goal.returns-in_err-check_all
returns-in_err-check_all c =
    let n = some_is (names_in c.args.names.now) (sym c.is_list.ensures ∙ c.if-not-is_list.false) in
    let w = c.in_ok-steps.ensures in
    rw (err_is _ c.from_residual-in_err-check_all.ensures.1) (refused-is (opened_steps w) _ _ n.0 n.1 (c.in_err-check_all.ensures n.0 (listed _ n.0 n.1).is w.meaning.steps (rw w.bytes w.lie)))
