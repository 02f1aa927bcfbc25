-- The check, then the last field. Assumes nothing.
use Rattle.std.proofs.Common.{sym, ap, ◌∙◌, List, ℕ, arith, Bor}
use Rattle.std.specs.Result.{result_ok}
use Rattle.entries.proofs.Counting.{nth_inside}
use Rattle.record.proofs.Answers.{opened_as}
use Rattle.record.proofs.StepPlaces.{record-small, steps-lie, steps-there}
use Rattle.record.proofs.steps_of.Goals as goal

pub returns-in_err-list : goal.returns-in_err-list
returns-in_err-list c =
    let o = opened_as _ c.type_inv.«record» c.in_ok-count.ensures in
    steps-there o (sym (c.ok_or.ensures.ok_part ∙ ap result_ok c.in_err-list.was) ∙ c.nth_item.ensures)

pub overflow_add-list : goal.overflow_add-list
overflow_add-list c =
    let w = nth_inside c.args.«record».now 7 6 (sym (c.ok_or.ensures.ok_part ∙ ap result_ok c.in_ok-list.was) ∙ c.nth_item.ensures) in
    omega (arith, w.order, w.fits)

pub invariant_of-record : goal.invariant_of-record
invariant_of-record c = record { short = record-small (opened_as _ c.type_inv.«record» c.in_ok-count.ensures).record_is }

pub returns : goal.returns
returns c =
    let o = opened_as _ c.type_inv.«record» c.in_ok-count.ensures in
    let w = steps-lie o (sym (c.ok_or.ensures.ok_part ∙ ap result_ok c.in_ok-list.was) ∙ c.nth_item.ensures) in
    let q = c.part.ensures.places (omega (arith, w.lie.ends)) (omega (arith, w.lie.ends, w.lie.stands.within)) in
    record {
      meaning = o.meaning;
      is = o.is;
      record_is = o.record_is;
      count = o.count;
      bytes = ap (λ (x : Bor (List ℕ)). x.now) c.part.ensures.bytes;
      from = q.0 ∙ w.begins;
      lie = rw (q.0, q.1) w.lie;
    }
