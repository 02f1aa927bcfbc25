-- One step after the other. Assumes nothing.
use Rattle.std.proofs.Common.{◌≡◌, sym, ap, ◌∙◌, subst, ℕ, ◌-◌, ◌+◌, take, drop, arith, rules, true, false, eqb-true}
use Rattle.std.proofs.lemmas.Bool.{eqb-false}
use Rattle.item.proofs.Headers.{no_header}
use Rattle.record.specs.Read.{in_item, step_in}
use Rattle.record.specs.Contract.{is_step}
use Rattle.record.proofs.Chains.{no_item, content-read, content-refused, steps-end, steps-fail, steps_next}
use Rattle.value.proofs.Headers.{ok_item, is-err}
use Rattle.record.proofs.Headers.{no-content-at, content-here, content-other}
use Rattle.record.proofs.Invariants.{Left, left-start}
use Rattle.item.proofs.Turns.{turn, stop}
use Rattle.record.proofs.steps.Goals as goal

pub loop-item-init : goal.loop-item-init
loop-item-init c =
    let start : c.into_iter-item-iterator.result.at ≡ 0 = search rules in
    record {
      bytes = search rules;
      to = search rules;
      inside = omega arith;
      few = omega arith;
      left = subst (λ (n : ℕ). Left (in_item 19 step_in) c.args.s.bytes.now n 0) (sym start) left-start;
    }

pub returns-in_err-item : goal.returns-in_err-item
returns-in_err-item c =
    let i = c.loop-item.invariant in
    let s = c.args.s.bytes.now in
    let at = c.loop-item.item-iterator.at in
    let t = stop _ _ i.bytes i.to c.in-Some.ensures.steps (is-err (sym c.in_err-item.was ∙ c.ok.ensures.value)).1 in
    rw c.from_residual.ensures (steps-fail i.left t.before (no_item 19 step_in (drop at s) (no-content-at 19 s at (no_header s at t.is))))

pub returns-then-not-is : goal.returns-then-not-is
returns-then-not-is c =
    let i = c.loop-item.invariant in
    let s = c.args.s.bytes.now in
    let at = c.loop-item.item-iterator.at in
    let t = turn _ _ i.bytes i.to c.in-Some.ensures.steps (ok_item c.in_ok-item.was c.ok.ensures.value) in
    steps-fail i.left t.before (no_item 19 step_in (drop at s) (content-other 19 s at t.is (eqb-false _ _ (sym c.is.ensures ∙ c.if-not-is.true))))

pub returns-in_err-step_content : goal.returns-in_err-step_content
unfolding is_step
returns-in_err-step_content c =
    let i = c.loop-item.invariant in
    let s = c.args.s.bytes.now in
    let at = c.loop-item.item-iterator.at in
    let to = c.in_ok-item.item.to in
    let t = turn _ _ i.bytes i.to c.in-Some.ensures.steps (ok_item c.in_ok-item.was c.ok.ensures.value) in
    let bad = subst (λ (n : ℕ). is_step (take (to - n) (drop n s)) ≡ false) t.places.start (ap is_step (sym c.slice.ensures) ∙ sym c.in_err-step_content.ensures) in
    rw c.from_residual-in_err-step_content.ensures (steps-fail i.left t.before (content-refused step_in (content-here 19 s at t.is (eqb-true _ _ (sym c.is.ensures ∙ c.if-not-is.false))) bad))

pub loop-item-preserved : goal.loop-item-preserved
unfolding is_step
loop-item-preserved c =
    let i = c.loop-item.invariant in
    let s = c.args.s.bytes.now in
    let at = c.loop-item.item-iterator.at in
    let to = c.in_ok-item.item.to in
    let t = turn _ _ i.bytes i.to c.in-Some.ensures.steps (ok_item c.in_ok-item.was c.ok.ensures.value) in
    let good = subst (λ (n : ℕ). is_step (take (to - n) (drop n s)) ≡ true) t.places.start (ap is_step (sym c.slice.ensures) ∙ sym c.in_ok-step_content.ensures) in
    let r = content-read step_in (content-here 19 s at t.is (eqb-true _ _ (sym c.is.ensures ∙ c.if-not-is.false))) good in
    record {
      bytes = t.bytes;
      to = t.end;
      inside = omega (arith, t.next, r.fits);
      few = omega (arith, t.next, r.forward);
      left = subst (λ (n : ℕ). Left (in_item 19 step_in) s n (c.loop-item.count + 1)) (sym t.next) (steps_next i.left t.before r);
    }

pub returns : goal.returns
returns c = steps-end c.loop-item.invariant.left (search rules)
