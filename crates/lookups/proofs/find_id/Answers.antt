use Rattle.std.proofs.Common.{◌≡◌, sym, ap, ◌∙◌, subst, ℕ, ◌-◌, arith, rules}
use Rattle.refusal.specs.Base.{good}
use Rattle.record.specs.Jobs.{part}
use Rattle.record.proofs.Headers.{is-ok, is-err}
use Rattle.record.proofs.StepPlaces.{first_step, no_step}
use Rattle.item.proofs.Turns.{turn, stop}
use Rattle.lookups.proofs.Ids.{Left, id-found, ids_next}
use Rattle.lookups.proofs.find_id.Goals as goal

pub returns-in_err-step : goal.returns-in_err-step
returns-in_err-step c = λ steps h.
    let i = c.loop-step.invariant in
    let t = stop _ _ i.bytes i.to c.in-Some.ensures.steps (is-err (sym c.in_err-step.was ∙ c.ok.ensures.value)).1 in
    let l = i.left steps h in
    no_step (search rules) t.before l.rest l.lie t.is

pub returns-then-has_id : goal.returns-then-has_id
returns-then-has_id c = λ steps h.
    let i = c.loop-step.invariant in
    let t = turn _ _ i.bytes i.to c.in-Some.ensures.steps (is-ok (sym c.in_ok-step.was ∙ c.ok.ensures.value)) in
    let l = i.left steps h in
    let f = first_step (search rules) t.before l.rest l.lie t.is in
    let here : c.in_ok-step.step.from - 6 ≡ c.loop-step.step-iterator.at = omega (arith, t.places.start) in
    ap (λ (k : ℕ). good (part k c.in_ok-step.step.to)) here
    ∙ id-found l f (sym (c.has_id.ensures _ f.step t.places.start (rw c.encoded.ensures f.stands)) ∙ c.if-has_id.true)

pub loop-step-preserved : goal.loop-step-preserved
loop-step-preserved c =
    let a = c.args in
    let i = c.loop-step.invariant in
    let t = turn _ _ i.bytes i.to c.in-Some.ensures.steps (is-ok (sym c.in_ok-step.was ∙ c.ok.ensures.value)) in
    record {
      bytes = t.bytes;
      to = t.end;
      left = λ steps h.
          let l = i.left steps h in
          let f = first_step (search rules) t.before l.rest l.lie t.is in
          subst (λ (n : ℕ). Left a.steps.bytes.now a.id.now a.steps.from a.steps.to n steps) (sym t.next)
          (ids_next l f (sym (c.has_id.ensures _ f.step t.places.start (rw c.encoded.ensures f.stands)) ∙ c.if-has_id.false));
    }
