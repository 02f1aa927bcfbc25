-- One step after the other. Assumes nothing.
use Rattle.std.proofs.Common.{◌≡◌, sym, ◌∙◌, subst, ℕ, ◌+◌, arith, rules, length-take-le}
use Rattle.value.proofs.Headers.{is-err, ok_item}
use Rattle.item.proofs.Turns.{turn, stop}
use Rattle.panel.proofs.Steps.{Left, steps-start, steps-end, steps-stop, steps-bad, steps-on}
use Rattle.panel.proofs.count_steps.Goals as goal

pub loop-item-init : goal.loop-item-init
loop-item-init c =
    let start : c.into_iter-item-iterator.result.at ≡ c.args.list.from = search rules in
    record {
      bytes = search rules;
      to = search rules;
      inside = omega (arith, start, c.requires.order);
      few = omega arith;
      left = subst (λ (n : ℕ). Left c.args.s.now c.args.list n 0) (sym start) (steps-start c.args.s.now c.args.list);
    }

pub returns-in_err-item : goal.returns-in_err-item
returns-in_err-item c =
    let i = c.loop-item.invariant in
    let t = stop _ _ i.bytes i.to c.in-Some.ensures.steps (is-err (sym c.in_err-item.was ∙ c.ok.ensures.value)).1 in
    c.from_residual.ensures ∙ steps-stop _ _ _ _ i.left (omega (arith, t.before, length-take-le c.args.list.to c.args.s.now c.requires.fits)) t.is

pub labels_of-requires : goal.labels_of-requires
labels_of-requires c =
    let i = c.loop-item.invariant in
    let t = turn _ _ i.bytes i.to c.in-Some.ensures.steps (ok_item c.in_ok-item.was c.ok.ensures.value) in
    let n = length-take-le c.args.list.to c.args.s.now c.requires.fits in
    record { header = omega (arith, t.places.start); order = t.places.order; fits = omega (arith, t.places.fits, n, c.requires.fits) }

pub returns-in_err-labels_of : goal.returns-in_err-labels_of
returns-in_err-labels_of c =
    let i = c.loop-item.invariant in
    let t = turn _ _ i.bytes i.to c.in-Some.ensures.steps (ok_item c.in_ok-item.was c.ok.ensures.value) in
    let n = length-take-le c.args.list.to c.args.s.now c.requires.fits in
    c.from_residual-in_err-labels_of.ensures ∙ steps-bad _ _ _ _ i.left t.is c.in_err-labels_of.ensures.labels

pub loop-item-preserved : goal.loop-item-preserved
loop-item-preserved c =
    let i = c.loop-item.invariant in
    let t = turn _ _ i.bytes i.to c.in-Some.ensures.steps (ok_item c.in_ok-item.was c.ok.ensures.value) in
    let n = length-take-le c.args.list.to c.args.s.now c.requires.fits in
    record {
      bytes = t.bytes;
      to = t.end;
      inside = omega (arith, t.next, t.places.fits, n);
      few = omega (arith, t.next, t.places.start, t.places.order, i.few);
      left = subst (λ (n : ℕ). Left c.args.s.now c.args.list n (c.loop-item.count + 1)) (sym t.next)
          (steps-on _ _ _ _ i.left t.is c.in_ok-labels_of.ensures.labels);
    }

pub returns : goal.returns
returns c =
    let i = c.loop-item.invariant in
    steps-end _ _ _ _ i.left (omega (arith, c.in-None.ensures.steps.0, i.to, i.inside, length-take-le c.args.list.to c.args.s.now c.requires.fits))
