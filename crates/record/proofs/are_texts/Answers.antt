-- One text after the other. Assumes nothing.
use Rattle.std.proofs.Common.{◌≡◌, sym, ◌∙◌, subst, ℕ, ◌+◌, arith, rules}
use Rattle.item.proofs.Headers.{no_header as no-item-there}
use Rattle.value.proofs.Contents.{no_header}
use Rattle.record.specs.Read.{field_of, as_text}
use Rattle.record.proofs.Chains.{texts-end, texts-fail}
use Rattle.record.proofs.Invariants.{Left, left-start, left-next}
use Rattle.item.proofs.Turns.{turn, stop}
use Rattle.record.proofs.Views.{no_field, text-here, no-text}
use Rattle.record.proofs.are_texts.Goals as goal

pub loop-item-init : goal.loop-item-init
loop-item-init c =
    let start : c.into_iter-item-iterator.result.at ≡ 0 = search rules in
    record {
      bytes = search rules;
      to = search rules;
      inside = omega arith;
      left = (0, subst (λ (n : ℕ). Left (field_of as_text 0) c.args.s.now n 0) (sym start) left-start);
    }

pub returns-in_default : goal.returns-in_default
returns-in_default c =
    let i = c.loop-item.invariant in
    let t = stop _ _ i.bytes i.to c.in-Some.ensures.steps c.in_default.is in
    texts-fail i.left.1 t.before (no_field as_text 0 _ (no_header 0 _ (no-item-there _ _ t.is)))

pub returns-then-not-is_text : goal.returns-then-not-is_text
returns-then-not-is_text c =
    let i = c.loop-item.invariant in
    let t = turn _ _ i.bytes i.to c.in-Some.ensures.steps c.in-Ok.is in
    texts-fail i.left.1 t.before (no-text _ _ t.is (sym c.is_text.ensures ∙ c.if-not-is_text.true))

pub loop-item-preserved : goal.loop-item-preserved
loop-item-preserved c =
    let i = c.loop-item.invariant in
    let t = turn _ _ i.bytes i.to c.in-Some.ensures.steps c.in-Ok.is in
    let w = text-here c.args.s.now c.loop-item.item-iterator.at t.is (sym c.is_text.ensures ∙ c.if-not-is_text.false) in
    record {
      bytes = t.bytes;
      to = t.end;
      inside = omega (arith, t.next, w.fits);
      left = (
        i.left.0 + 1,
        subst (λ (n : ℕ). Left (field_of as_text 0) c.args.s.now n (i.left.0 + 1)) (sym t.next)
            (left-next i.left.1 w.value c.in-Ok.item.to t.before (omega (arith, w.forward)) w.is),
      );
    }

pub returns : goal.returns
returns c = texts-end c.loop-item.invariant.left.1 (search rules)
