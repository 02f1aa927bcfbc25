-- One item after the other. Assumes nothing.
use Rattle.std.proofs.Common.{sym, ap, ◌∙◌, ℕ, arith}
use Rattle.std.specs.Prelude.{is_some}
use Rattle.item.proofs.Turns.{turn, stop}
use Rattle.panel.specs.Panel.{items_from}
use Rattle.panel.proofs.Items.{fill-end, fill-stop, fill-on}
use Rattle.panel.proofs.are_items.Goals as goal

pub returns-in_default : goal.returns-in_default
returns-in_default c =
    let i = c.loop-item.invariant in
    let t = stop _ _ i.bytes i.to c.in-Some.ensures.steps c.in_default.is in
    sym (i.left ∙ fill-stop c.args.s.now _ (omega (arith, t.before)) t.is)

pub loop-item-preserved : goal.loop-item-preserved
loop-item-preserved c =
    let i = c.loop-item.invariant in
    let t = turn _ _ i.bytes i.to c.in-Some.ensures.steps c.in-Ok.is in
    record {
      bytes = t.bytes;
      to = t.end;
      inside = omega (arith, t.next, t.places.fits);
      left = i.left ∙ fill-on c.args.s.now _ t.is ∙ ap (λ (n : ℕ). is_some (items_from c.args.s.now n)) (sym t.next);
    }

pub returns : goal.returns
returns c =
    let i = c.loop-item.invariant in
    sym (i.left ∙ fill-end c.args.s.now _ (omega (arith, c.in-None.ensures.steps.0, i.to, i.inside)))
