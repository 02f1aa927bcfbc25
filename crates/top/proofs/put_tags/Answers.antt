use Rattle.std.proofs.Common.{rules, arith, ◌^◌, Some}
use Rattle.item.proofs.Turns.{turn, stop}
use Rattle.nodes.proofs.Items.{item_turn, no_item_here}
use Rattle.nodes.proofs.Writing.{most_more, item_most, most_less}
use Rattle.nodes.proofs.Texts.{told}
use Rattle.top.proofs.Tags.{tag-on, no-tag-on, tags-done}
use Rattle.top.proofs.put_tags.Goals as goal

pub invariant_of-node : goal.invariant_of-node
invariant_of-node c =
    let i = c.loop-item.invariant in
    let t = turn _ _ i.0 i.1 c.in-Some.ensures.steps c.in-Ok.is in
    record { inside = (omega (arith, t.places.start), t.places.order, t.places.fits, c.args.part.inside.2) }

pub loop-item-preserved-in-Some-scalar : goal.loop-item-preserved-in-Some-scalar
loop-item-preserved-in-Some-scalar c =
    let i = c.loop-item.invariant in
    let t = turn _ _ i.0 i.1 c.in-Some.ensures.steps c.in-Ok.is in (
      t.bytes,
      t.end,
      omega (arith, i.2, t.places.order, t.places.start, t.next),
      most_less _ (most_more i.3 (item_most (2 ^ 21) _ _ c.scalar-in-Some-scalar.ensures (omega (arith, c.in-Some-scalar.ensures.short)))) (omega (arith, i.2, t.before, t.next, t.places.start, t.places.order)),
      λ ys h.
          let k = i.4 ys h in
          let e = item_turn k.rest (search rules) k.holds t in
          rw t.next (tag-on k e (told e.first.y (Some c.in-Some-scalar.scalar) (c.in-Some-scalar.ensures.value e.first.y (record { ranged = e.first.ranged; item_is = e.item_is }))) c.scalar-in-Some-scalar.ensures),
    )

pub loop-item-preserved : goal.loop-item-preserved
loop-item-preserved c =
    let i = c.loop-item.invariant in
    let t = turn _ _ i.0 i.1 c.in-Some.ensures.steps c.in-Ok.is in (
      t.bytes,
      t.end,
      omega (arith, i.2, t.places.order, t.places.start, t.next),
      most_less _ i.3 (omega (arith, i.2, t.before, t.next, t.places.start, t.places.order)),
      λ ys h.
          let k = i.4 ys h in
          let e = item_turn k.rest (search rules) k.holds t in
          rw t.next (no-tag-on k e (c.in_default-scalar.ensures.value e.first.y (record { ranged = e.first.ranged; item_is = e.item_is }))),
    )

pub returns-in_default-clause-tags : goal.returns-in_default-clause-tags
returns-in_default-clause-tags c = λ ys h.
    let i = c.loop-item.invariant in
    let k = i.4 ys h in
    no_item_here k.rest (search rules) k.holds (stop _ _ i.0 i.1 c.in-Some.ensures.steps c.in_default.is)

pub returns-clause-tags : goal.returns-clause-tags
returns-clause-tags c = λ ys h.
    let i = c.loop-item.invariant in
    tags-done (omega (arith, i.1, c.in-None.ensures.steps.0)) c.open-header.ensures (i.4 ys h) c.close.ensures
