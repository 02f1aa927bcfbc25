use Rattle.std.proofs.Common.{rules, arith, ℕ, subst}
use Rattle.refusal.proofs.Tools.{err_is}
use Rattle.entries.specs.Entries.{Holds}
use Rattle.item.proofs.Turns.{turn, stop}
use Rattle.nodes.proofs.Items.{item_turn, no_item_here}
use Rattle.nodes.proofs.Writing.{goes_more}
use Rattle.scenario.proofs.Invariants.{walk_start, walk_refused, walk-on, walk-done}
use Rattle.scenario.proofs.put_steps.Goals as goal

pub invariant_of-node : goal.invariant_of-node
invariant_of-node c =
    let v = c.loop-item.invariant in
    let t = turn _ _ v.0 v.1 c.in-Some.ensures.steps c.in-Ok.is in
    record { inside = (omega (arith, t.places.start), t.places.order, t.places.fits, c.args.part.inside.2) }

pub loop-item-init : goal.loop-item-init
loop-item-init c =
    let f = c.first_dash-first.ensures in (
      search rules,
      search rules,
      search rules,
      search rules,
      search rules,
      f.within,
      search rules,
      λ ys h. walk_start ys (omega (arith, c.open-header.ensures.ends)) f.is (subst (λ (n : ℕ). Holds c.args.part.bytes.now n c.args.part.to ys) (search rules) h),
    )

pub returns-in_default-clause-steps : goal.returns-in_default-clause-steps
returns-in_default-clause-steps c = λ ys h.
    let v = c.loop-item.invariant in
    let k = v.7 ys h in
    no_item_here k.rest c.args.part.inside.2 k.holds (stop _ _ v.0 v.1 c.in-Some.ensures.steps c.in_default.is)

pub returns-in_err-step_at-clause-steps : goal.returns-in_err-step_at-clause-steps
returns-in_err-step_at-clause-steps c = λ ys h.
    let v = c.loop-item.invariant in
    let t = turn _ _ v.0 v.1 c.in-Some.ensures.steps c.in-Ok.is in
    let k = v.7 ys h in
    rw (err_is _ c.from_residual.ensures.1) (walk_refused k c.next_dash-dash.ensures (item_turn k.rest c.args.part.inside.2 k.holds t) c.in_err-step_at.field-0.0 (λ y g i. c.in_err-step_at.ensures.step y (record { ranged = g; item_is = i })))

pub loop-item-preserved : goal.loop-item-preserved
loop-item-preserved c =
    let v = c.loop-item.invariant in
    let t = turn _ _ v.0 v.1 c.in-Some.ensures.steps c.in-Ok.is in
    let n = c.next_dash-dash.ensures in (
      t.bytes,
      t.end,
      omega (arith, v.2, t.next, t.places.start, t.places.order),
      omega (arith, t.next, t.places.fits),
      omega (arith, v.2, v.4, t.next, t.places.start, t.places.order),
      n.within,
      goes_more v.6 c.in_ok-step_at.ensures.goes.goes,
      λ ys h.
          let k = v.7 ys h in
          rw t.next (walk-on k n (item_turn k.rest c.args.part.inside.2 k.holds t) (λ y g i. c.in_ok-step_at.ensures.step y (record { ranged = g; item_is = i })) c.store.ensures c.store.auto.lines),
    )

pub returns-clause-steps : goal.returns-clause-steps
returns-clause-steps c = λ ys h.
    let v = c.loop-item.invariant in
    walk-done (omega (arith, v.1, c.in-None.ensures.steps.0)) c.open-header.ensures (v.7 ys h) c.close.ensures
