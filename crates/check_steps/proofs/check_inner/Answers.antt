-- Each step is read, then those whose command is not known are told. Assumes nothing.
use Rattle.std.proofs.Common.{refl, Ok, Err, arith, rules}
use Rattle.refusal.proofs.Tools.{err_is}
use Rattle.item.proofs.Turns.{turn, stop}
use Rattle.nodes.proofs.Items.{item_turn, no_item_here}
use Rattle.check_steps.proofs.Places.{onward}
use Rattle.check_steps.proofs.Inner.{walk-passed, walk-unknown, walk_refused, walk-on}
use Rattle.check_steps.proofs.check_inner.Goals as goal

pub returns-in_default : goal.returns-in_default
returns-in_default c = λ ns e ys h.
    let i = c.loop-before.invariant in
    let w = i.walked ns e ys h in
    no_item_here w.rest (search rules) w.holds (stop _ _ i.walk.bytes i.walk.ends c.in-Some.ensures.steps.0 c.in_default.is)

pub returns-in_err-step : goal.returns-in_err-step
returns-in_err-step c = λ ns e ys h.
    let i = c.loop-before.invariant in
    let n = c.in-Some.ensures.steps in
    let w = rw (← n.1) at (i.walked ns e ys h) in
    rw (err_is _ c.from_residual.ensures.1)
    (walk_refused w (item_turn w.rest (search rules) w.holds (turn _ _ i.walk.bytes i.walk.ends n.0 c.in-Ok.is)) {r = Err c.in_err-step.field-0.0} (λ y g k. c.in_err-step.ensures.step y (record { ranged = g; item_is = k })) refl)

pub loop-before-preserved : goal.loop-before-preserved
loop-before-preserved c =
    let i = c.loop-before.invariant in
    let n = c.in-Some.ensures.steps in
    let t = turn _ _ i.walk.bytes i.walk.ends n.0 c.in-Ok.is in
    record {
      walk = onward i.walk t (omega (arith, n.2));
      walked = λ ns e ys h.
          let w = rw (← n.1) at (i.walked ns e ys h) in
          rw (t.next, n.2, ← n.1)
          (walk-on w (item_turn w.rest (search rules) w.holds t) {r = Ok c.in_ok-step.step} (λ y g k. c.in_ok-step.ensures.step y (record { ranged = g; item_is = k })) refl (c.is_known-all_known.ensures ns e));
    }

pub returns-then-all_known : goal.returns-then-all_known
returns-then-all_known c = λ ns e ys h. walk-passed (c.loop-before.invariant.walked ns e ys h) (search rules) c.if-all_known.true

pub returns : goal.returns
returns c = λ ns e ys h. walk-unknown (c.loop-before.invariant.walked ns e ys h) (search rules) c.if-all_known.false
