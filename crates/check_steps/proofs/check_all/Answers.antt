-- Each step in turn. Assumes nothing.
use Rattle.std.proofs.Common.{sym, ap, ◌∙◌, arith, rules}
use Rattle.refusal.proofs.Tools.{err_is}
use Rattle.record.proofs.StepPlaces.{first_step, no_step}
use Rattle.item.proofs.Turns.{turn, stop}
use Rattle.record.specs.Contract.{told_of}
use Rattle.check_steps.proofs.Places.{onward}
use Rattle.check_steps.proofs.Steps.{left_end, left-refused, left-on}
use Rattle.check_steps.proofs.check_all.Goals as goal

pub returns-in_default : goal.returns-in_default
returns-in_default c = λ ns e xs h.
    let i = c.loop-before.invariant in
    let t = stop _ _ i.walk.bytes i.walk.ends c.in-Some.ensures.steps.0 c.in_default.is in
    let l = i.left ns e xs h in
    no_step (search rules) t.before l.rest l.lie t.is

pub returns-in_err-check_step : goal.returns-in_err-check_step
returns-in_err-check_step c = λ ns e xs h.
    let i = c.loop-before.invariant in
    let n = c.in-Some.ensures.steps in
    let t = turn _ _ i.walk.bytes i.walk.ends n.0 c.in-Ok.is in
    let l = rw (← n.1) at (i.left ns e xs h) in
    let f = first_step (search rules) t.before l.rest l.lie t.is in
    rw (err_is _ c.from_residual.ensures.1)
    (left-refused l f c.line_of.ensures (ap told_of (sym c.in_err-check_step.was) ∙ c.check_step.ensures ns e _ f.step t.places.start f.ranged (rw c.encoded.ensures f.stands)))

pub loop-before-preserved : goal.loop-before-preserved
loop-before-preserved c =
    let i = c.loop-before.invariant in
    let n = c.in-Some.ensures.steps in
    let t = turn _ _ i.walk.bytes i.walk.ends n.0 c.in-Ok.is in
    record {
      walk = onward i.walk t (omega (arith, n.2));
      left = λ ns e xs h.
          let l = rw (← n.1) at (i.left ns e xs h) in
          let f = first_step (search rules) t.before l.rest l.lie t.is in
          rw (t.next, n.2, ← n.1)
          (left-on l f c.line_of.ensures (ap told_of (sym c.in_ok-check_step.was) ∙ c.check_step.ensures ns e _ f.step t.places.start f.ranged (rw c.encoded.ensures f.stands)));
    }

pub returns : goal.returns
returns c = λ ns e xs h. left_end (c.loop-before.invariant.left ns e xs h) (search rules)
