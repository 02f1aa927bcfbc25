use Rattle.std.proofs.Common.{rules, refl, ◌∙◌, arith}
use Rattle.utf8.proofs.Turns.{end_turn, end_end, ends_none, visible_last}
use Rattle.utf8.proofs.trim_end.Goals as goal

pub loop-end-preserved : goal.loop-end-preserved
loop-end-preserved c =
    let a = c.args in
    let l = c.loop-end in
    let w = c.white_before-n in
    (search rules, search rules, l.invariant.2 ∙ end_turn a.s.now a.from l.end w.result (search rules) (search rules) w.ensures (search rules))

pub returns-after-loop-end-clause-value : goal.returns-after-loop-end-clause-value
returns-after-loop-end-clause-value c =
    let a = c.args in
    let l = c.loop-end in
    let e = ends_none a.s.now a.from l.end (λ h. absurd (omega arith)) (λ h. absurd (omega arith)) (λ h. absurd (omega arith)) in
    end_end a.s.now a.from l.end 0 (search rules) (search rules) e a.to l.invariant.2 refl

pub returns-then-visible-clause-value : goal.returns-then-visible-clause-value
returns-then-visible-clause-value c =
    let a = c.args in
    let l = c.loop-end in
    let v = c.visible.ensures c.if-visible.true in
    let e = visible_last a.s.now l.end (search rules) a.from (search rules) v.0 v.1 in
    end_end a.s.now a.from l.end 0 (search rules) (search rules) e a.to l.invariant.2 refl

pub returns-then-n-eq0-clause-value : goal.returns-then-n-eq0-clause-value
returns-then-n-eq0-clause-value c =
    let a = c.args in
    let l = c.loop-end in
    let w = c.white_before-n in
    end_end a.s.now a.from l.end w.result (search rules) (search rules) w.ensures a.to l.invariant.2 c.if-n-eq0.true
