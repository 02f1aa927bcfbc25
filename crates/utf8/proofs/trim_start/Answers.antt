use Rattle.std.proofs.Common.{rules, refl, sym, ◌∙◌}
use Rattle.utf8.proofs.Turns.{white_nil, start_turn, start_end, visible_first}
use Rattle.utf8.proofs.trim_start.Goals as goal

pub loop-at-preserved : goal.loop-at-preserved
loop-at-preserved c =
    let a = c.args in
    let l = c.loop-at in
    let w = c.white_at-n in
    (search rules, search rules, l.invariant.2 ∙ start_turn a.s.now l.at a.to w.result w.ensures.value (search rules))

pub returns-after-loop-at-clause-value : goal.returns-after-loop-at-clause-value
returns-after-loop-at-clause-value c =
    let a = c.args in
    let l = c.loop-at in
    let z = white_nil a.s.now l.at a.to (search rules) (search rules) in
    sym (l.invariant.2 ∙ start_end a.s.now l.at a.to 0 (sym z) refl)

pub returns-then-visible-clause-value : goal.returns-then-visible-clause-value
returns-then-visible-clause-value c =
    let a = c.args in
    let l = c.loop-at in
    let v = c.visible.ensures c.if-visible.true in
    let z = visible_first a.s.now a.to (search rules) l.at (search rules) v.0 v.1 in
    sym (l.invariant.2 ∙ start_end a.s.now l.at a.to 0 (sym z) refl)

pub returns-then-n-eq0-clause-value : goal.returns-then-n-eq0-clause-value
returns-then-n-eq0-clause-value c =
    let a = c.args in
    let l = c.loop-at in
    let w = c.white_at-n in
    sym (l.invariant.2 ∙ start_end a.s.now l.at a.to w.result w.ensures.value c.if-n-eq0.true)
