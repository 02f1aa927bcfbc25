-- Each number is told in its place, if there is one. Assumes nothing.
use Rattle.std.proofs.Common.{◌≡◌, sym, ap, ◌∙◌, List, ℕ, ◌+◌, ◌<◌, arith, add-one, set, take, get_or, length}
use Rattle.std.proofs.Math.Seq.{set_out}
use Rattle.drum.specs.Numbers.{told}
use Rattle.drum.proofs.Telling.{told-none, told-more}
use Rattle.drum.proofs.store.Goals.{then-i-answer, else-i-answer}
use Rattle.drum.proofs.store.Goals as goal

pub loop-i-init : goal.loop-i-init
loop-i-init c = told-none _

pub loop-i-preserved : goal.loop-i-preserved
loop-i-preserved c =
    let l = c.loop-i in
    let ns = c.args.numbers in
    let old = c.args.answer.now in
    let h : l.i < length ns = omega arith in
    let more : set l.answer l.i (get_or ns l.i 0) ≡ told (take (l.i + 1) ns) old =
    ap (λ (s : List ℕ). set s l.i (get_or ns l.i 0)) l.invariant ∙ told-more ns old l.i h ∙ ap (λ (k : ℕ). told (take k ns) old) (sym (add-one l.i)) in
    elim c.if-i-answer.branch [
      | then-i-answer w ↦ w.answer-is ∙ more
      | else-i-answer w ↦ w.answer-is ∙ sym (set_out _ _ _ (omega arith)) ∙ more
    ]
