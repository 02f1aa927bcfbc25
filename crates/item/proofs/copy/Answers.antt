use Rattle.std.proofs.Common.{List, ℕ, ◌+◌, ◌∙◌, ap, rules, slice_index_or, slice_set, length-set}
use Rattle.item.proofs.Runs.{sets-next}
use Rattle.item.proofs.copy.Goals as goal

pub loop-i-preserved : goal.loop-i-preserved
loop-i-preserved c =
    let a = c.args in
    let l = c.loop-i in
    (simp length-set l.invariant.0, ap (λ (x : List ℕ). slice_set x (a.at + l.i) (slice_index_or a.s.now l.i 0)) l.invariant.1 ∙ sets-next a.out.now a.s.now a.at l.i (search rules))
