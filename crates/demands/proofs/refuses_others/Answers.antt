-- There is no part with a number 0 or above the count. Assumes nothing.
use Rattle.std.proofs.Common.{◌∙◌}
use Rattle.record.proofs.Answers.{outside}
use Rattle.demands.proofs.Lookups.{not-numbered}
use Rattle.demands.proofs.refuses_others.Goals.{then-contains, else-contains}
use Rattle.demands.proofs.refuses_others.Goals as goal

pub returns : goal.returns
returns g c = elim c.if-contains.branch [
  | then-contains w ↦ w.result-is ∙ w.if-contains.true
  | else-contains w ↦ w.result-is ∙ w.is_out_of_range.ensures ∙ not-numbered c.requires.parts.1 w.find.ensures (outside c.new.ensures.start c.new.ensures.end c.new.ensures.exhausted c.contains.ensures.value w.if-contains.false)
]
