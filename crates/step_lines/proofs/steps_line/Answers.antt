use Rattle.std.proofs.Common.{rules, tests}
use Rattle.std.proofs.lemmas.Iterator.{first_from_Range}
use Rattle.step_lines.proofs.Laws.{by-search}
use Rattle.step_lines.proofs.steps_line.Goals as goal

pub returns : goal.returns
returns c = by-search c.args.lines.now c.find.result c.len.result c.len.ensures.value (first_from_Range _ _ _ _ _ _ c.find.ensures.ran (λ k q p. search (rules, tests)) (λ k q p. search (rules, tests)))
