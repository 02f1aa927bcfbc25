use Rattle.std.proofs.Common.{rules, tests}
use Rattle.utf8.proofs.Places.{first_as}
use Rattle.lines.proofs.Laws.{indent-found}
use Rattle.lines.proofs.indent_end.Goals as goal

pub returns : goal.returns
returns c =
    let a = c.args in
    let f = c.first_place.ensures in
    (indent-found a.text.now a.from a.to c.first_place.result (first_as f (λ k p. search (rules, tests)) (λ k p. search (rules, tests))) c.requires.1, f.high)
