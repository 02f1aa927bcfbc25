use Rattle.std.proofs.Common.{rules, tests}
use Rattle.std.proofs.lemmas.Iterator.{first_from_Range}
use Rattle.utf8.proofs.Turns.{ends-searched}
use Rattle.utf8.proofs.white_before.Goals as goal

pub returns : goal.returns
returns c =
    let a = c.args in
    ends-searched a.s.now a.from a.to c.find.result (first_from_Range _ _ _ _ _ _ c.find.ensures.ran (λ k q p. search (rules, tests)) (λ k q p. search (rules, tests))) c.unwrap_or.ensures
