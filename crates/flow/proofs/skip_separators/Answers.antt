use Rattle.std.proofs.Common.{rules, tests}
use Rattle.utf8.proofs.Places.{first_as}
use Rattle.flow.proofs.Values.{separators_found}
use Rattle.flow.proofs.skip_separators.Goals as goal

pub returns-clause-rest : goal.returns-clause-rest
returns-clause-rest c = separators_found c.args.s.now c.args.from c.first_place.result c.args.got (first_as c.first_place.ensures (λ k p. search (rules, tests)) (λ k p. search (rules, tests)))
