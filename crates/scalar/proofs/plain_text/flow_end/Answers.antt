use Rattle.std.proofs.Common.{rules}
use Rattle.utf8.proofs.Places.{first_as}
use Rattle.scalar.proofs.Laws.{plain_found}
use Rattle.scalar.proofs.plain_text.flow_end.Goals as goal

pub returns-clause-here : goal.returns-clause-here
returns-clause-here c = plain_found c.args.s.now c.args.i c.first_place.result (first_as c.first_place.ensures (λ k p. search rules) (λ k p. search rules))
