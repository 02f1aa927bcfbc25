-- The empty id, or the second part of the step. Assumes nothing.
use Rattle.std.proofs.Common.{sym, ◌∙◌, rules}
use Rattle.lookups.proofs.Ids.{id-is, second_there}
use Rattle.lookups.proofs.has_id.Goals as goal

pub returns-in-Some : goal.returns-in-Some
returns-in-Some c = λ at st q h. c.same_bytes.ensures ∙ id-is st q h (search rules) _ (search rules) (sym c.in-Some.is ∙ c.nth_item.ensures)

pub returns-in-None : goal.returns-in-None
returns-in-None c = λ at st q h. second_there st q h (search rules) (sym c.in-None.is ∙ c.nth_item.ensures)
