-- By what `filter` kept. Assumes nothing.
use Rattle.std.proofs.Common.{rules}
use Rattle.top.proofs.Values.{filtered}
use Rattle.top.proofs.other_than_null.Goals as goal

pub returns-clause-value : goal.returns-clause-value
returns-clause-value c = λ o h. filtered o _ _ _ c.filter.ensures (λ x b g. search (rules)) h
