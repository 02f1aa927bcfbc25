-- What was found among the entries, in the same bytes. Assumes nothing.
use Rattle.nodes.proofs.value_of.Goals as goal

pub returns-clause-value : goal.returns-clause-value
returns-clause-value c = λ es h. c.found.ensures.value _ (rw c.encoded.ensures (c.find.ensures.value es h))
