-- By its kind. Assumes nothing.
use Rattle.nodes.proofs.Texts.{mapping_if}
use Rattle.nodes.proofs.node.Node.mapping.Goals as goal

pub returns-clause-entries : goal.returns-clause-entries
returns-clause-entries c = λ y i. rw c.then_some.ensures (mapping_if _ c.content.ensures.bytes c.content.ensures.from c.content.ensures.to y i _ c.is.ensures)
