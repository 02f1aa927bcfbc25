-- By its kind. Assumes nothing.
use Rattle.nodes.proofs.Texts.{sequence_if}
use Rattle.nodes.proofs.node.Node.sequence.Goals as goal

pub returns-clause-items : goal.returns-clause-items
returns-clause-items c = λ y i. rw c.then_some.ensures (sequence_if _ c.content.ensures.bytes c.content.ensures.from c.content.ensures.to y i _ c.is.ensures)
