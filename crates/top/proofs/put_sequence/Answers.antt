-- The content, and the header in front of it, are the item. Assumes nothing.
use Rattle.nodes.proofs.Writing.{writes_item}
use Rattle.top.proofs.put_sequence.Goals as goal

pub returns : goal.returns
returns c = writes_item c.open-header.ensures c.put.ensures c.close.ensures
