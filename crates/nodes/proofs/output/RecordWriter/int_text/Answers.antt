-- The content, and the header in front of it, are the item. Assumes nothing.
use Rattle.nodes.proofs.Writing.{writes_item}
use Rattle.nodes.proofs.output.RecordWriter.int_text.Goals as goal

pub returns : goal.returns
returns c = writes_item c.open-header.ensures c.digits.ensures c.close.ensures
