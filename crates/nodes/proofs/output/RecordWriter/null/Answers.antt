-- A header alone is the item. Assumes nothing.
use Rattle.item.specs.Encode.{encode}
use Rattle.nodes.proofs.Writing.{writes_empty}
use Rattle.nodes.proofs.output.RecordWriter.null.Goals as goal

pub returns : goal.returns
unfolding encode
returns c = writes_empty c.open-header.ensures c.close.ensures
