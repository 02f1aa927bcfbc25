-- A header, and the text behind it, are the item. Assumes nothing.
use Rattle.writer.proofs.Laws.{appends_item}
use Rattle.scalar.proofs.plain_text.put_int_key.Goals as goal

pub returns : goal.returns
returns c = appends_item 3 _ c.in_ok-header.ensures.0 c.digits.ensures c.int_len.ensures.length
