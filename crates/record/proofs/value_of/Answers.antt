-- The kind that the header says is that of the tree. Assumes nothing.
use Rattle.value.proofs.Headers.{item_there}
use Rattle.record.proofs.Views.{among_walks, other_walks}
use Rattle.record.proofs.value_of.Goals as goal

pub returns-then-not-is_among : goal.returns-then-not-is_among
returns-then-not-is_among c =
    let a = c.args in
    other_walks a.kinds.now a.levels a.s.bytes.now a.at (item_there a.s.bytes.now a.at c.in_ok-item.was c.ok.ensures.value c.header_at.ensures.value) c.is_among.ensures c.if-not-is_among.true

pub returns : goal.returns
returns c =
    let a = c.args in
    among_walks a.kinds.now a.levels a.s.bytes.now a.at (item_there a.s.bytes.now a.at c.in_ok-item.was c.ok.ensures.value c.header_at.ensures.value) c.is_among.ensures c.if-not-is_among.false _ c.value_at.ensures
