-- A flag, and the header in front of it, are the item. Assumes nothing.
use Rattle.std.proofs.Common.{ℕ, [], ◌∷◌, ap, ◌∙◌}
use Rattle.item.specs.Encode.{encode, item}
use Rattle.item.proofs.Laws.{bool-flag}
use Rattle.nodes.proofs.Writing.{writes_is, writes_item}
use Rattle.nodes.proofs.output.RecordWriter.bool.Goals as goal

pub returns : goal.returns
unfolding encode
returns c = writes_is (ap (λ (n : ℕ). item 1 (n ∷ [])) (c.from.ensures ∙ bool-flag c.args.value)) (writes_item c.open-header.ensures c.put.ensures c.close.ensures)
