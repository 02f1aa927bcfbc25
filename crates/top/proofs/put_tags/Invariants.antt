-- The invariant: the texts of the items that were passed are written behind the header. Assumes nothing.
use Rattle.std.proofs.Common.{◌≡◌, ◌-◌, ◌*◌, ◌≤◌, ◌^◌, min}
use Rattle.item.specs.Tree.{Items}
use Rattle.entries.specs.Entries.{Holds}
use Rattle.nodes.specs.Writing.{GoesAtMost}
use Rattle.top.proofs.Tags.{TagsRest}
use Rattle.top.proofs.put_tags.Given as goal

abbrev pub invariant-loop-item : goal.invariant-loop-item
invariant-loop-item l =
    (l.item-iterator.bytes.now ≡ l.fn.part.bytes.now) × (l.item-iterator.to ≡ l.fn.part.to) × (l.fn.part.from ≤ l.item-iterator.at)
    × GoesAtMost (2 ^ 21 * (min l.item-iterator.at l.fn.part.to - l.fn.part.from)) l.initial.writer l.writer
    × ((ys : Items) → Holds l.fn.part.bytes.now l.fn.part.from l.fn.part.to ys → TagsRest l.fn.part.bytes.now l.fn.part.to l.item-iterator.at ys l.initial.writer l.writer)
