-- The invariant: those that are left have a key twice if all of them have one twice. Assumes nothing.
use Rattle.std.proofs.Common.{◌≡◌}
use Rattle.item.specs.Tree.{Entries}
use Rattle.entries.specs.Entries.{Lies}
use Rattle.entries.specs.Contract.{LeftOver}
use Rattle.entries.proofs.filter.few_repeat.Given as goal

abbrev pub invariant-loop-pair : goal.invariant-loop-pair
invariant-loop-pair l =
    (l.pair-iterator.bytes.now ≡ l.part.bytes.now) × (l.pair-iterator.to ≡ l.part.to)
    × ((es : Entries) → Lies l.part.bytes.now l.part.from l.part.to es → LeftOver l.part.bytes.now l.part.to l.pair-iterator.at es)
