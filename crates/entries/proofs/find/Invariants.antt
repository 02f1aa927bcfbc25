-- The invariant: whatever entries stand there, the key stands among those that are left where it stands among all of them. Assumes nothing.
use Rattle.std.proofs.Common.{◌≡◌}
use Rattle.item.specs.Tree.{Entries}
use Rattle.entries.specs.Entries.{Lies}
use Rattle.entries.proofs.Walking.{Sought}
use Rattle.entries.proofs.find.Given as goal

abbrev pub invariant-loop-pair : goal.invariant-loop-pair
invariant-loop-pair l =
    (l.pair-iterator.bytes.now ≡ l.part.bytes.now) × (l.pair-iterator.to ≡ l.part.to)
    × ((es : Entries) → Lies l.part.bytes.now l.part.from l.part.to es → Sought l.part.bytes.now l.key l.part.from l.part.to l.pair-iterator.at es)
