-- The invariant: for whatever entries stand there, those that are left are known where all of them are. Assumes nothing.
use Rattle.std.proofs.Common.{◌≡◌}
use Rattle.item.specs.Tree.{Entries}
use Rattle.entries.specs.Entries.{Lies}
use Rattle.top.proofs.Keys.{KnownRest}
use Rattle.top.proofs.known_keys.Given as goal

abbrev pub invariant-loop-pair : goal.invariant-loop-pair
invariant-loop-pair l =
    (l.pair-iterator.bytes.now ≡ l.part.bytes.now) × (l.pair-iterator.to ≡ l.part.to)
    × ((es : Entries) → Lies l.part.bytes.now l.part.from l.part.to es → KnownRest l.part.bytes.now l.part.to l.pair-iterator.at es)
