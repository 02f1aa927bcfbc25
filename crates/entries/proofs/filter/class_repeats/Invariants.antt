-- The invariant: no key of the class stands twice among the entries that were passed, and the bits of those keys are there. Assumes nothing.
use Rattle.std.proofs.Common.{◌≡◌, ◌≤◌, length}
use Rattle.item.specs.Tree.{Entries}
use Rattle.entries.specs.Entries.{Lies}
use Rattle.entries.specs.Contract.{of_class}
use Rattle.entries.proofs.Twice.{Passed}
use Rattle.entries.proofs.filter.class_repeats.Given as goal

abbrev pub invariant-loop-pair : goal.invariant-loop-pair
invariant-loop-pair l =
    let at = l.pair-iterator.at in
    (l.pair-iterator.bytes.now ≡ l.part.bytes.now) × (l.pair-iterator.to ≡ l.part.to) × (l.part.from ≤ at) × (length l.seen ≡ 2048)
    × ((es : Entries) → Lies l.part.bytes.now l.part.from l.part.to es → Passed l.part.bytes.now l.part.from l.part.to (of_class l.class l.last) es at l.seen)
