-- The invariant: the run has the keys of the chunk, and no key that was looked up is one of them. Assumes nothing.
use Rattle.std.proofs.Common.{◌≡◌, ◌⊎◌, ◌+◌, ◌≤◌, ◌^◌}
use Rattle.item.specs.Tree.{Entries}
use Rattle.entries.specs.Entries.{Lies}
use Rattle.entries.proofs.Chunks.{Chunked}
use Rattle.entries.proofs.sorted.chunk_repeats.Given as goal

abbrev pub invariant-loop-pair : goal.invariant-loop-pair
invariant-loop-pair l =
    let at = l.pair-iterator.at in
    (l.pair-iterator.bytes.now ≡ l.part.bytes.now) × (l.pair-iterator.to ≡ l.part.to) × (l.run.bytes.now ≡ l.part.bytes.now)
    × (l.part.from + l.run.count ≤ l.behind) × (l.behind ≤ at) × ((at ≤ l.behind) ⊎ (2 ^ 11 ≤ l.run.count))
    × ((es : Entries) → Lies l.part.bytes.now l.part.from l.part.to es → Chunked l.part.bytes.now l.run.places l.run.count l.part.to l.behind at es)
