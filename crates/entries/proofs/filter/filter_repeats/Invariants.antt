-- The invariant: no key of the classes that were judged stands twice. Assumes nothing.
use Rattle.std.proofs.Common.{◌≡◌, ℕ, ◌<◌, ◌^◌, length, false}
use Rattle.item.specs.Tree.{Entries}
use Rattle.entries.specs.Entries.{Lies}
use Rattle.entries.specs.Contract.{twice_in, of_class}
use Rattle.entries.proofs.filter.filter_repeats.Given as goal

abbrev pub invariant-loop-class : goal.invariant-loop-class
invariant-loop-class l = (length l.seen ≡ 2 ^ 11) × ((es : Entries) → Lies l.part.bytes.now l.part.from l.part.to es → (n : ℕ) → n < l.class → twice_in (of_class n l.last) es ≡ false)
