-- The invariant: those that are left have a key twice if all of them have one twice. Assumes nothing.
use Rattle.std.proofs.Common.{◌≡◌, ◌-◌}
use Rattle.item.specs.Tree.{Entries}
use Rattle.entries.specs.Entries.{Lies}
use Rattle.entries.specs.Contract.{LeftOver}
use Rattle.entries.proofs.sorted.sorted_repeats.Given as goal

abbrev pub invariant-loop-at : goal.invariant-loop-at
invariant-loop-at l = (l.run.bytes.now ≡ l.part.bytes.now) × ((es : Entries) → Lies l.part.bytes.now l.part.from l.part.to es → LeftOver l.part.bytes.now l.part.to l.at es)

abbrev pub decreases-loop-at : goal.decreases-loop-at
decreases-loop-at l = l.part.to - l.at
