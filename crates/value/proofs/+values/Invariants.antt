-- Values and the two collections, which call each other: the levels fall. Assumes nothing.
use Rattle.std.proofs.Common.{◌≡◌, ◌+◌, ◌*◌, length}
use Rattle.value.proofs.Invariants.{Items-left, Entries-left}
use Rattle.value.proofs.+values.Given as goal

abbrev pub decreases-entries : goal.decreases-entries
decreases-entries l = 2 * l.levels + 1

abbrev pub decreases-items : goal.decreases-items
decreases-items l = 2 * l.levels + 1

abbrev pub decreases-value : goal.decreases-value
decreases-value l = 2 * l.levels

abbrev pub invariant-entries-loop-key : goal.invariant-entries-loop-key
invariant-entries-loop-key l = (l.walk.bytes.now ≡ l.s.bytes.now) × (l.walk.to ≡ length l.s.bytes.now) × Entries-left l.levels l.s.bytes.now l.walk.at

abbrev pub invariant-items-loop-item : goal.invariant-items-loop-item
invariant-items-loop-item l = (l.item-iterator.bytes.now ≡ l.s.bytes.now) × (l.item-iterator.to ≡ length l.s.bytes.now) × Items-left l.levels l.s.bytes.now l.item-iterator.at
