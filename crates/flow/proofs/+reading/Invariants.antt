-- The readers of a value, an entry and the two collections, which call each other: the levels fall. Assumes nothing.
use Rattle.std.proofs.Common.{◌+◌, ◌*◌, ◌-◌, length}
use Rattle.flow.proofs.Invariants.{Listed, Mapped}
use Rattle.flow.proofs.+reading.Given as goal

abbrev pub decreases-collection : goal.decreases-collection
decreases-collection l = 6 * l.site.levels

abbrev pub decreases-entries : goal.decreases-entries
decreases-entries l = 6 * l.site.levels + 4

abbrev pub decreases-entry : goal.decreases-entry
decreases-entry l = 6 * l.site.levels + 3

abbrev pub decreases-entry_value : goal.decreases-entry_value
decreases-entry_value l = 6 * l.site.levels + 2

abbrev pub decreases-mapping : goal.decreases-mapping
decreases-mapping l = 6 * l.site.levels + 5

abbrev pub decreases-sequence : goal.decreases-sequence
decreases-sequence l = 6 * l.site.levels + 2

abbrev pub decreases-value : goal.decreases-value
decreases-value l = 6 * l.site.levels + 1

abbrev pub invariant-entries-loop-site : goal.invariant-entries-loop-site
invariant-entries-loop-site l = Mapped l.s l.start l.site.levels l.site.number l.fn.writer l.writer l.next

abbrev pub decreases-entries-loop-site : goal.decreases-entries-loop-site
decreases-entries-loop-site l = length l.s - l.next

abbrev pub invariant-sequence-loop-site : goal.invariant-sequence-loop-site
invariant-sequence-loop-site l = Listed l.s l.start l.site.levels l.site.number l.fn.writer l.writer l.next

abbrev pub decreases-sequence-loop-site : goal.decreases-sequence-loop-site
decreases-sequence-loop-site l = length l.s - l.next + (l.fn.writer.used + 1 - l.writer.used)
