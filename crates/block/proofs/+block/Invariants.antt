-- The readers of blocks, which call each other: the levels fall. Assumes nothing.
use Rattle.std.proofs.Common.{◌≡◌, ◌+◌, ◌-◌, ◌*◌, length, drop, true, false}
use Rattle.scalar.specs.Code.{found_of}
use Rattle.block.specs.Contract.{key_here}
use Rattle.block.proofs.Invariants.{Mapped, Listed}
use Rattle.block.proofs.+block.Given as goal

abbrev pub invariant-all_entries-loop-key : goal.invariant-all_entries-loop-key
invariant-all_entries-loop-key l = Mapped l.lines l.first l.indent l.levels false l.initial.writer l.writer l.i × (l.key ≡ found_of (key_here l.indent (drop l.i l.lines)))

abbrev pub invariant-entries_once-loop-split : goal.invariant-entries_once-loop-split
invariant-entries_once-loop-split l = Mapped l.lines l.first l.indent l.levels true l.initial.writer l.writer l.i

abbrev pub invariant-sequence-loop-writer : goal.invariant-sequence-loop-writer
invariant-sequence-loop-writer l = Listed l.lines l.first l.indent l.levels l.initial.writer l.writer l.i

abbrev pub decreases-all_entries-loop-key : goal.decreases-all_entries-loop-key
decreases-all_entries-loop-key l = length l.lines - l.i

abbrev pub decreases-entries_once-loop-split : goal.decreases-entries_once-loop-split
decreases-entries_once-loop-split l = length l.lines - l.i

abbrev pub decreases-sequence-loop-writer : goal.decreases-sequence-loop-writer
decreases-sequence-loop-writer l = length l.lines - l.i

abbrev pub decreases-block : goal.decreases-block
decreases-block l = 8 * l.levels

abbrev pub decreases-child : goal.decreases-child
decreases-child l = 8 * l.levels + 1

abbrev pub decreases-entry_value : goal.decreases-entry_value
decreases-entry_value l = 8 * l.levels + 2

abbrev pub decreases-item : goal.decreases-item
decreases-item l = 8 * l.levels + 2

abbrev pub decreases-entry : goal.decreases-entry
decreases-entry l = 8 * l.levels + 3

abbrev pub decreases-sequence : goal.decreases-sequence
decreases-sequence l = 8 * l.levels + 3

abbrev pub decreases-all_entries : goal.decreases-all_entries
decreases-all_entries l = 8 * l.levels + 4

abbrev pub decreases-entries_once : goal.decreases-entries_once
decreases-entries_once l = 8 * l.levels + 4

abbrev pub decreases-entries : goal.decreases-entries
decreases-entries l = 8 * l.levels + 5

abbrev pub decreases-mapping : goal.decreases-mapping
decreases-mapping l = 8 * l.levels + 6

abbrev pub decreases-inline_mapping : goal.decreases-inline_mapping
decreases-inline_mapping l = 8 * l.levels + 6
