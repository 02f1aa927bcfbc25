-- A value in another is one level deeper, and below the deepest level none is printed. Assumes nothing.
use Rattle.std.proofs.Common.{◌+◌, ◌*◌, ◌-◌}
use Rattle.drumshow.proofs.+levels.Given as goal

abbrev pub decreases-print_value : goal.decreases-print_value
decreases-print_value g l = 2 * (40 - l.depth)

abbrev pub decreases-print_entries : goal.decreases-print_entries
decreases-print_entries g l = 2 * (40 - l.depth) + 1

abbrev pub decreases-print_items : goal.decreases-print_items
decreases-print_items g l = 2 * (40 - l.depth) + 1
