-- The invariant: what is read is what stands in the rows, and what the scan gives of the lines that are left. Assumes nothing.
use Rattle.std.proofs.Common.{◌+◌, ◌-◌, length}
use Rattle.lines.proofs.ScanLaws.{Scanned}
use Rattle.lines.proofs.read_lines.Given as goal

abbrev pub invariant-loop-at : goal.invariant-loop-at
invariant-loop-at l = Scanned l.text l.rows.items l.at l.number l.taken

abbrev pub decreases-loop-at : goal.decreases-loop-at
decreases-loop-at l = length l.text + 1 - l.at
