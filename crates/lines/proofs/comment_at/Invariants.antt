-- A part without `#` has no comment. The invariant: what is left of the part before its comment is what is passed, and what is left of the rest. Assumes nothing.
use Rattle.std.proofs.Common.{◌≡◌, ◌+◌, ◌≤◌, length}
use Rattle.utf8.specs.Part.{part}
use Rattle.lines.specs.Lines.{strip_comment, uncommented}
use Rattle.lines.proofs.comment_at.Given as goal

abbrev pub invariant-loop-i : goal.invariant-loop-i
invariant-loop-i l = (l.from ≤ l.i) × (l.i ≤ l.to) × (l.from + length (strip_comment (part l.text l.from l.to)) ≡ l.i + length (uncommented l.place (part l.text l.i l.to)))
