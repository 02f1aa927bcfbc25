-- The invariant: `size` bytes of the string stand before the place. Assumes nothing.
use Rattle.std.proofs.Common.{ℕ, ◌+◌, ◌≤◌, ◌-◌, length}
use Rattle.scalar.specs.Contract.{quoted_of}
use Rattle.scalar.proofs.QuoteLaws.{Passed}
use Rattle.scalar.proofs.quoted_text.span_of.Given as goal

abbrev pub invariant-loop-piece : goal.invariant-loop-piece
invariant-loop-piece l = (l.string.from + l.size ≤ l.place) × (l.place ≤ length l.string.s.now) × ((cap : ℕ) → Passed cap l.string.line (quoted_of l.string.quote cap l.string.line) l.string.s.now l.string.from l.place l.size)

abbrev pub decreases-loop-piece : goal.decreases-loop-piece
decreases-loop-piece l = length l.string.s.now - l.place
