-- The invariant: the bytes stored so far are the front of the string, and the place is where the rest of it starts. Assumes nothing.
use Rattle.std.proofs.Common.{◌≡◌, ℕ, ◌≤◌, List, length, take, drop}
use Rattle.refusal.specs.Base.{good}
use Rattle.scalar.specs.Contract.{quoted_of}
use Rattle.scalar.proofs.quoted_text.unquote.Given as goal

abbrev pub invariant-loop-slot : goal.invariant-loop-slot
invariant-loop-slot l = (l.place ≤ length l.string.s.now) × ((cap : ℕ) (t rest : List ℕ)
    → quoted_of l.string.quote cap l.string.line (drop l.string.from l.string.s.now) ≡ good (t, rest) → length t ≡ length l.fn.out
    → (take l.slot-index l.out ≡ take l.slot-index t) × (quoted_of l.string.quote cap l.string.line (drop l.place l.string.s.now) ≡ good (drop l.slot-index t, rest)))
