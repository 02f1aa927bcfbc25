-- RFC 3629 and section 1 of document 01, for the contracts inside the crate: what the answers about one byte say in the terms of the definitions.
-- Uses Utf8, White and Part of this crate. Assumes nothing.
use Rattle.std.specs.Prelude.{ℕ, zero, suc, ◌-◌, ◌≤◌, ◌<◌, ◌≡◌, List, [], ◌∷◌, Bool, false, Option, Some, None, replicate}
use Rattle.utf8.specs.Utf8.{Range, ◌‥◌, tail, utf8_from}
use Rattle.utf8.specs.White.{white_len}
use Rattle.utf8.specs.Part.{part}
use Rattle.utf8.specs.declared.Due.{Due}

-- the ranges that are due: `left` bytes, the first of them from `low` to `high`
abbrev pub due_of : ℕ → ℕ → ℕ → List Range
due_of zero low high = []
due_of (suc left) low high = (low ‥ high) ∷ replicate left tail

-- whether a text is UTF-8 whose rest comes behind a byte
abbrev pub goes_on : Option Due → List ℕ → Bool
goes_on (Some d) rest = utf8_from (due_of d.left d.low d.high) rest
goes_on None rest = false

-- an answer is right: with the ranges `due`, whatever comes behind the byte `b`
abbrev pub Follows : List Range → ℕ → Option Due → Type 0
Follows due b r = (rest : List ℕ) → utf8_from due (b ∷ rest) ≡ goes_on r rest

-- a white space character of `r` bytes ends the part; where `r` is 0, none does
pub record Ends (s : List ℕ) (from to r : ℕ) : Type 0 where
  pub fits : r ≤ to - from
  pub ends : 0 < r → white_len (part s (to - r) to) ≡ r
  pub none : r ≡ 0 → (k : ℕ) → from ≤ k → k < to → white_len (part s k to) ≡ to - k → ⊥
