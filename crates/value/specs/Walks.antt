-- For contracts: what a walk over bytes answers, by places. Uses Decode of `item`. Assumes nothing.
use Rattle.std.specs.Prelude.{◌≡◌, ℕ, ◌+◌, ◌≤◌, List, length, drop, Option, Some, None}
use Rattle.std.proofs.Math.Option.{none, some}
use Rattle.item.specs.Decode.{Decoder}

-- what a decoder reads at a place ends at another
pub record ReadAt {A : Type 0} (f : Decoder A) (s : List ℕ) (at to : ℕ) : Type 0 where
  pub value : A
  pub is : f (drop at s) ≡ some (value, drop to s)
  pub forward : at + 6 ≤ to
  pub fits : to ≤ length s

-- the end of what a decoder reads, or that it reads nothing
abbrev pub Walks : {A : Type 0} → Decoder A → List ℕ → ℕ → Option ℕ → Type 0
Walks f s at (Some to) = ReadAt f s at to
Walks f s at None = f (drop at s) ≡ none
