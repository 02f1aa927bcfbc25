-- Eight bytes as a number. Assumes nothing.
use Rattle.std.proofs.Common.{◌≡◌, ◌∙◌, ap, ℕ, arith, List, [], ◌∷◌, length}
use Rattle.std.specs.Int.{w64, from_le_bytes, cast_signed}
use Rattle.item.specs.Encode.{number}
use Rattle.item.specs.Decode.{untwos}
use Rattle.nodes.proofs.Texts.{sign-is}

pub number-8 : (bs : List ℕ) → length bs ≡ 8 → from_le_bytes w64 bs ≡ number bs
unfolding number
number-8 [] h = absurd (omega arith)
number-8 (a ∷ []) h = absurd (omega arith)
number-8 (a ∷ b ∷ []) h = absurd (omega arith)
number-8 (a ∷ b ∷ c ∷ []) h = absurd (omega arith)
number-8 (a ∷ b ∷ c ∷ d ∷ []) h = absurd (omega arith)
number-8 (a ∷ b ∷ c ∷ d ∷ e ∷ []) h = absurd (omega arith)
number-8 (a ∷ b ∷ c ∷ d ∷ e ∷ f ∷ []) h = absurd (omega arith)
number-8 (a ∷ b ∷ c ∷ d ∷ e ∷ f ∷ g ∷ []) h = absurd (omega arith)
number-8 (a ∷ b ∷ c ∷ d ∷ e ∷ f ∷ g ∷ i ∷ []) h = omega arith
number-8 (a ∷ b ∷ c ∷ d ∷ e ∷ f ∷ g ∷ i ∷ j ∷ bs) h = absurd (omega arith)

-- as a signed number
pub signed-8 : (bs : List ℕ) → length bs ≡ 8 → cast_signed w64 (from_le_bytes w64 bs) ≡ untwos (number bs)
signed-8 bs size = ap (cast_signed w64) (number-8 bs size) ∙ sign-is (number bs)
