-- What the code computes of booleans and of magnitudes, as the definition has it, and small items as they are stored. Assumes nothing.
use Rattle.std.proofs.Common.{◌≡◌, refl, ap, ℕ, zero, suc, ◌+◌, ◌%◌, ◌<◌, ◌^◌, arith, List, [], ◌∷◌, Bool, true, false, set, ℤ, pos, negsuc}
use Rattle.std.specs.Prelude.{unsigned_abs}
use Rattle.std.specs.Int.{from_bool, is_negative}
use Rattle.std.proofs.lemmas.Bool.{le-ltb}
use Rattle.std.proofs.lemmas.List.Edits.{sets}
use Rattle.item.specs.Tree.{null, bool}
use Rattle.item.specs.Encode.{head, flag, twos, signed, encode}
use Rattle.item.proofs.Runs.{sets_item}

pub bool-flag : (b : Bool) → from_bool b ≡ flag b
unfolding flag
bool-flag true = refl
bool-flag false = refl

-- a number by its sign and its magnitude
pub by_sign : (z : ℤ) → signed (is_negative z) (unsigned_abs z) ≡ z
unfolding signed
by_sign (pos n) = ap (λ (b : Bool). signed b n) (le-ltb n 0 (omega arith))
by_sign (negsuc n) = refl

pub null_stored : (l : List ℕ) (at : ℕ) → sets l at (head 0 0) ≡ sets l at (encode null)
unfolding encode
null_stored l at = sets_item l at 0 []

pub bool_stored : (l : List ℕ) (at : ℕ) (b : Bool) → set (sets l at (head 1 1)) (at + 6) (from_bool b) ≡ sets l at (encode (bool b))
unfolding encode
bool_stored l at b = rw (bool-flag b) (sets_item l at 1 (flag b ∷ []))

-- what is left of 2 ^ 64 behind a magnitude
pub negated : (m n : ℕ) → m < 2 ^ 64 → n < 2 ^ 64 → (m + n) % 2 ^ 64 ≡ 0 → m ≡ twos (signed true n)
unfolding twos signed
negated m zero h k e = omega (arith, e)
negated m (suc n) h k e = omega (arith, e)
