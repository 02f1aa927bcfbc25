-- Section 1 of document 01: white space in UTF-8, and texts trimmed of it. A text is any list of bytes, UTF-8 or not. WhitePoints of
-- proofs/ shows that the tests of bytes below are document 01's list of code points. Uses Base of `refusal`; Utf8 of this crate. Assumes
-- nothing.
use Rattle.std.specs.Prelude.{ℕ, zero, suc, List, [], ◌∷◌, Bool, ◌&&◌, ◌||◌, eqb, drop, if◌then◌else◌}
use Rattle.std.proofs.Math.Option.{Option, none, some}
use Rattle.refusal.specs.Base.{maybe, empty}
use Rattle.utf8.specs.Utf8.{◌‥◌, within}

-- white space of one byte: 9 to D, 20
unfoldable pub white1 : ℕ → Bool
white1 a = within (0x09 ‥ 0x0d) a || eqb a 0x20

-- of two: 85, A0
unfoldable pub white2 : ℕ → ℕ → Bool
white2 a b = eqb a 0xc2 && (eqb b 0x85 || eqb b 0xa0)

-- the last byte of 2000 to 200A, 2028, 2029, 202F
unfoldable pub in2000 : ℕ → Bool
in2000 c = within (0x80 ‥ 0x8a) c || within (0xa8 ‥ 0xa9) c || eqb c 0xaf

-- of three: 1680; 2000 to 202F as above; 205F; 3000
unfoldable pub white3 : ℕ → ℕ → ℕ → Bool
white3 a b c =
    (eqb a 0xe1 && eqb b 0x9a && eqb c 0x80)
    || (eqb a 0xe2 && eqb b 0x80 && in2000 c)
    || (eqb a 0xe2 && eqb b 0x81 && eqb c 0x9f)
    || (eqb a 0xe3 && eqb b 0x80 && eqb c 0x80)

-- of a text that begins with white space, how many bytes its first character has behind the first
unfoldable pub white_at : ℕ → List ℕ → Option ℕ
white_at a [] = if white1 a then some 0 else none
white_at a (b ∷ []) = if white1 a then some 0 else if white2 a b then some 1 else none
white_at a (b ∷ c ∷ s) = if white1 a then some 0 else if white2 a b then some 1 else if white3 a b c then some 2 else none

-- how many bytes the white space character has that a text begins with; 0 where it begins with none
unfoldable pub white_len : List ℕ → ℕ
white_len [] = 0
white_len (a ∷ s) = maybe (white_at a s) 0 suc

-- how many bytes of leading white space, of a text whose first `k` bytes are known to be of it
unfoldable pub leading_from : ℕ → List ℕ → ℕ
leading_from k [] = 0
leading_from (suc k) (b ∷ bs) = suc (leading_from k bs)
leading_from zero (b ∷ bs) = maybe (white_at b bs) 0 λ k. suc (leading_from k bs)

-- how many bytes of leading white space a text has
unfoldable pub leading : List ℕ → ℕ
leading s = leading_from 0 s

-- a text without its leading white space
unfoldable pub trim_start : List ℕ → List ℕ
trim_start s = drop (leading s) s

-- nothing but white space
unfoldable pub all_white : List ℕ → Bool
all_white s = empty (trim_start s)

-- a text without the white space at its end: it ends where only white space follows
unfoldable pub trim_end : List ℕ → List ℕ
trim_end [] = []
trim_end (b ∷ bs) = if all_white (b ∷ bs) then [] else b ∷ trim_end bs

-- a text without the white space at both ends
unfoldable pub trim : List ℕ → List ℕ
trim s = trim_end (trim_start s)
