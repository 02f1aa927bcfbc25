-- Section 2 of document 01, its last rules: integers (`scalar_of`) and their texts (`as_str`); and P4 of document 02. Uses Base of `refusal`;
-- Utf8 of `utf8`. Assumes nothing.
use Rattle.std.specs.Prelude.{ℕ, zero, suc, ◌+◌, ◌*◌, ◌-◌, ◌/◌, ◌%◌, ◌^◌, List, [], ◌∷◌, ◌++◌, Bool, true, false, ◌&&◌, not, ltb, leb, eqb, ℤ, pos, negsuc, neg_ℤ, if◌then◌else◌}
use Rattle.std.proofs.Math.Option.{Option, none, some}
use Rattle.refusal.specs.Base.{ch, empty}
use Rattle.utf8.specs.Utf8.{◌‥◌, within}

-- ---- integers from texts

unfoldable pub is_digit : ℕ → Bool
is_digit b = within (ch "0" ‥ ch "9") b

unfoldable pub all_digits : List ℕ → Bool
all_digits [] = true
all_digits (b ∷ bs) = is_digit b && all_digits bs

-- the digits' number, with `n` before them
unfoldable pub decimal_from : ℕ → List ℕ → ℕ
decimal_from n [] = n
decimal_from n (b ∷ bs) = decimal_from (n * 10 + (b - ch "0")) bs

-- several bytes of which the first is `0`
unfoldable pub zero_first : List ℕ → Bool
zero_first [] = false
zero_first (b ∷ []) = false
zero_first (b ∷ c ∷ bs) = eqb b (ch "0")

-- P4: several digits of which the first is 0 are no number
unfoldable pub digits : List ℕ → Option ℕ
digits s = if not (empty s) && all_digits s && not (zero_first s) then some (decimal_from 0 s) else none

-- at most 9223372036854775807, or 9223372036854775808 behind a minus
unfoldable pub positive : Option ℕ → Option ℤ
positive none = none
positive (some n) = if ltb n (2 ^ 63) then some (pos n) else none

unfoldable pub negative : Option ℕ → Option ℤ
negative none = none
negative (some n) = if leb n (2 ^ 63) then some (neg_ℤ (pos n)) else none

-- an optional minus, digits, 64 bits; P4: none that starts with `+`
unfoldable pub integer : List ℕ → Option ℤ
integer [] = none
integer (b ∷ bs) = if eqb b (ch "-") then negative (digits bs) else positive (digits (b ∷ bs))

-- ---- integers as texts

-- decimal digits; a 64-bit number has at most 20
unfoldable pub decimal_of : ℕ → ℕ → List ℕ
decimal_of zero n = []
decimal_of (suc places) n = if ltb n 10 then (ch "0" + n) ∷ [] else decimal_of places (n / 10) ++ ((ch "0" + n % 10) ∷ [])

unfoldable pub int_text : ℤ → List ℕ
int_text (pos n) = decimal_of 20 n
int_text (negsuc n) = ch "-" ∷ decimal_of 20 (suc n)
