-- YAML 1.2.2, 10.3.2: the core schema, by its regular expressions; and the integers of the JSON schema, 10.2.2. Uses Base of `refusal`; Utf8
-- and Points of `utf8`; Represent of this crate. Assumes nothing.
use Rattle.std.specs.Prelude.{ℕ, ◌+◌, ◌*◌, ◌-◌, List, [], ◌∷◌, Bool, true, false, ◌&&◌, ◌||◌, not, T, eqb, leb, ℤ, pos, neg_ℤ, if◌then◌else◌}
use Rattle.refusal.specs.Base.{ch, bytes}
use Rattle.utf8.specs.Utf8.{Range, ◌‥◌}
use Rattle.utf8.specs.Points.{in_any}
use Rattle.yaml.specs.Represent.{Rep, null, bool, int, float, str}

-- ---- regular expressions

infixr 30 ◌·◌
infixr 20 ◌∣◌
pub data Regex : Type 0 where
  never empty : Regex
  some_of : List Range → Regex  -- one byte
  ◌·◌ ◌∣◌ : Regex → Regex → Regex
  star : Regex → Regex

unfoldable pub nullable : Regex → Bool
nullable never = false
nullable empty = true
nullable (some_of rs) = false
nullable (p · q) = nullable p && nullable q
nullable (p ∣ q) = nullable p || nullable q
nullable (star p) = true

-- what must follow the byte `b`
unfoldable pub behind : ℕ → Regex → Regex
behind b never = never
behind b empty = never
behind b (some_of rs) = if in_any rs b then empty else never
behind b (p · q) = if nullable p then (behind b p · q) ∣ behind b q else behind b p · q
behind b (p ∣ q) = behind b p ∣ behind b q
behind b (star p) = behind b p · star p

unfoldable pub matches : Regex → List ℕ → Bool
matches p [] = nullable p
matches p (b ∷ bs) = matches (behind b p) bs

abbrev pub byte : ℕ → Regex
byte b = some_of ((b ‥ b) ∷ [])

unfoldable pub word : List ℕ → Regex
word [] = empty
word (b ∷ bs) = byte b · word bs

abbrev pub optional : Regex → Regex
optional p = p ∣ empty

abbrev pub plus : Regex → Regex
plus p = p · star p

-- ---- the table of 10.3.2

abbrev pub digit : Regex
digit = some_of ((ch "0" ‥ ch "9") ∷ [])

-- [-+]?
abbrev pub sign : Regex
sign = optional (byte (ch "-") ∣ byte (ch "+"))

-- null | Null | NULL | ~ | (nothing)
unfoldable pub null_text : Regex
null_text = word (bytes "null") ∣ word (bytes "Null") ∣ word (bytes "NULL") ∣ word (bytes "~") ∣ empty

-- true | True | TRUE, and false | False | FALSE
unfoldable pub true_text : Regex
true_text = word (bytes "true") ∣ word (bytes "True") ∣ word (bytes "TRUE")

unfoldable pub false_text : Regex
false_text = word (bytes "false") ∣ word (bytes "False") ∣ word (bytes "FALSE")

-- [-+]? [0-9]+
unfoldable pub decimal_text : Regex
decimal_text = sign · plus digit

-- 0o [0-7]+
unfoldable pub octal_text : Regex
octal_text = word (bytes "0o") · plus (some_of ((ch "0" ‥ ch "7") ∷ []))

-- 0x [0-9a-fA-F]+
unfoldable pub hex_text : Regex
hex_text = word (bytes "0x") · plus (some_of ((ch "0" ‥ ch "9") ∷ (ch "a" ‥ ch "f") ∷ (ch "A" ‥ ch "F") ∷ []))

-- [-+]? ( \. [0-9]+ | [0-9]+ ( \. [0-9]* )? ) ( [eE] [-+]? [0-9]+ )?; [-+]? ( \.inf | \.Inf | \.INF ); \.nan | \.NaN | \.NAN
unfoldable pub float_text : Regex
float_text =
    (sign · ((byte (ch ".") · plus digit) ∣ (plus digit · optional (byte (ch ".") · star digit))) · optional ((byte (ch "e") ∣ byte (ch "E")) · sign · plus digit))
    ∣ (sign · (word (bytes ".inf") ∣ word (bytes ".Inf") ∣ word (bytes ".INF")))
    ∣ word (bytes ".nan")
    ∣ word (bytes ".NaN")
    ∣ word (bytes ".NAN")

-- ---- a row of the table of 10.2.2

-- [1-9] [0-9]*
abbrev pub from_one : Regex
from_one = some_of ((ch "1" ‥ ch "9") ∷ []) · star digit

-- 0 | [1-9] [0-9]*
abbrev pub unsigned : Regex
unsigned = word (bytes "0") ∣ from_one

-- -? ( 0 | [1-9] [0-9]* )
unfoldable pub json_decimal_text : Regex
json_decimal_text = optional (byte (ch "-")) · unsigned

-- ---- values

-- 0 to 9, a to f, A to F
unfoldable pub digit_of : ℕ → ℕ
digit_of b = if leb (ch "a") b then (b - ch "a" + 10) else if leb (ch "A") b then (b - ch "A" + 10) else (b - ch "0")

-- the number of digits to a base, with `n` before them
unfoldable pub number : ℕ → ℕ → List ℕ → ℕ
number base n [] = n
number base n (b ∷ bs) = number base (n * base + digit_of b) bs

unfoldable pub signed : List ℕ → ℤ
signed [] = pos 0
signed (b ∷ bs) =
    if eqb b (ch "-") then neg_ℤ (pos (number 10 0 bs))
    else if eqb b (ch "+") then pos (number 10 0 bs)
    else pos (number 10 0 (b ∷ bs))

-- without `0o` or `0x`
unfoldable pub prefixed : ℕ → List ℕ → ℤ
prefixed base [] = pos 0
prefixed base (a ∷ []) = pos 0
prefixed base (a ∷ b ∷ bs) = pos (number base 0 bs)

-- a plain scalar without a tag: the first row of the table that matches, and a string where none does
pub data Core : List ℕ → Rep → Type 0 where
  to_null : {t : List ℕ} → T (matches null_text t) → Core t null
  to_true : {t : List ℕ} → T (matches true_text t) → Core t (bool true)
  to_false : {t : List ℕ} → T (matches false_text t) → Core t (bool false)
  to_decimal : {t : List ℕ} → T (matches decimal_text t) → Core t (int (signed t))
  to_octal : {t : List ℕ} → T (matches octal_text t) → Core t (int (prefixed 8 t))
  to_hex : {t : List ℕ} → T (matches hex_text t) → Core t (int (prefixed 16 t))
  to_float : {t : List ℕ} → T (not (matches decimal_text t)) → T (matches float_text t) → Core t (float t)
  to_str : {t : List ℕ} → T (not (matches (null_text ∣ true_text ∣ false_text ∣ decimal_text ∣ octal_text ∣ hex_text ∣ float_text) t)) → Core t (str t)
