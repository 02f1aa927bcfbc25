-- The core schema's regular expressions against the definitions of the crate `scalar`: plain scalars resolve alike. Assumes nothing.
use Rattle.std.specs.Prelude.{if◌then◌else◌}
use Rattle.std.proofs.Common.{◌≡◌, refl, sym, ◌∙◌, subst, ⊎_elim, ℕ, zero, suc, ◌+◌, ◌*◌, ◌-◌, ◌^◌, ◌≤◌, arith, List, [], ◌∷◌, Bool, true, false, ◌&&◌, ◌||◌, not, true≢false, eqb, leb, ℤ, pos, neg_ℤ, eqb-true, ne_eqb, le-leb, leb-true, ltb-true}
use Rattle.std.proofs.lemmas.Bool.{eqb-false, lt-leb, or_parts, cases_Bool, and_parts, or_cases}
use Rattle.std.proofs.Math.Bool.{or-true, or-false, or_comm, and-or_distrib_right}
use Rattle.std.proofs.Math.Option.{none, some, none-ne-some}
use Rattle.refusal.specs.Base.{ch, bytes, same, one_of, empty}
use Rattle.utf8.specs.Utf8.{Range, ◌‥◌, within}
use Rattle.utf8.proofs.Ranges.{if-one, in-range, inside}
use Rattle.utf8.specs.Points.{in_any}
use Rattle.item.specs.Tree.{Yaml}
use Rattle.item.specs.Tree as Tree
use Rattle.item.proofs.Same.{same-eq}
use Rattle.number.specs.Integers.{is_digit, all_digits, decimal_from, zero_first, digits, positive, negative, integer}
use Rattle.scalar.specs.Scalars.{nulls, trues, falses, int_or, scalar_of}
use Rattle.yaml.specs.Represent.{Rep, as_yaml, fits64}
use Rattle.yaml.specs.Core.{Regex, never, some_of, ◌·◌, ◌∣◌, star, nullable, behind, matches, byte, word, plus, digit, sign, null_text, true_text}
use Rattle.yaml.specs.Core.{false_text, decimal_text, octal_text, hex_text, float_text, from_one, unsigned, json_decimal_text, digit_of, number, signed, Core, to_null, to_true, to_false, to_decimal}
use Rattle.yaml.specs.Core.{to_octal, to_hex, to_float, to_str}
use Rattle.yaml.specs.Core as C
use Rattle.yaml.specs.Kept.{KeptCore}
use Rattle.yaml.proofs.Tests.{is_true, is_false, All}
use Rattle.yaml.proofs.Trees.{some-eq}

-- ---- regular expressions

turn : (a b c d e : Bool) → a || (b || (c || (d || e))) ≡ e || (d || (a || (b || (c || false))))
turn true b c d e = simp or-true
turn false true c d e = simp or-true
turn false false true d e = simp or-true
turn false false false d e = rw (or-false d) (or_comm d e)

matches-or : (p q : Regex) (t : List ℕ) → matches (p ∣ q) t ≡ matches p t || matches q t
unfolding matches nullable behind
matches-or p q [] = refl
matches-or p q (b ∷ t) = matches-or (behind b p) (behind b q) t

matches-never : (t : List ℕ) → matches never t ≡ false
unfolding matches nullable behind
matches-never [] = refl
matches-never (b ∷ t) = matches-never t

matches-empty : (t : List ℕ) → matches C.empty t ≡ same t []
unfolding matches nullable behind same
matches-empty [] = refl
matches-empty (b ∷ t) = matches-never t

never-then : (q : Regex) (t : List ℕ) → matches (never · q) t ≡ false
unfolding matches nullable behind
never-then q [] = refl
never-then q (b ∷ t) = never-then q t

empty-then : (q : Regex) (t : List ℕ) → matches (C.empty · q) t ≡ matches q t
unfolding matches nullable behind
empty-then q [] = refl
empty-then q (b ∷ t) = matches-or (never · q) (behind b q) t ∙ rw (never-then q t)

or-then : (x y q : Regex) (t : List ℕ) → matches ((x ∣ y) · q) t ≡ matches (x · q) t || matches (y · q) t
unfolding matches nullable behind
or-then x y q [] = and-or_distrib_right (nullable x) (nullable y) (nullable q)
or-then x y q (b ∷ t) = go (nullable x) (nullable y) (or-then (behind b x) (behind b y) q t)
  where
    alike : (m n k : Bool) → ((m || n) || k ≡ (m || k) || (n || k)) × ((m || n) || k ≡ (m || k) || n) × ((m || n) || k ≡ m || (n || k))
    alike true true true = (refl, refl, refl)
    alike true true false = (refl, refl, refl)
    alike true false true = (refl, refl, refl)
    alike true false false = (refl, refl, refl)
    alike false true true = (refl, refl, refl)
    alike false true false = (refl, refl, refl)
    alike false false true = (refl, refl, refl)
    alike false false false = (refl, refl, refl)

    both : (p : Regex) → matches (p ∣ behind b q) t ≡ matches p t || matches (behind b q) t
    both p = matches-or p (behind b q) t

    go : (c d : Bool) → matches ((behind b x ∣ behind b y) · q) t ≡ matches (behind b x · q) t || matches (behind b y · q) t
        → matches (if c || d then ((behind b x ∣ behind b y) · q) ∣ behind b q else ((behind b x ∣ behind b y) · q)) t
        ≡ matches (if c then (behind b x · q) ∣ behind b q else (behind b x · q)) t || matches (if d then (behind b y · q) ∣ behind b q else (behind b y · q)) t
    go true true ih = (rw (both ((behind b x ∣ behind b y) · q), both (behind b x · q), both (behind b y · q), ih) (alike (matches (behind b x · q) t) (matches (behind b y · q) t) (matches (behind b q) t)).0)
    go true false ih = (rw (both ((behind b x ∣ behind b y) · q), both (behind b x · q), ih) (alike (matches (behind b x · q) t) (matches (behind b y · q) t) (matches (behind b q) t)).1)
    go false true ih = (rw (both ((behind b x ∣ behind b y) · q), both (behind b y · q), ih) (alike (matches (behind b x · q) t) (matches (behind b y · q) t) (matches (behind b q) t)).2)
    go false false ih = ih

some_then : (rs : List Range) (q : Regex) (b : ℕ) (t : List ℕ) → matches (some_of rs · q) (b ∷ t) ≡ in_any rs b && matches q t
unfolding matches nullable behind
some_then rs q b t = go (in_any rs b)
  where
    go : (x : Bool) → matches ((if x then C.empty else never) · q) t ≡ x && matches q t
    go true = empty-then q t
    go false = never-then q t

only : (b c : ℕ) → in_any ((b ‥ b) ∷ []) c ≡ eqb c b
unfolding in_any within
only b c = go (eqb c b) refl
  where
    below : (x y : Bool) → leb b c ≡ x → leb c b ≡ y → (c ≡ b → ⊥) → (x && y) || false ≡ false
    below true true e f n = absurd (n (let p : b ≤ c = leb-true b c e in let q : c ≤ b = leb-true c b f in omega arith))
    below true false e f n = refl
    below false y e f n = refl

    go : (x : Bool) → eqb c b ≡ x → (leb b c && leb c b) || false ≡ x
    go true e = let p : c ≡ b = eqb-true c b e in rw (le-leb b c (omega arith), le-leb c b (omega arith))
    go false e = below (leb b c) (leb c b) refl refl (eqb-false c b e)

byte-then : (a : ℕ) (q : Regex) (b : ℕ) (t : List ℕ) → matches (byte a · q) (b ∷ t) ≡ eqb b a && matches q t
byte-then a q b t = some_then ((a ‥ a) ∷ []) q b t ∙ rw (only a b)

word-is : (w t : List ℕ) → matches (word w) t ≡ same t w
unfolding word matches nullable same
word-is [] t = matches-empty t
word-is (b ∷ w) [] = refl
word-is (b ∷ w) (c ∷ t) = byte-then b (word w) c t ∙ rw (word-is w t)

-- ---- the rows of the table

null_is : (t : List ℕ) → matches null_text t ≡ one_of t nulls
unfolding null_text one_of
null_is t =
    rw (
      matches-or (word (bytes "null")) (word (bytes "Null") ∣ word (bytes "NULL") ∣ word (bytes "~") ∣ C.empty) t,
      matches-or (word (bytes "Null")) (word (bytes "NULL") ∣ word (bytes "~") ∣ C.empty) t,
      matches-or (word (bytes "NULL")) (word (bytes "~") ∣ C.empty) t,
      matches-or (word (bytes "~")) C.empty t,
      matches-empty t,
      word-is (bytes "null") t,
      word-is (bytes "Null") t,
      word-is (bytes "NULL") t,
      word-is (bytes "~") t,
    )
    (turn (same t (bytes "null")) (same t (bytes "Null")) (same t (bytes "NULL")) (same t (bytes "~")) (same t []))

three-is : (a b c : List ℕ) (t : List ℕ) → matches (word a ∣ word b ∣ word c) t ≡ one_of t (a ∷ b ∷ c ∷ [])
unfolding one_of
three-is a b c t =
    rw (matches-or (word a) (word b ∣ word c) t, matches-or (word b) (word c) t, word-is a t, word-is b t, word-is c t, or-false (same t c))

true-is : (t : List ℕ) → matches true_text t ≡ one_of t trues
unfolding true_text
true-is t = three-is (bytes "true") (bytes "True") (bytes "TRUE") t

false-is : (t : List ℕ) → matches false_text t ≡ one_of t falses
unfolding false_text
false-is t = three-is (bytes "false") (bytes "False") (bytes "FALSE") t

one-range : (r : Range) (b : ℕ) → in_any (r ∷ []) b ≡ within r b
unfolding in_any
one-range r b = or-false (within r b)

digit-is : (b : ℕ) → in_any ((ch "0" ‥ ch "9") ∷ []) b ≡ is_digit b
unfolding is_digit
digit-is b = one-range (ch "0" ‥ ch "9") b

star-is : (t : List ℕ) → matches (star digit) t ≡ all_digits t
unfolding matches nullable behind all_digits
star-is [] = refl
star-is (b ∷ t) = go (in_any ((ch "0" ‥ ch "9") ∷ []) b) ∙ rw (digit-is b, star-is t)
  where
    go : (x : Bool) → matches ((if x then C.empty else never) · star digit) t ≡ x && matches (star digit) t
    go true = empty-then (star digit) t
    go false = never-then (star digit) t

abbrev digs : List ℕ → Bool
digs s = not (empty s) && all_digits s

plus-is : (t : List ℕ) → matches (plus digit) t ≡ digs t
unfolding matches nullable empty all_digits
plus-is [] = refl
plus-is (b ∷ t) = some_then ((ch "0" ‥ ch "9") ∷ []) (star digit) b t ∙ rw (digit-is b, star-is t)

sign-then : (q : Regex) (t : List ℕ) → matches (sign · q) t ≡ (matches (byte (ch "-") · q) t || matches (byte (ch "+") · q) t) || matches q t
sign-then q t =
    rw (or-then (byte (ch "-") ∣ byte (ch "+")) C.empty q t, or-then (byte (ch "-")) (byte (ch "+")) q t, empty-then q t)

digs-on : (b : ℕ) (bs : List ℕ) → is_digit b ≡ true → all_digits bs ≡ true → digs (b ∷ bs) ≡ true
unfolding empty all_digits
digs-on b bs h k = rw (h, k)

-- a text that begins with no digit
digs-no : (b x : ℕ) (bs : List ℕ) → b ≡ x → is_digit x ≡ false → digs (b ∷ bs) ≡ false
unfolding empty all_digits
digs-no b x bs e h = rw (e, h)

-- [-+]? [0-9]+ as a test
unfoldable is_int : List ℕ → Bool
is_int [] = false
is_int (b ∷ bs) = if eqb b (ch "-") then digs bs else if eqb b (ch "+") then digs bs else digs (b ∷ bs)

int_is : (t : List ℕ) → matches decimal_text t ≡ is_int t
unfolding decimal_text is_int
int_is [] = sign-then (plus digit) [] ∙ unfold matches nullable in refl
int_is (b ∷ bs) =
    sign-then (plus digit) (b ∷ bs)
    ∙ rw (byte-then (ch "-") (plus digit) b bs, byte-then (ch "+") (plus digit) b bs, plus-is bs, plus-is (b ∷ bs))
    (go (eqb b (ch "-")) (eqb b (ch "+")) refl refl)
  where
    go : (x y : Bool) → eqb b (ch "-") ≡ x → eqb b (ch "+") ≡ y
        → ((x && digs bs) || (y && digs bs)) || digs (b ∷ bs) ≡ (if x then digs bs else if y then digs bs else digs (b ∷ bs))
    go true true e f = absurd (true≢false (sym f ∙ rw (eqb-true b _ e)))
    go true false e f = (rw (digs-no b (ch "-") bs (eqb-true b _ e) (unfold is_digit within in refl), or-false (digs bs), or-false (digs bs)))
    go false true e f = (rw (digs-no b (ch "+") bs (eqb-true b _ f) (unfold is_digit within in refl), or-false (digs bs)))
    go false false e f = refl

-- ---- integers

digit_value : (b : ℕ) → is_digit b ≡ true → digit_of b ≡ b - ch "0"
unfolding is_digit digit_of
digit_value b h = let k = in-range (ch "0" ‥ ch "9") b h in rw (lt-leb 97 b (omega arith), lt-leb 65 b (omega arith))

number_is : (n : ℕ) (s : List ℕ) → all_digits s ≡ true → number 10 n s ≡ decimal_from n s
unfolding number decimal_from all_digits
number_is n [] h = refl
number_is n (b ∷ bs) h = let k = and_parts (is_digit b) (all_digits bs) h in rw (digit_value b k.0) (number_is (n * 10 + (b - ch "0")) bs k.1)

digits-none : (s : List ℕ) → digs s ≡ false → digits s ≡ none
unfolding digits
digits-none s h = rw h

digits-some : (s : List ℕ) → digs s ≡ true → zero_first s ≡ false → digits s ≡ some (number 10 0 s)
unfolding digits
digits-some s h z = rw (h, z, number_is 0 s (and_parts (not (empty s)) (all_digits s) h).1)

int-none : (t : List ℕ) → is_int t ≡ false → integer t ≡ none
unfolding is_int integer
int-none [] h = refl
int-none (b ∷ bs) h = go (eqb b (ch "-")) (eqb b (ch "+")) refl h
  where
    go : (x y : Bool) → eqb b (ch "+") ≡ y → (if x then digs bs else if y then digs bs else digs (b ∷ bs)) ≡ false
        → (if x then negative (digits bs) else positive (digits (b ∷ bs))) ≡ none
    go true y f h = unfold negative in (rw (digits-none bs (h)))
    go false true f h = unfold positive in (rw (digits-none (b ∷ bs) (digs-no b (ch "+") bs (eqb-true b _ f) (unfold is_digit within in refl))))
    go false false f h = unfold positive in (rw (digits-none (b ∷ bs) (h)))

positive-is : (n : ℕ) → fits64 (pos n) ≡ true → positive (some n) ≡ some (pos n)
unfolding fits64 positive
positive-is n h = rw h

negative-is : (n : ℕ) → fits64 (neg_ℤ (pos n)) ≡ true → negative (some n) ≡ some (neg_ℤ (pos n))
unfolding fits64 negative
negative-is zero h = refl
negative-is (suc n) h = rw (le-leb (suc n) (2 ^ 63) (ltb-true n (2 ^ 63) h))

-- ---- integers of the JSON schema

-- digits, of which the first is no 0 before others
abbrev Unpadded : List ℕ → Type 0
Unpadded s = (digs s ≡ true) × (zero_first s ≡ false)

unsigned_is : (s : List ℕ) → matches unsigned s ≡ true → Unpadded s
unfolding zero_first is_digit
unsigned_is [] h = absurd (true≢false (sym h ∙ unfold matches nullable word bytes in refl))
unsigned_is (b ∷ bs) h = if-one (matches (word (bytes "0")) (b ∷ bs)) _ (sym (matches-or (word (bytes "0")) from_one (b ∷ bs)) ∙ h) alone several
  where
    alone : matches (word (bytes "0")) (b ∷ bs) ≡ true → Unpadded (b ∷ bs)
    alone m = subst Unpadded (sym (same-eq (b ∷ bs) (bytes "0") (sym (word-is (bytes "0") (b ∷ bs)) ∙ m))) (unfold bytes empty all_digits within in (refl, refl))

    zero-not : (bs : List ℕ) → eqb b 48 ≡ false → zero_first (b ∷ bs) ≡ false
    zero-not [] e = refl
    zero-not (c ∷ bs) e = e

    several : matches from_one (b ∷ bs) ≡ true → Unpadded (b ∷ bs)
    several m =
        let k = and_parts (in_any ((ch "1" ‥ ch "9") ∷ []) b) (matches (star digit) bs) (sym (some_then ((ch "1" ‥ ch "9") ∷ []) (star digit) b bs) ∙ m) in
        let r = in-range (ch "1" ‥ ch "9") b (sym (one-range (ch "1" ‥ ch "9") b) ∙ k.0) in
        (digs-on b bs (inside (ch "0" ‥ ch "9") b (omega arith) r.1) (sym (star-is bs) ∙ k.1), zero-not bs (ne_eqb b 48 (λ e. omega arith)))

json-then : (b : ℕ) (bs : List ℕ) → matches json_decimal_text (b ∷ bs) ≡ (eqb b (ch "-") && matches unsigned bs) || matches unsigned (b ∷ bs)
unfolding json_decimal_text
json-then b bs = or-then (byte (ch "-")) C.empty unsigned (b ∷ bs) ∙ rw (byte-then (ch "-") unsigned b bs, empty-then unsigned (b ∷ bs))

int-some : (t : List ℕ) → matches json_decimal_text t ≡ true → fits64 (signed t) ≡ true → integer t ≡ some (signed t)
unfolding integer signed
int-some [] h f = absurd (true≢false (sym h ∙ unfold json_decimal_text matches nullable word bytes in refl))
int-some (b ∷ bs) h f = go (eqb b (ch "-")) (eqb b (ch "+")) refl refl (sym (json-then b bs) ∙ h) f
  where
    no_sign : (x : ℕ) → b ≡ x → is_digit x ≡ false → matches unsigned (b ∷ bs) ≡ true → ⊥
    no_sign x e d m = true≢false (sym (unsigned_is (b ∷ bs) m).0 ∙ digs-no b x bs e d)

    go : (x y : Bool) → eqb b (ch "-") ≡ x → eqb b (ch "+") ≡ y → (x && matches unsigned bs) || matches unsigned (b ∷ bs) ≡ true
        → fits64 (if x then neg_ℤ (pos (number 10 0 bs)) else if y then pos (number 10 0 bs) else pos (number 10 0 (b ∷ bs))) ≡ true
        → (if x then negative (digits bs) else positive (digits (b ∷ bs)))
        ≡ some (if x then neg_ℤ (pos (number 10 0 bs)) else if y then pos (number 10 0 bs) else pos (number 10 0 (b ∷ bs)))
    go true y e g h f =
        let k = unsigned_is bs (if-one (matches unsigned bs) _ h (λ m. m) (λ m. absurd (no_sign (ch "-") (eqb-true b _ e) (unfold is_digit within in refl) m))) in
        rw (digits-some bs k.0 k.1) (negative-is (number 10 0 bs) f)
    go false true e g h f = absurd (no_sign (ch "+") (eqb-true b _ g) (unfold is_digit within in refl) h)
    go false false e g h f =
        let k = unsigned_is (b ∷ bs) h in
        rw (digits-some (b ∷ bs) k.0 k.1) (positive-is (number 10 0 (b ∷ bs)) f)

-- ---- plain scalars

-- what holds of each of a list of texts
each : (P : List ℕ → Type 0) (l : List (List ℕ)) → All P l → (t : List ℕ) → one_of t l ≡ true → P t
unfolding one_of
each P [] h t e = absurd (true≢false (sym e))
each P (x ∷ l) h t e = ⊎_elim (λ q. rw (same-eq t x q) h.0) (λ q. each P l h.1 t q) (or_cases (same t x) (one_of t l) e)

-- no text is of two rows
null-no-int : (t : List ℕ) → one_of t nulls ≡ true → integer t ≡ none
unfolding bytes integer digits zero_first positive negative all_digits is_digit within empty
null-no-int = each (λ t. integer t ≡ none) nulls (refl, (refl, (refl, (refl, (refl, tt)))))

true-no-int : (t : List ℕ) → one_of t trues ≡ true → (integer t ≡ none) × (one_of t nulls ≡ false)
unfolding bytes integer digits zero_first positive negative all_digits is_digit within empty one_of same
true-no-int = each (λ t. (integer t ≡ none) × (one_of t nulls ≡ false)) trues ((refl, refl), ((refl, refl), ((refl, refl), tt)))

false-no-int : (t : List ℕ) → one_of t falses ≡ true → (integer t ≡ none) × (one_of t nulls ≡ false) × (one_of t trues ≡ false)
unfolding bytes integer digits zero_first positive negative all_digits is_digit within empty one_of same
false-no-int = each (λ t. (integer t ≡ none) × (one_of t nulls ≡ false) × (one_of t trues ≡ false)) falses ((refl, refl, refl), ((refl, refl, refl), ((refl, refl, refl), tt)))

-- an integer is of no other row
int-reads : (t : List ℕ) (z : ℤ) → integer t ≡ some z → scalar_of t ≡ Tree.int z
unfolding scalar_of int_or
int-reads t z e = rw (not-one nulls (null-no-int t), not-one trues (λ h. (true-no-int t h).0), not-one falses (λ h. (false-no-int t h).0), e)
  where
    not-one : (l : List (List ℕ)) → (one_of t l ≡ true → integer t ≡ none) → one_of t l ≡ false
    not-one l f = ⊎_elim (λ h. absurd (none-ne-some z (sym (f h) ∙ e))) (λ h. h) (cases_Bool (one_of t l))

-- the reader resolves a text as the core schema does, where document 01 keeps it
pub resolves : {t : List ℕ} {r : Rep} (d : Core t r) → KeptCore d → (y : Yaml) → as_yaml r ≡ some y → scalar_of t ≡ y
unfolding as_yaml KeptCore scalar_of int_or
resolves (to_null {t = t} h) k y e = rw (sym (null_is t) ∙ is_true _ h) (some-eq e)
resolves (to_true {t = t} h) k y e = let g = sym (true-is t) ∙ is_true _ h in rw ((true-no-int t g).1, g) (some-eq e)
resolves (to_false {t = t} h) k y e = let g = sym (false-is t) ∙ is_true _ h in rw ((false-no-int t g).1, (false-no-int t g).2, g) (some-eq e)
resolves (to_decimal {t = t} h) k y e = go (fits64 (signed t)) refl e
  where
    go : (x : Bool) → fits64 (signed t) ≡ x → (if x then some (Tree.int (signed t)) else none) ≡ some y → scalar_of t ≡ y
    go true f e = int-reads t (signed t) (int-some t (is_true (matches json_decimal_text t) k) f) ∙ some-eq e
    go false f e = absurd (none-ne-some y e)
resolves (to_octal h) k y e = absurd k
resolves (to_hex h) k y e = absurd k
resolves (to_float g h) k y e = absurd (none-ne-some y e)
resolves (to_str {t = t} h) k y e =
    let a = or_parts _ _ (sym (matches-or null_text (true_text ∣ false_text ∣ decimal_text ∣ octal_text ∣ hex_text ∣ float_text) t) ∙ is_false _ h) in
    let b = or_parts _ _ (sym (matches-or true_text (false_text ∣ decimal_text ∣ octal_text ∣ hex_text ∣ float_text) t) ∙ a.1) in
    let c = or_parts _ _ (sym (matches-or false_text (decimal_text ∣ octal_text ∣ hex_text ∣ float_text) t) ∙ b.1) in
    let d = or_parts _ _ (sym (matches-or decimal_text (octal_text ∣ hex_text ∣ float_text) t) ∙ c.1) in
    rw (sym (null_is t) ∙ a.0, sym (true-is t) ∙ b.0, sym (false-is t) ∙ c.0, int-none t (sym (int_is t) ∙ d.0)) (some-eq e)
