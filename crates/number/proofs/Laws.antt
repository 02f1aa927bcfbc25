-- Decimal digits, read from the front and written from the end. Assumes nothing.
use Rattle.std.specs.Prelude.{if◌then◌else◌}
use Rattle.std.specs.Bool.{then_some}
use Rattle.std.proofs.Common.{◌≡◌, refl, ap, ◌∙◌, ℕ, zero, suc, ◌+◌, ◌*◌, ◌-◌, ◌/◌, ◌%◌, ◌^◌, ◌≤◌, ◌<◌, pow-suc, add-one, arith, List, [], ◌∷◌, ◌++◌, Bool, true, false, ◌&&◌, not, ltb, eqb, length, set, drop, get_or, drop_of_length-le, length-append, drop-cons, leb, lt-ltb, le-ltb, le-leb, eq-eqb, ne_eqb, ltb-true, ltb-false}
use Rattle.std.proofs.Math.Bool.{and-true, and-false}
use Rattle.std.proofs.Math.Option.{Option, none, some}
use Rattle.std.proofs.Math.Seq.{sets}
use Rattle.std.proofs.Math.Nat.{one-le-pow}
use Rattle.std.proofs.lemmas.Bool.{lt-leb, cond_both}
use Rattle.refusal.specs.Base.{ch, empty}
use Rattle.utf8.specs.Utf8.{within}
use Rattle.std.specs.Char.{is_ascii_digit}
use Rattle.item.specs.Encode.{signed}
use Rattle.item.proofs.Runs.{sets-before}
use Rattle.number.specs.Integers.{is_digit, all_digits, decimal_from, zero_first, digits, positive, negative, integer, decimal_of, int_text}
use Rattle.number.specs.Code.{number_of, at_most, bounded, minused}

-- ---- a number that is kept where it is at most the limit

pub bounded-by : (limit n : ℕ) → number_of (then_some (leb n limit) n) ≡ at_most limit (some n)
unfolding at_most
bounded-by limit n = go (leb n limit)
  where
    go : (b : Bool) → number_of (then_some b n) ≡ (if b then some n else none)
    go true = refl
    go false = refl

-- ---- digits that are read

-- the digits' number, with `n` before them, or none where not all are digits
unfoldable pub digits_from : ℕ → List ℕ → Option ℕ
digits_from n s = if all_digits s then some (decimal_from n s) else none

pub decimal-le : (n : ℕ) (s : List ℕ) → n ≤ decimal_from n s
unfolding decimal_from
decimal-le n [] = omega arith
decimal-le n (b ∷ s) = omega (arith, decimal-le (n * 10 + (b - ch "0")) s)

-- digits only add
pub from-over : (limit n : ℕ) (s : List ℕ) → limit < n → none ≡ at_most limit (digits_from n s)
unfolding at_most digits_from
from-over limit n s h = go (all_digits s)
  where
    go : (x : Bool) → none ≡ at_most limit (if x then some (decimal_from n s) else none)
    go true = rw (lt-leb (decimal_from n s) limit (omega (arith, decimal-le n s)))
    go false = refl

pub digits-zero : (s : List ℕ) → zero_first s ≡ true → digits s ≡ none
unfolding digits
digits-zero s z = rw (z, and-false (not (empty s) && all_digits s))

pub zero_short : (s : List ℕ) → length s < 2 → zero_first s ≡ false
unfolding zero_first
zero_short [] h = refl
zero_short (a ∷ []) h = refl
zero_short (a ∷ b ∷ s) h = absurd (omega arith)

pub zero_is : (s : List ℕ) → 2 ≤ length s → get_or s 0 0 ≡ ch "0" → zero_first s ≡ true
unfolding zero_first
zero_is [] h e = absurd (omega arith)
zero_is (a ∷ []) h e = absurd (omega arith)
zero_is (a ∷ b ∷ s) h e = eq-eqb a (ch "0") e

pub zero_other : (s : List ℕ) → (get_or s 0 0 ≡ ch "0" → ⊥) → zero_first s ≡ false
unfolding zero_first
zero_other [] n = refl
zero_other (a ∷ []) n = refl
zero_other (a ∷ b ∷ s) n = ne_eqb a (ch "0") n

pub digits-none : (s : List ℕ) → length s ≡ 0 → digits s ≡ none
unfolding digits empty
digits-none [] h = refl
digits-none (b ∷ s) h = absurd (omega arith)

pub digits-start : (s : List ℕ) → (length s ≡ 0 → ⊥) → zero_first s ≡ false → digits s ≡ digits_from 0 s
unfolding digits digits_from empty
digits-start [] h z = absurd (h refl)
digits-start (b ∷ s) h z = rw (z, and-true (not (empty (b ∷ s)) && all_digits (b ∷ s)))

module _ (s : List ℕ) (i : ℕ) where
  pub zero_one : i < length s → length s ≤ suc i → zero_first (drop i s) ≡ false
  unfolding zero_first
  zero_one h e = rw (drop-cons s i 0 h, drop_of_length-le s {i = suc i} e)

  pub zero_more : suc i < length s → zero_first (drop i s) ≡ eqb (get_or s i 0) (ch "0")
  unfolding zero_first
  zero_more h = rw (drop-cons s i 0 (omega arith), drop-cons s (suc i) 0 h)

  pub from_end : (n : ℕ) → length s ≤ i → digits_from n (drop i s) ≡ some n
  unfolding digits_from all_digits decimal_from
  from_end n h = rw (drop_of_length-le s {i = i} h)

  module _ (n : ℕ) (h : i < length s) where
    pub from_other : is_ascii_digit (get_or s i 0) ≡ false → digits_from n (drop i s) ≡ none
    unfolding digits_from all_digits is_digit within
    from_other e = rw (drop-cons s i 0 h, e)

    pub from_on : is_ascii_digit (get_or s i 0) ≡ true → digits_from n (drop i s) ≡ digits_from (n * 10 + (get_or s i 0 - ch "0")) (drop (i + 1) s)
    unfolding digits_from all_digits is_digit within decimal_from
    from_on e = rw (add-one, drop-cons s i 0 h, e)

-- ---- the sign

-- a magnitude, and none, with a sign
module _ (neg : Bool) (limit : ℕ) where
  pub none_signed : (o : Option ℕ) → none ≡ at_most limit o → none ≡ bounded neg limit o
  unfolding at_most bounded
  none_signed none e = refl
  none_signed (some n) e = go (leb n limit) e
    where
      go : (x : Bool) → none ≡ (if x then some n else none) → none ≡ (if x then some (signed neg n) else none)
      go true e = cc
      go false e = refl

  pub some_signed : (o : Option ℕ) {m : ℕ} → some m ≡ at_most limit o → some (signed neg m) ≡ bounded neg limit o
  unfolding at_most bounded
  some_signed none e = cc
  some_signed (some n) {m} e = go (leb n limit) e
    where
      go : (x : Bool) → some m ≡ (if x then some n else none) → some (signed neg m) ≡ (if x then some (signed neg n) else none)
      go true e = cc
      go false e = cc

negative-bounded : (o : Option ℕ) → negative o ≡ bounded true (2 ^ 63) o
unfolding negative bounded signed
negative-bounded none = refl
negative-bounded (some n) = refl

positive-bounded : (o : Option ℕ) → positive o ≡ bounded false 9223372036854775807 o
unfolding positive bounded signed
positive-bounded none = refl
positive-bounded (some n) = go (ltb n (2 ^ 63)) refl
  where
    go : (x : Bool) → ltb n (2 ^ 63) ≡ x → positive (some n) ≡ bounded false 9223372036854775807 (some n)
    go true e = rw (e, le-leb n 9223372036854775807 (omega (arith, ltb-true n (2 ^ 63) e)))
    go false e = rw (e, lt-leb n 9223372036854775807 (omega (arith, ltb-false n (2 ^ 63) e)))

pub int-minus : (s : List ℕ) → (length s ≡ 0 → ⊥) → get_or s 0 0 ≡ ch "-" → integer s ≡ bounded true 9223372036854775808 (digits (drop 1 s))
unfolding integer
int-minus [] z e = absurd (z refl)
int-minus (b ∷ s) z e = rw (eq-eqb b (ch "-") e) (negative-bounded (digits s))

pub int-bare : (s : List ℕ) → (length s ≡ 0 → ⊥) → (get_or s 0 0 ≡ ch "-" → ⊥) → integer s ≡ bounded false 9223372036854775807 (digits (drop 0 s))
unfolding integer
int-bare [] z n = absurd (z refl)
int-bare (b ∷ s) z n = rw (ne_eqb b (ch "-") n) (positive-bounded (digits (b ∷ s)))

pub int-other : (s : List ℕ) → (get_or s 0 0 ≡ ch "-" → ⊥) → integer s ≡ bounded false 9223372036854775807 (digits s)
unfolding integer bounded
int-other [] n = rw (digits-none [] refl)
int-other (b ∷ s) n = int-bare (b ∷ s) (λ e. omega arith) n

pub int-empty : (s : List ℕ) → length s < 1 → integer s ≡ bounded false 9223372036854775807 (digits s)
unfolding integer bounded
int-empty [] n = rw (digits-none [] refl)
int-empty (b ∷ s) n = absurd (omega arith)

-- ---- digits that are written

-- one place more changes nothing
decimal-place : (k n : ℕ) → n < 10 ^ suc k → decimal_of (suc k) n ≡ decimal_of (suc (suc k)) n
unfolding decimal_of
decimal-place zero n h = rw (lt-ltb n 10 h)
decimal-place (suc k) n h = go (ltb n 10) refl (λ m. decimal-place k (n / 10) (omega (arith, pow-suc 10 (suc k))))
  where
    go : (x : Bool) → ltb n 10 ≡ x → (10 ≤ n → decimal_of (suc k) (n / 10) ≡ decimal_of (suc (suc k)) (n / 10)) → decimal_of (suc (suc k)) n ≡ decimal_of (suc (suc (suc k))) n
    go true e g = rw e
    go false e g = rw (e, g (ltb-false n 10 e))

pub decimal-one : (n : ℕ) → n < 10 → decimal_of 20 n ≡ (48 + n) ∷ []
unfolding decimal_of
decimal-one n h = rw (lt-ltb n 10 h)

pub decimal-more : (n : ℕ) → 10 ≤ n → n < 2 ^ 64 → decimal_of 20 n ≡ decimal_of 20 (n / 10) ++ ((48 + n % 10) ∷ [])
unfolding decimal_of
decimal-more n h k = rw (le-ltb n 10 h) (ap (λ (l : List ℕ). l ++ ((48 + n % 10) ∷ [])) (decimal-place 18 (n / 10) (omega arith)))

-- so many of a number's digits, the last of all
unfoldable pub last_digits : ℕ → ℕ → List ℕ
last_digits zero n = []
last_digits (suc k) n = last_digits k (n / 10) ++ ((48 + n % 10) ∷ [])

last-length : (k n : ℕ) → length (last_digits k n) ≡ k
unfolding last_digits
last-length zero n = refl
last-length (suc k) n = simp length-append (omega (arith, last-length k (n / 10)))

-- as many as there are, all of them
last-all : (places n : ℕ) → last_digits (length (decimal_of places n)) n ≡ decimal_of places n
unfolding last_digits decimal_of
last-all zero n = refl
last-all (suc places) n =
    let before : List ℕ = decimal_of places (n / 10) in
    let more : length (before ++ ((48 + n % 10) ∷ [])) ≡ suc (length before) = simp length-append (omega arith) in
    cond_both (ltb n 10) _ _ (λ (l : List ℕ). last_digits (length l) n ≡ l)
    (λ e. let one : n % 10 ≡ n = omega (arith, ltb-true n 10 e) in rw one)
    (λ _. rw (more, last-all places (n / 10)))

decimal-short : (k n : ℕ) → length (decimal_of k n) ≤ k
unfolding decimal_of
decimal-short zero n = omega arith
decimal-short (suc k) n = go (ltb n 10) (decimal-short k (n / 10))
  where
    go : (x : Bool) → length (decimal_of k (n / 10)) ≤ k → length (if x then (48 + n) ∷ [] else decimal_of k (n / 10) ++ ((48 + n % 10) ∷ [])) ≤ suc k
    go true h = omega arith
    go false h = simp length-append (omega arith)

pub decimal-twenty : (n : ℕ) → length (decimal_of 20 n) ≤ 20
decimal-twenty n = decimal-short 20 n

length-one : (n : ℕ) → n < 10 → length (decimal_of 20 n) ≡ 1
length-one n h = rw (decimal-one n h)

-- a number between two powers of ten has a digit more than the lower one has zeros
decimal_length : (k places n : ℕ) → k < places → 10 ^ k ≤ n → n < 10 * 10 ^ k → length (decimal_of places n) ≡ suc k
unfolding decimal_of
decimal_length k zero n p h m = absurd (omega arith)
decimal_length zero (suc places) n p h m = rw (lt-ltb n 10 (omega arith))
decimal_length (suc k) (suc places) n p h m =
    rw (le-ltb n 10 (omega (arith, pow-suc 10 k, one-le-pow k 10 (omega arith)))) (simp length-append (omega (arith, decimal_length k places (n / 10) (omega arith) (omega (arith, pow-suc 10 k)) (omega (arith, pow-suc 10 k)))))

-- 0 has a digit too, as 1 has
pub decimal_count : (k n m : ℕ) → (n ≡ 0 → m ≡ 1) → (0 < n → m ≡ n) → k < 20 → 10 ^ k ≤ m → m < 10 * 10 ^ k → k + 1 ≡ length (decimal_of 20 n)
decimal_count zero zero m z e p h l = omega (arith, length-one 0 (omega arith))
decimal_count (suc k) zero m z e p h l = absurd (omega (arith, z refl, pow-suc 10 k, one-le-pow k 10 (omega arith)))
decimal_count k (suc n) m z e p h l =
    let f : m ≡ suc n = e (omega arith) in
    omega (arith, decimal_length k 20 (suc n) p (omega arith) (omega arith))

-- before the first is stored, none are
pub digits_ahead : (out : List ℕ) (at end n : ℕ) → end ≡ at + length (decimal_of 20 n) → sets out at (last_digits (end - at) n) ≡ sets out at (decimal_of 20 n)
digits_ahead out at end n e = let many : end - at ≡ length (decimal_of 20 n) = omega arith in rw (many, last-all 20 n)

-- the last digit is stored first
pub digit_back : (out : List ℕ) (at i n : ℕ) {all : List ℕ} → at < i → sets out at (last_digits (i - at) n) ≡ all
    → sets (set out (i - 1) (48 + n % 10)) at (last_digits (i - 1 - at) (n / 10)) ≡ all
unfolding last_digits
digit_back out at i n h e =
    let before : List ℕ = last_digits (i - 1 - at) (n / 10) in
    let place : i - 1 ≡ at + length before = omega (arith, last-length (i - 1 - at) (n / 10)) in
    let more : i - at ≡ suc (i - 1 - at) = omega arith in
    ap (λ (j : ℕ). sets (set out j (48 + n % 10)) at before) place ∙ sets-before before ((48 + n % 10) ∷ []) out at ∙ rw more at e

-- once the first is stored, all are
pub digits_stored : (out : List ℕ) (at i n : ℕ) {all : List ℕ} → i ≤ at → sets out at (last_digits (i - at) n) ≡ all → out ≡ all
unfolding last_digits
digits_stored out at i n h e = let none : i - at ≡ 0 = omega arith in rw none at e

pub text-minus : (n : ℕ) → int_text (signed true n) ≡ minused (not (eqb n 0)) (decimal_of 20 n)
unfolding int_text signed
text-minus zero = refl
text-minus (suc n) = rw (ne_eqb (suc n) 0 (λ e. omega arith))

pub text-bare : (n : ℕ) → int_text (signed false n) ≡ decimal_of 20 n
unfolding int_text signed
text-bare n = refl

pub ruleset zeros = (zero_short, zero_is, zero_other)
