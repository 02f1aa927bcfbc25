-- P4 of document 02: which plain scalars are strings; and that the key text of a plain scalar, null, booleans
-- and `-0` aside, is what was written. Assumes nothing.
use Rattle.std.specs.Prelude.{if◌then◌else◌}
use Rattle.std.proofs.Common.{◌≡◌, refl, sym, ap, ◌∙◌, ℕ, ◌+◌, ◌*◌, ◌-◌, ◌/◌, ◌%◌, ◌^◌, ◌≤◌, ◌<◌, arith, List, [], ◌∷◌, ◌++◌, append-nil, Bool, true, false, ◌&&◌, not, true≢false, leb, eqb, ℤ, leb-true, eqb-true}
use Rattle.std.proofs.Math.Option.{Option, none, some, none-ne-some}
use Rattle.std.proofs.Math.Seq.{append_snoc}
use Rattle.std.proofs.lemmas.Bool.{eqb-false, and_parts}
use Rattle.refusal.specs.Base.{ch, bytes, same, one_of, empty}
use Rattle.refusal.proofs.Open.{Base-open}
use Rattle.refusal.proofs.Tools.{chosen}
use Rattle.utf8.specs.Utf8.{◌‥◌, within}
use Rattle.utf8.proofs.Ranges.{in-range}
use Rattle.item.specs.Tree.{str}
use Rattle.item.specs.Encode.{signed}
use Rattle.number.specs.Integers.{is_digit, all_digits, decimal_from, zero_first, digits, positive, negative, integer, decimal_of, int_text}
use Rattle.number.specs.Code.{bounded, minused}
use Rattle.number.proofs.Laws.{decimal-le, digits-zero, int-minus, int-bare, decimal-one, decimal-more, text-minus, text-bare}
use Rattle.scalar.specs.Scalars.{nulls, trues, falses, int_or, scalar_of, key_text}

-- ---- strings

pub plus-text : (t : List ℕ) → scalar_of (ch "+" ∷ t) ≡ str (ch "+" ∷ t)
unfolding scalar_of Base-open integer digits all_digits is_digit within positive int_or
plus-text t = refl

pub zero-text : (b : ℕ) (t : List ℕ) → scalar_of (ch "0" ∷ b ∷ t) ≡ str (ch "0" ∷ b ∷ t)
unfolding scalar_of Base-open integer positive int_or
zero-text b t = rw (digits-zero (ch "0" ∷ b ∷ t) (unfold zero_first in refl))

pub minus-zero-text : (b : ℕ) (t : List ℕ) → scalar_of (ch "-" ∷ ch "0" ∷ b ∷ t) ≡ str (ch "-" ∷ ch "0" ∷ b ∷ t)
unfolding scalar_of Base-open integer negative int_or
minus-zero-text b t = rw (digits-zero (ch "0" ∷ b ∷ t) (unfold zero_first in refl))

-- ---- integers are written as they were read

-- digits with a number before them, which is no zero
decimal-on : (n : ℕ) (s : List ℕ) → 0 < n → all_digits s ≡ true → decimal_from n s < 2 ^ 64 → decimal_of 20 (decimal_from n s) ≡ decimal_of 20 n ++ s
unfolding decimal_from all_digits is_digit
decimal-on n [] h d f = sym (append-nil (decimal_of 20 n))
decimal-on n (b ∷ s) h d f =
    let k = and_parts (is_digit b) (all_digits s) d in
    let r = in-range (ch "0" ‥ ch "9") b k.0 in
    let m = n * 10 + (b - 48) in
    let l : m < 2 ^ 64 = omega (arith, decimal-le m s) in
    let q : m / 10 ≡ n = omega arith in
    let p : 48 + m % 10 ≡ b = omega arith in
    decimal-on m s (omega arith) k.1 f ∙ rw (decimal-more m (omega arith) l, q, p) (append_snoc (decimal_of 20 n) b s)

decimal-back : (s : List ℕ) → not (empty s) && all_digits s ≡ true → zero_first s ≡ false → decimal_from 0 s < 2 ^ 64 → decimal_of 20 (decimal_from 0 s) ≡ s
unfolding empty all_digits is_digit zero_first decimal_from
decimal-back [] d z f = absurd (true≢false (sym d))
decimal-back (b ∷ []) d z f =
    let r = in-range (ch "0" ‥ ch "9") b (and_parts (is_digit b) true d).0 in
    let n = 0 * 10 + (b - 48) in
    let p : 48 + n ≡ b = omega arith in
    decimal-one n (omega arith) ∙ rw p
decimal-back (b ∷ c ∷ s) d z f =
    let k = and_parts (is_digit b) (is_digit c && all_digits s) d in
    let r = in-range (ch "0" ‥ ch "9") b k.0 in
    let o = eqb-false b 48 z in
    let n = 0 * 10 + (b - 48) in
    let p : 48 + n ≡ b = omega arith in
    decimal-on n (c ∷ s) (omega arith) k.1 f ∙ rw (decimal-one n (omega arith), p)

digits-back : (s : List ℕ) (n : ℕ) → digits s ≡ some n → n < 2 ^ 64 → decimal_of 20 n ≡ s
unfolding digits
digits-back s n e h = go (not (empty s) && all_digits s) (zero_first s) refl refl e
  where
    go : (d z : Bool) → not (empty s) && all_digits s ≡ d → zero_first s ≡ z → (if d && not z then some (decimal_from 0 s) else none) ≡ some n → decimal_of 20 n ≡ s
    go true false d z e = let p : decimal_from 0 s ≡ n = cc in rw (sym p) (decimal-back s d z (omega arith))
    go true true d z e = absurd (none-ne-some n e)
    go false z d k e = absurd (none-ne-some n e)

-- an integer of 64 bits is one of at most so much
within-bound : (neg : Bool) (limit : ℕ) (o : Option ℕ) (z : ℤ) → bounded neg limit o ≡ some z → (n : ℕ) × (o ≡ some n) × (n ≤ limit) × (z ≡ signed neg n)
unfolding bounded
within-bound neg limit none z e = absurd (none-ne-some z e)
within-bound neg limit (some n) z e = chosen (leb n limit) _ _ e (λ h p. (n, refl, leb-true n limit h, (cc))) (λ _ p. absurd (none-ne-some z p))

int-back : (t : List ℕ) (z : ℤ) → integer t ≡ some z → same t (bytes "-0") ≡ false → int_text z ≡ t
unfolding same bytes decimal_of
int-back [] z e m = absurd (none-ne-some z (unfold integer in e))
int-back (b ∷ s) z e m = go (eqb b (ch "-")) refl
  where
    signs : (n : ℕ) (x : Bool) → eqb n 0 ≡ x → decimal_of 20 n ≡ s → b ≡ ch "-" → minused (not x) (decimal_of 20 n) ≡ b ∷ s
    signs n true h p q = absurd (true≢false (rw (q, sym p, eqb-true n 0 h) at m))
    signs n false h p q = rw (p, q)

    go : (x : Bool) → eqb b (ch "-") ≡ x → int_text z ≡ b ∷ s
    go true h =
        let q = eqb-true b (ch "-") h in
        let k = within-bound true 9223372036854775808 (digits s) z (sym (int-minus (b ∷ s) (λ w. omega arith) q) ∙ e) in
        ap int_text k.3 ∙ text-minus k.0 ∙ signs k.0 (eqb k.0 0) refl (digits-back s k.0 k.1 (omega (arith, k.2))) q
    go false h =
        let k = within-bound false 9223372036854775807 (digits (b ∷ s)) z (sym (int-bare (b ∷ s) (λ w. omega arith) (eqb-false b (ch "-") h)) ∙ e) in
        ap int_text k.3 ∙ text-bare k.0 ∙ digits-back (b ∷ s) k.0 k.1 (omega (arith, k.2))

-- so of plain scalars, null, booleans and `-0` aside, two are one key exactly if they are written alike
pub as_written : (t : List ℕ) → one_of t nulls ≡ false → one_of t trues ≡ false → one_of t falses ≡ false → same t (bytes "-0") ≡ false → key_text (scalar_of t) ≡ some t
unfolding scalar_of int_or key_text
as_written t n y f m = rw (n, y, f) (go (integer t) refl)
  where
    go : (o : Option ℤ) → integer t ≡ o → key_text (int_or t o) ≡ some t
    go none e = refl
    go (some z) e = ap some (int-back t z e m)
