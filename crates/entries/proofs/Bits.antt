-- Bits that were put into words stay there. Assumes nothing.
use Rattle.std.proofs.Common.{◌≡◌, refl, sym, ap, ◌∙◌, subst, nat_eq, slice_set, slice_index_or, ℕ, ◌+◌, ◌*◌, ◌/◌, ◌%◌, ◌≤◌, min, max, arith, List, Bool, true, false, bit_and, bit_or, eqb, length, get_or, set, length-set, get_or-set_same, get_or-set_other, eq-eqb, eqb-true}
use Rattle.std.proofs.lemmas.Bool.{false≢true, eqb-false}
use Rattle.std.proofs.lemmas.Nat.{and_or_self}
use Rattle.std.proofs.Math.Nat.{min-le_left, min-le_right, le-max_left, min-eq_right, max-le}
use Rattle.std.proofs.Math.Arith.{bin_ind}
use lib.Bits.{and_step, or_step, and_zero_r}
use Rattle.entries.specs.Contract.{bits_of, Has, Marked}

pub and_kept : (m x y : ℕ) → bit_and x m ≡ m → bit_and (bit_or x y) m ≡ m
and_kept = bin_ind (λ (n : ℕ). (x y : ℕ) → bit_and x n ≡ n → bit_and (bit_or x y) n ≡ n) (λ x y e. and_zero_r (bit_or x y)) step
  where
    step : (m : ℕ) → ((x y : ℕ) → bit_and x (m / 2) ≡ m / 2 → bit_and (bit_or x y) (m / 2) ≡ m / 2) → (x y : ℕ) → bit_and x m ≡ m → bit_and (bit_or x y) m ≡ m
    step m ih x y e =
        let p : bit_and (x / 2) (m / 2) * 2 + min (x % 2) (m % 2) ≡ m = sym (and_step x m) ∙ e in
        let low : min (x % 2) (m % 2) ≤ m % 2 = min-le_right (x % 2) (m % 2) in
        let half : bit_and (x / 2) (m / 2) ≡ m / 2 = omega (arith, p, low) in
        let bit : min (x % 2) (m % 2) ≡ m % 2 = omega (arith, p, low) in
        let more : max (x % 2) (y % 2) ≤ 1 = max-le {a = x % 2} {b = y % 2} (omega arith) (omega arith) in
        let over : bit_or x y / 2 ≡ bit_or (x / 2) (y / 2) = omega (arith, or_step x y, more) in
        let rest : bit_or x y % 2 ≡ max (x % 2) (y % 2) = omega (arith, or_step x y, more) in
        let u : bit_and (bit_or x y / 2) (m / 2) ≡ m / 2 = ap (λ (z : ℕ). bit_and z (m / 2)) over ∙ ih (x / 2) (y / 2) half in
        let below : m % 2 ≤ max (x % 2) (y % 2) = omega (arith, bit, min-le_left (x % 2) (m % 2), le-max_left (x % 2) (y % 2)) in
        let v : min (bit_or x y % 2) (m % 2) ≡ m % 2 = ap (λ (z : ℕ). min z (m % 2)) rest ∙ min-eq_right below in
        omega (arith, and_step (bit_or x y) m, u, v)

module _ (l : List ℕ) (h : ℕ) (long : length l ≡ 2048) where
  abbrev word : ℕ
  word = get_or l (h % 2048) 0

  abbrev new : List ℕ
  new = set l (h % 2048) (bit_or word (bits_of h))

  put : get_or new (h % 2048) 0 ≡ bit_or word (bits_of h)
  put = get_or-set_same l (h % 2048) (bit_or word (bits_of h)) 0 (omega arith)

  pub marked : Marked l new h (eqb (bit_and word (bits_of h)) (bits_of h))
  unfolding Has
  marked = record {
    size = length-set l (h % 2048) (bit_or word (bits_of h));
    here = ap (λ (w : ℕ). bit_and w (bits_of h)) put ∙ and_or_self (bits_of h) word;
    kept = λ g e. at g e (eqb (g % 2048) (h % 2048)) refl;
    told = λ e n. false≢true (sym n ∙ eq-eqb _ _ e);
  }
    where
      at : (g : ℕ) → bit_and (get_or l (g % 2048) 0) (bits_of g) ≡ bits_of g → (t : Bool) → eqb (g % 2048) (h % 2048) ≡ t → bit_and (get_or new (g % 2048) 0) (bits_of g) ≡ bits_of g
      at g e true q =
          let i : g % 2048 ≡ h % 2048 = eqb-true _ _ q in
          ap (λ (j : ℕ). bit_and (get_or new j 0) (bits_of g)) i ∙ ap (λ (w : ℕ). bit_and w (bits_of g)) put
          ∙ and_kept (bits_of g) word (bits_of h) (ap (λ (j : ℕ). bit_and (get_or l j 0) (bits_of g)) (sym i) ∙ e)
      at g e false q = ap (λ (w : ℕ). bit_and w (bits_of g)) (get_or-set_other l (h % 2048) (g % 2048) (bit_or word (bits_of h)) 0 (eqb-false _ _ q)) ∙ e

-- as code puts them in
pub marked_by : (l : List ℕ) (h bits : ℕ) → length l ≡ 2048 → bits ≡ bits_of h
    → Marked l (slice_set l (h % 2048) (bit_or (slice_index_or l (h % 2048) 0) bits)) h (nat_eq (bit_and (slice_index_or l (h % 2048) 0) bits) bits)
marked_by l h bits long e =
    let word = get_or l (h % 2048) 0 in
    subst (λ (b : ℕ). Marked l (set l (h % 2048) (bit_or word b)) h (eqb (bit_and word b) b)) (sym e) (marked l h long)
