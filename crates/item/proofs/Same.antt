-- Byte strings that are the same, and their ends. Assumes nothing.
use Rattle.std.proofs.Common.{◌≡◌, refl, sym, ap, subst, ℕ, ◌+◌, ◌≤◌, ◌<◌, arith, add-one, List, [], ◌∷◌, Bool, true, false, eqb, length, drop, get_or, drop_of_length-le, drop-cons, eq-eqb, eqb-true}
use Rattle.std.proofs.lemmas.Bool.{false≢true, and_parts}
use Rattle.refusal.specs.Base.{same}

pub same_refl : (a : List ℕ) → same a a ≡ true
unfolding same
same_refl [] = refl
same_refl (x ∷ a) = rw (eq-eqb x x refl, same_refl a)

pub same-eq : (a b : List ℕ) → same a b ≡ true → a ≡ b
unfolding same
same-eq [] [] e = refl
same-eq [] (y ∷ b) e = absurd (false≢true e)
same-eq (x ∷ a) [] e = absurd (false≢true e)
same-eq (x ∷ a) (y ∷ b) e =
    let both = and_parts (eqb x y) (same a b) e in
    rw (eqb-true x y both.0, same-eq a b both.1)

pub same-ne : (a b : List ℕ) → (a ≡ b → ⊥) → same a b ≡ false
same-ne a b n = go (same a b) refl
  where
    go : (t : Bool) → same a b ≡ t → t ≡ false
    go true e = absurd (n (same-eq a b e))
    go false e = refl

pub same_length : (a b : List ℕ) → (length a ≡ length b → ⊥) → same a b ≡ false
same_length a b n = same-ne a b (λ e. n (ap length e))

-- ---- ends that are the same

module _ (a b : List ℕ) (i : ℕ) where
  pub ends-none : length a ≤ i → length b ≤ i → drop i a ≡ drop i b
  ends-none h k = rw (drop_of_length-le a {i = i} h, drop_of_length-le b {i = i} k)

  pub ends_more : i < length a → i < length b → get_or a i 0 ≡ get_or b i 0 → (n : ℕ) → n ≡ i + 1 → drop n a ≡ drop n b → drop i a ≡ drop i b
  ends_more h k e n q r = rw (drop-cons a i 0 h, drop-cons b i 0 k, e, ← add-one, ← q, r)

  pub ends-all : i ≤ 0 → drop i a ≡ drop i b → same a b ≡ true
  ends-all z e = let h : i ≡ 0 = omega arith in subst (λ (n : ℕ). drop n a ≡ drop n b → same a b ≡ true) (sym h) (λ q. rw q (same_refl b)) e

pub ruleset ends = (same-ne, ends_more, ends-all)
