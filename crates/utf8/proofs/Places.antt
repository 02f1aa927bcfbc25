-- What a search of places finds, in the words of a test, and what its steps keep and count. Assumes nothing.
use Rattle.std.proofs.Common.{◌≡◌, refl, ◌∙◌, Bool, true, false, ℕ, zero, suc, ◌+◌, ◌-◌, ◌≤◌, ◌<◌, arith, ltb, ltb-true, ltb-false}
use Rattle.utf8.specs.Places.{First}

pub first_as : {Y N Yes No : ℕ → Type 0} {from to m : ℕ} → First Y N from to m → ((k : ℕ) → Y k → Yes k) → ((k : ℕ) → N k → No k) → First Yes No from to m
first_as f y n = record { low = f.low; high = f.high; before = λ k l h. n k (f.before k l h); here = λ h. y _ (f.here h) }

-- what holds where the test passes, and at the end, holds of the place that is found
pub found_or : (B : ℕ → Type 0) {Yes No : ℕ → Type 0} {from to m : ℕ} → First Yes No from to m → ((k : ℕ) → k < to → Yes k → B k) → B to → B m
found_or B {Yes} {No} {from} {to} {m} f passes end = go (ltb m to) refl
  where
    go : (x : Bool) → ltb m to ≡ x → B m
    go true e = let h : m < to = ltb-true m to e in passes m h (f.here h)
    go false e = let z : m ≡ to = omega (arith, ltb-false m to e, f.high) in rw z end

-- what each place keeps is kept up to the one that is found
pub kept_to : {A : Type 0} (g : ℕ → A) {Yes No : ℕ → Type 0} {from to m : ℕ} → First Yes No from to m → ((k : ℕ) → k < to → No k → g k ≡ g (k + 1)) → g from ≡ g m
kept_to g {Yes} {No} {from} {to} {m} f keeps = go (m - from) from (omega (arith, f.low)) (omega arith)
  where
    go : (n i : ℕ) → i + n ≡ m → from ≤ i → g i ≡ g m
    go zero i e l = let z : i ≡ m = omega arith in rw z
    go (suc n) i e l = keeps i (omega (arith, f.high)) (f.before i l (omega arith)) ∙ go n (i + 1) (omega arith) (omega arith)

-- a number that counts the places up to the one that is found
pub counts : (n : ℕ → ℕ) {Yes No : ℕ → Type 0} {from to m : ℕ} → First Yes No from to m
    → ((k : ℕ) → k < to → No k → n k ≡ suc (n (k + 1))) → ((k : ℕ) → k < to → Yes k → n k ≡ 0) → n to ≡ 0 → m ≡ from + n from
counts n {Yes} {No} {from} {to} {m} f fails passes end =
    omega (arith, kept_to (λ k. k + n k) f (λ k h x. omega (arith, fails k h x)), found_or (λ k. n k ≡ 0) f passes end)
