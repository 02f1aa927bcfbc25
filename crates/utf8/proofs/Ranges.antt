-- Whether a number lies in a range, by its place; and laws of tests. Assumes nothing.
use Rattle.std.proofs.Common.{◌≡◌, refl, Bool, true, false, ◌||◌, ℕ, ◌≤◌, ◌<◌, leb, leb-true, le-leb}
use Rattle.std.proofs.Math.Bool.{and-false}
use Rattle.std.proofs.lemmas.Bool.{lt-leb, and_parts}
use Rattle.utf8.specs.Utf8.{Range, within}

pub if-one : (a b : Bool) {X : Type 0} → a || b ≡ true → (a ≡ true → X) → (b ≡ true → X) → X
if-one true b e f g = f refl
if-one false b e f g = g e

pub in-range : (r : Range) (b : ℕ) → within r b ≡ true → (r.low ≤ b) × (b ≤ r.high)
unfolding within
in-range r b e = let w = and_parts (leb r.low b) (leb b r.high) e in (leb-true r.low b w.0, leb-true b r.high w.1)

pub inside : (r : Range) (b : ℕ) → r.low ≤ b → b ≤ r.high → within r b ≡ true
unfolding within
inside r b h k = rw (le-leb r.low b h, le-leb b r.high k)

pub below : (r : Range) (b : ℕ) → b < r.low → within r b ≡ false
unfolding within
below r b h = rw (lt-leb r.low b h)

pub above : (r : Range) (b : ℕ) → r.high < b → within r b ≡ false
unfolding within
above r b h = rw (lt-leb b r.high h, and-false (leb r.low b))
