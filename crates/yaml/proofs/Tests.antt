-- Laws of tests, and of bytes that are or are not in a list. Assumes nothing.
use Rattle.std.proofs.Common.{◌≡◌, refl, ap, ◌∙◌, subst, ⊎_elim, ℕ, List, [], ◌∷◌, Bool, true, false, not, T, eqb, eqb→eq, ne_eqb}
use Rattle.std.proofs.Math.Facts.{or_yes}
use Rattle.yaml.specs.Characters.{among}

pub is_true : (b : Bool) → T b → b ≡ true
is_true true h = refl
is_true false h = absurd h

pub is_false : (b : Bool) → T (not b) → b ≡ false
is_false true h = absurd h
is_false false h = refl

-- what holds of each of a list
abbrev pub All : {A : Type 0} → (A → Type 0) → List A → Type 0
All P [] = Unit {0}
All P (x ∷ l) = P x × All P l

-- and of a byte among them
pub by-each : (P : ℕ → Type 0) (l : List ℕ) → All P l → (b : ℕ) → T (among b l) → P b
unfolding among
by-each P [] h b k = absurd k
by-each P (x ∷ l) h b k = ⊎_elim (λ e. rw (eqb→eq b x e) h.0) (λ q. by-each P l h.1 b q) (or_yes (eqb b x) (among b l) k)

-- a byte with a property is none without it
pub differs : (p : ℕ → Bool) (b x : ℕ) → T (p b) → p x ≡ false → eqb b x ≡ false
differs p b x h e = ne_eqb b x (λ q. subst T (ap p q ∙ e) h)

pub not-among : (b x : ℕ) (l : List ℕ) → T (not (among b l)) → T (among x l) → eqb b x ≡ false
not-among b x l h k = differs (λ c. not (among c l)) b x h (ap not (is_true (among x l) k))
