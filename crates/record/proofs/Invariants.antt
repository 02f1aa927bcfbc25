-- A turn of a loop over things one behind another, and the ends of the chains of fields. Assumes nothing.
use Rattle.std.proofs.Common.{◌≡◌, refl, ap, ◌∙◌, ℕ, zero, suc, ◌+◌, ◌-◌, ◌≤◌, ◌<◌, arith, List, [], ◌∷◌, Bool, true, false, eqb, length, drop, drop_of_length-le, length-drop, eqb-true}
use Rattle.std.proofs.lemmas.Bool.{eqb-false}
use Rattle.std.proofs.Math.Option.{Option, none, some}
use Rattle.refusal.specs.Base.{maybe}
use Rattle.item.specs.Decode.{◌>>=◌, Decoder, nothing}
use Rattle.record.specs.Read.{many, all}
use Rattle.record.specs.Contract.{is_some, counted}

-- where a loop stands: so many things were counted, and all hangs on what is left
pub record Left {A : Type 0} (one : Decoder A) (s : List ℕ) (at count : ℕ) : Type 0 where
  pub turns : ℕ
  pub enough : length s - at ≤ turns
  pub whole : counted 0 (all one s) ≡ counted count (many one turns (drop at s))

step-on : {A : Type 0} (one : Decoder A) (t : ℕ) (bs : List ℕ) → 0 < length bs → many one (suc t) bs ≡ (one bs >>= λ (x : A × List ℕ). many one t x.1 >>= λ l. some (x.0 ∷ l))
unfolding many
step-on one t [] h = absurd (omega arith)
step-on one t (b ∷ bs) h = refl

module _ {A : Type 0} {one : Decoder A} {s : List ℕ} where
  pub left-start : Left one s 0 0
  unfolding all
  left-start = record { turns = length s; enough = omega arith; whole = refl }

  module _ {at count : ℕ} (w : Left one s at count) where
    pub left_end : length s ≤ at → counted 0 (all one s) ≡ some count
    unfolding many counted maybe
    left_end h = w.whole ∙ rw (drop_of_length-le s {i = at} h) (go w.turns)
      where
        go : (t : ℕ) → counted count (many one t []) ≡ some count
        go zero = ap some (omega arith)
        go (suc t) = ap some (omega arith)

    pub left-next : (a : A) (to : ℕ) → at < length s → at < to → one (drop at s) ≡ some (a, drop to s) → Left one s to (count + 1)
    unfolding counted maybe ◌>>=◌
    left-next a to h f e = go w.turns w.enough w.whole
      where
        more : (o : Option (List A)) → counted count (o >>= λ l. some (a ∷ l)) ≡ counted (count + 1) o
        more none = refl
        more (some l) = ap some (omega arith)

        go : (t : ℕ) → length s - at ≤ t → counted 0 (all one s) ≡ counted count (many one t (drop at s)) → Left one s to (count + 1)
        go zero m q = absurd (omega arith)
        go (suc t) m q = record {
          turns = t;
          enough = omega arith;
          whole = q ∙ rw (step-on one t (drop at s) (omega (arith, length-drop at s)), e) (more (many one t (drop to s)));
        }

    pub left-fail : at < length s → one (drop at s) ≡ none → counted 0 (all one s) ≡ none
    unfolding counted maybe ◌>>=◌
    left-fail h e = go w.turns w.enough w.whole
      where
        go : (t : ℕ) → length s - at ≤ t → counted 0 (all one s) ≡ counted count (many one t (drop at s)) → counted 0 (all one s) ≡ none
        go zero m q = absurd (omega arith)
        go (suc t) m q = q ∙ rw (step-on one t (drop at s) (omega (arith, length-drop at s)), e)

pub some-counted : {A : Type 0} (o : Option (List A)) → is_some o ≡ is_some (counted 0 o)
unfolding is_some counted maybe
some-counted none = refl
some-counted (some l) = refl

-- ---- nothing may be left

module _ {A : Type 0} (a : A) (s : List ℕ) (at : ℕ) where
  pub ends : at ≡ length s → nothing a (drop at s) ≡ some a
  unfolding nothing
  ends e = rw (drop_of_length-le s {i = at} (omega arith))

  pub left_over : at ≤ length s → (at ≡ length s → ⊥) → nothing a (drop at s) ≡ none
  left_over h n = go (drop at s) refl
    where
      go : (r : List ℕ) → drop at s ≡ r → nothing a r ≡ none
      go [] e = absurd (n (omega (arith, length-drop at s, ap length e)))
      go (b ∷ r) e = unfold nothing in refl

  pub ended : at ≤ length s → eqb at (length s) ≡ is_some (nothing a (drop at s))
  unfolding is_some maybe
  ended h = go (eqb at (length s)) refl
    where
      go : (t : Bool) → eqb at (length s) ≡ t → t ≡ is_some (nothing a (drop at s))
      go true e = rw (ends (eqb-true at (length s) e))
      go false e = rw (left_over h (eqb-false at (length s) e))
