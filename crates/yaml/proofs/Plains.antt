-- Plain texts by a test that computes, and one name for all definitions that a derivation of a given text unfolds. Assumes nothing.
use Rattle.std.specs.Prelude.{if◌then◌else◌}
use Rattle.std.proofs.Common.{◌≡◌, refl, sym, subst, ℕ, List, [], ◌∷◌, Bool, true, false, ◌&&◌, ◌||◌, not, T, eqb, eqb-true}
use Rattle.std.proofs.Math.Facts.{and_yes}
use Rattle.refusal.specs.Base.{ch, empty}
use Rattle.refusal.proofs.Open.{Base-open}
use Rattle.yaml.specs.Scalars.{Context, plain_first, plain_char, PlainRest, p_end, p_char, p_space, p_tab, Plain, plain}
use Rattle.yaml.proofs.Open.{Scalars-open as Texts-open, Characters-open, Represent-open, Core-open, Flow-open, Rows-open, Block-open, Kept-open}
use Rattle.utf8.proofs.Open.{Utf8-open, Points-open, White-open}
use Rattle.item.proofs.Open.{Tree-open}
use Rattle.number.proofs.Open.{Integers-open}
use Rattle.scalar.proofs.Open.{Scalars-open, Key-open}
use Rattle.lines.proofs.Open.{Lines-open}

unfoldable pub plain_rest : Context → ℕ → List ℕ → Bool
plain_rest c a [] = true
plain_rest c a (b ∷ t) =
    if eqb b (ch " ") || eqb b (ch "\t") then not (empty t) && plain_rest c b t
    else plain_char c a b t && plain_rest c b t

unfoldable pub is_plain : Context → List ℕ → Bool
is_plain c [] = false
is_plain c (b ∷ t) = plain_first c b t && plain_rest c b t

module _ (c : Context) where
  behind-space : (a b : ℕ) (t : List ℕ) → b ≡ ch " " → T (not (empty t)) → PlainRest c b t → PlainRest c a (b ∷ t)
  unfolding empty
  behind-space a b [] e h p = absurd h
  behind-space a b (x ∷ t) e h p = subst (λ (y : ℕ). PlainRest c a (y ∷ x ∷ t)) (sym e) (p_space (subst (λ (y : ℕ). PlainRest c y (x ∷ t)) e p))

  behind-tab : (a b : ℕ) (t : List ℕ) → b ≡ ch "\t" → T (not (empty t)) → PlainRest c b t → PlainRest c a (b ∷ t)
  unfolding empty
  behind-tab a b [] e h p = absurd h
  behind-tab a b (x ∷ t) e h p = subst (λ (y : ℕ). PlainRest c a (y ∷ x ∷ t)) (sym e) (p_tab (subst (λ (y : ℕ). PlainRest c y (x ∷ t)) e p))

  rest-is : (a : ℕ) (t : List ℕ) → T (plain_rest c a t) → PlainRest c a t
  unfolding plain_rest
  rest-is a [] h = p_end
  rest-is a (b ∷ t) h = go (eqb b (ch " ")) (eqb b (ch "\t")) refl refl h (λ k. rest-is b t k)
    where
      go : (x y : Bool) → eqb b (ch " ") ≡ x → eqb b (ch "\t") ≡ y
          → T (if x || y then not (empty t) && plain_rest c b t else plain_char c a b t && plain_rest c b t)
          → (T (plain_rest c b t) → PlainRest c b t) → PlainRest c a (b ∷ t)
      go true y e f h ih = let k = and_yes (not (empty t)) (plain_rest c b t) h in behind-space a b t (eqb-true b _ e) k.0 (ih k.1)
      go false true e f h ih = let k = and_yes (not (empty t)) (plain_rest c b t) h in behind-tab a b t (eqb-true b _ f) k.0 (ih k.1)
      go false false e f h ih = let k = and_yes (plain_char c a b t) (plain_rest c b t) h in p_char k.0 (ih k.1)

  pub is_plain_lem : (t : List ℕ) → T (is_plain c t) → Plain c t
  unfolding is_plain
  is_plain_lem [] h = absurd h
  is_plain_lem (b ∷ t) h = let k = and_yes (plain_first c b t) (plain_rest c b t) h in plain k.0 (rest-is b t k.1)

unfoldable pub All-open : Unit {0}
unfolding Base-open Utf8-open Points-open White-open Tree-open Integers-open Scalars-open Key-open Lines-open Characters-open Represent-open Core-open Texts-open Flow-open Rows-open Block-open Kept-open plain_rest is_plain
All-open = tt
