-- The item at a place, as `header_at(..).ok()` tells it. Assumes nothing.
use Rattle.std.proofs.Common.{◌≡◌, refl, sym, ◌∙◌, ℕ, arith, List, drop}
use Rattle.std.proofs.Math.Option.{none}
use Rattle.std.specs.Prelude.{Result, Ok, Err, Option, None, Some}
use Rattle.std.specs.Result.{result_ok}
use Rattle.item.specs.Decode.{header}
use Rattle.item.specs.Places.{header_at}
use Rattle.item.specs.declared.Item.{Item}
use Rattle.item.specs.declared.Broken.{Broken}
use Rattle.item.proofs.Headers.{no_header}

module _ {T E : Type 0} where
  pub is-ok : {r : Result T E} {x : T} → Some x ≡ result_ok r → r ≡ Ok x
  is-ok {r} {x} e = go r e
    where
      go : (r : Result T E) → Some x ≡ result_ok r → r ≡ Ok x
      go (Ok other) e = cc
      go (Err broken) e = let z : ◌≡◌ {A = ℕ} 0 1 = cc in absurd (omega arith)

  pub is-err : {r : Result T E} → None ≡ result_ok r → (e : E) × (r ≡ Err e)
  is-err {r} e = go r e
    where
      go : (r : Result T E) → None ≡ result_ok r → (e : E) × (r ≡ Err e)
      go (Ok x) e = let z : ◌≡◌ {A = ℕ} 0 1 = cc in absurd (omega arith)
      go (Err broken) e = (broken, refl)

pub ok_item : {o : Option Item} {r : Result Item Broken} {item : Item} → o ≡ Some item → o ≡ result_ok r → r ≡ Ok item
ok_item a b = is-ok (sym a ∙ b)

module _ (s : List ℕ) (at : ℕ) {o : Option Item} {r : Result Item Broken} where
  pub item_there : {item : Item} → o ≡ Some item → o ≡ result_ok r → r ≡ header_at s at → Ok item ≡ header_at s at
  item_there a b c = sym (ok_item a b) ∙ c

  pub no_item_there : o ≡ None → o ≡ result_ok r → r ≡ header_at s at → header (drop at s) ≡ none
  no_item_there a b c = no_header s at (sym (is-err (sym a ∙ b)).1 ∙ c)
