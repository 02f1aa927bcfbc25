-- Items one behind another: at their end, at what is none, behind the first, and what a list of them tells. Assumes nothing.
use Rattle.std.proofs.Common.{◌≡◌, refl, sym, ap, ◌∙◌, ℕ, zero, suc, ◌+◌, ◌≤◌, ◌<◌, arith, List, [], ◌∷◌, Bool, true, false, eqb, length, Option, None, Some, Result, Ok, Err, slice_get, eq-eqb, ne_eqb, eqb-true}
use Rattle.std.proofs.lemmas.Bool.{eqb-false, false≢true}
use Rattle.std.specs.Prelude.{if◌then◌else◌, is_some}
use Rattle.std.specs.Option.{option_and_then}
use Rattle.std.specs.Bool.{then_some}
use Rattle.std.specs.Result.{result_ok}
use Rattle.item.specs.Places.{header_at}
use Rattle.item.specs.declared.Item.{Item}
use Rattle.item.specs.declared.Broken.{Broken}
use Rattle.item.proofs.HeaderPlaces.{at_cut}
use Rattle.item.proofs.Headers.{spans}
use Rattle.entries.specs.Entries.{span_at, behind, nth_item}
use Rattle.panel.specs.Panel.{◌>>=◌, items_by, items_from}

pub never : {A X : Type 0} {a : A} → None ≡ Some a → X
never e = absurd (let z : ◌≡◌ {A = ℕ} 0 1 = cc in omega arith)

-- a test that chooses
pub if-then : {A : Type 0} (b : Bool) (a : A) → then_some b a ≡ (if b then Some a else None)
if-then true a = refl
if-then false a = refl

module _ (s : List ℕ) where
  -- at the end, at what is no item, or at one
  turn : (at : ℕ) {X : Type 0} → (at ≡ length s → X) → ((at ≡ length s → ⊥) → (broken : Broken) → header_at s at ≡ Err broken → X)
      → ((item : Item) → header_at s at ≡ Ok item → at < item.to → item.to ≤ length s → X) → X
  turn at {X} ends stops goes = choose (eqb at (length s)) refl
    where
      headed : (at ≡ length s → ⊥) → (r : Result Item Broken) → header_at s at ≡ r → X
      headed other (Err broken) e = stops other broken e
      headed other (Ok item) e = let i = spans s at (sym e) in goes item e (omega (arith, i.start, i.order)) i.fits

      choose : (b : Bool) → eqb at (length s) ≡ b → X
      choose true e = ends (eqb-true at (length s) e)
      choose false e = headed (eqb-false at (length s) e) (header_at s at) refl

  by-end : (turns at : ℕ) → at ≡ length s → items_by turns s at ≡ Some []
  unfolding items_by
  by-end zero at e = rw (eq-eqb at (length s) e) refl
  by-end (suc turns) at e = rw (eq-eqb at (length s) e) refl

  by-stop : (turns at : ℕ) → (at ≡ length s → ⊥) → {broken : Broken} → header_at s at ≡ Err broken → items_by turns s at ≡ None
  unfolding items_by
  by-stop zero at other e = rw (ne_eqb at (length s) other) refl
  by-stop (suc turns) at other e = rw (ne_eqb at (length s) other, e) refl

  by-on : (turns at : ℕ) → at < length s → {item : Item} → header_at s at ≡ Ok item → items_by (suc turns) s at ≡ (items_by turns s item.to >>= λ more. Some (item ∷ more))
  unfolding items_by
  by-on turns at h e = rw (ne_eqb at (length s) (λ p. omega arith), e) refl

  -- more turns than are needed tell no more
  by-enough : (t u at : ℕ) → length s ≤ at + t → length s ≤ at + u → items_by t s at ≡ items_by u s at
  by-enough zero u at h k =
      turn at (λ e. by-end zero at e ∙ sym (by-end u at e)) (λ other _ e. by-stop zero at other e ∙ sym (by-stop u at other e)) (λ item _ on fits. absurd (omega arith))
  by-enough (suc t) zero at h k =
      turn at (λ e. by-end (suc t) at e ∙ sym (by-end zero at e)) (λ other _ e. by-stop (suc t) at other e ∙ sym (by-stop zero at other e)) (λ item _ on fits. absurd (omega arith))
  by-enough (suc t) (suc u) at h k =
      turn at (λ e. by-end (suc t) at e ∙ sym (by-end (suc u) at e)) (λ other _ e. by-stop (suc t) at other e ∙ sym (by-stop (suc u) at other e))
      (λ item e on fits. by-on t at (omega arith) e ∙ ap (λ (o : Option (List Item)). o >>= λ more. Some (item ∷ more)) (by-enough t u item.to (omega arith) (omega arith)) ∙ sym (by-on u at (omega arith) e))

  -- ---- the items from a place on

  pub items-end : (at : ℕ) → at ≡ length s → items_from s at ≡ Some []
  unfolding items_from
  items-end at e = by-end (length s) at e

  pub items-stop : (at : ℕ) → at < length s → {broken : Broken} → header_at s at ≡ Err broken → items_from s at ≡ None
  unfolding items_from
  items-stop at h e = by-stop (length s) at (λ p. omega arith) e

  pub items-on : (at : ℕ) {item : Item} → header_at s at ≡ Ok item → items_from s at ≡ (items_from s item.to >>= λ more. Some (item ∷ more))
  unfolding items_from
  items-on at {item} e =
      let i = spans s at (sym e) in
      by-enough (length s) (suc (length s)) at (omega arith) (omega arith) ∙ by-on (length s) at (omega (arith, i.start, i.order, i.fits)) e

  -- ---- what a list of them tells

  pub items-nil : (at : ℕ) → items_from s at ≡ Some [] → at ≡ length s
  unfolding items_from
  items-nil at e = turn at (λ p. p) (λ other _ q. never (sym (by-stop (length s) at other q) ∙ e)) (λ item q _ _. go item (items_from s item.to) (sym (items-on at q) ∙ e))
    where
      go : (item : Item) (o : Option (List Item)) {X : Type 0} → (o >>= λ more. Some (item ∷ more)) ≡ Some [] → X
      go item None e = never e
      go item (Some more) e = absurd (let z : ◌≡◌ {A = ℕ} 0 1 = cc in omega arith)

  pub record First (at : ℕ) (item : Item) (more : List Item) : Type 0 where
    pub is : header_at s at ≡ Ok item
    pub behind : items_from s item.to ≡ Some more

  pub items-first : (at : ℕ) (item : Item) (more : List Item) → items_from s at ≡ Some (item ∷ more) → First at item more
  unfolding items_from
  items-first at item more e =
      turn at (λ p. let q : Some [] ≡ Some (item ∷ more) = sym (items-end at p) ∙ e in absurd (let z : ◌≡◌ {A = ℕ} 0 1 = cc in omega arith)) (λ other _ q. never (sym (by-stop (length s) at other q) ∙ e))
      (λ first q _ _. go first q (items_from s first.to) refl (sym (items-on at q) ∙ e))
    where
      go : (first : Item) → header_at s at ≡ Ok first → (o : Option (List Item)) → items_from s first.to ≡ o → (o >>= λ rest. Some (first ∷ rest)) ≡ Some (item ∷ more) → First at item more
      go first q None p e = never e
      go first q (Some rest) p e =
          let same : first ≡ item = cc in
          let left : rest ≡ more = cc in
          record { is = q ∙ ap Ok same; behind = ap (λ (x : Item). items_from s x.to) (sym same) ∙ p ∙ ap Some left }

  -- ---- the item that so many stand before

  nth-none : (at before : ℕ) → at ≡ length s → nth_item s at before ≡ None
  unfolding nth_item span_at behind
  nth-none at zero p = rw (at_cut s at (omega (arith, p))) refl
  nth-none at (suc before) p = rw (at_cut s at (omega (arith, p))) refl

  pub items-nth : (items : List Item) (at before : ℕ) → items_from s at ≡ Some items → option_and_then (λ span. result_ok (header_at s span.start)) (nth_item s at before) ≡ slice_get items before
  unfolding nth_item span_at behind
  items-nth [] at before e = rw (nth-none at before (items-nil at e)) refl
  items-nth (item ∷ more) at zero e = let f = items-first at item more e in rw (f.is, f.is) refl
  items-nth (item ∷ more) at (suc before) e = let f = items-first at item more e in rw f.is (items-nth more item.to before f.behind)

-- ---- whether items fill a part

filled : {A : Type 0} (a : A) (o : Option (List A)) → is_some (o >>= λ more. Some (a ∷ more)) ≡ is_some o
filled a None = refl
filled a (Some more) = refl

module _ (s : List ℕ) where
  pub fill-end : (at : ℕ) → at ≡ length s → is_some (items_from s at) ≡ true
  fill-end at e = ap is_some (items-end s at e)

  pub fill-stop : (at : ℕ) → at < length s → {broken : Broken} → Err broken ≡ header_at s at → is_some (items_from s at) ≡ false
  fill-stop at h e = ap is_some (items-stop s at h (sym e))

  pub fill-on : (at : ℕ) {item : Item} → Ok item ≡ header_at s at → is_some (items_from s at) ≡ is_some (items_from s item.to)
  fill-on at {item} e = ap is_some (items-on s at (sym e)) ∙ filled item (items_from s item.to)

pub some-is : {A : Type 0} (o : Option A) → is_some o ≡ true → (a : A) × (o ≡ Some a)
some-is None e = absurd (false≢true e)
some-is (Some a) e = (a, refl)
