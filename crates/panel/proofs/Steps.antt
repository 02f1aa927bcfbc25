-- Steps one behind another: what is made of each, how many there are, and the one with a number. Assumes nothing.
use Rattle.std.proofs.Common.{◌≡◌, refl, sym, ap, ◌∙◌, subst, ℕ, zero, suc, ◌+◌, ◌<◌, arith, List, [], ◌∷◌, length, take, Option, None, Some, Ok, Err, slice_get}
use Rattle.std.specs.Option.{option_map}
use Rattle.item.specs.Places.{header_at}
use Rattle.item.specs.declared.Item.{Item}
use Rattle.item.specs.declared.Broken.{Broken}
use Rattle.panel.specs.Panel.{◌>>=◌, items_from, items_in, labels_of, each, steps_in, numbered}
use Rattle.panel.specs.Contract.{NthFrom}
use Rattle.panel.specs.declared.Labels.{Labels}
use Rattle.panel.proofs.Items.{never, items-end, items-stop, items-on}

-- ---- what is made of each

-- is made of the one with so many before it
module _ {A B : Type 0} (f : A → Option B) where
  abbrev Nth : List A → List B → Type 0
  Nth l bs = (i : ℕ) → (slice_get l i >>= f) ≡ slice_get bs i

  first-nth : (a : A) (l : List A) {bs : List B} → ((cs : List B) → each f l ≡ Some cs → Nth l cs) → (f a >>= λ b. each f l >>= λ cs. Some (b ∷ cs)) ≡ Some bs → Nth (a ∷ l) bs
  first-nth a l {bs} on = head (f a) refl
    where
      both : (b : B) → f a ≡ Some b → (cs : List B) → each f l ≡ Some cs → Nth (a ∷ l) (b ∷ cs)
      both b p cs q zero = p
      both b p cs q (suc i) = on cs q i

      more : (b : B) → f a ≡ Some b → (o : Option (List B)) → each f l ≡ o → (o >>= λ cs. Some (b ∷ cs)) ≡ Some bs → Nth (a ∷ l) bs
      more b p None q e = never e
      more b p (Some cs) q e = let is : b ∷ cs ≡ bs = cc in subst (Nth (a ∷ l)) is (both b p cs q)

      head : (o : Option B) → f a ≡ o → (o >>= λ b. each f l >>= λ cs. Some (b ∷ cs)) ≡ Some bs → Nth (a ∷ l) bs
      head None p e = never e
      head (Some b) p e = more b p (each f l) refl e

  pub each-nth : (l : List A) {bs : List B} → each f l ≡ Some bs → Nth l bs
  unfolding each
  each-nth [] {bs} e i = let none : [] ≡ bs = cc in rw (← none) refl
  each-nth (a ∷ l) {bs} e i = first-nth a l {bs = bs} (λ cs q. each-nth l {bs = cs} q) e i

-- ---- a step by its number

pub number-zero : (steps : List Labels) (number : ℕ) → number < 1 → None ≡ numbered steps number
unfolding numbered
number-zero steps zero h = refl
number-zero steps (suc n) h = absurd (omega arith)

module _ (s : List ℕ) (list : Item) (steps : List Labels) (e : steps_in s list ≡ Some steps) where
  pub number_at : (before number : ℕ) (o : Option Item) → NthFrom (take list.to s) list.from before o → before + 1 ≡ number → (o >>= labels_of s) ≡ numbered steps number
  unfolding steps_in items_in numbered
  number_at before number o nth n = go (items_from (take list.to s) list.from) refl e
    where
      at : (items : List Item) → items_from (take list.to s) list.from ≡ Some items → each (labels_of s) items ≡ Some steps → (o >>= labels_of s) ≡ numbered steps number
      at items p q =
          let k : number ≡ suc before = omega (arith, n) in
          rw (k, nth items p) (each-nth (labels_of s) items q before)

      go : (r : Option (List Item)) → items_from (take list.to s) list.from ≡ r → (r >>= each (labels_of s)) ≡ Some steps → (o >>= labels_of s) ≡ numbered steps number
      go None p q = never q
      go (Some items) p q = at items p q

-- ---- how many steps an item holds

module _ (s : List ℕ) (list : Item) where
  -- so many were counted, and all hangs on those that are left
  abbrev pub Left : ℕ → ℕ → Type 0
  Left at count = option_map length (steps_in s list) ≡ option_map (λ l. count + length l) (items_from (take list.to s) at >>= each (labels_of s))

  pub steps-start : Left list.from 0
  unfolding steps_in items_in
  steps-start = from_nothing (items_from (take list.to s) list.from >>= each (labels_of s))
    where
      from_nothing : (o : Option (List Labels)) → option_map length o ≡ option_map (λ l. 0 + length l) o
      from_nothing None = refl
      from_nothing (Some l) = ap Some (omega arith)

  pub steps-end : (at count : ℕ) → Left at count → at ≡ length (take list.to s) → Some count ≡ option_map length (steps_in s list)
  unfolding each
  steps-end at count l e =
      let n : count ≡ count + 0 = omega arith in
      sym (l ∙ rw (items-end (take list.to s) at e) (ap Some (sym n)))

  pub steps-stop : (at count : ℕ) → Left at count → at < length (take list.to s) → {broken : Broken} → Err broken ≡ header_at (take list.to s) at → None ≡ option_map length (steps_in s list)
  steps-stop at count l h e = sym (l ∙ rw (items-stop (take list.to s) at h (sym e)) refl)

  module _ (at count : ℕ) (l : Left at count) {item : Item} (e : Ok item ≡ header_at (take list.to s) at) where
    -- with the item at the place first
    first : Option (List Item) → Option ℕ
    first o = option_map (λ l. count + length l) ((o >>= λ more. Some (item ∷ more)) >>= each (labels_of s))

    here : option_map length (steps_in s list) ≡ first (items_from (take list.to s) item.to)
    unfolding first
    here = l ∙ ap (λ (o : Option (List Item)). option_map (λ l. count + length l) (o >>= each (labels_of s))) (items-on (take list.to s) at (sym e))

    pub steps-bad : None ≡ labels_of s item → None ≡ option_map length (steps_in s list)
    unfolding each first
    steps-bad q = sym (here ∙ go (items_from (take list.to s) item.to))
      where
        go : (o : Option (List Item)) → first o ≡ None
        go None = refl
        go (Some more) = rw (← q) refl

    pub steps-on : {labels : Labels} → Some labels ≡ labels_of s item → Left item.to (count + 1)
    unfolding each first
    steps-on {labels} q = here ∙ go (items_from (take list.to s) item.to)
      where
        more_steps : (o : Option (List Labels)) → option_map (λ l. count + length l) (o >>= λ bs. Some (labels ∷ bs)) ≡ option_map (λ l. count + 1 + length l) o
        more_steps None = refl
        more_steps (Some bs) = ap Some (omega arith)

        go : (o : Option (List Item)) → first o ≡ option_map (λ l. count + 1 + length l) (o >>= each (labels_of s))
        go None = refl
        go (Some more) = rw (← q) (more_steps (each (labels_of s) more))

pub uncounted : {A : Type 0} (o : Option (List A)) → None ≡ option_map length o → o ≡ None
uncounted None e = refl
uncounted (Some l) e = never e

pub counted : {A : Type 0} (o : Option (List A)) {n : ℕ} → Some n ≡ option_map length o → (l : List A) × (o ≡ Some l) × (n ≡ length l)
counted None e = never (sym e)
counted (Some l) e = (l, refl, cc)
