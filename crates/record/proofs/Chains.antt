-- Items by their contents, one behind another, and what the last of some fields decides. Assumes nothing.
use Rattle.std.proofs.Common.{◌≡◌, refl, sym, ap, ◌∙◌, ℕ, ◌+◌, ◌-◌, ◌≤◌, ◌<◌, arith, List, true, false, eqb, eqb-true, length, take, drop, le-leb}
use Rattle.std.proofs.lemmas.Bool.{eqb-false, lt-leb}
use Rattle.std.proofs.Math.Option.{Option, none, some}
use Rattle.refusal.specs.Base.{maybe, limit}
use Rattle.item.specs.Tree.{Items}
use Rattle.item.specs.Decode.{◌>>=◌, nothing}
use Rattle.value.specs.Walks.{ReadAt}
use Rattle.meaning.specs.Meaning.{Defaults, Step, Meaning}
use Rattle.record.specs.Read.{field_of, as_text, as_items, content, in_item, all, step_in, defaults_in, rest_in, fields_in, meaning_in}
use Rattle.record.specs.Contract.{ItemAt, is_some, counted, are_texts, steps_in, rest_steps, record_steps, meaning_steps}
use Rattle.record.proofs.Views.{some_is, none_is}
use Rattle.record.proofs.Invariants.{Left, left_end, left-next, left-fail, some-counted, ends, left_over}

-- ---- an item, by its content

module _ {A : Type 0} (k : ℕ) (inner : List ℕ → Option A) (bs : List ℕ) where
  pub no_item : content k bs ≡ none → in_item k inner bs ≡ none
  unfolding in_item ◌>>=◌
  no_item e = rw e

  module _ (c r : List ℕ) (e : content k bs ≡ some (c, r)) where
    pub no-content : inner c ≡ none → in_item k inner bs ≡ none
    unfolding in_item ◌>>=◌
    no-content h = rw (e, h)

    pub in_item_lem : (a : A) → inner c ≡ some a → in_item k inner bs ≡ some (a, r)
    unfolding in_item ◌>>=◌
    in_item_lem a h = rw (e, h)

-- the part of an item that is its content
abbrev pub in_part : List ℕ → ℕ → ℕ → List ℕ
in_part s at to = take (to - (at + 6)) (drop (at + 6) s)

module _ {A : Type 0} {k : ℕ} (inner : List ℕ → Option A) {s : List ℕ} {at to : ℕ} (w : ItemAt k s at to) where
  pub content-read : is_some (inner (in_part s at to)) ≡ true → ReadAt (in_item k inner) s at to
  content-read h =
      let v = some_is (inner (in_part s at to)) h in
      record { value = v.0; is = in_item_lem k inner (drop at s) (in_part s at to) (drop to s) w.is v.0 v.1; forward = w.forward; fits = w.fits }

  pub content-refused : is_some (inner (in_part s at to)) ≡ false → in_item k inner (drop at s) ≡ none
  content-refused h = no-content k inner (drop at s) (in_part s at to) (drop to s) w.is (none_is (inner (in_part s at to)) h)

-- ---- tags and steps, one behind another

module _ {s : List ℕ} {at n : ℕ} (w : Left (field_of as_text 0) s at n) where
  pub texts-end : length s ≤ at → true ≡ are_texts s
  unfolding are_texts is_some maybe
  texts-end h = sym (some-counted (all (field_of as_text 0) s) ∙ rw (left_end w h))

  pub texts-fail : at < length s → field_of as_text 0 (drop at s) ≡ none → false ≡ are_texts s
  unfolding are_texts is_some maybe
  texts-fail h e = sym (some-counted (all (field_of as_text 0) s) ∙ rw (left-fail w h e))

module _ {s : List ℕ} {at n : ℕ} (w : Left (in_item 19 step_in) s at n) where
  pub steps-end : length s ≤ at → some n ≡ steps_in s
  unfolding steps_in
  steps-end h = sym (left_end w h)

  pub steps-fail : at < length s → in_item 19 step_in (drop at s) ≡ none → none ≡ steps_in s
  unfolding steps_in
  steps-fail h e = sym (left-fail w h e)

  pub steps_next : {to : ℕ} → at < length s → ReadAt (in_item 19 step_in) s at to → Left (in_item 19 step_in) s to (n + 1)
  steps_next {to} h r = left-next w r.value to h (omega (arith, r.forward)) r.is

-- ---- the last three fields

abbrev last : Defaults → Items → List Step → Defaults × Items × List Step
last d ys ss = (d, ys, ss)

module _ (s : List ℕ) {at a b c : ℕ} (r₁ : ReadAt (in_item 17 defaults_in) s at a) (r₂ : ReadAt (field_of as_items 31) s a b) (h₃ : ItemAt 18 s b c) where
  -- by what the steps are
  steps-cases : (o : Option (List Step)) → all (in_item 19 step_in) (in_part s b c) ≡ o → rest_in (drop at s) ≡ (o >>= λ ss. nothing (last r₁.value r₂.value ss) (drop c s))
  unfolding rest_in ◌>>=◌
  steps-cases none e = rw (r₁.is, r₂.is, no-content 18 (all (in_item 19 step_in)) (drop b s) (in_part s b c) (drop c s) h₃.is e)
  steps-cases (some ss) e = rw (r₁.is, r₂.is, in_item_lem 18 (all (in_item 19 step_in)) (drop b s) (in_part s b c) (drop c s) h₃.is ss e)

  pub steps-behind : (c ≡ length s → ⊥) → none ≡ rest_steps (drop at s)
  unfolding rest_steps maybe ◌>>=◌
  steps-behind n = sym (rw (steps-cases _ refl) (go (all (in_item 19 step_in) (in_part s b c))))
    where
      go : (o : Option (List Step)) → maybe (o >>= λ ss. nothing (last r₁.value r₂.value ss) (drop c s)) none (λ x. some (length x.2)) ≡ none
      go none = refl
      go (some ss) = rw (left_over (last r₁.value r₂.value ss) s c h₃.fits n)

  pub steps-last : c ≡ length s → steps_in (in_part s b c) ≡ rest_steps (drop at s)
  unfolding rest_steps steps_in counted maybe ◌>>=◌
  steps-last n = sym (rw (steps-cases _ refl) (go (all (in_item 19 step_in) (in_part s b c))))
    where
      go : (o : Option (List Step)) → maybe (o >>= λ ss. nothing (last r₁.value r₂.value ss) (drop c s)) none (λ x. some (length x.2)) ≡ counted 0 o
      go none = refl
      go (some ss) = rw (ends (last r₁.value r₂.value ss) s c n) (ap some (omega arith))

-- ---- the eight fields

module _ (s : List ℕ) {a b c d e : ℕ} (r₁ : ReadAt (field_of as_text 0) s 0 a) (r₂ : ReadAt (field_of as_text 0) s a b) (r₃ : ReadAt (in_item 4 (all (field_of as_text 0))) s b c)
    (r₄ : ReadAt (field_of as_text 0) s c d) (r₅ : ReadAt (field_of some 31) s d e) where
  pub fields-last : rest_steps (drop e s) ≡ meaning_steps s
  unfolding meaning_steps maybe fields_in ◌>>=◌ rest_steps
  fields-last = sym (rw (r₁.is, r₂.is, r₃.is, r₄.is, r₅.is) (go (rest_in (drop e s))))
    where
      go : (o : Option (Defaults × Items × List Step))
          → maybe (o >>= λ x. some (record { name = r₁.value; description = r₂.value; tags = r₃.value; image = r₄.value; setup = r₅.value; defaults = x.0; fail_on = x.1; steps = x.2 })) none (λ (m : Meaning). some (length m.steps))
          ≡ maybe o none (λ x. some (length x.2))
      go none = refl
      go (some x) = refl

-- ---- the one item

module _ (b : List ℕ) where
  pub too_long : limit < length b → none ≡ record_steps b
  unfolding record_steps maybe meaning_in
  too_long h = rw (lt-leb (length b) limit h)

  module _ (h : length b ≤ limit) where
    pub no_record : content 16 b ≡ none → none ≡ record_steps b
    unfolding record_steps maybe meaning_in ◌>>=◌
    no_record e = rw (le-leb (length b) limit h, no_item 16 fields_in b e)

    module _ {e : ℕ} (w : ItemAt 16 b 0 e) where
      -- by what the content is
      content-cases : (o : Option Meaning) → fields_in (in_part b 0 e) ≡ o → meaning_in b ≡ (o >>= λ m. nothing m (drop e b))
      unfolding meaning_in ◌>>=◌
      content-cases none p = rw (le-leb (length b) limit h, no-content 16 fields_in b (in_part b 0 e) (drop e b) w.is p)
      content-cases (some m) p = rw (le-leb (length b) limit h, in_item_lem 16 fields_in b (in_part b 0 e) (drop e b) w.is m p)

      pub record_behind : false ≡ eqb e (length b) → none ≡ record_steps b
      unfolding record_steps maybe ◌>>=◌
      record_behind n = sym (rw (content-cases _ refl) (go (fields_in (in_part b 0 e))))
        where
          go : (o : Option Meaning) → maybe (o >>= λ m. nothing m (drop e b)) none (λ m. some (length m.steps)) ≡ none
          go none = refl
          go (some m) = rw (left_over m b e w.fits (eqb-false e (length b) (sym n)))

      pub record_last : true ≡ eqb e (length b) → {n : Option ℕ} {c : List ℕ} → n ≡ meaning_steps c → c ≡ take (e - 6) (drop 6 b) → n ≡ record_steps b
      unfolding record_steps meaning_steps maybe ◌>>=◌
      record_last n p q = p ∙ ap meaning_steps q ∙ sym (rw (content-cases _ refl) (go (fields_in (in_part b 0 e))))
        where
          go : (o : Option Meaning) → maybe (o >>= λ m. nothing m (drop e b)) none (λ m. some (length m.steps)) ≡ maybe o none (λ m. some (length m.steps))
          go none = refl
          go (some m) = rw (ends m b e (eqb-true e (length b) (sym n)))
