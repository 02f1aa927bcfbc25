-- Names in the bytes of a name list: what a header says of one, the check of the list, and the search. Assumes nothing.
use Rattle.std.proofs.Common.{◌≡◌, refl, sym, ap, ◌∙◌, ℕ, zero, suc, ◌-◌, ◌≤◌, ◌<◌, Bool, true, false, ◌&&◌, ◌||◌, eqb, leb, List, [], ◌∷◌, length, take, drop, Ok, Err, append-nil, arith, drop_of_length-le, leb-true, length-drop, take-append-drop}
use Rattle.std.proofs.lemmas.Bool.{and_parts}
use Rattle.std.proofs.lemmas.List.{take_rest}
use Rattle.std.proofs.Math.Option.{Option, none, some, some-injective}
use Rattle.refusal.specs.Base.{maybe, same, one_of}
use Rattle.refusal.proofs.Tools.{chosen}
use Rattle.item.specs.Encode.{number}
use Rattle.item.specs.Decode.{◌>>=◌, header, nothing}
use Rattle.item.specs.Places.{header_at}
use Rattle.item.specs.declared.Item.{Item}
use Rattle.item.specs.declared.Broken.{Broken}
use Rattle.item.proofs.Headers.{no_header as no-item-there}
use Rattle.item.proofs.Exact.{got, none≢, nothing-inv}
use Rattle.utf8.specs.Utf8.{is_utf8}
use Rattle.value.proofs.Contents.{no_header}
use Rattle.record.specs.Read.{field_of, as_text, content, in_item, many, all}
use Rattle.record.specs.Contract.{is_some, are_texts, ItemAt}
use Rattle.record.proofs.Views.{no_field, text-read, no-text}
use Rattle.record.proofs.Invariants.{ends, left_over}
use Rattle.record.proofs.Chains.{no_item, no-content, in_item_lem}
use Rattle.check_steps.specs.Names.{filled, names_in}

-- ---- one name

module _ (s : List ℕ) (at : ℕ) {item : Item} (h : Ok item ≡ header_at s at) where
  -- what is read there is what the header says
  name-is : (x : List ℕ × List ℕ) → field_of as_text 0 (drop at s) ≡ some x → some x ≡ some (take (item.to - item.from) (drop item.from s), drop item.to s)
  name-is x e = go (eqb item.kind 3 && is_utf8 (take (item.to - item.from) (drop item.from s))) refl
    where
      go : (t : Bool) → eqb item.kind 3 && is_utf8 (take (item.to - item.from) (drop item.from s)) ≡ t → some x ≡ some (take (item.to - item.from) (drop item.from s), drop item.to s)
      go true p = sym e ∙ text-read s at h p
      go false p = none≢ x (sym (no-text s at h p) ∙ e)

-- ---- the check of a list

not_some : {A : Type 0} {o : Option A} → o ≡ none → false ≡ is_some o
unfolding is_some maybe
not_some e = rw e

module _ (b : List ℕ) where
  pub no-list : content 4 b ≡ none → false ≡ is_some (names_in b)
  unfolding names_in ◌>>=◌
  no-list e = not_some (rw (no_item 4 (λ s. filled s) b e))

  module _ {to : ℕ} (w : ItemAt 4 b 0 to) where
    abbrev inner : List ℕ
    inner = take (to - 6) (drop 6 b)

    bad-names : filled inner ≡ none → names_in b ≡ none
    unfolding names_in ◌>>=◌
    bad-names e = rw (no-content 4 (λ s. filled s) b inner (drop to b) w.is e)

    good-names : (ns : List (List ℕ)) → filled inner ≡ some ns → names_in b ≡ nothing ns (drop to b)
    unfolding names_in ◌>>=◌
    good-names ns e = rw (in_item_lem 4 (λ s. filled s) b inner (drop to b) w.is ns e)

    pub list-behind : (to ≡ length b → ⊥) → false ≡ is_some (names_in b)
    list-behind n = not_some (go (filled inner) refl)
      where
        go : (o : Option (List (List ℕ))) → filled inner ≡ o → names_in b ≡ none
        go none e = bad-names e
        go (some ns) e = good-names ns e ∙ left_over ns b to w.fits n

    pub list-is : to ≡ length b → are_texts inner ≡ is_some (names_in b)
    unfolding are_texts is_some maybe
    list-is n = go (filled inner) refl
      where
        go : (o : Option (List (List ℕ))) → filled inner ≡ o → is_some (filled inner) ≡ is_some (names_in b)
        go none e = rw (e, bad-names e)
        go (some ns) e = rw (e, good-names ns e ∙ ends ns b to n)

-- the names of a good list fill it behind its header
pub record Listed (b : List ℕ) (ns : List (List ℕ)) : Type 0 where
  pub long : 6 ≤ length b
  pub is : filled (take (length b - 6) (drop 6 b)) ≡ some ns

pub listed : (b : List ℕ) (ns : List (List ℕ)) → names_in b ≡ some ns → Listed b ns
unfolding names_in in_item content header
listed b ns e = got (in_item 4 (λ s. filled s) b) _ ns e λ x p q. got (content 4 b) _ x p λ y u v. got (filled y.0) _ x v λ l f g. got (header b) _ y u λ h i j.
    chosen (eqb h.0 4) _ _ j
    (λ _ j. chosen (leb 6 (length b) && leb size (length b - 6)) _ _ i
    (λ k i.
    let hs : ◌≡◌ {A = ℕ × List ℕ × List ℕ} (number (take 2 (drop 4 b)), take size (drop 6 b), drop size (drop 6 b)) h = some-injective _ _ i in
    let ys : ◌≡◌ {A = List ℕ × List ℕ} (h.1, h.2) y = some-injective _ _ j in
    let xs : ◌≡◌ {A = List (List ℕ) × List ℕ} (l, y.1) x = some-injective _ _ g in
    let z = nothing-inv x.0 ns x.1 q in
    let c : take size (drop 6 b) ≡ y.0 = cc in
    let r : drop size (drop 6 b) ≡ [] = cc in
    record {
      long = leb-true _ _ (and_parts (leb 6 (length b)) _ k).0;
      is = ap (λ (s : List ℕ). filled s) (take_rest b 6 ∙ sym (take-append-drop size (drop 6 b)) ∙ rw r (append-nil _) ∙ c) ∙ f ∙ ap some (let w : l ≡ ns = cc in w);
    })
    (λ _ i. none≢ h i))
    (λ _ j. none≢ y j)
  where
    size : ℕ
    size = number (take 4 b)

-- ---- the search

-- what is left of the names decides as all of them do
pub record Unread (s key : List ℕ) (at : ℕ) (ns : List (List ℕ)) : Type 0 where
  pub turns : ℕ
  pub rest : List (List ℕ)
  pub is : many (field_of as_text 0) turns (drop at s) ≡ some rest
  pub same_answer : one_of key ns ≡ one_of key rest

pub unread_start : {s key : List ℕ} (ns : List (List ℕ)) → filled s ≡ some ns → Unread s key 0 ns
unfolding all
unread_start {s} ns e = record { turns = length s; rest = ns; is = e; same_answer = refl }

none_left : (t : ℕ) {rest : List (List ℕ)} → many (field_of as_text 0) t [] ≡ some rest → rest ≡ []
unfolding many
none_left zero e = sym (some-injective _ _ e)
none_left (suc t) e = sym (some-injective _ _ e)

pub unread-end : {s key : List ℕ} {at : ℕ} {ns : List (List ℕ)} → Unread s key at ns → length s ≤ at → false ≡ one_of key ns
unfolding one_of
unread-end {s} {key} {at} w h =
    let e : many (field_of as_text 0) w.turns [] ≡ some w.rest = ap (many (field_of as_text 0) w.turns) (sym (drop_of_length-le s {i = at} h)) ∙ w.is in
    sym (w.same_answer ∙ ap (one_of key) (none_left w.turns e))

-- the first of the names that are left, and the others behind it
record FirstName (rest : List (List ℕ)) (name behind : List ℕ) : Type 0 where
  turns : ℕ
  others : List (List ℕ)
  is : rest ≡ name ∷ others
  more : many (field_of as_text 0) turns behind ≡ some others

first-name : (bs : List ℕ) (t : ℕ) (rest : List (List ℕ)) (name behind : List ℕ) → 0 < length bs → many (field_of as_text 0) t bs ≡ some rest
    → ((x : List ℕ × List ℕ) → field_of as_text 0 bs ≡ some x → some x ≡ some (name, behind)) → FirstName rest name behind
unfolding many
first-name [] t rest name behind h e f = absurd (omega arith)
first-name (b ∷ bs) zero rest name behind h e f = none≢ rest e
first-name (b ∷ bs) (suc t) rest name behind h e f =
    got (field_of as_text 0 (b ∷ bs)) _ rest e λ x p e. got (many (field_of as_text 0) t x.1) _ rest e λ l q r.
    let same_x : ◌≡◌ {A = List ℕ × List ℕ} x (name, behind) = some-injective _ _ (f x p) in
    record {
      turns = t;
      others = l;
      is = sym (some-injective _ _ r) ∙ ap (λ (z : List ℕ × List ℕ). z.0 ∷ l) same_x;
      more = ap (λ (z : List ℕ × List ℕ). many (field_of as_text 0) t z.1) (sym same_x) ∙ q;
    }

module _ {s key : List ℕ} {at : ℕ} {ns : List (List ℕ)} (w : Unread s key at ns) (m : at < length s) {item : Item} (h : Ok item ≡ header_at s at) where
  turn : FirstName w.rest (take (item.to - item.from) (drop item.from s)) (drop item.to s)
  turn = first-name (drop at s) w.turns w.rest _ _ (omega (arith, length-drop at s)) w.is (name-is s at h)

  here : one_of key ns ≡ (same key (take (item.to - item.from) (drop item.from s)) || one_of key turn.others)
  unfolding one_of
  here = w.same_answer ∙ ap (one_of key) turn.is

  pub unread-found : same key (take (item.to - item.from) (drop item.from s)) ≡ true → true ≡ one_of key ns
  unread-found e = sym (here ∙ rw e)

  pub unread-on : same key (take (item.to - item.from) (drop item.from s)) ≡ false → Unread s key item.to ns
  unread-on e = record { turns = turn.turns; rest = turn.others; is = turn.more; same_answer = here ∙ rw e }

-- no name without an item
lost : (bs : List ℕ) (t : ℕ) (rest : List (List ℕ)) {X : Type 0} → 0 < length bs → many (field_of as_text 0) t bs ≡ some rest → field_of as_text 0 bs ≡ none → X
unfolding many
lost [] t rest h e n = absurd (omega arith)
lost (b ∷ bs) zero rest h e n = none≢ rest e
lost (b ∷ bs) (suc t) rest h e n = got (field_of as_text 0 (b ∷ bs)) _ rest e λ x p _. none≢ x (sym n ∙ p)

pub unread-lost : {s key : List ℕ} {at : ℕ} {ns : List (List ℕ)} {X : Type 0} → Unread s key at ns → at < length s → {broken : Broken} → Err broken ≡ header_at s at → X
unread-lost {s} {at = at} w m e = lost (drop at s) w.turns w.rest (omega (arith, length-drop at s)) w.is (no_field as_text 0 (drop at s) (no_header 0 (drop at s) (no-item-there s at e)))
