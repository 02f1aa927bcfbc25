-- The text at a place, and what it tells of the items from there on; from these a step's labels and the whole record. Assumes nothing.
use Rattle.std.proofs.Common.{◌≡◌, refl, sym, ap, ◌∙◌, ℕ, ◌+◌, ◌-◌, ◌≤◌, arith, List, [], ◌∷◌, Bool, true, false, ◌&&◌, length, take, drop, Option, None, Some, Result, Ok, Err, slice_get, take_all, eqb-true}
use Rattle.std.proofs.lemmas.Bool.{and_parts, false≢true}
use Rattle.std.proofs.lemmas.List.{drop-take, take-take, length-take}
use Rattle.std.specs.Prelude.{if◌then◌else◌, is_some, slice_range, ◌==◌}
use Rattle.std.specs.Option.{option_map}
use Rattle.std.specs.Result.{result_ok}
use Rattle.std.specs.Bool.{then_some}
use Rattle.utf8.specs.Utf8.{is_utf8}
use Rattle.item.specs.Places.{header_at}
use Rattle.item.specs.declared.Item.{Item}
use Rattle.item.specs.declared.Broken.{Broken}
use Rattle.item.proofs.HeaderPlaces.{at_cut}
use Rattle.item.proofs.Headers.{spans}
use Rattle.panel.specs.Panel.{◌>>=◌, items_from, items_in, is_text, text_of, labels_of, steps_in, fields_of, programme}
use Rattle.panel.specs.Contract.{text_from, Inside, Sees}
use Rattle.panel.specs.declared.Labels.{Labels}
use Rattle.panel.proofs.Items.{never, items-nil, items-first, items-on, fill-on}
use Rattle.panel.proofs.Steps.{uncounted, counted}

-- a text is the item that was asked
text-same : (s : List ℕ) (item : Item) {text : Item} → text_of s item ≡ Some text → item ≡ text
unfolding text_of
text-same s item e = go (is_text s item) e
  where
    go : {text : Item} (b : Bool) → (if b then Some item else None) ≡ Some text → item ≡ text
    go true e = cc
    go false e = never e

-- texts of some bytes, among items that stand in these up to a place
module _ (s content : List ℕ) where
  abbrev pub seen : ℕ → Option Item
  seen at = result_ok (header_at content at) >>= text_of s

  pub seen-header : (at : ℕ) {text : Item} → Some text ≡ seen at → header_at content at ≡ Ok text
  seen-header at {text} e = go (header_at content at) refl (sym e)
    where
      go : (r : Result Item Broken) → header_at content at ≡ r → (result_ok r >>= text_of s) ≡ Some text → header_at content at ≡ Ok text
      go (Err broken) p q = never q
      go (Ok item) p q = p ∙ ap Ok (text-same s item q)

  pub text-first : (at : ℕ) (items : List Item) → items_from content at ≡ Some items → (slice_get items 0 >>= text_of s) ≡ seen at
  text-first at [] e = rw (at_cut content at (omega (arith, items-nil content at e))) refl
  text-first at (item ∷ more) e = rw (items-first content at item more e).is refl

  -- it is the first of the items, and the others stand behind it
  pub record Split (text : Item) (items : List Item) : Type 0 where
    pub rest : List Item
    pub is : items ≡ text ∷ rest
    pub behind : items_from content text.to ≡ Some rest
    pub given : text_of s text ≡ Some text

  pub split : (at : ℕ) {text : Item} → Some text ≡ seen at → (items : List Item) → items_from content at ≡ Some items → Split text items
  split at e [] p = never (text-first at [] p ∙ sym e)
  split at {text} e (item ∷ more) p =
      let t : text_of s item ≡ Some text = text-first at (item ∷ more) p ∙ sym e in
      let q : item ≡ text = text-same s item t in
      record {
        rest = more;
        is = ap (λ (x : Item). x ∷ more) q;
        behind = ap (λ (x : Item). items_from content x.to) (sym q) ∙ (items-first content at item more p).behind;
        given = ap (text_of s) (sym q) ∙ t;
      }

-- ---- a step

module _ (s : List ℕ) (n : ℕ) where
  pub range-cut : (from to : ℕ) → from ≤ to → to ≤ n → slice_range (take n s) from to ≡ slice_range s from to
  range-cut from to h k =
      let e : n ≡ from + (n - from) = omega arith in
      ap (λ (k : ℕ). take (to - from) (drop from (take k s))) e ∙ ap (take (to - from)) (drop-take from (n - from) s) ∙ take-take (to - from) (n - from) (drop from s) (omega arith)

  -- a text is one of the bytes around it too
  pub text-cut : (at : ℕ) → text_from (take n s) at ≡ seen s (take n s) at
  unfolding text_from text_of is_text
  text-cut at = go (header_at (take n s) at) refl
    where
      go : (r : Result Item Broken) → header_at (take n s) at ≡ r → (result_ok r >>= text_of (take n s)) ≡ (result_ok r >>= text_of s)
      go (Err broken) e = refl
      go (Ok item) e =
          let i = spans (take n s) at (sym e) in
          ap (λ (t : List ℕ). if item.kind == 3 && is_utf8 t then Some item else None) (range-cut item.from item.to i.order (omega (arith, i.fits, length-take n s)))

module _ (s : List ℕ) (step : Item) where
  abbrev content : List ℕ
  content = take step.to s

  by-items : (o : Option (List Item)) → items_from content step.from ≡ o → ((items : List Item) → items_from content step.from ≡ Some items → None ≡ labels_of s step) → None ≡ labels_of s step
  unfolding labels_of items_in
  by-items None p some = rw p refl
  by-items (Some items) p some = some items p

  pub no-name : None ≡ text_from content step.from → None ≡ labels_of s step
  unfolding labels_of items_in
  no-name e = by-items (items_from content step.from) refl (λ items p. rw (p, text-first s content step.from items p, ← text-cut s step.to step.from, ← e) refl)

  module _ {name : Item} (e : Some name ≡ text_from content step.from) where
    named : Some name ≡ seen s content step.from
    named = e ∙ text-cut s step.to step.from

    pub no-id : None ≡ text_from content name.to → None ≡ labels_of s step
    unfolding labels_of items_in
    no-id f = by-items (items_from content step.from) refl
        (λ items p. let w = split s content step.from named items p in rw (p, w.is, w.given, text-first s content name.to w.rest w.behind, ← text-cut s step.to name.to, ← f) refl)

    pub both : {id : Item} → Some id ≡ text_from content name.to → (b : Bool) → b ≡ is_some (items_from content id.to) → then_some b (record { name = name; id = id }) ≡ labels_of s step
    unfolding labels_of items_in
    both {id} f b t = go b (items_from content step.from) refl (t ∙ sym (fill-on content step.from (sym (seen-header s content step.from named)) ∙ fill-on content name.to (sym (seen-header s content name.to marked))))
      where
        marked : Some id ≡ seen s content name.to
        marked = f ∙ text-cut s step.to name.to

        go : (b : Bool) (o : Option (List Item)) → items_from content step.from ≡ o → b ≡ is_some o → then_some b (record { name = name; id = id }) ≡ labels_of s step
        go true None p q = absurd (false≢true (sym q))
        go false None p q = rw p refl
        go false (Some items) p q = absurd (false≢true q)
        go true (Some items) p q =
            let w = split s content step.from named items p in
            let v = split s content name.to marked w.rest w.behind in
            rw (p, w.is, w.given, v.is, v.given) refl

-- ---- the whole record

module _ (s : List ℕ) where
  pub no-whole : None ≡ result_ok (header_at s 0) → programme s ≡ None
  unfolding programme fields_of
  no-whole e = rw (← e) refl

  module _ {whole : Item} (e : Some whole ≡ result_ok (header_at s 0)) where
    pub other-whole : whole.kind == 16 && whole.to == length s ≡ false → programme s ≡ None
    unfolding programme fields_of
    other-whole t = rw (← e, t) refl

    module _ (t : whole.kind == 16 && whole.to == length s ≡ true) where
      fields-are : fields_of s ≡ items_from s whole.from
      unfolding fields_of items_in
      fields-are =
          let to : whole.to ≡ length s = eqb-true whole.to (length s) (and_parts (whole.kind == 16) (whole.to == length s) t).1 in
          rw (← e, t) (ap (λ (l : List ℕ). items_from l whole.from) (take_all whole.to s (omega (arith, to))))

      by-fields : (o : Option (List Item)) → items_from s whole.from ≡ o → ((items : List Item) → o ≡ Some items → programme s ≡ None) → programme s ≡ None
      unfolding programme
      by-fields None p some = rw (fields-are, p) refl
      by-fields (Some items) p some = some items refl

      pub unnamed : None ≡ text_from s whole.from → programme s ≡ None
      unfolding programme text_from
      unnamed f = by-fields (items_from s whole.from) refl (λ items p. rw (fields-are, p, text-first s s whole.from items p, ← f) refl)

      module _ {name : Item} (f : Some name ≡ text_from s whole.from) where
        named-here : Some name ≡ seen s s whole.from
        unfolding text_from
        named-here = f

        pub not-filled : is_some (items_from s name.to) ≡ false → programme s ≡ None
        not-filled q = by-fields (items_from s whole.from) refl
            (λ items p. absurd (false≢true (sym q ∙ sym (fill-on s whole.from (sym (seen-header s s whole.from named-here))) ∙ ap is_some p)))

        module _ {rest : List Item} (q : items_from s name.to ≡ Some rest) where
          filled : items_from s whole.from ≡ Some (name ∷ rest)
          filled = items-on s whole.from (seen-header s s whole.from named-here) ∙ ap (λ (o : Option (List Item)). o >>= λ more. Some (name ∷ more)) q

          text : text_of s name ≡ Some name
          text = text-first s s whole.from (name ∷ rest) filled ∙ sym named-here

          pub no-list : None ≡ slice_get rest 6 → programme s ≡ None
          unfolding programme
          no-list h = rw (fields-are, filled, text, ← h) refl

          module _ {list : Item} (h : Some list ≡ slice_get rest 6) where
            pub no-steps : None ≡ option_map length (steps_in s list) → programme s ≡ None
            unfolding programme
            no-steps k = rw (fields-are, filled, text, ← h, uncounted (steps_in s list) k) refl

            pub sees : Inside s name → Inside s list → {count : ℕ} → Some count ≡ option_map length (steps_in s list) → Sees s (record { name = name; list = list; steps = count })
            unfolding programme
            sees i j {count} k = go (counted (steps_in s list) k)
              where
                go : (steps : List Labels) × (steps_in s list ≡ Some steps) × (count ≡ length steps) → Sees s (record { name = name; list = list; steps = count })
                go (steps, listed, n) = record { name_inside = i; list_inside = j; steps = steps; listed = listed; count = n; is = rw (fields-are, filled, text, ← h, listed) refl }
