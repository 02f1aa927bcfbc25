-- What a panel accepts is a programme. Assumes nothing.
use Rattle.std.proofs.Common.{◌≡◌, refl, sym, ap, ◌∙◌, subst, ℕ, zero, suc, ◌+◌, ◌-◌, ◌≤◌, ◌<◌, ◌^◌, arith, List, [], ◌∷◌, ◌++◌, map, append-nil, true, ◌&&◌, ltb, Err, length, take, drop, Some, Ok, Result, slice_get, length-drop, length-take-le, eqb-true}
use Rattle.std.specs.List.{AllByRecursion}
use Rattle.std.specs.Prelude.{slice_range, ◌==◌}
use Rattle.std.specs.Result.{result_ok}
use Rattle.std.proofs.lemmas.List.{drop-take, drop_all, length-map, map-append}
use Rattle.std.proofs.lemmas.Option.{option_and_then_some}
use Rattle.refusal.proofs.Tools.{chosen}
use Rattle.std.proofs.lemmas.List.Elements.{All-from_recursion}
use Rattle.std.proofs.lemmas.Bool.{and_parts}
use Rattle.utf8.specs.Utf8.{Utf8, is_utf8}
use Rattle.item.specs.Encode.{item, number, Bytes}
use Rattle.item.specs.Places.{header_at}
use Rattle.item.specs.declared.Item.{Item}
use Rattle.item.specs.declared.Broken.{Broken}
use Rattle.value.proofs.Headers.{is-ok}
use Rattle.item.proofs.Headers.{Spans, spans, header-item}
use Rattle.item.proofs.Exact.{header-inv, bytes_drop, number_small}
use Rattle.panel.specs.Panel.{◌>>=◌, items_from, items_in, is_text, text_of, labels_of, each, steps_in, fields_of, programme, Programme}
use Rattle.panel.specs.Programmes.{AnyItem, AnyStep, AnyProgramme, written, text, step_item, list_item, outer_items, HasKind, StepFits, IsProgramme}
use Rattle.panel.specs.declared.Labels.{Labels}
use Rattle.panel.proofs.Items.{never, items-nil, items-first}
use Rattle.panel.proofs.Texts.{range-cut}

-- an item of some bytes, by itself
abbrev pub of_bytes : List ℕ → Item → AnyItem
of_bytes s i = record { kind = i.kind; content = slice_range s i.from i.to }

bytes-take : (n : ℕ) (s : List ℕ) → Bytes s → Bytes (take n s)
bytes-take zero s h = tt
bytes-take (suc n) [] h = tt
bytes-take (suc n) (b ∷ s) h = (h.0, bytes-take n s h.1)

-- ---- a header

module _ (s : List ℕ) (h : Bytes s) (at : ℕ) {i : Item} (e : header_at s at ≡ Ok i) where
  there : at + 6 ≤ length s
  there = let p = spans s at (sym e) in omega (arith, p.start, p.order, p.fits)

  read : (i.kind ≡ number (take 2 (drop (at + 4) s))) × (i.to ≡ at + 6 + number (take 4 (drop at s)))
  unfolding header_at
  read = chosen (ltb (length s) (at + 6)) _ _ e (λ _ r. broken r) (λ _ r. chosen (ltb (length s) (at + 6 + number (take 4 (drop at s)))) _ _ r (λ _ q. broken q) (λ _ q. let same = ok-is q in (ap (λ (i : Item). i.kind) (sym same), ap (λ (i : Item). i.to) (sym same))))
    where
      broken : {X : Type 0} {b : Broken} → Err b ≡ Ok i → X
      broken q = absurd (let z : ◌≡◌ {A = ℕ} 0 1 = cc in omega arith)

      ok-is : {j : Item} → ◌≡◌ {A = Result Item Broken} (Ok j) (Ok i) → j ≡ i
      ok-is q = cc

  -- two bytes for a kind, four for a length
  kind-small : i.kind < 2 ^ 16
  kind-small =
      let n : length (take 2 (drop (at + 4) s)) ≡ 2 = length-take-le 2 (drop (at + 4) s) (omega (arith, length-drop (at + 4) s, there)) in
      let b : number (take 2 (drop (at + 4) s)) < 256 ^ 2 = subst (λ (n : ℕ). number (take 2 (drop (at + 4) s)) < 256 ^ n) n (number_small _ (bytes-take 2 (drop (at + 4) s) (bytes_drop (at + 4) s h))) in
      omega (arith, read.0, b)

  size-small : i.to < at + 6 + 2 ^ 32
  size-small =
      let n : length (take 4 (drop at s)) ≡ 4 = length-take-le 4 (drop at s) (omega (arith, length-drop at s, there)) in
      let b : number (take 4 (drop at s)) < 256 ^ 4 = subst (λ (n : ℕ). number (take 4 (drop at s)) < 256 ^ n) n (number_small _ (bytes-take 4 (drop at s) (bytes_drop at s h))) in
      omega (arith, read.1, b)

  item-there : drop at s ≡ item i.kind (slice_range s i.from i.to) ++ drop i.to s
  item-there = (header-inv (drop at s) _ (bytes_drop at s h) (header-item s at (sym e))).is

-- ---- items

abbrev Within : List ℕ → Item → Type 0
Within s i = (i.from ≤ i.to) × (i.to ≤ length s)

module _ (s : List ℕ) (h : Bytes s) where
  -- items from a place of a part of these bytes to its end
  pub record Are (content : List ℕ) (at : ℕ) (items : List Item) : Type 0 where
    pub bytes : drop at content ≡ written (map (of_bytes s) items)
    pub kinds : AllByRecursion HasKind (map (of_bytes s) items)
    pub within : AllByRecursion (Within s) items

  module _ (content : List ℕ) (hc : Bytes content) (short : length content ≤ length s)
      (same : (from to : ℕ) → from ≤ to → to ≤ length content → slice_range content from to ≡ slice_range s from to) where
    are : (items : List Item) (at : ℕ) → items_from content at ≡ Some items → Are content at items
    are [] at e = record { bytes = drop_all at content (omega (arith, items-nil content at e)); kinds = tt; within = tt }
    are (i ∷ more) at e =
        let f = items-first content at i more e in
        let p = spans content at (sym f.is) in
        let rest = are more i.to f.behind in
        record {
          bytes = item-there content hc at f.is ∙ ap (λ (c : List ℕ). item i.kind c ++ drop i.to content) (same i.from i.to p.order p.fits) ∙ ap (λ (r : List ℕ). item i.kind (slice_range s i.from i.to) ++ r) rest.bytes;
          kinds = (kind-small content hc at f.is, rest.kinds);
          within = ((p.order, omega (arith, p.fits, short)), rest.within);
        }

  -- items that fill an item
  pub record Fill (around : Item) (items : List Item) : Type 0 where
    pub bytes : slice_range s around.from around.to ≡ written (map (of_bytes s) items)
    pub kinds : AllByRecursion HasKind (map (of_bytes s) items)
    pub within : AllByRecursion (Within s) items

  fill : (around : Item) (items : List Item) → Within s around → items_in s around ≡ Some items → Fill around items
  unfolding items_in
  fill around items w e =
      let n : length (take around.to s) ≡ around.to = length-take-le around.to s w.1 in
      let a = are (take around.to s) (bytes-take around.to s h) (omega (arith, n, w.1)) (λ from to o f. range-cut s around.to from to o (omega (arith, n))) items around.from e in
      let k : around.to ≡ around.from + (around.to - around.from) = omega (arith, w.0) in
      record {
        bytes = sym (drop-take around.from (around.to - around.from) s) ∙ ap (λ (k : ℕ). drop around.from (take k s)) (sym k) ∙ a.bytes;
        kinds = a.kinds;
        within = a.within;
      }

  -- ---- texts and steps

  as_text : (i : Item) {t : Item} → text_of s i ≡ Some t → (of_bytes s i ≡ text (slice_range s i.from i.to)) × Utf8 (slice_range s i.from i.to)
  unfolding text_of is_text
  as_text i e = chosen (i.kind == 3 && is_utf8 (slice_range s i.from i.to)) _ _ e (λ t _. let p = and_parts (i.kind == 3) (is_utf8 (slice_range s i.from i.to)) t in (ap (λ (k : ℕ). record { kind = k; content = slice_range s i.from i.to }) (eqb-true i.kind 3 p.0), p.1)) (λ _ r. never r)

  record StepMade (i : Item) : Type 0 where
    step : AnyStep
    fits : StepFits step
    is : step_item step ≡ of_bytes s i

  step-made : (i : Item) {l : Labels} → i.kind < 2 ^ 16 → Within s i → labels_of s i ≡ Some l → StepMade i
  unfolding labels_of
  step-made i {l} k w e = option_and_then_some _ (items_in s i) l e (λ items p q. go items p q)
    where
      go : (items : List Item) → items_in s i ≡ Some items → ((slice_get items 0 >>= text_of s) >>= λ name. (slice_get items 1 >>= text_of s) >>= λ id. Some (record { name = name; id = id })) ≡ Some l → StepMade i
      go [] p q = never q
      go (name ∷ []) p q = option_and_then_some _ (text_of s name) l q (λ _ _ r. never r)
      go (name ∷ id ∷ more) p q = option_and_then_some _ (text_of s name) l q
          (λ _ a r. option_and_then_some _ (text_of s id) l r
          (λ _ b _.
          let f = fill i (name ∷ id ∷ more) w p in
          let n = as_text name a in
          let d = as_text id b in
          record {
            step = record { kind = i.kind; name = slice_range s name.from name.to; id = slice_range s id.from id.to; more = map (of_bytes s) more };
            fits = record { kind = k; name = n.1; id = d.1; more = All-from_recursion HasKind (map (of_bytes s) more) f.kinds.1.1 };
            is = ap (λ (c : List ℕ). record { kind = i.kind; content = c }) (ap (λ (x : AnyItem). written (x ∷ text (slice_range s id.from id.to) ∷ map (of_bytes s) more)) (sym n.0)
                ∙ ap (λ (x : AnyItem). written (of_bytes s name ∷ x ∷ map (of_bytes s) more)) (sym d.0) ∙ sym f.bytes);
          }))

  record StepsMade (items : List Item) : Type 0 where
    steps : List AnyStep
    fit : AllByRecursion StepFits steps
    are : map step_item steps ≡ map (of_bytes s) items

  steps-made : (items : List Item) (labels : List Labels) → AllByRecursion HasKind (map (of_bytes s) items) → AllByRecursion (Within s) items → each (labels_of s) items ≡ Some labels → StepsMade items
  unfolding each
  steps-made [] labels k w e = record { steps = []; fit = tt; are = refl }
  steps-made (i ∷ more) labels k w e = option_and_then_some _ (labels_of s i) labels e
      (λ _ p q. option_and_then_some _ (each (labels_of s) more) labels q
      (λ rest r _.
      let one = step-made i k.0 w.0 p in
      let all = steps-made more rest k.1 w.1 r in
      record {
        steps = one.step ∷ all.steps;
        fit = (one.fits, all.fit);
        are = ap (λ (x : AnyItem). x ∷ map step_item all.steps) one.is ∙ ap (λ (l : List AnyItem). of_bytes s i ∷ l) all.are;
      }))

  -- ---- the whole

  record Found (p : Programme) : Type 0 where
    whole : Item
    is : header_at s 0 ≡ Ok whole
    test : whole.kind == 16 && whole.to == length s ≡ true
    fields : List Item
    filled : items_in s whole ≡ Some fields
    named : (slice_get fields 0 >>= text_of s) ≡ Some p.name
    listed : (slice_get fields 7 >>= steps_in s) ≡ Some p.steps

  found : (p : Programme) → programme s ≡ Some p → Found p
  unfolding programme fields_of
  found p e = option_and_then_some _ (fields_of s) p e
      (λ fields a r. option_and_then_some _ (slice_get fields 0 >>= text_of s) p r
      (λ name b t. option_and_then_some _ (slice_get fields 7 >>= steps_in s) p t
      (λ steps c u. option_and_then_some _ (result_ok (header_at s 0)) fields a
      (λ whole d v. chosen (whole.kind == 16 && whole.to == length s) _ _ v
      (λ test q.
      let same : record { name = name; steps = steps } ≡ p = cc in
      record {
        whole = whole;
        is = is-ok (sym d);
        test = test;
        fields = fields;
        filled = q;
        named = b ∙ ap (λ (x : Programme). Some x.name) same;
        listed = c ∙ ap (λ (x : Programme). Some x.steps) same;
      })
      (λ _ q. never q)))))

-- a list by the element that so many stand before
parted : {A : Type 0} (xs : List A) (n : ℕ) {x : A} → slice_get xs n ≡ Some x → (xs ≡ take n xs ++ x ∷ drop (suc n) xs) × (length (take n xs) ≡ n)
parted [] n e = never e
parted (y ∷ xs) zero e = (ap (λ z. z ∷ xs) cc, refl)
parted (y ∷ xs) (suc n) e = let r = parted xs n e in (ap (λ l. y ∷ l) r.0, ap suc r.1)

all-parts : {A B : Type 0} (P : B → Type 0) (f : A → B) (xs : List A) (y : A) (ys : List A) → AllByRecursion P (map f (xs ++ y ∷ ys)) → AllByRecursion P (map f xs) × P (f y) × AllByRecursion P (map f ys)
all-parts P f [] y ys k = (tt, k.0, k.1)
all-parts P f (x ∷ xs) y ys k = let r = all-parts P f xs y ys k.1 in ((k.0, r.0), r.1, r.2)

all-at : {A : Type 0} (P : A → Type 0) (xs : List A) (y : A) (ys : List A) → AllByRecursion P (xs ++ y ∷ ys) → P y
all-at P [] y ys k = k.0
all-at P (x ∷ xs) y ys k = all-at P xs y ys k.1

-- the parts of what is accepted, as those of a programme
module _ (s : List ℕ) (h : Bytes s) {whole : Item} (is : header_at s 0 ≡ Ok whole) (test : whole.kind == 16 && whole.to == length s ≡ true)
    (name : Item) (rest : List Item) (filled : items_in s whole ≡ Some (name ∷ rest)) {label : Item} (named : text_of s name ≡ Some label) where
  around : Spans s 0 whole.from whole.to
  around = spans s 0 (sym is)

  inner : Fill s h whole (name ∷ rest)
  inner = fill s h whole (name ∷ rest) (around.order, around.fits) filled

  text-is : (of_bytes s name ≡ text (slice_range s name.from name.to)) × Utf8 (slice_range s name.from name.to)
  text-is = as_text s h name named

  bytes : item 16 (slice_range s whole.from whole.to) ≡ s
  bytes =
      let p = and_parts (whole.kind == 16) (whole.to == length s) test in
      sym (item-there s h 0 is ∙ rw (eqb-true whole.kind 16 p.0, drop_all whole.to s (omega (arith, eqb-true whole.to (length s) p.1))) (append-nil (item 16 (slice_range s whole.from whole.to))))

  long : length (slice_range s whole.from whole.to) ≡ whole.to - whole.from
  long = length-take-le (whole.to - whole.from) (drop whole.from s) (omega (arith, length-drop whole.from s, around.fits))

  module _ (list : Item) (l : slice_get rest 6 ≡ Some list) where
    parts : (rest ≡ take 6 rest ++ list ∷ drop 7 rest) × (length (take 6 rest) ≡ 6)
    parts = parted rest 6 l

    inside : Within s list
    inside = all-at (Within s) (take 6 rest) list (drop 7 rest) (subst (AllByRecursion (Within s)) parts.0 inner.within.1)

    kinds : AllByRecursion HasKind (map (of_bytes s) (take 6 rest)) × HasKind (of_bytes s list) × AllByRecursion HasKind (map (of_bytes s) (drop 7 rest))
    kinds = all-parts HasKind (of_bytes s) (take 6 rest) list (drop 7 rest) (subst (λ (xs : List Item). AllByRecursion HasKind (map (of_bytes s) xs)) parts.0 inner.kinds.1)

    module _ (items : List Item) (n : items_in s list ≡ Some items) (m : StepsMade s h items) where
      abbrev made : AnyProgramme
      made = record { name = slice_range s name.from name.to; six = map (of_bytes s) (take 6 rest); list_kind = list.kind; steps = m.steps; more = map (of_bytes s) (drop 7 rest) }

      list-is : list_item made ≡ of_bytes s list
      list-is = ap (λ (c : List ℕ). record { kind = list.kind; content = c }) (ap written m.are ∙ sym (fill s h list items inside n).bytes)

      outer : written (outer_items made) ≡ slice_range s whole.from whole.to
      outer =
          ap (λ (i : AnyItem). written (i ∷ map (of_bytes s) (take 6 rest) ++ list_item made ∷ map (of_bytes s) (drop 7 rest))) (sym text-is.0)
          ∙ ap (λ (i : AnyItem). written (of_bytes s name ∷ map (of_bytes s) (take 6 rest) ++ i ∷ map (of_bytes s) (drop 7 rest))) list-is
          ∙ ap (λ (l : List AnyItem). written (of_bytes s name ∷ l)) (sym (map-append (of_bytes s) (take 6 rest) (list ∷ drop 7 rest)) ∙ ap (map (of_bytes s)) (sym parts.0))
          ∙ sym inner.bytes

      is-programme : IsProgramme s made
      is-programme = record {
        fits = record {
          name = text-is.1;
          six = length-map (take 6 rest) (of_bytes s) ∙ parts.1;
          six_kinds = All-from_recursion HasKind (map (of_bytes s) (take 6 rest)) kinds.0;
          list_kind = kinds.1;
          steps = All-from_recursion StepFits m.steps m.fit;
          more = All-from_recursion HasKind (map (of_bytes s) (drop 7 rest)) kinds.2;
          size = omega (arith, ap length outer, long, size-small s h 0 is, around.start);
        };
        written = ap (item 16) outer ∙ bytes;
      }

    with-steps : {labels : List Labels} → steps_in s list ≡ Some labels → (p : AnyProgramme) × IsProgramme s p
    unfolding steps_in
    with-steps {labels} e = option_and_then_some _ (items_in s list) labels e
        (λ items n o. let f = fill s h list items inside n in let m = steps-made s h items labels f.kinds f.within o in (made items n m, is-programme items n m))

pub programme-made : (s : List ℕ) → Bytes s → (seen : Programme) → programme s ≡ Some seen → (p : AnyProgramme) × IsProgramme s p
programme-made s h seen e = let f = found s h seen e in go f.is f.test f.fields f.filled f.named f.listed
  where
    go : {whole : Item} → header_at s 0 ≡ Ok whole → whole.kind == 16 && whole.to == length s ≡ true → (fields : List Item) → items_in s whole ≡ Some fields
        → (slice_get fields 0 >>= text_of s) ≡ Some seen.name → (slice_get fields 7 >>= steps_in s) ≡ Some seen.steps → (p : AnyProgramme) × IsProgramme s p
    go is test [] filled named listed = never named
    go is test (name ∷ rest) filled named listed = option_and_then_some _ (slice_get rest 6) seen.steps listed (λ list l m. with-steps s h is test name rest filled named list l m)
