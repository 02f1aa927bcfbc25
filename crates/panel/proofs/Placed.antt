-- Where the items of a programme stand, and that a panel sees them there. Assumes nothing.
use Rattle.std.proofs.Common.{◌≡◌, refl, sym, ap, ◌∙◌, ℕ, zero, suc, ◌+◌, ◌-◌, ◌≤◌, ◌<◌, ◌^◌, arith, List, [], ◌∷◌, ◌++◌, map, append_assoc, append-nil, length, take, drop, Some, Ok, slice_get, length-append, length-drop, drop_at, drop-drop, take_at, take_all, length-take-le, eq-eqb}
use Rattle.std.specs.List.{AllByRecursion}
use Rattle.std.specs.Option.{option_map}
use Rattle.std.specs.Prelude.{slice_range}
use Rattle.std.proofs.lemmas.List.{drop-take}
use Rattle.std.proofs.lemmas.List.Elements.{recursion_from_All}
use Rattle.std.proofs.lemmas.Grind.{flat_map-append}
use Rattle.utf8.specs.Utf8.{Utf8}
use Rattle.item.specs.Encode.{head, item}
use Rattle.item.specs.Places.{header_at}
use Rattle.item.specs.declared.Item.{Item}
use Rattle.item.proofs.Size.{item-length, head-length}
use Rattle.item.proofs.HeaderPlaces.{item-at}
use Rattle.panel.specs.Panel.{items_from, items_in, is_text, text_of, labels_of, each, steps_in, fields_of, programme}
use Rattle.panel.specs.Programmes.{AnyItem, AnyStep, AnyProgramme, written, text, step_item, list_item, outer_items, HasKind, StepFits, IsProgramme}
use Rattle.panel.specs.declared.Labels.{Labels}
use Rattle.panel.proofs.Items.{never, items-end, items-on}

-- ---- items

-- where items from a place on stand
unfoldable pub placed : List AnyItem → ℕ → List Item
placed [] at = []
placed (i ∷ more) at = record { kind = i.kind; from = at + 6; to = at + 6 + length i.content } ∷ placed more (at + 6 + length i.content)

pub placed-append : (xs ys : List AnyItem) (at : ℕ) → placed (xs ++ ys) at ≡ placed xs at ++ placed ys (at + length (written xs))
unfolding placed
placed-append [] ys at = let z : at ≡ at + 0 = omega arith in ap (placed ys) z
placed-append (x ∷ xs) ys at =
    let z : at + 6 + length x.content + length (written xs) ≡ at + length (item x.kind x.content ++ written xs) =
    omega (arith, length-append (item x.kind x.content) (written xs), item-length x.kind x.content) in
    ap (λ (l : List Item). record { kind = x.kind; from = at + 6; to = at + 6 + length x.content } ∷ l) (placed-append xs ys (at + 6 + length x.content) ∙ ap (λ (k : ℕ). placed xs (at + 6 + length x.content) ++ placed ys k) z)

placed-length : (xs : List AnyItem) (at : ℕ) → length (placed xs at) ≡ length xs
unfolding placed
placed-length [] at = refl
placed-length (x ∷ xs) at = ap suc (placed-length xs (at + 6 + length x.content))

-- what stands behind an item, and behind its header
pub behind-item : (s : List ℕ) (at k : ℕ) (c r : List ℕ) → drop at s ≡ item k c ++ r → drop (at + 6 + length c) s ≡ r
behind-item s at k c r e =
    let n : at + 6 + length c ≡ at + length (item k c) = omega (arith, item-length k c) in
    ap (λ (n : ℕ). drop n s) n ∙ sym (drop-drop (length (item k c)) at s) ∙ ap (drop (length (item k c))) e ∙ drop_at (item k c) r (length (item k c)) refl

pub behind-head : (s : List ℕ) (at k : ℕ) (c r : List ℕ) → drop at s ≡ item k c ++ r → drop (at + 6) s ≡ c ++ r
unfolding item
behind-head s at k c r e =
    sym (drop-drop 6 at s) ∙ ap (drop 6) (e ∙ append_assoc (head k (length c)) c r) ∙ drop_at (head k (length c)) (c ++ r) 6 (head-length k (length c))

-- how far it goes
pub fits : (s : List ℕ) (at : ℕ) (c r : List ℕ) → at ≤ length s → drop at s ≡ c ++ r → at + length c ≤ length s
fits s at c r h e = omega (arith, length-drop at s, ap length e, length-append c r)

module _ (s : List ℕ) (small : length s < 256 ^ 4 + 6) where
  pub items-placed : (items : List AnyItem) → AllByRecursion HasKind items → (at : ℕ) → at ≤ length s → drop at s ≡ written items → items_from s at ≡ Some (placed items at)
  unfolding placed
  items-placed [] k at h e = items-end s at (omega (arith, length-drop at s, ap length e))
  items-placed (i ∷ more) k at h e =
      let f = fits s at (item i.kind i.content) (written more) h e in
      let long = item-length i.kind i.content in
      items-on s at (item-at s at i.kind i.content (written more) (omega (arith, k.0)) (omega (arith, f, long)) h e)
      ∙ rw (items-placed more k.1 (at + 6 + length i.content) (omega (arith, f, long)) (behind-item s at i.kind i.content (written more) e)) refl

-- items that fill an item in some bytes
pub filled : (s : List ℕ) → length s < 256 ^ 4 + 6 → (kind at k : ℕ) (items : List AnyItem) (r : List ℕ) → AllByRecursion HasKind items → at ≤ length s → drop at s ≡ item k (written items) ++ r
    → items_in s (record { kind = kind; from = at + 6; to = at + 6 + length (written items) }) ≡ Some (placed items (at + 6))
unfolding items_in
filled s small kind at k items r a h e =
    let w = written items in
    let f : at + length (item k w) ≤ length s = fits s at (item k w) r h e in
    let n : length (take (at + 6 + length w) s) ≡ at + 6 + length w = length-take-le (at + 6 + length w) s (omega (arith, f, item-length k w)) in
    items-placed (take (at + 6 + length w) s) (omega (arith, n, f, item-length k w)) items a (at + 6) (omega (arith, n))
    (drop-take (at + 6) (length w) s ∙ ap (take (length w)) (behind-head s at k w r e) ∙ take_at w r (length w) refl)

-- ---- texts

-- a text that stands at a place is one, and such are its bytes
pub text-placed : (s : List ℕ) (at : ℕ) (t r : List ℕ) → Utf8 t → drop at s ≡ item 3 t ++ r → text_of s (record { kind = 3; from = at + 6; to = at + 6 + length t }) ≡ Some (record { kind = 3; from = at + 6; to = at + 6 + length t })
unfolding text_of is_text
text-placed s at t r u e =
    let n : at + 6 + length t - (at + 6) ≡ length t = omega arith in
    rw (n, behind-head s at 3 t r e, take_at t r (length t) refl, u) refl

pub text-inside : (s : List ℕ) (at : ℕ) (t r : List ℕ) → drop at s ≡ item 3 t ++ r → at + 6 + length t ≤ length s
text-inside s at t r e = omega (arith, length-drop at s, ap length e, length-append (item 3 t) r, item-length 3 t)

pub text-bytes : (s : List ℕ) (at : ℕ) (t r : List ℕ) → drop at s ≡ item 3 t ++ r → slice_range s at (at + 6 + length t) ≡ item 3 t
text-bytes s at t r e =
    let n : at + 6 + length t - at ≡ length (item 3 t) = omega (arith, item-length 3 t) in
    rw (n, e) (take_at (item 3 t) r (length (item 3 t)) refl)

-- ---- a step

-- the labels of a step that begins at a place
unfoldable pub labels : ℕ → AnyStep → Labels
labels at x = record {
  name = record { kind = 3; from = at + 6 + 6; to = at + 6 + 6 + length x.name };
  id = record { kind = 3; from = at + 6 + 6 + length x.name + 6; to = at + 6 + 6 + length x.name + 6 + length x.id };
}

-- the name and the id of a step, where it stands
pub record LabelsStand (b : List ℕ) (at : ℕ) (x : AnyStep) : Type 0 where
  pub behind_name : List ℕ
  pub behind_id : List ℕ
  pub name : drop (at + 6) b ≡ item 3 x.name ++ behind_name
  pub id : drop (at + 6 + 6 + length x.name) b ≡ item 3 x.id ++ behind_id

module _ (b : List ℕ) (x : AnyStep) (at : ℕ) (r : List ℕ) (e : drop at b ≡ item x.kind (step_item x).content ++ r) where
  pub labels-stand : LabelsStand b at x
  labels-stand =
      let rest = written x.more in
      let name : drop (at + 6) b ≡ item 3 x.name ++ ((item 3 x.id ++ rest) ++ r) = behind-head b at x.kind (step_item x).content r e ∙ append_assoc (item 3 x.name) (item 3 x.id ++ rest) r in
      record {
        behind_name = (item 3 x.id ++ rest) ++ r;
        behind_id = rest ++ r;
        name = name;
        id = behind-item b (at + 6) 3 x.name ((item 3 x.id ++ rest) ++ r) name ∙ append_assoc (item 3 x.id) rest r;
      }

  pub step-labels : length b < 256 ^ 4 + 6 → StepFits x → (kind : ℕ) → at ≤ length b → labels_of b (record { kind = kind; from = at + 6; to = at + 6 + length (step_item x).content }) ≡ Some (labels at x)
  unfolding labels_of labels placed
  step-labels small k kind h =
      let there = labels-stand in
      let kinds : AllByRecursion HasKind (text x.name ∷ text x.id ∷ x.more) = (omega arith, (omega arith, recursion_from_All HasKind x.more k.more)) in
      rw (
        filled b small kind at x.kind (text x.name ∷ text x.id ∷ x.more) r kinds h e,
        text-placed b (at + 6) x.name there.behind_name k.name there.name,
        text-placed b (at + 6 + 6 + length x.name) x.id there.behind_id k.id there.id,
      ) refl

-- those of steps one behind another
unfoldable pub all_labels : ℕ → List AnyStep → List Labels
all_labels at [] = []
all_labels at (x ∷ xs) = labels at x ∷ all_labels (at + 6 + length (step_item x).content) xs

module _ (b : List ℕ) (small : length b < 256 ^ 4 + 6) where
  pub all-given : (xs : List AnyStep) (at : ℕ) (r : List ℕ) → AllByRecursion StepFits xs → at ≤ length b → drop at b ≡ written (map step_item xs) ++ r → each (labels_of b) (placed (map step_item xs) at) ≡ Some (all_labels at xs)
  unfolding each placed all_labels
  all-given [] at r k h e = refl
  all-given (x ∷ xs) at r k h e =
      let here : drop at b ≡ item x.kind (step_item x).content ++ (written (map step_item xs) ++ r) = e ∙ append_assoc (item x.kind (step_item x).content) (written (map step_item xs)) r in
      let f = fits b at (item x.kind (step_item x).content) (written (map step_item xs) ++ r) h here in
      rw (
        step-labels b x at (written (map step_item xs) ++ r) here small k.0 x.kind h,
        all-given xs (at + 6 + length (step_item x).content) r k.1 (omega (arith, f, item-length x.kind (step_item x).content)) (behind-item b at x.kind (step_item x).content (written (map step_item xs) ++ r) here),
      ) refl

pub labels-many : (xs : List AnyStep) (at : ℕ) → length (all_labels at xs) ≡ length xs
unfolding all_labels
labels-many [] at = refl
labels-many (x ∷ xs) at = ap suc (labels-many xs (at + 6 + length (step_item x).content))

-- those of the step that so many stand before
pub labels-nth : (xs : List AnyStep) (at i : ℕ) → slice_get (all_labels at xs) i ≡ option_map (labels (at + length (written (map step_item (take i xs))))) (slice_get xs i)
unfolding all_labels
labels-nth [] at i = refl
labels-nth (x ∷ xs) at zero = let z : at ≡ at + 0 = omega arith in ap (λ (k : ℕ). Some (labels k x)) z
labels-nth (x ∷ xs) at (suc i) =
    let c = (step_item x).content in
    let before = written (map step_item (take i xs)) in
    let z : at + 6 + length c + length before ≡ at + length (item x.kind c ++ before) = omega (arith, length-append (item x.kind c) before, item-length x.kind c) in
    labels-nth xs (at + 6 + length c) i ∙ ap (λ (k : ℕ). option_map (labels k) (slice_get xs i)) z

pub step-stands : (b : List ℕ) (xs : List AnyStep) (at i : ℕ) (r : List ℕ) {x : AnyStep} → slice_get xs i ≡ Some x → drop at b ≡ written (map step_item xs) ++ r
    → drop (at + length (written (map step_item (take i xs)))) b ≡ item x.kind (step_item x).content ++ (written (map step_item (drop (suc i) xs)) ++ r)
step-stands b [] at i r h e = never h
step-stands b (y ∷ xs) at zero r {x} h e =
    let q : y ≡ x = cc in
    let z : at + 0 ≡ at = omega arith in
    rw z (e ∙ append_assoc (item y.kind (step_item y).content) (written (map step_item xs)) r ∙ ap (λ (s : AnyStep). item s.kind (step_item s).content ++ (written (map step_item xs) ++ r)) q)
step-stands b (y ∷ xs) at (suc i) r h e =
    let c = (step_item y).content in
    let z : at + length (item y.kind c ++ written (map step_item (take i xs))) ≡ at + 6 + length c + length (written (map step_item (take i xs))) = omega (arith, length-append (item y.kind c) (written (map step_item (take i xs))), item-length y.kind c) in
    ap (λ (k : ℕ). drop k b) z ∙ step-stands b xs (at + 6 + length c) i r h (behind-item b at y.kind c (written (map step_item xs) ++ r) (e ∙ append_assoc (item y.kind c) (written (map step_item xs)) r))

-- ---- the whole

seam : {A : Type 0} (xs : List A) (y : A) (ys : List A) (n : ℕ) → length xs ≡ n → slice_get (xs ++ y ∷ ys) n ≡ Some y
seam [] y ys zero e = refl
seam [] y ys (suc n) e = absurd (omega arith)
seam (x ∷ xs) y ys zero e = absurd (omega arith)
seam (x ∷ xs) y ys (suc n) e = seam xs y ys n (omega arith)

module _ (b : List ℕ) (p : AnyProgramme) (w : IsProgramme b p) where
  -- the name's item begins behind the header, six items behind it that of the steps
  abbrev name_end : ℕ
  name_end = 6 + 6 + length p.name

  abbrev pub list_start : ℕ
  list_start = name_end + length (written p.six)

  abbrev behind_name : List ℕ
  behind_name = written (p.six ++ list_item p ∷ p.more)

  whole : drop 0 b ≡ item 16 (written (outer_items p)) ++ []
  whole = sym w.written ∙ sym (append-nil (item 16 (written (outer_items p))))

  size : length b ≡ 6 + length (written (outer_items p))
  size = ap length (sym w.written) ∙ item-length 16 (written (outer_items p))

  pub small : length b < 256 ^ 4 + 6
  small = omega (arith, size, w.fits.size)

  whole-is : header_at b 0 ≡ Ok (record { kind = 16; from = 6; to = length b })
  whole-is =
      item-at b 0 16 (written (outer_items p)) [] (omega arith) (omega (arith, w.fits.size)) (omega arith) whole
      ∙ ap (λ (k : ℕ). Ok (record { kind = 16; from = 6; to = k })) (sym size)

  inner : drop 6 b ≡ item 3 p.name ++ behind_name
  inner = behind-head b 0 16 (written (outer_items p)) [] whole ∙ append-nil (written (outer_items p))

  after-name : drop name_end b ≡ written p.six ++ written (list_item p ∷ p.more)
  after-name = behind-item b 6 3 p.name behind_name inner ∙ flat_map-append (λ (i : AnyItem). item i.kind i.content) p.six (list_item p ∷ p.more)

  list-stands : drop list_start b ≡ item p.list_kind (list_item p).content ++ written p.more
  list-stands = sym (drop-drop (length (written p.six)) name_end b) ∙ ap (drop (length (written p.six))) after-name ∙ drop_at (written p.six) (written (list_item p ∷ p.more)) (length (written p.six)) refl

  pub steps-stand : drop (list_start + 6) b ≡ written (map step_item p.steps) ++ written p.more
  steps-stand = behind-head b list_start p.list_kind (list_item p).content (written p.more) list-stands

  list-fits : list_start + length (item p.list_kind (list_item p).content) ≤ length b
  list-fits = fits b list_start (item p.list_kind (list_item p).content) (written p.more) start list-stands
    where
      start : list_start ≤ length b
      start = omega (arith, size, length-append (item 3 p.name) behind_name, item-length 3 p.name, ap length (flat_map-append (λ (i : AnyItem). item i.kind i.content) p.six (list_item p ∷ p.more)), length-append (written p.six) (written (list_item p ∷ p.more)))

  kinds : AllByRecursion HasKind (outer_items p)
  kinds = (omega arith, both p.six (recursion_from_All HasKind p.six w.fits.six_kinds))
    where
      both : (xs : List AnyItem) → AllByRecursion HasKind xs → AllByRecursion HasKind (xs ++ list_item p ∷ p.more)
      both [] k = (w.fits.list_kind, recursion_from_All HasKind p.more w.fits.more)
      both (x ∷ xs) k = (k.0, both xs k.1)

  fields-are : fields_of b ≡ Some (placed (outer_items p) 6)
  unfolding fields_of items_in
  fields-are = rw (whole-is, eq-eqb (length b) (length b) refl, take_all (length b) b (omega arith)) (items-placed b small (outer_items p) kinds 6 (omega (arith, size)) (inner))

  abbrev list : Item
  list = record { kind = p.list_kind; from = list_start + 6; to = list_start + 6 + length (list_item p).content }

  eighth : slice_get (placed (outer_items p) 6) 7 ≡ Some list
  unfolding placed
  eighth =
      rw (placed-append p.six (list_item p ∷ p.more) name_end)
      (seam (placed p.six name_end) list (placed p.more (list_start + 6 + length (list_item p).content)) 6 (placed-length p.six name_end ∙ w.fits.six))

  list-filled : items_in b list ≡ Some (placed (map step_item p.steps) (list_start + 6))
  list-filled = filled b small p.list_kind list_start p.list_kind (map step_item p.steps) (written p.more) (step_kinds p.steps (recursion_from_All StepFits p.steps w.fits.steps)) (omega (arith, list-fits)) list-stands
    where
      step_kinds : (xs : List AnyStep) → AllByRecursion StepFits xs → AllByRecursion HasKind (map step_item xs)
      step_kinds [] k = tt
      step_kinds (x ∷ xs) k = (k.0.kind, step_kinds xs k.1)

  pub programme-is : programme b ≡ Some (record { name = record { kind = 3; from = 12; to = name_end }; steps = all_labels (list_start + 6) p.steps })
  unfolding programme steps_in placed
  programme-is = rw (
    fields-are,
    text-placed b 6 p.name behind_name w.fits.name inner,
    eighth,
    list-filled,
    all-given b small p.steps (list_start + 6) (written p.more) (recursion_from_All StepFits p.steps w.fits.steps) (omega (arith, list-fits, item-length p.list_kind (list_item p).content)) steps-stand,
  ) refl

  pub name-inside : name_end ≤ length b
  name-inside = text-inside b 6 p.name behind_name inner

  pub name-bytes : slice_range b 6 name_end ≡ item 3 p.name
  name-bytes = text-bytes b 6 p.name behind_name inner
