-- Entries and items from the front, by their places, and the search among them. Assumes nothing.
use Rattle.std.specs.Prelude.{if◌then◌else◌}
use Rattle.std.proofs.Math.Option.{some, some-injective}
use Rattle.refusal.specs.Base.{same}
use Rattle.item.specs.Tree.{Yaml, Items, end, ◌▸◌, Entries, done, pair, has_key, get, Ranged}
use Rattle.item.specs.Encode.{item, encode, kind_of}
use Rattle.item.proofs.Size.{item-length, encode-long}
use Rattle.item.specs.Places.{header_at}
use Rattle.item.specs.declared.Item.{Item}
use Rattle.item.specs.declared.Broken.{Broken}
use Rattle.std.specs.Prelude.{Some, Result, Ok, Err}
use Rattle.item.specs.declared.Found.{Found}
use Rattle.item.specs.declared.Found.TheVariants as found
use Rattle.item.proofs.Headers.{spans}
use Rattle.item.proofs.Turns as turns
use Rattle.item.proofs.Turns.{step_of, stop_of}
use Rattle.item.specs.Walk.{Gives}
use Rattle.item.specs.declared.walk.Walk.{Walk}
use Rattle.std.proofs.Common.{Bor, ◌≡◌, refl, sym, ap, ◌∙◌, subst, ℕ, ◌+◌, ◌-◌, ◌≤◌, ◌<◌, ◌^◌, arith, List, ◌++◌, Bool, true, false, ◌||◌, length, take, drop, length-append, length-take, length-drop, take-append-drop}
use Rattle.entries.specs.declared.Pair.{Pair}
use Rattle.entries.specs.Entries.{Stands, Lies, Holds, Places, PairPlaces, Paired, with_value, with_key, pair_at, place_of, Seeks, Finds}
use Rattle.entries.proofs.Standing.{stands-left, stands-right, stands_at, stands-part, item-head, item-content, value-head}

-- ---- an entry

module _ {s : List ℕ} {at : ℕ} (k : List ℕ) (v : Yaml) (es : Entries) (st : Stands s at (encode (pair k v es))) where
  pub key-stands : Stands s at (item 3 k)
  unfolding encode
  key-stands = stands-left (item 3 k) (encode v ++ encode es) st

  behind-key : Stands s (at + 6 + length k) (encode v ++ encode es)
  unfolding encode
  behind-key = stands_at (omega (arith, item-length 3 k)) (stands-right (item 3 k) (encode v ++ encode es) st)

  pub value-stands : Stands s (at + 6 + length k) (encode v)
  value-stands = stands-left (encode v) (encode es) behind-key

  pub others-stand : Stands s (at + 6 + length k + length (encode v)) (encode es)
  others-stand = stands-right (encode v) (encode es) behind-key

  module _ (w : length s ≤ 2 ^ 20) where
    pub key-head : header_at s at ≡ Ok (record { kind = 3; from = at + 6; to = at + 6 + length k })
    key-head = item-head 3 k (omega arith) w key-stands

    pub pair_is : pair_at s at ≡ Ok (record { start = at + 6; end = at + 6 + length k; kind = kind_of v; next = at + 6 + length k + length (encode v) })
    unfolding pair_at with_key with_value
    pair_is = rw (key-head, value-head v w value-stands)

-- ---- the first entry

pub record First (s : List ℕ) (at to : ℕ) (es : Entries) : Type 0 where
  pub k : List ℕ
  pub v : Yaml
  pub others : Entries
  pub is : es ≡ pair k v others
  pub whole : Stands s at (encode (pair k v others))
  pub key : Stands s (at + 6) k
  pub value : Stands s (at + 6 + length k) (encode v)
  pub behind : Lies s (at + 6 + length k + length (encode v)) to others

pub first : {s : List ℕ} {at to : ℕ} (es : Entries) → at < to → Lies s at to es → First s at to es
unfolding encode
first done m h = absurd (omega (arith, h.ends))
first {s} {at} {to} (pair k v others) m h =
    let e : length (item 3 k ++ (encode v ++ encode others)) ≡ 6 + length k + (length (encode v) + length (encode others)) = simp (length-append, item-length) in
    record {
      k = k;
      v = v;
      others = others;
      is = refl;
      whole = h.stands;
      key = item-content 3 k (key-stands k v others h.stands);
      value = value-stands k v others h.stands;
      behind = record { stands = others-stand k v others h.stands; ends = omega (arith, h.ends, e) };
    }

pub no_more : {s : List ℕ} {at to : ℕ} (es : Entries) → to ≤ at → Lies s at to es → es ≡ done
unfolding encode
no_more done m h = refl
no_more (pair k v others) m h = absurd (omega (arith, h.ends, length-append (item 3 k) (encode v ++ encode others), item-length 3 k))

module _ {s : List ℕ} {at to : ℕ} {es : Entries} (f : First s at to es) (r : Ranged es) where
  ranged : Ranged (pair f.k f.v f.others)
  ranged = subst Ranged f.is r

  pub first-ranged : Ranged f.v
  first-ranged = ranged.0

  pub others-ranged : Ranged f.others
  others-ranged = ranged.1

-- ---- the first item

pub record FirstItem (s : List ℕ) (at to : ℕ) (ys : Items) : Type 0 where
  pub y : Yaml
  pub others : Items
  pub is : ys ≡ y ▸ others
  pub ranged : Ranged y
  pub value : Stands s at (encode y)
  pub behind : Holds s (at + length (encode y)) to others

pub first-item : {s : List ℕ} {at to : ℕ} (ys : Items) → at < to → Holds s at to ys → FirstItem s at to ys
unfolding encode
first-item end m h = absurd (omega (arith, h.lies.ends))
first-item {s} {at} {to} (y ▸ others) m h = record {
  y = y;
  others = others;
  is = refl;
  ranged = h.ranged.0;
  value = stands-left (encode y) (encode others) h.lies.stands;
  behind = record {
    ranged = h.ranged.1;
    lies = record { stands = stands-right (encode y) (encode others) h.lies.stands; ends = omega (arith, h.lies.ends, length-append (encode y) (encode others)) };
  };
}

pub no-more-items : {s : List ℕ} {at to : ℕ} (ys : Items) → to ≤ at → Holds s at to ys → ys ≡ end
unfolding encode
no-more-items end m h = refl
no-more-items (y ▸ others) m h = absurd (omega (arith, h.lies.ends, length-append (encode y) (encode others), encode-long y))

-- ---- an entry by the answer of `pair_at`

-- whatever stands there
pub pair_places : (s : List ℕ) (at : ℕ) → PairPlaces s at (pair_at s at)
unfolding pair_at with_key with_value
pair_places s at = go (header_at s at) refl
  where
    beside : (key : Item) → Ok key ≡ header_at s at → (r : Result Item Broken) → r ≡ header_at s key.to → PairPlaces s at (with_value key r)
    beside key h (Ok value) g =
        let i = spans s at h in
        let j = spans s key.to g in
        record { first = i.start; key = i.order; value = omega (arith, j.start, j.order); inside = j.fits }
    beside key h (Err broken) g = tt

    go : (r : Result Item Broken) → r ≡ header_at s at → PairPlaces s at (with_key s r)
    go (Ok key) h = beside key h (header_at s key.to) refl
    go (Err broken) h = tt

pub paired : {s : List ℕ} {at : ℕ} {r : Result Pair Broken} → r ≡ pair_at s at → Paired s at r
paired e = record { is = λ k v es w st. e ∙ pair_is k v es st w }

pub places_of : (s : List ℕ) (at : ℕ) {p : Pair} → pair_at s at ≡ Ok p → Places s at p.start p.end p.next
places_of s at e = subst (PairPlaces s at) e (pair_places s at)

-- a turn of a walk along entries
pub record Turn (s : List ℕ) (at to : ℕ) (es : Entries) (p : Pair) : Type 0 where
  pub entry : First s at to es
  pub kind_is : p.kind ≡ kind_of entry.v
  pub key_is : take (p.end - p.start) (drop p.start s) ≡ entry.k
  pub value : Stands s p.end (encode entry.v)
  pub behind : Lies s p.next to entry.others
  pub value_place : p.end ≡ at + 6 + length entry.k
  pub next_place : p.next ≡ at + 6 + length entry.k + length (encode entry.v)

pub turn : {s : List ℕ} {at to : ℕ} {p : Pair} (es : Entries) → length s ≤ 2 ^ 20 → at < to → Ok p ≡ pair_at s at → Lies s at to es → Turn s at to es p
turn {s} {at} {to} {p} es w m e h =
    let f = first es m h in
    let q : Ok p ≡ Ok (record { start = at + 6; end = at + 6 + length f.k; kind = kind_of f.v; next = at + 6 + length f.k + length (encode f.v) }) = e ∙ pair_is f.k f.v f.others f.whole w in
    let a : p.start ≡ at + 6 = cc q in
    let b : p.end ≡ at + 6 + length f.k = cc q in
    let n : p.next ≡ at + 6 + length f.k + length (encode f.v) = cc q in
    record {
      entry = f;
      kind_is = cc q;
      key_is = ap (λ (i : ℕ). take (p.end - p.start) (drop i s)) a ∙ stands-part f.key (p.end - p.start) (omega (arith, a, b));
      value = stands_at (sym b) f.value;
      behind = subst (λ (i : ℕ). Lies s i to f.others) (sym n) f.behind;
      value_place = b;
      next_place = n;
    }

pub no-entry : {s : List ℕ} {at to : ℕ} {broken : Broken} {X : Type 0} (es : Entries) → length s ≤ 2 ^ 20 → at < to → Err broken ≡ pair_at s at → Lies s at to es → X
no-entry es w m e h =
    let f = first es m h in
    absurd (let z : ◌≡◌ {A = ℕ} 0 1 = cc (e, pair_is f.k f.v f.others f.whole w) in omega arith)

-- ---- a turn of a `for` over the entries of a part

abbrev next_of : Pair → ℕ
next_of p = p.next

abbrev pub Step : List ℕ → ℕ → ℕ → Pair → Walk Pair → Type 0
Step = turns.Step pair_at next_of (λ s at p. Places s at p.start p.end p.next)

module _ (old new : Walk Pair) {s : List ℕ} {to : ℕ} (b : old.bytes.now ≡ s) (t : old.to ≡ to) where
  pub step : {r : Result Pair Broken} {p : Pair} → Gives pair_at next_of old (Some r) new → r ≡ Ok p → Step s old.at to p new
  step g e = step_of pair_at next_of old new b t (λ s at p h. places_of s at (sym h)) g e

  pub stop : {r : Result Pair Broken} {broken : Broken} → Gives pair_at next_of old (Some r) new → r ≡ Err broken → turns.Stop pair_at next_of s old.at to broken
  stop g e = stop_of pair_at next_of old new b t g e

-- ---- a part of a part

-- the same bytes, between the places that were asked for
pub record Cut (whole part : Bor (List ℕ)) (start end from to : ℕ) : Type 0 where
  pub bytes : part ≡ whole
  pub first : start ≡ from
  pub last : end ≡ to

pub cut : {whole all part : Bor (List ℕ)} {start end from to : ℕ} → all ≡ whole → part ≡ all → (from ≤ to → to ≤ length all.now → (start ≡ from) × (end ≡ to))
    → from ≤ to → to ≤ length whole.now → Cut whole part start end from to
cut {to = to} a b places h g =
    let q = places h (subst (λ (x : Bor (List ℕ)). to ≤ length x.now) (sym a) g) in
    record { bytes = b ∙ a; first = q.0; last = q.1 }

pub lies_in : {whole part : Bor (List ℕ)} {start end from to : ℕ} {es : Entries} → Cut whole part start end from to → Lies whole.now from to es → Lies part.now start end es
lies_in c h = rw (c.bytes, c.first, c.last) h

-- by what `has_key` ensures of it
pub has_in : {whole part : Bor (List ℕ)} {start end from to : ℕ} {es : Entries} {b : Bool} (key : List ℕ) → Cut whole part start end from to → Lies whole.now from to es
    → ((fs : Entries) → Lies part.now start end fs → b ≡ has_key key fs) → b ≡ has_key key es
has_in {es = es} key c h e = e es (lies_in c h)

-- ---- the search for a key

-- among what is left to search the key stands where it stands among all
pub record Sought (s key : List ℕ) (from to at : ℕ) (es : Entries) : Type 0 where
  pub rest : Entries
  pub lies : Lies s at to rest
  pub same_place : place_of key from es ≡ place_of key at rest

module _ {s key : List ℕ} {from to at : ℕ} {es : Entries} (w : Sought s key from to at es) where
  pub place_end : to ≤ at → found.Nothing ≡ place_of key from es
  unfolding place_of
  place_end h = sym (w.same_place ∙ ap (place_of key at) (no_more w.rest h w.lies))

  module _ {p : Pair} (t : Turn s at to w.rest p) where
    placed : {b : Bool} → same (take (p.end - p.start) (drop p.start s)) key ≡ b → place_of key from es ≡ (if b then found.At p.end else place_of key p.next t.entry.others)
    unfolding place_of
    placed {b} e =
        w.same_place ∙ ap (place_of key at) t.entry.is
        ∙ ap (λ (i : ℕ). if same t.entry.k key then found.At i else place_of key (i + length (encode t.entry.v)) t.entry.others) (sym t.value_place)
        ∙ ap (λ (i : ℕ). if same t.entry.k key then found.At p.end else place_of key i t.entry.others) (omega (arith, t.value_place, t.next_place))
        ∙ ap (λ (l : Bool). if l then found.At p.end else place_of key p.next t.entry.others) (ap (λ (l : List ℕ). same l key) (sym t.key_is) ∙ e)

    pub place_found : same (take (p.end - p.start) (drop p.start s)) key ≡ true → found.At p.end ≡ place_of key from es
    place_found e = sym (placed e)

    pub search-on : same (take (p.end - p.start) (drop p.start s)) key ≡ false → Sought s key from to p.next es
    search-on e = record { rest = t.entry.others; lies = t.behind; same_place = placed e }

-- ---- what stands at a key's place

pub place_of-seeks : {s : List ℕ} (key : List ℕ) (at : ℕ) (es : Entries) → Stands s at (encode es) → Seeks s (get key es) (place_of key at es)
unfolding get place_of
place_of-seeks key at done st = refl
place_of-seeks {s} key at (pair k v es) st = go _ (same k key) (place_of-seeks key (at + 6 + length k + length (encode v)) es (others-stand k v es st))
  where
    go : (r : Found) (b : Bool) → Seeks s (get key es) r → Seeks s (if b then some v else get key es) (if b then found.At (at + 6 + length k) else r)
    go r true more = record { value = v; is = refl; stands = value-stands k v es st }
    go r false more = more

get-ranged : (k : List ℕ) (es : Entries) {v : Yaml} → Ranged es → get k es ≡ some v → Ranged v
unfolding get
get-ranged k done r e = absurd (let z : ◌≡◌ {A = ℕ} 0 1 = cc in omega arith)
get-ranged k (pair j u es) {v} r e = go (same j k) (get-ranged k es r.1) e
  where
    go : (b : Bool) → (get k es ≡ some v → Ranged v) → (if b then some u else get k es) ≡ some v → Ranged v
    go true more e = subst Ranged (some-injective u v e) r.0
    go false more e = more e

pub finds : {s : List ℕ} {from to : ℕ} {r : Found} (key : List ℕ) (es : Entries) → Holds s from to es → r ≡ place_of key from es → Finds s (get key es) r
finds {s} {from} {r = r} key es h e = go r (subst (Seeks s (get key es)) (sym e) (place_of-seeks key from es h.lies.stands))
  where
    go : (q : Found) → Seeks s (get key es) q → Finds s (get key es) q
    go (found.At p) f = record { value = f.value; is = f.is; ranged = get-ranged key es h.ranged f.is; stands = f.stands }
    go found.Nothing f = f

pub key-there : (key : List ℕ) (at : ℕ) (es : Entries) {p : ℕ} → place_of key at es ≡ found.At p → true ≡ has_key key es
unfolding place_of has_key
key-there key at done e = absurd (let z : ◌≡◌ {A = ℕ} 0 1 = cc in omega arith)
key-there key at (pair k v es) {p} e = go (same k key) (key-there key (at + 6 + length k + length (encode v)) es) e
  where
    go : {r : Found} (b : Bool) → (r ≡ found.At p → true ≡ has_key key es) → (if b then found.At (at + 6 + length k) else r) ≡ found.At p → true ≡ (b || has_key key es)
    go true more e = refl
    go false more e = more e

pub key-missing : (key : List ℕ) (at : ℕ) (es : Entries) → place_of key at es ≡ found.Nothing → false ≡ has_key key es
unfolding place_of has_key
key-missing key at done e = refl
key-missing key at (pair k v es) e = go (same k key) (key-missing key (at + 6 + length k + length (encode v)) es) e
  where
    go : {r : Found} (b : Bool) → (r ≡ found.Nothing → false ≡ has_key key es) → (if b then found.At (at + 6 + length k) else r) ≡ found.Nothing → false ≡ (b || has_key key es)
    go true more e = absurd (let z : ◌≡◌ {A = ℕ} 0 1 = cc in omega arith)
    go false more e = more e

-- entries by the bytes between two places
pub lies-between : (s : List ℕ) (from to : ℕ) (es : Entries) → from ≤ to → to ≤ length s → take (to - from) (drop from s) ≡ encode es → Lies s from to es
lies-between s from to es h g e =
    let n : length (encode es) ≡ to - from = ap length (sym e) ∙ simp (length-take, length-drop) (omega arith) in
    record {
      stands = record {
        rest = drop (to - from) (drop from s);
        here = sym (take-append-drop (to - from) (drop from s)) ∙ ap (λ (l : List ℕ). l ++ drop (to - from) (drop from s)) e;
        within = omega arith;
      };
      ends = omega arith;
    }

-- a key that was looked for in a part
pub ruleset keys = (key-there, key-missing)
