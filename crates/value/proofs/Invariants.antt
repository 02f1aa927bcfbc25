-- A turn of each loop: what is left to be read decides as all of it does. Assumes nothing.
use Rattle.std.specs.Prelude.{if◌then◌else◌}
use Rattle.std.proofs.Common.{◌≡◌, refl, sym, ap, ◌∙◌, ℕ, zero, suc, ◌+◌, ◌-◌, ◌≤◌, ◌<◌, arith, List, [], ◌∷◌, Bool, true, false, ◌&&◌, ◌||◌, not, length, take, drop, drop_of_length-le, length-drop, ne_eqb, eqb-true, eqb}
use Rattle.std.proofs.lemmas.Bool.{false≢true, eqb-false, and_parts}
use Rattle.std.proofs.lemmas.List.{take_rest}
use Rattle.std.proofs.Math.Option.{Option, none, some, none-ne-some, some-injective}
use Rattle.refusal.specs.Base.{maybe}
use Rattle.refusal.proofs.Tools.{chosen}
use Rattle.utf8.specs.Utf8.{is_utf8}
use Rattle.item.specs.Tree.{Yaml, Items, Entries, ◌▸◌, done, pair, has_key}
use Rattle.item.specs.Encode.{encode, Bytes}
use Rattle.item.specs.Decode.{◌>>=◌, header, unkey, decode_items, decode_entries, decode}
use Rattle.item.proofs.Exact.{got, none≢, entries-inv, decode-exact}
use Rattle.meaning.specs.Sound.{sound}
use Rattle.value.specs.Tree.{tree, accepts, accepts_items, accepts_entries}
use Rattle.entries.specs.Entries.{Lies, key_twice}
use Rattle.entries.proofs.Walking.{lies-between}
use Rattle.value.specs.Walks.{ReadAt, Walks}
use Rattle.std.specs.Bool.{then_some}
use Rattle.value.proofs.Contents.{no_header, content-refused, content-taken}
use Rattle.item.specs.Places.{header_at}
use Rattle.item.specs.declared.Item.{Item}
use Rattle.item.specs.declared.Broken.{Broken}
use Rattle.item.proofs.HeaderPlaces.{at_cut}
use Rattle.item.proofs.Headers.{spans, header-item, no_header as no-item-there}
use Rattle.std.specs.Prelude.{Ok, Err, None}

-- ---- trees

-- what a tree that was read tells
pub record Taken (l : ℕ) (bs : List ℕ) (y : Yaml) (rest : List ℕ) : Type 0 where
  pub is : decode l bs ≡ some (y, rest)
  pub kept : sound y ≡ true

pub taken : (l : ℕ) (bs : List ℕ) (y : Yaml) (rest : List ℕ) → tree l bs ≡ some (y, rest) → Taken l bs y rest
unfolding tree
taken l bs y rest e = got (decode l bs) _ (y, rest) e λ x p e. chosen (sound x.0) _ _ e
    (λ t r. let q : ◌≡◌ {A = Yaml × List ℕ} x (y, rest) = some-injective _ _ r in
    record { is = p ∙ ap some q; kept = ap (λ (x : Yaml × List ℕ). sound x.0) (sym q) ∙ t })
    (λ _ r. none≢ (y, rest) r)

-- what becomes of a tree that was refused
left_out : {B : Type 0} (l : ℕ) (bs : List ℕ) (f : Yaml × List ℕ → Option B) (p : B → Bool) → tree l bs ≡ none
    → ((x : Yaml × List ℕ) → sound x.0 ≡ false → maybe (f x) false p ≡ false) → maybe (decode l bs >>= f) false p ≡ false
unfolding tree ◌>>=◌ maybe
left_out {B} l bs f p e h = go (decode l bs) e
  where
    go : (o : Option (Yaml × List ℕ)) → (o >>= λ (x : Yaml × List ℕ). if sound x.0 then some x else none) ≡ none → maybe (o >>= f) false p ≡ false
    go none e = refl
    go (some x) e = chosen (sound x.0) _ _ e (λ _ r. absurd (none-ne-some x (sym r))) (λ t _. h x t)

-- ---- an item, by its header

module _ (l : ℕ) (s : List ℕ) (at : ℕ) where
  pub value-broken : {broken : Broken} → Err broken ≡ header_at s at → tree l (drop at s) ≡ none
  value-broken h = no_header l (drop at s) (no-item-there s at h)

  pub value-missing : length s ≤ at → tree l (drop at s) ≡ none
  value-missing h = value-broken (sym (at_cut s at (omega arith)))

  module _ {item : Item} (h : Ok item ≡ header_at s at) where
    pub value-bad : accepts l item.kind (take (item.to - item.from) (drop item.from s)) ≡ false → tree l (drop at s) ≡ none
    value-bad e = content-refused l (drop at s) _ _ _ (header-item s at h) e

    pub value-read : accepts l item.kind (take (item.to - item.from) (drop item.from s)) ≡ true → ReadAt (tree l) s at item.to
    value-read e =
        let i = spans s at h in
        let t = content-taken l (drop at s) _ _ _ (header-item s at h) e in
        record { value = t.value; is = t.is; forward = omega (arith, i.start, i.order); fits = i.fits }

  pub no_value : header (drop at s) ≡ none → Walks (tree l) s at None
  no_value h = no_header l (drop at s) h

  pub value_ends : {item : Item} → Ok item ≡ header_at s at → (b : Bool) {c : List ℕ} → b ≡ accepts l item.kind c → c ≡ take (item.to - item.from) (drop item.from s) → Walks (tree l) s at (then_some b item.to)
  value_ends {item} h true e p = value-read h (ap (accepts l item.kind) (sym p) ∙ sym e)
  value_ends {item} h false e p = value-bad h (ap (accepts l item.kind) (sym p) ∙ sym e)

-- ---- items

pub items_in : ℕ → ℕ → List ℕ → Bool
items_in l t bs = maybe (decode_items (λ r. decode l r) t bs) false sound

items-step : (l t : ℕ) (bs : List ℕ) → 0 < length bs
    → decode_items (λ r. decode l r) (suc t) bs ≡ (decode l bs >>= λ (x : Yaml × List ℕ). decode_items (λ r. decode l r) t x.1 >>= λ ys. some (x.0 ▸ ys))
unfolding decode_items
items-step l t [] h = absurd (omega arith)
items-step l t (b ∷ bs) h = refl

items-on : (l t : ℕ) (bs rest : List ℕ) (y : Yaml) → 0 < length bs → tree l bs ≡ some (y, rest) → items_in l (suc t) bs ≡ items_in l t rest
unfolding items_in maybe ◌>>=◌ sound
items-on l t bs rest y h e = let w = taken l bs y rest e in rw (items-step l t bs h, w.is) (go (decode_items (λ r. decode l r) t rest))
  where
    go : (o : Option Items) → maybe (o >>= λ ys. some (y ▸ ys)) false sound ≡ maybe o false sound
    go none = refl
    go (some ys) = rw (taken l bs y rest e).kept

items-stop : (l t : ℕ) (bs : List ℕ) → 0 < length bs → tree l bs ≡ none → items_in l (suc t) bs ≡ false
unfolding items_in maybe ◌>>=◌ sound
items-stop l t bs h e = rw (items-step l t bs h) (left_out l bs _ sound e λ x k. go x k (decode_items (λ r. decode l r) t x.1))
  where
    go : (x : Yaml × List ℕ) → sound x.0 ≡ false → (o : Option Items) → maybe (o >>= λ ys. some (x.0 ▸ ys)) false sound ≡ false
    go x k none = refl
    go x k (some ys) = rw k

-- where a loop over items stands: all hangs on those that are left
pub record Items-left (l : ℕ) (s : List ℕ) (at : ℕ) : Type 0 where
  pub turns : ℕ
  pub enough : length s - at ≤ turns
  pub whole : accepts_items l s ≡ items_in l turns (drop at s)

pub items-start : (l : ℕ) (s : List ℕ) → Items-left l s 0
unfolding accepts_items items_in
items-start l s = record { turns = length s; enough = omega arith; whole = refl }

module _ {l : ℕ} {s : List ℕ} {at : ℕ} (w : Items-left l s at) where
  pub items-end : length s ≤ at → true ≡ accepts_items l s
  unfolding items_in decode_items maybe sound
  items-end h = sym (w.whole ∙ rw (drop_of_length-le s {i = at} h) (go w.turns))
    where
      go : (t : ℕ) → items_in l t [] ≡ true
      go zero = refl
      go (suc t) = refl

  pub items-next : {to : ℕ} → at < length s → ReadAt (tree l) s at to → Items-left l s to
  items-next {to} h r = go w.turns w.enough w.whole
    where
      go : (t : ℕ) → length s - at ≤ t → accepts_items l s ≡ items_in l t (drop at s) → Items-left l s to
      go zero m e = absurd (omega arith)
      go (suc t) m e = record {
        turns = t;
        enough = omega (arith, r.forward);
        whole = e ∙ items-on l t (drop at s) _ r.value (omega (arith, length-drop at s)) r.is;
      }

  pub items-fail : at < length s → tree l (drop at s) ≡ none → false ≡ accepts_items l s
  items-fail h r = go w.turns w.enough w.whole
    where
      go : (t : ℕ) → length s - at ≤ t → accepts_items l s ≡ items_in l t (drop at s) → false ≡ accepts_items l s
      go zero m e = absurd (omega arith)
      go (suc t) m e = sym (e ∙ items-stop l t (drop at s) (omega (arith, length-drop at s)) r)

-- ---- entries

-- each entry by itself is sound: its key is UTF-8, and its value sound
unfoldable pub each_sound : Entries → Bool
each_sound done = true
each_sound (pair k v es) = is_utf8 k && (sound v && each_sound es)

-- whether such entries stand up to the end, read in so many turns
unfoldable pub entries_in : ℕ → ℕ → List ℕ → Bool
entries_in levels turns bs = maybe (decode_entries (λ r. decode levels r) turns bs) false each_sound

-- an entry at a place is good, and all hangs on those behind it
pub record Onward (levels : ℕ) (s : List ℕ) (at to : ℕ) : Type 0 where
  pub is : (turns : ℕ) → entries_in levels (suc turns) (drop at s) ≡ entries_in levels turns (drop to s)
  pub forward : at + 6 ≤ to
  pub fits : to ≤ length s

entries-step : (l t : ℕ) (bs : List ℕ) → 0 < length bs
    → decode_entries (λ r. decode l r) (suc t) bs ≡ (unkey bs >>= λ (k : List ℕ × List ℕ). decode l k.1 >>= λ (x : Yaml × List ℕ). decode_entries (λ r. decode l r) t x.1 >>= λ es. some (pair k.0 x.0 es))
unfolding decode_entries
entries-step l t [] h = absurd (omega arith)
entries-step l t (b ∷ bs) h = refl

module _ (l : ℕ) (bs : List ℕ) (long : 0 < length bs) (t : ℕ) where
  pub no_key : header bs ≡ none → entries_in l (suc t) bs ≡ false
  unfolding entries_in unkey maybe ◌>>=◌
  no_key e = rw (entries-step l t bs long, e)

  module _ (kind : ℕ) (k r : List ℕ) (e : header bs ≡ some (kind, k, r)) where
    pub other-kind : (kind ≡ 3 → ⊥) → entries_in l (suc t) bs ≡ false
    unfolding entries_in unkey maybe ◌>>=◌
    other-kind h = rw (entries-step l t bs long, e, ne_eqb kind 3 h)

    module _ (three : kind ≡ 3) where
      keyed : unkey bs ≡ some (k, r)
      unfolding unkey ◌>>=◌
      keyed = rw (e, three)

      -- the entry with this key, and those behind its value
      behind : Yaml × List ℕ → Option Entries
      behind x = decode_entries (λ r. decode l r) t x.1 >>= λ es. some (pair k x.0 es)

      opened : entries_in l (suc t) bs ≡ maybe (decode l r >>= behind) false each_sound
      unfolding entries_in behind ◌>>=◌
      opened = rw (entries-step l t bs long, keyed)

      pub key-not-utf8 : is_utf8 k ≡ false → entries_in l (suc t) bs ≡ false
      unfolding maybe ◌>>=◌ behind each_sound
      key-not-utf8 h = opened ∙ go (decode l r)
        where
          last : (x : Yaml × List ℕ) (o : Option Entries) → maybe (o >>= λ es. some (pair k x.0 es)) false each_sound ≡ false
          last x none = refl
          last x (some es) = rw h

          go : (o : Option (Yaml × List ℕ)) → maybe (o >>= behind) false each_sound ≡ false
          go none = refl
          go (some x) = last x (decode_entries (λ r. decode l r) t x.1)

      pub value-refused : tree l r ≡ none → entries_in l (suc t) bs ≡ false
      unfolding maybe ◌>>=◌ behind each_sound
      value-refused h = opened ∙ left_out l r behind each_sound h λ x q. last x q (decode_entries (λ r. decode l r) t x.1)
        where
          last : (x : Yaml × List ℕ) → sound x.0 ≡ false → (o : Option Entries) → maybe (o >>= λ es. some (pair k x.0 es)) false each_sound ≡ false
          last x q none = refl
          last x q (some es) = rw q (go (is_utf8 k))
            where
              go : (a : Bool) → (a && false) ≡ false
              go true = refl
              go false = refl

      pub value_taken : (y : Yaml) (rest : List ℕ) → tree l r ≡ some (y, rest) → is_utf8 k ≡ true → entries_in l (suc t) bs ≡ entries_in l t rest
      unfolding maybe ◌>>=◌ behind each_sound entries_in
      value_taken y rest v u = opened ∙ rw (taken l r y rest v).is (go (decode_entries (λ r. decode l r) t rest))
        where
          go : (o : Option Entries) → maybe (o >>= λ es. some (pair k y es)) false each_sound ≡ maybe o false each_sound
          go none = refl
          go (some es) = rw (u, (taken l r y rest v).kept)

-- sound entries: each by itself, and no key twice
sound-each : (es : Entries) → sound es ≡ each_sound es && not (key_twice es)
unfolding sound each_sound key_twice
sound-each done = refl
sound-each (pair k v es) = rw (sound-each es) (go (is_utf8 k) (has_key k es) (sound v) (each_sound es) (key_twice es))
  where
    go : (a b c d e : Bool) → (a && (not b && (c && (d && not e)))) ≡ ((a && (c && d)) && not (b || e))
    go false b c d e = refl
    go true true false d e = refl
    go true true true false e = refl
    go true true true true e = refl
    go true false false d e = refl
    go true false true false e = refl
    go true false true true e = refl

module _ (l : ℕ) (s : List ℕ) where
  pub each-refused : false ≡ entries_in l (length s) s → false ≡ accepts_entries l s
  unfolding entries_in accepts_entries maybe
  each-refused h = go (decode_entries (λ r. decode l r) (length s) s) h
    where
      go : (o : Option Entries) → false ≡ maybe o false each_sound → false ≡ maybe o false sound
      go none e = refl
      go (some es) e = sym (sound-each es ∙ rw (sym e))

  pub each-taken : Bytes s → true ≡ entries_in l (length s) s → (b : Bool) → ((es : Entries) → Lies s 0 (length s) es → b ≡ key_twice es) → not b ≡ accepts_entries l s
  unfolding entries_in accepts_entries maybe
  each-taken bytes h b twice = go (decode_entries (λ r. decode l r) (length s) s) refl h
    where
      go : (o : Option Entries) → decode_entries (λ r. decode l r) (length s) s ≡ o → true ≡ maybe o false each_sound → not b ≡ maybe o false sound
      go none p e = absurd (false≢true (sym e))
      go (some es) p e =
          let is : s ≡ encode es = entries-inv (λ r. decode l r) (decode-exact l) (length s) s es bytes p in
          let lies : Lies s 0 (length s) es = lies-between s 0 (length s) es (omega arith) (omega arith) (take_rest s 0 ∙ is) in
          sym (sound-each es ∙ rw (sym e) (ap not (sym (twice es lies))))

-- where a loop over entries stands
pub record Entries-left (l : ℕ) (s : List ℕ) (at : ℕ) : Type 0 where
  pub turns : ℕ
  pub enough : length s - at ≤ turns
  pub whole : entries_in l (length s) s ≡ entries_in l turns (drop at s)

module _ {l : ℕ} {s : List ℕ} {at : ℕ} (w : Entries-left l s at) where
  pub entries-end : length s ≤ at → true ≡ entries_in l (length s) s
  unfolding entries_in decode_entries maybe each_sound
  entries-end h = sym (w.whole ∙ rw (drop_of_length-le s {i = at} h) (go w.turns))
    where
      go : (t : ℕ) → entries_in l t [] ≡ true
      go zero = refl
      go (suc t) = refl

  pub entries_next : {to : ℕ} → at < length s → Onward l s at to → Entries-left l s to
  entries_next {to} h r = go w.turns w.enough w.whole
    where
      go : (t : ℕ) → length s - at ≤ t → entries_in l (length s) s ≡ entries_in l t (drop at s) → Entries-left l s to
      go zero m e = absurd (omega arith)
      go (suc t) m e = record { turns = t; enough = omega (arith, r.forward); whole = e ∙ r.is t }

  pub entries-fail : at < length s → ((t : ℕ) → entries_in l (suc t) (drop at s) ≡ false) → false ≡ accepts_entries l s
  entries-fail h r = each-refused l s (go w.turns w.enough w.whole)
    where
      go : (t : ℕ) → length s - at ≤ t → entries_in l (length s) s ≡ entries_in l t (drop at s) → false ≡ entries_in l (length s) s
      go zero m e = absurd (omega arith)
      go (suc t) m e = sym (e ∙ r t)

-- an entry by the headers of its key and its value
module _ (l : ℕ) (s : List ℕ) (at : ℕ) {key : Item} (h : Ok key ≡ header_at s at) (low : at < length s) where
  abbrev text : List ℕ
  text = take (key.to - key.from) (drop key.from s)

  long : 0 < length (drop at s)
  long = omega (arith, length-drop at s)

  pub key-bad : eqb key.kind 3 && is_utf8 text ≡ false → (t : ℕ) → entries_in l (suc t) (drop at s) ≡ false
  key-bad n t = go (eqb key.kind 3) refl n
    where
      go : (b : Bool) → eqb key.kind 3 ≡ b → b && is_utf8 text ≡ false → entries_in l (suc t) (drop at s) ≡ false
      go true e f = key-not-utf8 l (drop at s) long t key.kind text (drop key.to s) (header-item s at h) (eqb-true key.kind 3 e) f
      go false e f = other-kind l (drop at s) long t key.kind text (drop key.to s) (header-item s at h) (eqb-false key.kind 3 e)

  module _ (is_text : eqb key.kind 3 && is_utf8 text ≡ true) where
    three : key.kind ≡ 3
    three = eqb-true key.kind 3 (and_parts _ _ is_text).0

    pub beside-bad : tree l (drop key.to s) ≡ none → (t : ℕ) → entries_in l (suc t) (drop at s) ≡ false
    beside-bad e t = value-refused l (drop at s) long t key.kind text (drop key.to s) (header-item s at h) three e

    pub entry-read : {to : ℕ} → ReadAt (tree l) s key.to to → Onward l s at to
    entry-read {to} r =
        let i = spans s at h in
        record {
          is = λ t. value_taken l (drop at s) long t key.kind text (drop key.to s) (header-item s at h) three r.value (drop to s) r.is (and_parts _ _ is_text).1;
          forward = omega (arith, r.forward, i.start, i.order);
          fits = r.fits;
        }
