-- Where the loops of the readers of collections stand, and what each of their turns comes to. Assumes nothing.
use Rattle.std.specs.Prelude.{Result, Ok, Err, if◌then◌else◌}
use Rattle.std.proofs.Common.{◌≡◌, refl, sym, ap, ◌∙◌, subst, ⊎_elim, ℕ, suc, ◌+◌, ◌-◌, ◌≤◌, ◌<◌, arith, List, ◌∷◌, ◌++◌, append_assoc, append-nil, Bool, true, false, not, ◌||◌, ltb, length, drop, take, get_or, length-append, length-drop, drop_of_length-le, drop_at, Bor, take-take, length-take-le, lt-ltb, le-ltb, eq-eqb, ne_eqb}
use Rattle.std.proofs.Math.Bool.{or-true, or_assoc, false≢true}
use Rattle.std.proofs.Math.Seq.{sets, length-sets, sets-eq}
use Rattle.std.proofs.lemmas.List.{drop_more, drop-take}
use Rattle.refusal.specs.Base.{Answer, good, refused, ◌>>=◌, ◌>>◌, ensure, ch, same}
use Rattle.item.specs.Tree.{Yaml, Items, end, ◌▸◌, ◌◂◌, no_item, Entries, done, pair, add, no_entry, has_key}
use Rattle.item.specs.Encode.{item, encode}
use Rattle.item.proofs.Size.{encode-long, item-length}
use Rattle.item.proofs.Same.{same_refl, same-eq, same-ne}
use Rattle.item.proofs.Joined.{has-add}
use Rattle.writer.specs.declared.Writer.{Writer}
use Rattle.writer.specs.Writing.{cap_of, Appends, Keeps, CutsBack}
use Rattle.writer.proofs.Laws.{appends_none, appends_more, len_appended, keeps_appended, keeps_same, keeps_more, keeps_cut}
use Rattle.entries.specs.Entries.{Lies, key_twice}
use Rattle.entries.proofs.Parts.{in_part}
use Rattle.entries.proofs.Standing.{stands-part}
use Rattle.entries.proofs.Walking.{lies-between}
use Rattle.entries.proofs.Twice.{add-bytes}
use Rattle.scalar.specs.declared.Role.TheVariants.{AsValue}
use Rattle.scalar.specs.Read.{Got, Reader, stop}
use Rattle.refusal.specs.declared.Refusal.{Refusal}
use Rattle.refusal.specs.declared.Refusal.TheVariants.{FlowMappingOpen, FlowSequenceOpen, KeyTwice, StuckSequence}
use Rattle.scalar.specs.Contract.{written, Refuses, WroteValue}
use Rattle.flow.specs.Flow.{stuck, items, entries, fresh, value}
use Rattle.flow.specs.Contract.{separates, skip_separators, flow_items, flow_entries, entry_of, Wrote, Reads, pair_bytes, end_of, ClosedBy, ReadsEntries}
use Rattle.flow.proofs.Progress.{Takes, first, value-takes, items-none, items-enough, entries_none, entries-enough, first-le, first-snoc, turn-less}
use Rattle.flow.proofs.Cases.{comma-off, items-skip, items-close, items-stuck, items-item, entries-skip, entries-close, entries-entry}

-- ---- what is written

pub snoc-bytes : (ys : Items) (y : Yaml) → encode (ys ◂ y) ≡ encode ys ++ encode y
unfolding encode ◌◂◌
snoc-bytes end y = append-nil (encode y)
snoc-bytes (x ▸ ys) y = ap (λ (l : List ℕ). encode x ++ l) (snoc-bytes ys y) ∙ sym (append_assoc (encode x) (encode ys) (encode y))

-- whether there is an item is whether there are bytes
some-items : (ys : Items) (at p : ℕ) → p ≡ at + length (encode ys) → not (no_item ys) ≡ ltb at p
unfolding encode no_item
some-items end at p e = sym (le-ltb at p (omega arith))
some-items (y ▸ ys) at p e = sym (lt-ltb at p (omega (arith, encode-long y, length-append (encode y) (encode ys))))

some-entries : (es : Entries) (at p : ℕ) → p ≡ at + length (encode es) → not (no_entry es) ≡ ltb at p
unfolding encode no_entry
some-entries done at p e = sym (le-ltb at p (omega arith))
some-entries (pair k v es) at p e = sym (lt-ltb at p (omega (arith, item-length 3 k, length-append (item 3 k) (encode v ++ encode es))))

first-none : (cap n : ℕ) (ys : Items) → first cap n ys ≡ 1 → length (encode ys) ≡ 0
unfolding first encode
first-none cap n end e = refl
first-none cap n (y ▸ ys) e = absurd (omega arith)

-- ---- sequences

-- the items so far, from whose end the definition goes on as from the start
pub record Listed (s : List ℕ) (start levels n : ℕ) (old now : Writer) (i : ℕ) : Type 0 where
  pub got : Items
  pub same : flow_items (cap_of old) n levels old.used (drop start s)
      ≡ items (cap_of old) n (value (cap_of old) n levels true) (suc (length (drop i s))) got now.used (drop i s)
  pub appends : Appends old now (encode got)
  pub within : i ≤ length s

pub listed_start : (s : List ℕ) (start levels n : ℕ) (old : Writer) → start ≤ length s → Listed s start levels n old old start
unfolding encode flow_items
listed_start s start levels n old w = record { got = end; same = refl; appends = appends_none old; within = w }

-- the same at a place where no separator stands
pub record ListedAt (s : List ℕ) (start levels n : ℕ) (old now : Writer) (i : ℕ) : Type 0 where
  pub listed : Listed s start levels n old now i
  pub other : i < length s → separates (ltb old.used now.used) (get_or s i 0) ≡ false

-- separators are skipped
pub listed_at : {s : List ℕ} {start levels n : ℕ} {old out : Writer} {i : ℕ} (v : Listed s start levels n old out i) {before p j : ℕ} → before ≡ old.used → p ≡ out.used
    → drop j s ≡ skip_separators (ltb before p) (drop i s) → j ≤ length s → (j < length s → separates (ltb before p) (get_or s j 0) ≡ false) → ListedAt s start levels n old out j
unfolding first
listed_at {s} {start} {levels} {n} {old} {out} {i} v {before} {p} {j} f u e w o =
    let g : not (no_item v.got) ≡ ltb old.used out.used = some-items v.got old.used out.used v.appends.used in
    let k : drop j s ≡ skip_separators (not (no_item v.got)) (drop i s) = (rw (f, u) at e) ∙ ap (λ (b : Bool). skip_separators b (drop i s)) (sym g) in
    record {
      listed = record {
        got = v.got;
        same = v.same ∙ items-skip (cap_of old) n (value (cap_of old) n levels true) (value-takes (cap_of old) n levels true) (suc (length (drop i s))) v.got out.used (drop i s) (omega (arith, first-le (cap_of old) n v.got))
            ∙ ap (λ (l : List ℕ). items (cap_of old) n (value (cap_of old) n levels true) (suc (length l)) v.got out.used l) (sym k);
        appends = v.appends;
        within = w;
      };
      other = λ h. rw (f, u) at (o h);
    }

module _ {s : List ℕ} {start levels n : ℕ} {old out : Writer} {i : ℕ} (t : ListedAt s start levels n old out i) where
  abbrev v : Listed s start levels n old out i
  v = t.listed

  abbrev cap : ℕ
  cap = cap_of old

  abbrev inside : Reader
  inside = value cap n levels true

  abbrev p : ℕ
  p = out.used

  abbrev whole : Answer (Got Items)
  whole = flow_items cap n levels old.used (drop start s)

  pub list_open : length s ≤ i → Refuses whole old out (FlowSequenceOpen n)
  unfolding stop
  list_open h = record { is = v.same ∙ rw (drop_of_length-le s {i = i} h) (items-none cap n inside 1 v.got p); keeps = keeps_appended v.appends }

  module _ (h : i < length s) where
    sep-got : separates (not (no_item v.got)) (get_or s i 0) ≡ false
    sep-got = ap (λ (b : Bool). separates b (get_or s i 0)) (some-items v.got old.used p v.appends.used) ∙ t.other h

    here : items cap n inside (suc (length (drop i s))) v.got p (drop i s) ≡ items cap n inside (suc (suc (length (drop (i + 1) s)))) v.got p (get_or s i 0 ∷ drop (i + 1) s)
    here = ap (λ (l : List ℕ). items cap n inside (suc (length l)) v.got p l) (drop_more s i 0 h)

    pub list_close : get_or s i 0 ≡ ch "]" → Wrote {A = Items} encode whole s old out (i + 1)
    list_close e = record {
      got = v.got;
      is = v.same ∙ here ∙ items-close cap n inside (value-takes cap n levels true) (suc (length (drop (i + 1) s))) p (get_or s i 0) (drop (i + 1) s) v.got sep-got (eq-eqb (get_or s i 0) (ch "]") e);
      appends = v.appends;
      forward = omega arith;
    }

    module _ (c : get_or s i 0 ≡ ch "]" → ⊥) where
      pub list-stuck : stuck (get_or s i 0) (drop (i + 1) s) ≡ true → Refuses whole old out (StuckSequence n)
      unfolding stop
      list-stuck e = record {
        is = v.same ∙ here ∙ items-stuck cap n inside (value-takes cap n levels true) (suc (length (drop (i + 1) s))) p (get_or s i 0) (drop (i + 1) s) v.got sep-got (ne_eqb (get_or s i 0) (ch "]") c) e;
        keeps = keeps_appended v.appends;
      }

      module _ (e : stuck (get_or s i 0) (drop (i + 1) s) ≡ false) where
        one-item : items cap n inside (suc (length (drop i s))) v.got p (drop i s)
            ≡ (inside AsValue p (drop i s) >>= λ x. items cap n inside (suc (length (drop (i + 1) s))) (v.got ◂ x.0) x.1 x.2)
        one-item =
            here
            ∙ items-item cap n inside (value-takes cap n levels true) (suc (length (drop (i + 1) s))) p (get_or s i 0) (drop (i + 1) s) v.got sep-got (ne_eqb (get_or s i 0) (ch "]") c) e
            ∙ ap (λ (l : List ℕ). inside AsValue p l >>= λ x. items cap n inside (suc (length (drop (i + 1) s))) (v.got ◂ x.0) x.1 x.2) (sym (drop_more s i 0 h))

        abbrev Item : Answer (Got Yaml)
        Item = value (cap_of out) n levels true AsValue p (drop i s)

        -- the output is as long as it was
        as-long : Item ≡ inside AsValue p (drop i s)
        as-long = ap (λ (k : ℕ). value k n levels true AsValue p (drop i s)) (len_appended v.appends)

        pub list_stops : (new : Writer) (z : Refusal) → Refuses Item out new z → Refuses whole old new z
        unfolding ◌>>=◌
        list_stops new z r = record { is = v.same ∙ one-item ∙ rw (← as-long, r.is); keeps = keeps_more (keeps_appended v.appends) r.keeps }

        module _ (new : Writer) (j : ℕ) (key : Bool) (w : WroteValue AsValue Item s out new j key) where
          takes : Takes cap n inside
          takes = value-takes cap n levels true

          got-is : inside AsValue p (drop i s) ≡ good (w.tree, new.used, drop j s)
          got-is = sym as-long ∙ w.is

          left : length (drop j s) ≤ length (drop i s)
          left = takes.some_left AsValue p (drop i s) (w.tree, new.used, drop j s) got-is

          -- an item takes a byte, or is the first
          pub list_less : length s - j + (old.used + 1 - new.used) < length s - i + (old.used + 1 - p)
          unfolding written
          list_less =
              let grown : p < new.used = omega (arith, w.appends.used, encode-long w.tree) in
              let bi : length (drop i s) ≡ length s - i = length-drop i s in
              let bj : length (drop j s) ≡ length s - j = length-drop j s in
              let bn : length (drop (i + 1) s) ≡ length s - (i + 1) = length-drop (i + 1) s in
              let u : p ≡ old.used + length (encode v.got) = v.appends.used in
              let f : j ≤ length s = w.forward in
              ⊎_elim
              (λ z. let k : length (drop j s) ≤ length (drop (i + 1) s) = takes.takes AsValue p (get_or s i 0) (drop (i + 1) s) (w.tree, new.used, drop j s) z (ap (inside AsValue p) (sym (drop_more s i 0 h)) ∙ got-is) in omega arith)
              (λ z. let k : length (encode v.got) ≡ 0 = first-none cap n v.got z in omega (arith, left))
              (turn-less cap n (get_or s i 0) (drop (i + 1) s) v.got (ne_eqb (get_or s i 0) (ch "]") c)
              (comma-off cap n inside (value-takes cap n levels true) 0 p (get_or s i 0) (drop (i + 1) s) v.got sep-got (ne_eqb (get_or s i 0) (ch "]") c)) e)

          pub listed_next : Listed s start levels n old new j
          unfolding written ◌>>=◌
          listed_next =
              let z : first cap n (v.got ◂ w.tree) ≡ 0 = first-snoc cap n v.got w.tree in
              let bi : length (drop i s) ≡ suc (length (drop (i + 1) s)) = ap length (drop_more s i 0 h) in
              record {
                got = v.got ◂ w.tree;
                same = v.same ∙ one-item ∙ rw got-is
                    (items-enough cap n inside takes (suc (length (drop (i + 1) s))) (suc (length (drop j s))) (v.got ◂ w.tree) new.used (drop j s) (omega (arith, left)) (omega arith));
                appends = rw (snoc-bytes v.got w.tree) (appends_more v.appends w.appends);
                within = w.forward;
              }

-- ---- entries

-- what stands before a place that keeps its bytes
pub lies-kept : (old new : List ℕ) (at p : ℕ) (es : Entries) → take p new ≡ take p old → p ≤ length new → Lies old at p es → Lies new at p es
lies-kept old new at p es e h l =
    let m : ℕ = length (encode es) in
    let u : p ≡ at + m = l.ends in
    let d : p - at ≡ m = omega arith in
    lies-between new at p es (omega arith) h (
    ap (λ (k : ℕ). take k (drop at new)) d
    ∙ sym (drop-take at m new)
    ∙ ap (drop at) (ap (λ (k : ℕ). take k new) (sym u) ∙ e ∙ ap (λ (k : ℕ). take k old) u)
    ∙ drop-take at m old
    ∙ stands-part l.stands m refl)

-- entries that stand in some bytes stand in the front of them
pub lies_in_front : (s : List ℕ) (at p : ℕ) (es : Entries) → p ≤ length s → Lies s at p es → Lies (take p s) at p es
lies_in_front s at p es h l = lies-kept s (take p s) at p es (take-take p p s (omega arith)) (omega (arith, length-take-le p s h)) l

-- and so in the part of what is written that has their places
pub lies_in_written : {all part : Bor (List ℕ)} {start end from to at p : ℕ} {s : List ℕ} (es : Entries) → part ≡ all
    → (from ≤ to → to ≤ length all.now → (start ≡ from) × (end ≡ to)) → from ≡ at → to ≡ p → all.now ≡ take p s → p ≤ length s → Lies s at p es → Lies part.now start end es
lies_in_written {at = at} {p} {s} es b places f t w h l = in_part es b places (rw (f, t, w) (lies_in_front s at p es h l))

-- what a run of stores holds from its start on
pub stored-front : (l vs : List ℕ) (i : ℕ) → i + length vs ≤ length l → drop i (sets l i vs) ≡ vs ++ drop (i + length vs) l
stored-front l vs i h = rw (sets-eq vs l i h, append_assoc (take i l) vs (drop (i + length vs) l)) (drop_at (take i l) (vs ++ drop (i + length vs) l) i (length-take-le i l (omega arith)))

pub lies-stored : (old : List ℕ) (at p : ℕ) (es : Entries) → p ≡ at + length (encode es) → p ≤ length old → Lies (sets old at (encode es)) at p es
lies-stored old at p es e h = record {
  stands = record {
    rest = drop (at + length (encode es)) old;
    here = stored-front old (encode es) at (omega arith);
    within = omega (arith, length-sets old at (encode es));
  };
  ends = e;
}

same-sym : (a b : List ℕ) → same a b ≡ same b a
same-sym a b = go (same a b) refl
  where
    go : (t : Bool) → same a b ≡ t → t ≡ same b a
    go true e = sym (subst (λ (l : List ℕ). same l a ≡ true) (same-eq a b e) (same_refl a))
    go false e = sym (same-ne b a (λ q. false≢true (sym e ∙ subst (λ (l : List ℕ). same a l ≡ true) (sym q) (same_refl a))))

-- with one more entry a key stands twice if its key stands before it, or one did already
pub twice-add : (es : Entries) (k : List ℕ) (v : Yaml) → key_twice (add es k v) ≡ has_key k es || key_twice es
unfolding key_twice has_key add
twice-add done k v = refl
twice-add (pair j u es) k v =
    ap (λ (b : Bool). b || key_twice (add es k v)) (has-add es k j v) ∙ ap (λ (b : Bool). (has_key j es || same k j) || b) (twice-add es k v)
    ∙ ap (λ (b : Bool). (has_key j es || b) || (has_key k es || key_twice es)) (same-sym k j)
    ∙ regroup (has_key j es) (same j k) (has_key k es) (key_twice es)
  where
    regroup : (a b c d : Bool) → (a || b) || (c || d) ≡ (b || c) || (a || d)
    regroup true b c d = sym (or-true (b || c))
    regroup false b c d = sym (or_assoc b c d)

-- 18, which is judged of all entries and not of each
judged-on : (cap n : ℕ) (es : Entries) (k : List ℕ) (v : Yaml) (x : Answer (Got Entries))
    → (if key_twice es then refused 18 n 0 else (fresh cap n k es >> x)) ≡ (if key_twice (add es k v) then refused 18 n 0 else x)
unfolding fresh ensure ◌>>◌ ◌>>=◌
judged-on cap n es k v x = go (key_twice es) (has_key k es) ∙ ap (λ (b : Bool). if b then refused 18 n 0 else x) (sym (twice-add es k v))
  where
    go : (t h : Bool) → (if t then refused 18 n 0 else (ensure (not h) 18 n 0 >> x)) ≡ (if h || t then refused 18 n 0 else x)
    go true true = refl
    go true false = refl
    go false true = refl
    go false false = refl

-- the entries so far: if no key stands twice, the definition goes on from their end as from the start
pub record Mapped (s : List ℕ) (start levels n : ℕ) (old now : Writer) (i : ℕ) : Type 0 where
  pub got : Entries
  pub same : flow_entries (cap_of old) n levels old.used (drop start s)
      ≡ (if key_twice got then refused 18 n 0 else entries (cap_of old) n (value (cap_of old) n levels true) (suc (length (drop i s))) got now.used (drop i s))
  pub appends : Appends old now (encode got)
  pub within : i ≤ length s

pub mapped_start : (s : List ℕ) (start levels n : ℕ) (old : Writer) → start ≤ length s → Mapped s start levels n old old start
unfolding encode flow_entries key_twice
mapped_start s start levels n old w = record { got = done; same = refl; appends = appends_none old; within = w }

-- the same at a place where no separator stands
pub record MappedAt (s : List ℕ) (start levels n : ℕ) (old now : Writer) (i : ℕ) : Type 0 where
  pub mapped : Mapped s start levels n old now i
  pub other : i < length s → separates (ltb old.used now.used) (get_or s i 0) ≡ false

pub mapped_at : {s : List ℕ} {start levels n : ℕ} {old out : Writer} {i : ℕ} (v : Mapped s start levels n old out i) {before p j : ℕ} → before ≡ old.used → p ≡ out.used
    → drop j s ≡ skip_separators (ltb before p) (drop i s) → j ≤ length s → (j < length s → separates (ltb before p) (get_or s j 0) ≡ false) → MappedAt s start levels n old out j
mapped_at {s} {start} {levels} {n} {old} {out} {i} v {before} {p} {j} f u e w o =
    let g : not (no_entry v.got) ≡ ltb old.used out.used = some-entries v.got old.used out.used v.appends.used in
    let k : drop j s ≡ skip_separators (not (no_entry v.got)) (drop i s) = (rw (f, u) at e) ∙ ap (λ (b : Bool). skip_separators b (drop i s)) (sym g) in
    record {
      mapped = record {
        got = v.got;
        same = v.same ∙ ap (λ (a : Answer (Got Entries)). if key_twice v.got then refused 18 n 0 else a)
            (entries-skip (cap_of old) n (value (cap_of old) n levels true) (value-takes (cap_of old) n levels true) (suc (length (drop i s))) v.got out.used (drop i s) (omega arith)
            ∙ ap (λ (l : List ℕ). entries (cap_of old) n (value (cap_of old) n levels true) (suc (length l)) v.got out.used l) (sym k));
        appends = v.appends;
        within = w;
      };
      other = λ h. rw (f, u) at (o h);
    }

module _ {s : List ℕ} {start levels n : ℕ} {old out : Writer} {i : ℕ} (t : MappedAt s start levels n old out i) where
  abbrev mv : Mapped s start levels n old out i
  mv = t.mapped

  abbrev mcap : ℕ
  mcap = cap_of old

  abbrev minside : Reader
  minside = value mcap n levels true

  abbrev mp : ℕ
  mp = out.used

  abbrev Told : Result ℕ Refusal → Writer → Type 0
  Told e new = ReadsEntries (flow_entries mcap n levels old.used (drop start s)) n s old new e

  mtakes : Takes mcap n minside
  mtakes = value-takes mcap n levels true

  judged : (x : Answer (Got Entries)) → entries mcap n minside (suc (length (drop i s))) mv.got mp (drop i s) ≡ x
      → flow_entries mcap n levels old.used (drop start s) ≡ (if key_twice mv.got then refused 18 n 0 else x)
  judged x e = mv.same ∙ ap (λ (a : Answer (Got Entries)). if key_twice mv.got then refused 18 n 0 else a) e

  ends-here : (e : Result ℕ Refusal) (new : Writer) → entries mcap n minside (suc (length (drop i s))) mv.got mp (drop i s) ≡ end_of s mp mv.got e
      → Keeps out new → new.used ≡ mp → ClosedBy s old new mv.got e → Told e new
  ends-here e new is k u c = record {
    got = mv.got;
    is = judged _ is ∙ ap (λ (x : ℕ). if key_twice mv.got then refused 18 n 0 else end_of s x mv.got e) (sym u);
    keeps = keeps_more (keeps_appended mv.appends) k;
    lies = rw u (lies-kept out.out.now new.out.now old.used mp mv.got k.kept (omega (arith, new.within))
        (subst (λ (l : List ℕ). Lies l old.used mp mv.got) (sym mv.appends.out) (lies-stored old.out.now old.used mp mv.got mv.appends.used (omega (arith, out.within, len_appended mv.appends)))));
    closed = c;
  }

  pub map-open : length s ≤ i → Told (Err (FlowMappingOpen n)) out
  unfolding stop
  map-open h = ends-here (Err (FlowMappingOpen n)) out (rw (drop_of_length-le s {i = i} h, entries_none mcap n minside 1 mv.got mp)) (keeps_same refl) refl tt

  module _ (h : i < length s) where
    msep : separates (not (no_entry mv.got)) (get_or s i 0) ≡ false
    msep = ap (λ (b : Bool). separates b (get_or s i 0)) (some-entries mv.got old.used mp mv.appends.used) ∙ t.other h

    mhere : entries mcap n minside (suc (length (drop i s))) mv.got mp (drop i s) ≡ entries mcap n minside (suc (suc (length (drop (i + 1) s)))) mv.got mp (get_or s i 0 ∷ drop (i + 1) s)
    mhere = ap (λ (l : List ℕ). entries mcap n minside (suc (length l)) mv.got mp l) (drop_more s i 0 h)

    pub map-close : get_or s i 0 ≡ ch "}" → Told (Ok (i + 1)) out
    map-close e = ends-here (Ok (i + 1)) out
        (mhere ∙ entries-close mcap n minside mtakes (suc (length (drop (i + 1) s))) mp (get_or s i 0) (drop (i + 1) s) mv.got msep (eq-eqb (get_or s i 0) (ch "}") e))
        (keeps_same refl) refl (omega arith, mv.appends)

    module _ (c : get_or s i 0 ≡ ch "}" → ⊥) where
      one_entry : entries mcap n minside (suc (length (drop i s))) mv.got mp (drop i s)
          ≡ (entry_of mcap n minside mp (drop i s)
          >>= λ x. fresh mcap n x.0.0 mv.got >> entries mcap n minside (suc (length (drop (i + 1) s))) (add mv.got x.0.0 x.0.1) x.1 x.2)
      one_entry =
          mhere
          ∙ entries-entry mcap n minside mtakes (suc (length (drop (i + 1) s))) mp (get_or s i 0) (drop (i + 1) s) mv.got msep (ne_eqb (get_or s i 0) (ch "}") c)
          ∙ ap (λ (l : List ℕ). entry_of mcap n minside mp l
          >>= λ x. fresh mcap n x.0.0 mv.got >> entries mcap n minside (suc (length (drop (i + 1) s))) (add mv.got x.0.0 x.0.1) x.1 x.2) (sym (drop_more s i 0 h))

      abbrev Entry : Answer (Got (List ℕ × Yaml))
      Entry = entry_of (cap_of out) n (value (cap_of out) n levels true) mp (drop i s)

      entry-long : Entry ≡ entry_of mcap n minside mp (drop i s)
      entry-long = ap (λ (k : ℕ). entry_of k n (value k n levels true) mp (drop i s)) (len_appended mv.appends)

      -- an entry that is refused is taken back
      pub map_stops : (mid new : Writer) (z : Refusal) → Refuses Entry out mid z → CutsBack mid new mp → Told (Err z) new
      unfolding ◌>>=◌
      map_stops mid new z r b = ends-here (Err z) new (one_entry ∙ rw (← entry-long, r.is)) (keeps_cut r.keeps b) b.used tt

      pub mapped_next : (new : Writer) (j : ℕ) → Wrote pair_bytes Entry s out new j → i < j → Mapped s start levels n old new j
      unfolding ◌>>=◌
      mapped_next new j w on =
          let bj : length (drop j s) ≡ length s - j = length-drop j s in
          let bn : length (drop (i + 1) s) ≡ length s - (i + 1) = length-drop (i + 1) s in
          let k : List ℕ = w.got.0 in
          let y : Yaml = w.got.1 in
          let es : Entries = add mv.got k y in
          let f : j ≤ length s = w.forward in
          record {
            got = es;
            same = judged _ (one_entry ∙ rw (← entry-long, w.is)) ∙ judged-on mcap n mv.got k y _
                ∙ ap (λ (a : Answer (Got Entries)). if key_twice es then refused 18 n 0 else a)
                (entries-enough mcap n minside mtakes (suc (length (drop (i + 1) s))) (suc (length (drop j s))) es new.used (drop j s) (omega arith) (omega arith));
            appends = rw (add-bytes mv.got k y) (appends_more mv.appends w.appends);
            within = w.forward;
          }

-- ---- a mapping, once its entries are read and judged

module _ (s : List ℕ) (answer : Answer (Got Entries)) (n : ℕ) (old out : Writer) (e : Result ℕ Refusal) (v : ReadsEntries answer n s old out e)
    (found : Bool) (k : (es : Entries) → Lies out.out.now old.used out.used es → found ≡ key_twice es) where
  decided : found ≡ key_twice v.got
  decided = k v.got v.lies

  pub mapping_twice : found ≡ true → Refuses answer old out (KeyTwice n)
  mapping_twice t = record { is = rw (v.is, ← decided, t); keeps = v.keeps }

  pub mapping_done : found ≡ false → Reads {A = Entries} encode answer s old out e
  mapping_done f = go e v.closed (rw (← decided, f) at v.is)
    where
      go : (e : Result ℕ Refusal) → ClosedBy s old out v.got e → answer ≡ end_of s out.used v.got e → Reads {A = Entries} encode answer s old out e
      go (Ok j) c q = record { got = v.got; is = q; appends = c.1; forward = c.0 }
      go (Err z) c q = record { is = q; keeps = v.keeps }

pub ruleset lists = (listed_start, listed_at, list_open, list_close, list-stuck, list_stops, list_less, listed_next)

pub ruleset maps = (mapped_start, mapped_at, map-open, map-close, map_stops, mapped_next)

pub ruleset mappings = (mapping_twice, mapping_done, lies_in_front)
