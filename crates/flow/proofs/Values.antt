-- What a value and an entry come to, by the bytes at their places. Assumes nothing.
use Rattle.std.specs.Prelude.{Result, Ok, Err, IsErrAnd}
use Rattle.std.proofs.Common.{◌≡◌, refl, sym, ap, ◌∙◌, ◌⊎◌, inl, inr, ⊎_elim, ℕ, zero, suc, ◌+◌, ◌-◌, ◌≤◌, ◌<◌, arith, List, ◌∷◌, Bool, true, false, length, drop, get_or, length-drop, drop_of_length-le, eq-eqb, ne_eqb, le-leb}
use Rattle.std.proofs.Math.Bool.{false≢true}
use Rattle.std.proofs.Math.Option.{none, some}
use Rattle.std.proofs.lemmas.Bool.{lt-leb}
use Rattle.std.proofs.lemmas.List.{drop_more}
use Rattle.refusal.specs.Base.{Answer, good, refused, ◌>>=◌, ◌>>◌, ensure, given, ch, empty}
use Rattle.refusal.proofs.Tools.{err_is}
use Rattle.refusal.specs.declared.Refusal.{Refusal}
use Rattle.refusal.specs.declared.Refusal.TheVariants.{KeyNotScalar, KeyWithoutColon, TextAfterValue}
use Rattle.item.specs.Tree.{Yaml, null, bool, int, str, seq, dict, Items, Entries}
use Rattle.item.specs.Encode.{head, item, encode}
use Rattle.writer.specs.declared.Writer.{Writer}
use Rattle.writer.specs.Writing.{cap_of, Appends, Begins, Fills}
use Rattle.writer.proofs.Laws.{appends_more, filled, len_appended, keeps_appended, keeps_begun, keeps_more, keeps_same}
use Rattle.utf8.specs.Places.{First}
use Rattle.utf8.proofs.Places.{found_or, kept_to}
use Rattle.number.specs.Integers.{int_text}
use Rattle.scalar.specs.declared.Role.{Role}
use Rattle.scalar.specs.declared.Role.TheVariants.{AsValue, AsKey}
use Rattle.scalar.specs.declared.Parsed.{Parsed}
use Rattle.scalar.specs.Scalars.{key_text, bool_text}
use Rattle.scalar.specs.Read.{Got, charge, stop, scalar, skip_spaces, string, double_quoted, single_quoted, plain}
use Rattle.scalar.specs.Contract.{written, is_key, Refuses, WroteValue, ReadsValue}
use Rattle.flow.specs.Flow.{behind_colon, entry_value, flow_seq, flow_map, node, value, flow}
use Rattle.flow.specs.Contract.{separates, skip_separators, leaves_out, levels_inside, flow_items, flow_entries, entry_of, Wrote, Reads, pair_bytes, ReadsPair, WroteWhole}
use Rattle.flow.proofs.Progress.{Takes, value-takes, entry_value-le}

-- a reader's answer in the words of another definition
pub reads_as : (role : Role) (x y : Answer (Got Yaml)) (s : List ℕ) (old new : Writer) (r : Result Parsed Refusal) → x ≡ y → ReadsValue role y s old new r → ReadsValue role x s old new r
reads_as role x y s old new (Ok p) e w = record { tree = w.tree; is = e ∙ w.is; appends = w.appends; forward = w.forward; keyed = w.keyed }
reads_as role x y s old new (Err z) e w = record { is = e ∙ w.is; keeps = w.keeps }

-- a value is read, or refused, in the words of another definition; of what was read the place alone is told
pub place_read : (x y : Answer (Got Yaml)) (s : List ℕ) (old new : Writer) (next : ℕ) (key : Bool) → x ≡ y → WroteValue AsValue y s old new next key
    → Wrote {A = Yaml} encode x s old new next
unfolding written
place_read x y s old new next key e w = record { got = w.tree; is = e ∙ w.is; appends = w.appends; forward = w.forward }

pub place_refused : (x y : Answer (Got Yaml)) (s : List ℕ) (old new : Writer) (r : Result ℕ Refusal) (z : Refusal) → IsErrAnd r (λ e. e ≡ z) → x ≡ y
    → Refuses y old new z → Reads {A = Yaml} encode x s old new r
place_refused x y s old new r z h e w = rw (err_is r h) (record { is = e ∙ w.is; keeps = w.keeps })

value-node : (cap n levels : ℕ) (in_flow : Bool) (role : Role) (sum : ℕ) (bs : List ℕ) → value cap n levels in_flow role sum bs ≡ node cap n (levels_inside cap n levels) in_flow role sum bs
unfolding value levels_inside
value-node cap n zero in_flow role sum bs = refl
value-node cap n (suc levels) in_flow role sum bs = refl

as_seq : (role : Role) (ys : Items) → written role (seq ys) ≡ encode (seq ys)
unfolding written
as_seq AsValue ys = refl
as_seq AsKey ys = refl

as_dict : (role : Role) (es : Entries) → written role (dict es) ≡ encode (dict es)
unfolding written
as_dict AsValue es = refl
as_dict AsKey es = refl

-- ---- a value, by its first byte

module _ (s : List ℕ) (i cap n levels : ℕ) (in_flow : Bool) (role : Role) (sum : ℕ) where
  abbrev it : Answer (Got Yaml)
  it = value cap n levels in_flow role sum (drop i s)

  pub value-end : i ≡ length s → it ≡ scalar cap n role sum null (drop i s)
  unfolding node
  value-end e = value-node cap n levels in_flow role sum (drop i s) ∙ rw (drop_of_length-le s {i = i} (omega arith))

  module _ (h : i < length s) where
    abbrev b : ℕ
    b = get_or s i 0

    at : it ≡ node cap n (levels_inside cap n levels) in_flow role sum (b ∷ drop (i + 1) s)
    at = value-node cap n levels in_flow role sum (drop i s) ∙ ap (node cap n (levels_inside cap n levels) in_flow role sum) (drop_more s i 0 h)

    pub value-map : b ≡ ch "{" → it ≡ flow_map cap n (levels_inside cap n levels) sum (drop (i + 1) s)
    unfolding node
    value-map e = at ∙ rw e

    pub value-seq : b ≡ ch "[" → it ≡ flow_seq cap n (levels_inside cap n levels) sum (drop (i + 1) s)
    unfolding node
    value-seq e = at ∙ rw e

    pub value-double : b ≡ ch "\"" → it ≡ string cap n role sum (double_quoted cap n false (drop (i + 1) s))
    unfolding node
    value-double e = at ∙ rw e

    pub value-single : b ≡ ch "'" → it ≡ string cap n role sum (single_quoted cap n false (drop (i + 1) s))
    unfolding node
    value-single e = at ∙ rw e

    pub value-anchor : (b ≡ ch "!") ⊎ ((b ≡ ch "&") ⊎ (b ≡ ch "*")) → it ≡ refused 7 n 0
    unfolding node stop
    value-anchor (inl e) = at ∙ rw e
    value-anchor (inr (inl e)) = at ∙ rw e
    value-anchor (inr (inr e)) = at ∙ rw e

    pub value-plain : ((b ≡ ch "[") ⊎ (b ≡ ch "{") → ⊥) → (b ≡ ch "\"" → ⊥) → (b ≡ ch "'" → ⊥) → ((b ≡ ch "!") ⊎ ((b ≡ ch "&") ⊎ (b ≡ ch "*")) → ⊥)
        → it ≡ plain cap n in_flow role sum (drop i s)
    unfolding node
    value-plain o d q a =
        at ∙ rw (
          ne_eqb b (ch "{") (λ e. o (inr e)),
          ne_eqb b (ch "[") (λ e. o (inl e)),
          ne_eqb b (ch "\"") d,
          ne_eqb b (ch "'") q,
          ne_eqb b (ch "&") (λ e. a (inr (inl e))),
          ne_eqb b (ch "*") (λ e. a (inr (inr e))),
          ne_eqb b (ch "!") (λ e. a (inl e)),
        )
        (ap (plain cap n in_flow role sum) (sym (drop_more s i 0 h)))

-- ---- a collection that opens

-- the sequence behind a `[`, where `sum` bytes were used before it, and the mapping behind a `{`
unfoldable pub sequence_of : ℕ → ℕ → ℕ → ℕ → List ℕ → Answer (Got Yaml)
sequence_of cap n levels sum bs = do
  (ys, sum₁, rest) ← flow_items cap n levels (sum + 6) bs
  good (seq ys, sum₁, rest)

unfoldable pub mapping_of : ℕ → ℕ → ℕ → ℕ → List ℕ → Answer (Got Yaml)
mapping_of cap n levels sum bs = do
  (es, sum₁, rest) ← flow_entries cap n levels (sum + 6) bs
  good (dict es, sum₁, rest)

module _ (cap n sum : ℕ) (bs : List ℕ) where
  deep : (levels : ℕ) → levels ≡ 0 → (flow_seq cap n (levels_inside cap n levels) sum bs ≡ refused 20 n 0) × (flow_map cap n (levels_inside cap n levels) sum bs ≡ refused 20 n 0)
  unfolding flow_seq flow_map levels_inside stop
  deep zero e = (refl, refl)
  deep (suc levels) e = absurd (omega arith)

  full : (levels : ℕ) → (levels ≡ 0 → ⊥) → cap < sum + 6
      → (flow_seq cap n (levels_inside cap n levels) sum bs ≡ refused 50 0 0) × (flow_map cap n (levels_inside cap n levels) sum bs ≡ refused 50 0 0)
  unfolding flow_seq flow_map levels_inside charge ◌>>=◌
  full zero z h = absurd (z refl)
  full (suc levels) z h = (rw (lt-leb (sum + 6) cap h), rw (lt-leb (sum + 6) cap h))

  opens : (levels : ℕ) → (levels ≡ 0 → ⊥) → sum + 6 ≤ cap
      → (flow_seq cap n (levels_inside cap n levels) sum bs ≡ sequence_of cap n (levels - 1) sum bs) × (flow_map cap n (levels_inside cap n levels) sum bs ≡ mapping_of cap n (levels - 1) sum bs)
  unfolding flow_seq flow_map levels_inside charge ◌>>=◌ sequence_of flow_items flow_entries mapping_of
  opens zero z h = absurd (z refl)
  opens (suc levels) z h = let e : suc levels - 1 ≡ levels = omega arith in (rw (le-leb (sum + 6) cap h, e), rw (le-leb (sum + 6) cap h, e))

abbrev pub Bracket : List ℕ → ℕ → Type 0
Bracket s i = (get_or s i 0 ≡ ch "{") ⊎ (get_or s i 0 ≡ ch "[")

module _ (s : List ℕ) (i cap n levels : ℕ) (in_flow : Bool) (role : Role) (sum : ℕ) (h : i < length s) where
  abbrev opened : Answer (Got Yaml)
  opened = value cap n levels in_flow role sum (drop i s)

  map_is : get_or s i 0 ≡ ch "{" → opened ≡ flow_map cap n (levels_inside cap n levels) sum (drop (i + 1) s)
  map_is = value-map s i cap n levels in_flow role sum h

  seq-is : get_or s i 0 ≡ ch "[" → opened ≡ flow_seq cap n (levels_inside cap n levels) sum (drop (i + 1) s)
  seq-is = value-seq s i cap n levels in_flow role sum h

  pub value-deep : Bracket s i → levels ≡ 0 → opened ≡ refused 20 n 0
  value-deep k z = let d = deep cap n sum (drop (i + 1) s) levels z in ⊎_elim (λ e. map_is e ∙ d.1) (λ e. seq-is e ∙ d.0) k

  pub value-full : Bracket s i → (levels ≡ 0 → ⊥) → cap < sum + 6 → opened ≡ refused 50 0 0
  value-full k z l = let d = full cap n sum (drop (i + 1) s) levels z l in ⊎_elim (λ e. map_is e ∙ d.1) (λ e. seq-is e ∙ d.0) k

  pub value-mapping : get_or s i 0 ≡ ch "{" → (levels ≡ 0 → ⊥) → sum + 6 ≤ cap → opened ≡ mapping_of cap n (levels - 1) sum (drop (i + 1) s)
  value-mapping e z l = map_is e ∙ (opens cap n sum (drop (i + 1) s) levels z l).1

  pub value-sequence : Bracket s i → (get_or s i 0 ≡ ch "{" → ⊥) → (levels ≡ 0 → ⊥) → sum + 6 ≤ cap → opened ≡ sequence_of cap n (levels - 1) sum (drop (i + 1) s)
  value-sequence k o z l = ⊎_elim (λ e. absurd (o e)) (λ e. seq-is e ∙ (opens cap n sum (drop (i + 1) s) levels z l).0) k

-- a collection whose header is filled in behind its content
module _ (s : List ℕ) (i n levels : ℕ) (in_flow : Bool) (role : Role) (a b : Writer) (header : ℕ) (p : Begins a b header) (h : i < length s) (deep : levels ≡ 0 → ⊥) where
  abbrev it_is : Answer (Got Yaml)
  it_is = value (cap_of a) n levels in_flow role a.used (drop i s)

  abbrev bs : List ℕ
  bs = drop (i + 1) s

  fits : a.used + 6 ≤ cap_of a
  fits = omega (arith, b.within, p.used, ap length p.out)

  items-there : flow_items (cap_of b) n (levels - 1) b.used bs ≡ flow_items (cap_of a) n (levels - 1) (a.used + 6) bs
  items-there = ap (λ (l : List ℕ). flow_items (length l) n (levels - 1) b.used bs) p.out ∙ ap (λ (k : ℕ). flow_items (cap_of a) n (levels - 1) k bs) p.used

  entries-there : flow_entries (cap_of b) n (levels - 1) b.used bs ≡ flow_entries (cap_of a) n (levels - 1) (a.used + 6) bs
  entries-there = ap (λ (l : List ℕ). flow_entries (length l) n (levels - 1) b.used bs) p.out ∙ ap (λ (k : ℕ). flow_entries (cap_of a) n (levels - 1) k bs) p.used

  module _ (e : get_or s i 0 ≡ ch "{") where
    is-map : it_is ≡ mapping_of (cap_of a) n (levels - 1) a.used bs
    is-map = value-mapping s i (cap_of a) n levels in_flow role a.used h e deep fits

    pub mapping_stops : (c : Writer) (z : Refusal) → Refuses (flow_entries (cap_of b) n (levels - 1) b.used bs) b c z → Refuses it_is a c z
    unfolding mapping_of ◌>>=◌
    mapping_stops c z r = record { is = is-map ∙ rw (← entries-there, r.is); keeps = keeps_more (keeps_begun p) r.keeps }

    pub mapping_wrote : (c d : Writer) (next : ℕ) → Wrote {A = Entries} encode (flow_entries (cap_of b) n (levels - 1) b.used bs) s b c next
        → Fills c d header (head 5 (c.used - (header + 6))) → WroteValue role it_is s a d next false
    unfolding mapping_of ◌>>=◌ encode is_key
    mapping_wrote c d next w f = record {
      tree = dict w.got;
      is = is-map ∙ rw (← entries-there, w.is, f.used);
      appends = rw (as_dict role w.got) (filled 5 p w.appends f);
      forward = w.forward;
      keyed = refl;
    }

  module _ (k : Bracket s i) (e : get_or s i 0 ≡ ch "{" → ⊥) where
    is-seq : it_is ≡ sequence_of (cap_of a) n (levels - 1) a.used bs
    is-seq = value-sequence s i (cap_of a) n levels in_flow role a.used h k e deep fits

    pub sequence_stops : (c : Writer) (z : Refusal) → Refuses (flow_items (cap_of b) n (levels - 1) b.used bs) b c z → Refuses it_is a c z
    unfolding sequence_of ◌>>=◌
    sequence_stops c z r = record { is = is-seq ∙ rw (← items-there, r.is); keeps = keeps_more (keeps_begun p) r.keeps }

    pub sequence_wrote : (c d : Writer) (next : ℕ) → Wrote {A = Items} encode (flow_items (cap_of b) n (levels - 1) b.used bs) s b c next
        → Fills c d header (head 4 (c.used - (header + 6))) → WroteValue role it_is s a d next false
    unfolding sequence_of ◌>>=◌ encode is_key
    sequence_wrote c d next w f = record {
      tree = seq w.got;
      is = is-seq ∙ rw (← items-there, w.is, f.used);
      appends = rw (as_seq role w.got) (filled 4 p w.appends f);
      forward = w.forward;
      keyed = refl;
    }

-- ---- an entry

module _ (s : List ℕ) (i cap n levels sum : ℕ) where
  abbrev valued : Answer (Got Yaml)
  valued = entry_value cap n (value cap n levels true) sum (drop i s)

  pub value_last : length s ≤ i → valued ≡ value cap n levels true AsValue sum (drop i s)
  unfolding entry_value
  value_last e = rw (drop_of_length-le s {i = i} e)

  module _ (h : i < length s) where
    pub value_null : leaves_out (get_or s i 0) ≡ true → valued ≡ scalar cap n AsValue sum null (drop i s)
    unfolding entry_value leaves_out
    value_null e = rw (drop_more s i 0 h, e)

    pub value_there : leaves_out (get_or s i 0) ≡ false → valued ≡ value cap n levels true AsValue sum (drop i s)
    unfolding entry_value leaves_out
    value_there e = ap (entry_value cap n (value cap n levels true) sum) (drop_more s i 0 h) ∙ rw e (ap (value cap n levels true AsValue sum) (sym (drop_more s i 0 h)))

-- a key's text, and the item that is written for it
pub record Named (y : Yaml) : Type 0 where
  pub name : List ℕ
  pub says : key_text y ≡ some name
  pub put : written AsKey y ≡ item 3 name

pub named : (y : Yaml) → is_key y ≡ true → Named y
unfolding is_key key_text written
named null e = absurd (false≢true e)
named (bool b) e = record { name = bool_text b; says = refl; put = refl }
named (int z) e = record { name = int_text z; says = refl; put = refl }
named (str t) e = record { name = t; says = refl; put = refl }
named (seq ys) e = absurd (false≢true e)
named (dict es) e = absurd (false≢true e)

pub unnamed : (y : Yaml) → is_key y ≡ false → key_text y ≡ none
unfolding is_key key_text
unnamed null e = refl
unnamed (bool b) e = absurd (false≢true (sym e))
unnamed (int z) e = absurd (false≢true (sym e))
unnamed (str t) e = absurd (false≢true (sym e))
unnamed (seq ys) e = refl
unnamed (dict es) e = refl

module _ (s : List ℕ) (i n levels : ℕ) (old : Writer) where
  abbrev ecap : ℕ
  ecap = cap_of old

  abbrev whole : Answer (Got (List ℕ × Yaml))
  whole = entry_of ecap n (value ecap n levels true) old.used (drop i s)

  pub entry_refused : (new : Writer) (z : Refusal) → Refuses (value ecap n levels true AsKey old.used (drop i s)) old new z → Refuses whole old new z
  unfolding entry_of ◌>>=◌
  entry_refused new z e = record { is = rw e.is; keeps = e.keeps }

  module _ (mid : Writer) (j : ℕ) (key : Bool) (w : WroteValue AsKey (value ecap n levels true AsKey old.used (drop i s)) s old mid j key) where
    pub entry_unnamed : key ≡ false → Refuses whole old mid (KeyNotScalar n)
    unfolding entry_of ◌>>=◌ given
    entry_unnamed e = record { is = rw (w.is, unnamed w.tree (sym w.keyed ∙ e)); keeps = keeps_appended w.appends }

    module _ (k : key ≡ true) (c : ℕ) (sk : drop c s ≡ skip_spaces (drop j s)) where
      nm : Named w.tree
      nm = named w.tree (sym w.keyed ∙ k)

      pub entry_ends : length s ≤ c → Refuses whole old mid (KeyWithoutColon n)
      unfolding entry_of ◌>>=◌ given behind_colon stop
      entry_ends h = record { is = rw (w.is, nm.says, ← sk, drop_of_length-le s {i = c} h); keeps = keeps_appended w.appends }

      module _ (h : c < length s) where
        pub entry_colonless : (get_or s c 0 ≡ ch ":" → ⊥) → Refuses whole old mid (KeyWithoutColon n)
        unfolding entry_of ◌>>=◌ given behind_colon stop
        entry_colonless e = record { is = rw (w.is, nm.says, ← sk, drop_more s c 0 h, ne_eqb (get_or s c 0) (ch ":") e); keeps = keeps_appended w.appends }

        module _ (e : get_or s c 0 ≡ ch ":") (d : ℕ) (sd : drop d s ≡ skip_spaces (drop (c + 1) s)) where
          abbrev Value : Answer (Got Yaml)
          Value = entry_value (cap_of mid) n (value (cap_of mid) n levels true) mid.used (drop d s)

          to-value : whole ≡ (Value >>= λ v. good ((nm.name, v.0), v.1, v.2))
          unfolding entry_of ◌>>=◌ given behind_colon
          to-value = rw (w.is, nm.says, ← sk, drop_more s c 0 h, e, sd, len_appended w.appends)

          pub entry_stops : (new : Writer) (z : Refusal) → Refuses Value mid new z → Refuses whole old new z
          unfolding ◌>>=◌
          entry_stops new z r = record { is = to-value ∙ rw r.is; keeps = keeps_more (keeps_appended w.appends) r.keeps }

          pub entry_reads : i ≤ length s → j ≤ c → c < d → d ≤ length s → (new : Writer) (m : ℕ) → Wrote {A = Yaml} encode Value s mid new m
              → Wrote pair_bytes whole s old new m × (i < m)
          unfolding ◌>>=◌ written
          entry_reads wi jc cd dl new m x =
              let tk : Takes ecap n (value ecap n levels true) = value-takes ecap n levels true in
              let tm : Takes (cap_of mid) n (value (cap_of mid) n levels true) = value-takes (cap_of mid) n levels true in
              let l₁ : length (drop j s) ≤ length (drop i s) = tk.some_left AsKey old.used (drop i s) (w.tree, mid.used, drop j s) w.is in
              let l₂ : length (drop m s) ≤ length (drop d s) = entry_value-le (cap_of mid) n (value (cap_of mid) n levels true) tm mid.used (drop d s) (x.got, new.used, drop m s) x.is in
              let a : Appends old mid (item 3 nm.name) = rw (← nm.put) w.appends in (
                record {
                  got = (nm.name, x.got);
                  is = to-value ∙ rw x.is;
                  appends = appends_more a x.appends;
                  forward = x.forward;
                },
                omega (arith, length-drop i s, length-drop j s, length-drop d s, length-drop m s, w.forward, x.forward),
              )

          -- either, as the value is read
          pub entry_ends_so : i ≤ length s → j ≤ c → c < d → d ≤ length s → (new : Writer) (r : Result ℕ Refusal) → Reads {A = Yaml} encode Value s mid new r → ReadsPair whole s old new i r
          entry_ends_so wi jc cd dl new (Ok m) x = entry_reads wi jc cd dl new m x
          entry_ends_so wi jc cd dl new (Err z) x = entry_stops new z x

-- ---- what stands between values

module _ (s : List ℕ) (i : ℕ) where
  pub spaces-end : length s ≤ i → skip_spaces (drop i s) ≡ drop i s
  unfolding skip_spaces
  spaces-end h = rw (drop_of_length-le s {i = i} h)

  pub separators-end : (got : Bool) → length s ≤ i → skip_separators got (drop i s) ≡ drop i s
  unfolding skip_separators
  separators-end got h = rw (drop_of_length-le s {i = i} h)

  module _ (h : i < length s) where
    pub spaces-here : (get_or s i 0 ≡ ch " " → ⊥) → skip_spaces (drop i s) ≡ drop i s
    unfolding skip_spaces
    spaces-here e = ap skip_spaces (drop_more s i 0 h) ∙ rw (ne_eqb (get_or s i 0) (ch " ") e) (sym (drop_more s i 0 h))

    pub spaces-on : get_or s i 0 ≡ ch " " → skip_spaces (drop i s) ≡ skip_spaces (drop (i + 1) s)
    unfolding skip_spaces
    spaces-on e = ap skip_spaces (drop_more s i 0 h) ∙ rw (eq-eqb (get_or s i 0) (ch " ") e)

    pub separators-here : (got : Bool) → separates got (get_or s i 0) ≡ false → skip_separators got (drop i s) ≡ drop i s
    unfolding skip_separators
    separators-here got e = ap (skip_separators got) (drop_more s i 0 h) ∙ rw e (sym (drop_more s i 0 h))

    pub separators-on : (got : Bool) → separates got (get_or s i 0) ≡ true → skip_separators got (drop i s) ≡ skip_separators got (drop (i + 1) s)
    unfolding skip_separators
    separators-on got e = ap (skip_separators got) (drop_more s i 0 h) ∙ rw e

-- the place that a search for what stands behind spaces, or behind separators, finds
module _ (s : List ℕ) (from r : ℕ) where
  pub spaces_found : First (λ k. get_or s k 0 ≡ 32 → ⊥) (λ k. get_or s k 0 ≡ 32) from (length s) r → drop r s ≡ skip_spaces (drop from s)
  spaces_found f =
      sym (kept_to (λ k. skip_spaces (drop k s)) f (λ k h e. spaces-on s k h e)
      ∙ found_or (λ k. skip_spaces (drop k s) ≡ drop k s) f (λ k h e. spaces-here s k h e) (spaces-end s (length s) (omega arith)))

  pub separators_found : (got : Bool) → First (λ k. separates got (get_or s k 0) ≡ false) (λ k. separates got (get_or s k 0) ≡ true) from (length s) r
      → drop r s ≡ skip_separators got (drop from s)
  separators_found got f =
      sym (kept_to (λ k. skip_separators got (drop k s)) f (λ k h e. separators-on s k h got e)
      ∙ found_or (λ k. skip_separators got (drop k s) ≡ drop k s) f (λ k h e. separators-here s k h got e) (separators-end s (length s) got (omega arith)))

-- ---- a part of a line that is one value

module _ (s : List ℕ) (n levels : ℕ) (role : Role) (old new : Writer) where
  abbrev part : Answer (Got Yaml)
  part = value (cap_of old) n levels false role old.used (skip_spaces s)

  abbrev all : Answer (Yaml × ℕ)
  all = flow (cap_of old) n levels role old.used s

  pub part_refused : (z : Refusal) → Refuses part old new z → Refuses all old new z
  unfolding flow ◌>>=◌
  part_refused z r = record { is = rw r.is; keeps = r.keeps }

  module _ (j : ℕ) (key : Bool) (w : WroteValue role part s old new j key) (c : ℕ) (sc : drop c s ≡ skip_spaces (drop j s)) where
    pub part_whole : length s ≤ c → WroteWhole role all old new key
    unfolding flow ◌>>=◌ ◌>>◌ ensure empty
    part_whole h = record { tree = w.tree; is = rw (w.is, ← sc, drop_of_length-le s {i = c} h); appends = w.appends; keyed = w.keyed }

    pub part_more : c < length s → Refuses all old new (TextAfterValue n)
    unfolding flow ◌>>=◌ ◌>>◌ ensure empty
    part_more h = record { is = rw (w.is, ← sc, drop_more s c 0 h); keeps = keeps_appended w.appends }

pub ruleset entry_values = (place_read, place_refused, value_null, value_there, value_last)

pub ruleset entries = (entry_refused, entry_unnamed, entry_ends, entry_colonless, entry_ends_so)

pub ruleset collections = (value-deep, value-full, mapping_stops, mapping_wrote, sequence_stops, sequence_wrote, keeps_same)

pub ruleset values = (reads_as, value-end, value-double, value-single, value-anchor, value-plain, keeps_same)

pub ruleset parts = (part_refused, part_whole, part_more)
