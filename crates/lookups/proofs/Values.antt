-- The search for a value beside a key, and `times` by the kind of its value. Assumes nothing.
use Rattle.std.proofs.Common.{◌≡◌, ◌≢◌, refl, sym, ap, ◌∙◌, subst, ℕ, zero, suc, ◌+◌, ◌^◌, ◌≤◌, ◌<◌, Bool, true, false, if◌then◌else◌, List, length, Some, arith, le-ltb, lt-ltb}
use Rattle.std.specs.Prelude.{Option as Maybe, None, IsSomeAnd, MatchOption}
use Rattle.std.proofs.Math.Option.{Option, none, some, some-injective}
use Rattle.refusal.specs.Base.{Answer, good, refused, ◌>>=◌, ◌>>◌, ensure, maybe, same}
use Rattle.item.specs.Tree.{Yaml, null, bool, int, str, seq, dict, Entries, done, pair, get, Ranged}
use Rattle.item.specs.Encode.{encode, kind_of, signed}
use Rattle.item.proofs.Exact.{none≢}
use Rattle.item.proofs.Size.{item-length}
use Rattle.item.specs.Places.{header_at}
use Rattle.item.specs.declared.Found as search
use Rattle.item.specs.declared.Integer.{Integer}
use Rattle.item.specs.declared.encoded.Part.{Part}
use Rattle.item.specs.declared.Found.TheVariants as found
use Rattle.entries.specs.Entries.{Stands, Holds, place_of, span_at}
use Rattle.entries.proofs.Standing.{stands-is, stands_at, item-content, value-head}
use Rattle.entries.proofs.Walking.{value-stands, others-stand}
use Rattle.nodes.specs.Contract.{IsNode, IsMapping, AgreesInteger}
use Rattle.nodes.specs.declared.node.Node.{Node}
use Rattle.meaning.specs.Meaning.{Step}
use Rattle.meaning.specs.Record.{text_item, step_parts, step_item}
use Rattle.record.specs.Jobs.{Found, nothing}
use Rattle.record.specs.Contract.{span_of}
use Rattle.lookups.specs.Lookups.{beside, in_mapping, value_in, item_part, times_in}
use Rattle.record.proofs.StepPlaces.{StepPart, value-part}

text-long : (k : List ℕ) → length (text_item k) ≡ 6 + length k
unfolding text_item encode
text-long k = item-length 3 k

-- ---- among entries

pub record FoundValue (s : List ℕ) (p : ℕ) (v : Yaml) : Type 0 where
  pub stands : Stands s p (encode v)
  pub fits : Ranged v

beside-found : {s : List ℕ} (key : List ℕ) {p : ℕ} {v : Yaml} (at : ℕ) (es : Entries) → Ranged es → Stands s at (encode es) → beside key at es ≡ some (p, v) → FoundValue s p v
unfolding beside
beside-found key at done g h e = none≢ _ e
beside-found {s} key {p} {v} at (pair k u es) g h e = go (same k key) (beside-found key (at + length (text_item k) + length (encode u)) es g.1 behind) e
  where
    here : Stands s (at + length (text_item k)) (encode u)
    here = stands_at (omega (arith, text-long k)) (value-stands k u es h)

    behind : Stands s (at + length (text_item k) + length (encode u)) (encode es)
    behind = stands_at (omega (arith, text-long k)) (others-stand k u es h)

    go : (b : Bool) → (beside key (at + length (text_item k) + length (encode u)) es ≡ some (p, v) → FoundValue s p v)
        → (if b then some (at + length (text_item k), u) else beside key (at + length (text_item k) + length (encode u)) es) ≡ some (p, v) → FoundValue s p v
    go true more e =
        let q = some-injective _ _ e in
        let a : at + length (text_item k) ≡ p = ap (λ (y : ℕ × Yaml). y.0) q in
        let b : u ≡ v = ap (λ (y : ℕ × Yaml). y.1) q in
        record { stands = stands_at a (stands-is (ap (λ (y : Yaml). encode y) b) here); fits = subst Ranged b g.0 }
    go false more e = more e

-- the place that the search answers
abbrev placed : Option (ℕ × Yaml) → search.Found
placed none = found.Nothing
placed (some (p, v)) = found.At p

place_is : (key : List ℕ) (at : ℕ) (es : Entries) → place_of key at es ≡ placed (beside key at es)
unfolding place_of beside
place_is key at done = refl
place_is key at (pair k v es) = go (same k key) (place_is key (at + length (text_item k) + length (encode v)) es)
  where
    go : (b : Bool) → place_of key (at + length (text_item k) + length (encode v)) es ≡ placed (beside key (at + length (text_item k) + length (encode v)) es)
        → (if b then found.At (at + 6 + length k) else place_of key (at + 6 + length k + length (encode v)) es)
        ≡ placed (if b then some (at + length (text_item k), v) else beside key (at + length (text_item k) + length (encode v)) es)
    go true e = ap found.At (omega (arith, text-long k))
    go false e = ap (λ (i : ℕ). place_of key i es) (omega (arith, text-long k)) ∙ e

module _ {s : List ℕ} (key : List ℕ) {from to : ℕ} (es : Entries) (h : Holds s from to es) where
  pub nothing_beside : {r : search.Found} → r ≡ place_of key from es → r ≡ found.Nothing → good nothing ≡ good (item_part (beside key from es))
  unfolding item_part maybe
  nothing_beside {r} e n = go (beside key from es) (sym n ∙ e ∙ place_is key from es)
    where
      go : (o : Option (ℕ × Yaml)) → found.Nothing ≡ placed o → good nothing ≡ good (item_part o)
      go none q = refl
      go (some (p, v)) q = cc q

  -- the item there is the value's
  module _ (w : length s ≤ 2 ^ 20) {p : ℕ} {r : search.Found} (e : r ≡ place_of key from es) (a : r ≡ found.At p) where
    record Beside : Type 0 where
      value : Yaml
      is : beside key from es ≡ some (p, value)
      spans : span_at p (header_at s p) ≡ Some (record { start = p; end = p + length (encode value) })

    here : Beside
    unfolding span_at
    here = go (beside key from es) refl (sym a ∙ e ∙ place_is key from es)
      where
        go : (o : Option (ℕ × Yaml)) → beside key from es ≡ o → found.At p ≡ placed o → Beside
        go none q z = cc z
        go (some (i, v)) q z =
            let n : i ≡ p = cc z in
            let q' : beside key from es ≡ some (p, v) = q ∙ ap (λ (k : ℕ). some (k, v)) n in
            record { value = v; is = q'; spans = ap (span_at p) (value-head v w (beside-found key from es h.ranged h.lies.stands q').stands) }

    pub item_beside : span_of (span_at p (header_at s p)) ≡ good (item_part (beside key from es))
    unfolding item_part maybe
    item_beside = ap span_of here.spans ∙ sym (rw here.is)

-- ---- in a value

other-value : (key : List ℕ) (at : ℕ) (v : Yaml) → kind_of v ≢ 5 → in_mapping key at v ≡ none
unfolding in_mapping kind_of
other-value key at null k = refl
other-value key at (bool b) k = refl
other-value key at (int z) k = refl
other-value key at (str t) k = refl
other-value key at (seq ys) k = refl
other-value key at (dict es) k = absurd (k refl)

module _ (at : ℕ) (key : List ℕ) (v : Yaml) where
  pub no_mapping : kind_of v ≢ 5 → good nothing ≡ good (item_part (in_mapping key at v))
  unfolding item_part maybe
  no_mapping k = rw (other-value key at v k)

  pub in_mapping_lem : {part : Part} {x : Answer Found} → IsMapping v part → part.from ≡ at + 6
      → ((es : Entries) → Holds part.bytes.now part.from part.to es → x ≡ good (item_part (beside key part.from es))) → x ≡ good (item_part (in_mapping key at v))
  unfolding in_mapping
  in_mapping_lem m start f =
      f m.entries m.holds
      ∙ ap (λ (n : ℕ). good (item_part (beside key n m.entries))) start
      ∙ ap (λ (y : Yaml). good (item_part (in_mapping key at y))) (sym m.is)

module _ {s : List ℕ} {at start end : ℕ} (st : Step) (p : StepPart s at st 3 start end) where
  pub step_value : Stands s start (encode st.value)
  unfolding step_parts
  step_value = p.stands

  pub in_step : (key : List ℕ) → in_mapping key start st.value ≡ value_in key at st
  unfolding value_in
  in_step key = ap (λ (n : ℕ). in_mapping key n st.value) p.begins

-- ---- what is found stands there

in-mapping-found : {s : List ℕ} (key : List ℕ) {p : ℕ} {v : Yaml} (at : ℕ) (y : Yaml) → Ranged y → Stands s at (encode y) → in_mapping key at y ≡ some (p, v) → FoundValue s p v
unfolding in_mapping encode
in-mapping-found key at (dict es) g h e = beside-found key (at + 6) es g (item-content 5 (encode es) h) e
in-mapping-found key at null g h e = none≢ _ e
in-mapping-found key at (bool b) g h e = none≢ _ e
in-mapping-found key at (int z) g h e = none≢ _ e
in-mapping-found key at (str t) g h e = none≢ _ e
in-mapping-found key at (seq ys) g h e = none≢ _ e

pub in-step-found : {s : List ℕ} (key : List ℕ) {at p : ℕ} {v : Yaml} (st : Step) → Ranged st.value → Stands s at (step_item st) → value_in key at st ≡ some (p, v) → FoundValue s p v
unfolding value_in
in-step-found key st g h e = in-mapping-found key _ st.value g (value-part st h) e

-- it is the key's value
pub beside_get : (key : List ℕ) (at : ℕ) (es : Entries) → maybe (beside key at es) none (λ (x : ℕ × Yaml). some x.1) ≡ get key es
unfolding beside get maybe
beside_get key at done = refl
beside_get key at (pair k v es) = go (same k key) (beside_get key (at + length (text_item k) + length (encode v)) es)
  where
    go : (b : Bool) → maybe (beside key (at + length (text_item k) + length (encode v)) es) none (λ (x : ℕ × Yaml). some x.1) ≡ get key es
        → maybe (if b then some (at + length (text_item k), v) else beside key (at + length (text_item k) + length (encode v)) es) none (λ (x : ℕ × Yaml). some x.1) ≡ (if b then some v else get key es)
    go true e = refl
    go false e = e

-- ---- `times`

pub other_times : (number : ℕ) (v : Yaml) → kind_of v ≢ 2 → refused 38 0 number ≡ times_in number v
unfolding times_in kind_of
other_times number null k = refl
other_times number (bool b) k = refl
other_times number (int z) k = absurd (k refl)
other_times number (str t) k = refl
other_times number (seq ys) k = refl
other_times number (dict es) k = refl

-- the integer that a value is, if a value stands there
pub integer_there : (v : Yaml) (node : Maybe Node) (o : Maybe Integer) → IsSomeAnd node (IsNode v) → MatchOption node (o ≡ None) (λ n. (y : Yaml) → IsNode y n → AgreesInteger y o) → AgreesInteger v o
integer_there v (Some node) o i h = h v i
integer_there v None o i h = absurd i

pub times_negative : (number m : ℕ) → refused 38 0 number ≡ times_in number (int (signed true m))
unfolding times_in signed
times_negative number zero = refl
times_negative number (suc m) = refl

pub times_zero : (number m : ℕ) → m ≡ 0 → refused 38 0 number ≡ times_in number (int (signed false m))
unfolding times_in signed
times_zero number zero e = refl
times_zero number (suc m) e = absurd (omega arith)

pub times_large : (number m : ℕ) → 4294967295 < m → refused 39 0 number ≡ times_in number (int (signed false m))
unfolding times_in signed ensure ◌>>◌ ◌>>=◌
times_large number zero h = absurd (omega arith)
times_large number (suc m) h = rw (le-ltb (suc m) (2 ^ 32) (omega arith))

pub times_good : (number m : ℕ) → (m ≡ 0 → ⊥) → m ≤ 4294967295 → good m ≡ times_in number (int (signed false m))
unfolding times_in signed ensure ◌>>◌ ◌>>=◌
times_good number zero n h = absurd (n refl)
times_good number (suc m) n h = rw (lt-ltb (suc m) (2 ^ 32) (omega arith))
