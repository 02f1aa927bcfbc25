-- 21 to 31 in their order, and the fields of a record before its steps. Assumes nothing.
use Rattle.std.specs.Prelude.{Option as Maybe, Some, None, Result, Err}
use Rattle.std.specs.Option.{ok_or}
use Rattle.refusal.specs.declared.Refusal.{Refusal}
use Rattle.std.proofs.Common.{◌≡◌, ◌≢◌, refl, sym, ap, ℕ, ◌+◌, ◌-◌, ◌≤◌, ◌^◌, length, drop, arith, List, append-nil, true, false}
use Rattle.std.proofs.Math.Option.{none, some}
use Rattle.std.proofs.lemmas.List.{length-take}
use Rattle.refusal.specs.Base.{good, refused, ◌>>=◌, ◌>>◌, maybe, given, ensure, bytes, same}
use Rattle.utf8.specs.Part.{part}
use Rattle.item.specs.Tree.{Yaml, null, bool, int, str, seq, dict, Items, Entries, get}
use Rattle.item.specs.Encode.{item, encode, kind_of}
use Rattle.entries.specs.Entries.{Holds}
use Rattle.entries.proofs.Standing.{stands-part}
use Rattle.nodes.specs.declared.output.RecordWriter.{RecordWriter}
use Rattle.nodes.specs.Writing.{GoesAtMost, Writes}
use Rattle.nodes.specs.Contract.{FindsNode, or_null, scalar_text, text_or_empty}
use Rattle.nodes.proofs.Writing.{writes_is, writes_more, item_most}
use Rattle.meaning.specs.Meaning.{Defaults}
use Rattle.meaning.specs.Record.{joined, text_item, tags_item, defaults_item, fields}
use Rattle.meaning.specs.Meanings.{schema, refuse, document, scalar_at, or_empty, check_schema, sequence_or, texts_of, defaults_of, Top, top_of, with_steps}
use Rattle.top.specs.declared.TopNodes.{TopNodes}
use Rattle.top.specs.Contract.{ReadsTop, top_fields, KnownKeys, Passed, IsSequence, IsDefaults}

-- ---- what a `?` behind an `ok_or` hands on

abbrev refused_by : (T : Type 0) → Refusal → Result T Refusal
refused_by T e = Err e

pub lost : {T : Type 0} {o : Maybe T} {n e : Refusal} → refused_by T e ≡ ok_or o n → (o ≡ None) × (e ≡ n)
lost {o = None} h = (refl, cc h)
lost {o = Some x} h = cc h

-- ---- 21 to 24

other-document : (y : Yaml) → kind_of y ≢ 5 → document y ≡ refuse 21
unfolding kind_of document
other-document null k = refl
other-document (bool b) k = refl
other-document (int z) k = refl
other-document (str t) k = refl
other-document (seq ys) k = refl
other-document (dict es) k = absurd (k refl)

module _ (y : Yaml) where
  pub top-21 : kind_of y ≢ 5 → top_of y ≡ refused 21 0 0
  unfolding top_of ◌>>=◌
  top-21 h = rw (other-document y h)

  module _ {es : Entries} (e : y ≡ dict es) where
    is-document : document y ≡ good es
    unfolding document
    is-document = ap document e

    pub top-22 : KnownKeys es false → top_of y ≡ refused 22 0 0
    unfolding top_of ◌>>=◌ ◌>>◌
    top-22 h = rw (is-document, h)

    module _ (n : KnownKeys es true) where
      pub top-24 : none ≡ scalar_text (get (bytes "schema") es) → top_of y ≡ refused 24 0 0
      unfolding top_of ◌>>=◌ ◌>>◌ scalar_at check_schema
      top-24 h = rw (is-document, n, ← h)

      module _ {text : List ℕ} (t : some text ≡ scalar_text (get (bytes "schema") es)) where
        pub top-23 : false ≡ same text schema → top_of y ≡ refused 23 0 0
        unfolding top_of ◌>>=◌ ◌>>◌ scalar_at check_schema ensure
        top-23 h = rw (is-document, n, ← t, ← h)

        pub passed : true ≡ same text schema → Passed y es
        unfolding scalar_at check_schema ensure
        passed h = record { document_is = is-document; known = n; schema_is = rw (← t, ← h) }

-- ---- 25 to 31

module _ {y : Yaml} {es : Entries} (p : Passed y es) where
  pub top-25 : none ≡ scalar_text (get (bytes "name") es) → top_of y ≡ refused 25 0 0
  unfolding top_of ◌>>=◌ ◌>>◌ scalar_at given
  top-25 h = rw (p.document_is, p.known, p.schema_is, ← h)

  module _ {name : List ℕ} (n : some name ≡ scalar_text (get (bytes "name") es)) where
    pub top-26 : sequence_or 26 (get (bytes "tags") es) ≡ refused 26 0 0 → top_of y ≡ refused 26 0 0
    unfolding top_of ◌>>=◌ ◌>>◌ scalar_at given
    top-26 h = rw (p.document_is, p.known, p.schema_is, ← n, h)

    module _ {tags : Items} (t : sequence_or 26 (get (bytes "tags") es) ≡ good tags) where
      pub top-27 : sequence_or 27 (get (bytes "fail_on") es) ≡ refused 27 0 0 → top_of y ≡ refused 27 0 0
      unfolding top_of ◌>>=◌ ◌>>◌ scalar_at given
      top-27 h = rw (p.document_is, p.known, p.schema_is, ← n, t, h)

      module _ {fail_on : Items} (f : sequence_or 27 (get (bytes "fail_on") es) ≡ good fail_on) where
        pub top-defaults : {k l j : ℕ} → defaults_of (get (bytes "defaults") es) ≡ refused k l j → top_of y ≡ refused k l j
        unfolding top_of ◌>>=◌ ◌>>◌ scalar_at given
        top-defaults h = rw (p.document_is, p.known, p.schema_is, ← n, t, f, h)

        module _ {defaults : Defaults} (d : defaults_of (get (bytes "defaults") es) ≡ good defaults) where
          pub top-31 : sequence_or 31 (get (bytes "steps") es) ≡ refused 31 0 0 → top_of y ≡ refused 31 0 0
          unfolding top_of ◌>>=◌ ◌>>◌ scalar_at given
          top-31 h = rw (p.document_is, p.known, p.schema_is, ← n, t, f, d, h)

  module _ (r : TopNodes) {name : List ℕ} (n : some name ≡ scalar_text (get (bytes "name") es)) (t : IsSequence (get (bytes "tags") es) r.tags)
      (f : IsSequence (get (bytes "fail_on") es) r.fail_on)
      (d : IsDefaults (defaults_of (get (bytes "defaults") es)) r.defaults) where
    pub top_read : FindsNode (get (bytes "name") es) r.name → FindsNode (get (bytes "description") es) r.description → FindsNode (get (bytes "image") es) r.image → FindsNode (get (bytes "setup") es) r.setup
        → IsSequence (get (bytes "steps") es) r.steps → ReadsTop (top_of y) r
    unfolding top_of ◌>>=◌ ◌>>◌ scalar_at given or_empty maybe
    top_read found_name description image setup steps = record {
      top = record {
        name = name;
        description = text_or_empty (get (bytes "description") es);
        tags = texts_of t.items;
        image = text_or_empty (get (bytes "image") es);
        setup = or_null (get (bytes "setup") es);
        defaults = d.read;
        fail_on = f.items;
        steps = steps.items;
      };
      is = rw (p.document_is, p.known, p.schema_is, ← n, t.is 26, f.is 27, d.is, steps.is 31);
      stands = record {
        name = record { value = get (bytes "name") es; found = found_name; is = rw (← n) refl };
        description = record { value = get (bytes "description") es; found = description; is = refl };
        tags = record { items = t.items; holds = t.holds; is = refl };
        image = record { value = get (bytes "image") es; found = image; is = refl };
        setup = record { value = get (bytes "setup") es; found = setup; is = refl };
        defaults = d.stands;
        fail_on = f.holds;
        steps = steps.holds;
      };
    }

-- ---- the fields

pub sequence-written : {s : List ℕ} {from to : ℕ} {a b : RecordWriter} (ys : Items) → Holds s from to ys → Writes a b (item 4 (part s from to)) → Writes a b (encode (seq ys))
unfolding encode
sequence-written {s} {from} {to} ys h w = writes_is (ap (item 4) (stands-part h.lies.stands (to - from) (omega (arith, h.lies.ends)))) w

pub sequence-most : (s : List ℕ) {from to : ℕ} {a b : RecordWriter} → (from ≤ to) × (to ≤ length s) × (length s ≤ 2 ^ 20) → Writes a b (item 4 (part s from to)) → GoesAtMost (6 + 2 ^ 20) a b
sequence-most s {from} {to} i w = item_most (6 + 2 ^ 20) 4 (part s from to) w (omega (arith, i, length-take (to - from) (drop from s)))

pub fields-written : {o a b c d e f g : RecordWriter} (t : Top) → Writes o a (text_item t.name) → Writes a b (text_item t.description) → Writes b c (tags_item t.tags)
    → Writes c d (text_item t.image) → Writes d e (encode t.setup) → Writes e f (defaults_item t.defaults) → Writes f g (encode (seq t.fail_on))
    → Writes o g (joined (top_fields t))
unfolding top_fields with_steps fields joined
fields-written t name description tags image setup defaults fail_on =
    writes_more name (writes_more description (writes_more tags (writes_more image (writes_more setup (writes_more defaults (writes_is (sym (append-nil _)) fail_on))))))
