-- Fields by the kinds of their items: what the code tests of a header, the definition tests of a tree. Assumes nothing.
use Rattle.std.specs.Prelude.{if◌then◌else◌}
use Rattle.std.proofs.Common.{◌≡◌, refl, sym, ap, ◌∙◌, ℕ, ◌+◌, ◌-◌, arith, List, [], ◌∷◌, ◌++◌, append_assoc, Bool, true, false, not, ◌&&◌, eqb, length, take, drop, length-drop, length-append, take_at, drop_at, drop-drop, eqb-true}
use Rattle.std.proofs.lemmas.Bool.{and_parts}
use Rattle.std.proofs.Math.Option.{Option, none, some, some-injective, none-ne-some}
use Rattle.refusal.specs.Base.{maybe, one_of}
use Rattle.refusal.proofs.Tools.{chosen}
use Rattle.item.specs.Tree.{Yaml, null, bool, int, str, seq, dict}
use Rattle.item.specs.Encode.{item, head, encode, kind_of, Bytes}
use Rattle.item.proofs.Size.{head-length}
use Rattle.item.specs.Decode.{◌>>=◌, Decoder, header, unflag, unint, decode_items, decode_entries, content_of, node, decode}
use Rattle.std.specs.Prelude.{Option as StdOption, None, Some, Ok}
use Rattle.std.specs.List.{list_any}
use Rattle.std.specs.Bool.{then_some}
use Rattle.item.specs.Places.{header_at}
use Rattle.item.specs.declared.Item.{Item}
use Rattle.item.specs.Kinds.{number_of}
use Rattle.item.specs.declared.Kind.{Kind}
use Rattle.item.specs.declared.Kind.TheVariants.{Null, Str, Seq, Map}
use Rattle.item.specs.declared.Kind.TheVariants as kinds
use Rattle.item.proofs.Headers.{spans, header-item}
use Rattle.item.proofs.Exact.{got, none≢, nothing-inv, bytes_drop}
use Rattle.utf8.specs.Utf8.{is_utf8}
use Rattle.meaning.specs.Sound.{sound}
use Rattle.value.specs.Tree.{tree, inside}
use Rattle.value.proofs.Contents.{decode-node, no_header}
use Rattle.value.proofs.Invariants.{taken}
use Rattle.value.specs.Walks.{ReadAt, Walks}
use Rattle.meaning.specs.Meaning.{step_fields, built_in_steps}
use Rattle.meaning.specs.Record.{text_item}
use Rattle.record.specs.Read.{field_of, as_text, as_optional, as_flag, as_items, as_command, as_expect}
use Rattle.record.proofs.Exact.{text-reads}
use Rattle.record.specs.Contract.{of_kinds, is_some}

-- ---- the kind of a tree

content-kind : (o : Option (Decoder Yaml)) (k : ℕ) (s : List ℕ) (y : Yaml) → content_of o k s ≡ some y → kind_of y ≡ k
unfolding content_of kind_of
content-kind o k s y e =
    chosen (eqb k 0) _ _ e (λ t p. rw (← (nothing-inv null y s p).1) (sym (eqb-true k 0 t)))
    λ _ e. chosen (eqb k 1) _ _ e (λ t p. got (unflag s) _ y p λ x _ r. rw (← some-injective _ _ r) (sym (eqb-true k 1 t)))
    λ _ e. chosen (eqb k 2) _ _ e (λ t p. got (unint s) _ y p λ x _ r. rw (← some-injective _ _ r) (sym (eqb-true k 2 t)))
    λ _ e. chosen (eqb k 3) _ _ e (λ t p. rw (← some-injective _ _ p) (sym (eqb-true k 3 t)))
    λ _ e. chosen (eqb k 4) _ _ e (λ t p. got o _ y p λ f _ p. got (decode_items f (length s) s) _ y p λ ys _ p. rw (← some-injective _ _ p) (sym (eqb-true k 4 t)))
    λ _ e. chosen (eqb k 5) _ _ e (λ t p. got o _ y p λ f _ p. got (decode_entries f (length s) s) _ y p λ es _ p. rw (← some-injective _ _ p) (sym (eqb-true k 5 t)))
    λ _ e. none≢ y e

tree-kind : (l : ℕ) (bs : List ℕ) (k : ℕ) (c r : List ℕ) (x : Yaml × List ℕ) → header bs ≡ some (k, c, r) → tree l bs ≡ some x → kind_of x.0 ≡ k
unfolding node
tree-kind l bs k c r x e t = got (header bs) _ x (sym (decode-node l bs) ∙ (taken l bs x.0 x.1 t).is)
    λ h p q. got (content_of (inside l) h.0 h.1) _ x q
    λ y u v.
    let same : ◌≡◌ {A = ℕ × List ℕ × List ℕ} h (k, c, r) = some-injective _ _ (sym p ∙ e) in
    ap (λ (z : Yaml × List ℕ). kind_of z.0) (sym (some-injective _ _ v)) ∙ content-kind (inside l) h.0 h.1 y u ∙ ap (λ (z : ℕ × List ℕ × List ℕ). z.0) same

-- ---- fields of a tree that was read, or not

abbrev with_rest : {A : Type 0} → List ℕ → Option A → Option (A × List ℕ)
with_rest {A} r o = ◌>>=◌ {B = A × List ℕ} o (λ a. some (a, r))

module _ {A : Type 0} (view : Yaml → Option A) (l : ℕ) (bs : List ℕ) where
  pub no_field : tree l bs ≡ none → field_of view l bs ≡ none
  unfolding field_of ◌>>=◌
  no_field e = rw e

  field_of_lem : (x : Yaml × List ℕ) → tree l bs ≡ some x → field_of view l bs ≡ with_rest x.1 (view x.0)
  unfolding field_of ◌>>=◌
  field_of_lem x e = rw e

abbrev pub takes : List Kind → ℕ → Bool
takes kinds k = list_any (λ kind. eqb k (number_of kind)) kinds

module _ (kinds : List Kind) (l : ℕ) (s : List ℕ) (at : ℕ) where
  pub no_walks : header (drop at s) ≡ none → Walks (field_of (of_kinds kinds) l) s at None
  no_walks h = no_field (of_kinds kinds) l (drop at s) (no_header l (drop at s) h)

  module _ {item : Item} (h : Ok item ≡ header_at s at) {b : Bool} (e : b ≡ takes kinds item.kind) where
    pub among_walks : b ≡ true → (w : StdOption ℕ) → Walks (tree l) s at w → Walks (field_of (of_kinds kinds) l) s at w
    unfolding of_kinds ◌>>=◌
    among_walks t (Some to) w = record {
      value = w.value;
      is = field_of_lem (of_kinds kinds) l (drop at s) (w.value, drop to s) w.is ∙ rw (tree-kind l (drop at s) item.kind _ _ _ (header-item s at h) w.is, sym e ∙ t);
      forward = w.forward;
      fits = w.fits;
    }
    among_walks t None w = no_field (of_kinds kinds) l (drop at s) w

    pub other_walks : b ≡ false → Walks (field_of (of_kinds kinds) l) s at None
    unfolding of_kinds ◌>>=◌
    other_walks t = go (tree l (drop at s)) refl
      where
        go : (o : Option (Yaml × List ℕ)) → tree l (drop at s) ≡ o → field_of (of_kinds kinds) l (drop at s) ≡ none
        go none p = no_field (of_kinds kinds) l (drop at s) p
        go (some x) p = field_of_lem (of_kinds kinds) l (drop at s) x p ∙ rw (tree-kind l (drop at s) item.kind _ _ x (header-item s at h) p, sym e ∙ t)

-- ---- a field that holds just the trees of some kinds

pub some_is : {A : Type 0} (o : Option A) → is_some o ≡ true → (a : A) × (o ≡ some a)
unfolding is_some maybe
some_is none e = let z : ◌≡◌ {A = ℕ} 0 1 = cc in absurd (omega arith)
some_is (some a) e = (a, refl)

pub none_is : {A : Type 0} (o : Option A) → is_some o ≡ false → o ≡ none
unfolding is_some maybe
none_is none e = refl
none_is (some a) e = let z : ◌≡◌ {A = ℕ} 0 1 = cc in absurd (omega arith)

abbrev Tests : {A : Type 0} → (Yaml → Option A) → List Kind → Type 0
Tests view kinds = (y : Yaml) → is_some (view y) ≡ takes kinds (kind_of y)

module _ {A : Type 0} (view : Yaml → Option A) (kinds : List Kind) (tests : Tests view kinds) (l : ℕ) (s : List ℕ) (at : ℕ) where
  pub viewed : (w : StdOption ℕ) → Walks (field_of (of_kinds kinds) l) s at w → Walks (field_of view l) s at w
  unfolding of_kinds ◌>>=◌ field_of
  viewed (Some to) w = got (tree l (drop at s)) _ (w.value, drop to s) w.is λ x p e. got (of_kinds kinds x.0) _ (w.value, drop to s) e λ y q e.
      chosen (takes kinds (kind_of x.0)) _ _ q
      (λ t _. let v = some_is (view x.0) (tests x.0 ∙ t) in
      record {
        value = v.0;
        is = field_of_lem view l (drop at s) x p ∙ ap (λ (o : Option A). with_rest x.1 o) v.1 ∙ ap (λ (z : Yaml × List ℕ). some (v.0, z.1)) (some-injective _ _ e);
        forward = w.forward;
        fits = w.fits;
      })
      (λ _ r. none≢ y r)
  viewed None w = go (tree l (drop at s)) refl
    where
      out : (x : Yaml × List ℕ) (t : Bool) → is_some (view x.0) ≡ t → with_rest x.1 (if t then some x.0 else none) ≡ none → with_rest x.1 (view x.0) ≡ none
      out x true e q = absurd (none-ne-some (x.0, x.1) (sym q))
      out x false e q = rw (none_is (view x.0) e)

      go : (o : Option (Yaml × List ℕ)) → tree l (drop at s) ≡ o → field_of view l (drop at s) ≡ none
      go none p = no_field view l (drop at s) p
      go (some x) p = field_of_lem view l (drop at s) x p ∙ out x _ (tests x.0) (sym (field_of_lem (of_kinds kinds) l (drop at s) x p) ∙ w)

pub text-tests : Tests (as_text) (Str ∷ [])
unfolding is_some maybe as_text kind_of
text-tests null = refl
text-tests (bool b) = refl
text-tests (int z) = refl
text-tests (str s) = refl
text-tests (seq ys) = refl
text-tests (dict es) = refl

pub optional-tests : Tests (as_optional) (Null ∷ Str ∷ [])
unfolding is_some maybe as_optional kind_of
optional-tests null = refl
optional-tests (bool b) = refl
optional-tests (int z) = refl
optional-tests (str s) = refl
optional-tests (seq ys) = refl
optional-tests (dict es) = refl

pub flag-tests : Tests (as_flag) (kinds.Bool ∷ [])
unfolding is_some maybe as_flag kind_of
flag-tests null = refl
flag-tests (bool b) = refl
flag-tests (int z) = refl
flag-tests (str s) = refl
flag-tests (seq ys) = refl
flag-tests (dict es) = refl

pub items-tests : Tests (as_items) (Seq ∷ [])
unfolding is_some maybe as_items kind_of
items-tests null = refl
items-tests (bool b) = refl
items-tests (int z) = refl
items-tests (str s) = refl
items-tests (seq ys) = refl
items-tests (dict es) = refl

-- beside a built-in command, and beside another
pub built-in-tests : (key : List ℕ) → one_of key built_in_steps ≡ true → Tests (as_expect key) (Null ∷ [])
unfolding is_some maybe as_expect kind_of
built-in-tests key h null = refl
built-in-tests key h (bool b) = refl
built-in-tests key h (int z) = refl
built-in-tests key h (str s) = refl
built-in-tests key h (seq ys) = refl
built-in-tests key h (dict es) = rw h

pub expect-tests : (key : List ℕ) → one_of key built_in_steps ≡ false → Tests (as_expect key) (Null ∷ Map ∷ [])
unfolding is_some maybe as_expect kind_of
expect-tests key h null = refl
expect-tests key h (bool b) = refl
expect-tests key h (int z) = refl
expect-tests key h (str s) = refl
expect-tests key h (seq ys) = refl
expect-tests key h (dict es) = rw h

-- what is tested of the kind is tested of the tree
pub optional_walks : (s : List ℕ) (at : ℕ) (w : StdOption ℕ) → Walks (field_of (of_kinds (Null ∷ Str ∷ [])) 0) s at w → Walks (field_of as_optional 0) s at w
optional_walks s at w h = viewed as_optional _ optional-tests 0 s at w h

pub flag_walks : (s : List ℕ) (at : ℕ) (w : StdOption ℕ) → Walks (field_of (of_kinds (kinds.Bool ∷ [])) 0) s at w → Walks (field_of as_flag 0) s at w
flag_walks s at w h = viewed as_flag _ flag-tests 0 s at w h

pub items_walk : (s : List ℕ) (at : ℕ) (w : StdOption ℕ) → Walks (field_of (of_kinds (Seq ∷ [])) 31) s at w → Walks (field_of as_items 31) s at w
items_walk s at w h = viewed as_items _ items-tests 31 s at w h

pub built_in_walks : (key s : List ℕ) (at : ℕ) {b : Bool} → b ≡ one_of key built_in_steps → b ≡ true → (w : StdOption ℕ) → Walks (field_of (of_kinds (Null ∷ [])) 29) s at w → Walks (field_of (as_expect key) 29) s at w
built_in_walks key s at e t w h = viewed (as_expect key) _ (built-in-tests key (sym e ∙ t)) 29 s at w h

pub expect_walks : (key s : List ℕ) (at : ℕ) {b : Bool} → b ≡ one_of key built_in_steps → b ≡ false → (w : StdOption ℕ) → Walks (field_of (of_kinds (Null ∷ Map ∷ [])) 29) s at w → Walks (field_of (as_expect key) 29) s at w
expect_walks key s at e t w h = viewed (as_expect key) _ (expect-tests key (sym e ∙ t)) 29 s at w h

pub tree-walks : (l : ℕ) (s : List ℕ) (at : ℕ) (w : StdOption ℕ) → Walks (tree l) s at w → Walks (field_of some l) s at w
unfolding ◌>>=◌
tree-walks l s at (Some to) h = record { value = h.value; is = field_of_lem some l (drop at s) (h.value, drop to s) h.is; forward = h.forward; fits = h.fits }
tree-walks l s at None h = no_field some l (drop at s) h

-- ---- a text

module _ (s : List ℕ) (at : ℕ) {item : Item} (h : Ok item ≡ header_at s at) where
  abbrev pub inner : List ℕ
  inner = take (item.to - item.from) (drop item.from s)

  text-kind : item.kind ≡ 3 → header (drop at s) ≡ some (3, inner, drop item.to s)
  text-kind k = header-item s at h ∙ ap (λ (n : ℕ). some (n, inner, drop item.to s)) k

  pub text-read : eqb item.kind 3 && is_utf8 inner ≡ true → field_of as_text 0 (drop at s) ≡ some (inner, drop item.to s)
  unfolding field_of as_text tree decode node content_of sound ◌>>=◌
  text-read e = let p = and_parts (eqb item.kind 3) (is_utf8 inner) e in rw (text-kind (eqb-true item.kind 3 p.0), p.1)

  pub text-here : eqb item.kind 3 && is_utf8 inner ≡ true → ReadAt (field_of as_text 0) s at item.to
  text-here e = let i = spans s at h in record { value = inner; is = text-read e; forward = omega (arith, i.start, i.order); fits = i.fits }

  pub no-text : eqb item.kind 3 && is_utf8 inner ≡ false → field_of as_text 0 (drop at s) ≡ none
  unfolding field_of as_text tree decode node content_of sound ◌>>=◌
  no-text e = go (eqb item.kind 3) refl e
    where
      go : (t : Bool) → eqb item.kind 3 ≡ t → t && is_utf8 inner ≡ false → field_of as_text 0 (drop at s) ≡ none
      go true k u = rw (text-kind (eqb-true item.kind 3 k), u)
      go false k u = viewed as_text (Str ∷ []) text-tests 0 s at None (other_walks (Str ∷ []) 0 s at h {b = false} (rw k) refl)

  pub text_ends : (b : Bool) → b ≡ (eqb item.kind 3 && is_utf8 inner) → Walks (field_of as_text 0) s at (then_some b item.to)
  text_ends true e = text-here (sym e)
  text_ends false e = no-text (sym e)

pub no_text_ends : (s : List ℕ) (at : ℕ) → header (drop at s) ≡ none → Walks (field_of as_text 0) s at None
no_text_ends s at h = no_field as_text 0 (drop at s) (no_header 0 (drop at s) h)

-- ---- a command

module _ (l : ℕ) (bs k rest : List ℕ) (e : field_of as_text l bs ≡ some (k, rest)) where
  command-of : field_of as_command l bs ≡ (if one_of k step_fields then none else some (k, rest))
  unfolding field_of as_command ◌>>=◌
  command-of = got (tree l bs) _ (k, rest) e λ x p e. got (as_text x.0) _ (k, rest) e λ t q r.
      let same : ◌≡◌ {A = List ℕ × List ℕ} (t, x.1) (k, rest) = some-injective _ _ r in
      let u : t ≡ k = ap (λ (z : List ℕ × List ℕ). z.0) same in
      let v : x.1 ≡ rest = ap (λ (z : List ℕ × List ℕ). z.1) same in
      rw (p, q, u, v) (go (one_of k step_fields))
    where
      go : (t : Bool) → with_rest rest (if t then none else some k) ≡ (if t then none else some (k, rest))
      go true = refl
      go false = refl

  pub no-command : one_of k step_fields ≡ true → field_of as_command l bs ≡ none
  no-command h = command-of ∙ rw h

  pub command : one_of k step_fields ≡ false → field_of as_command l bs ≡ some (k, rest)
  command h = command-of ∙ rw h

-- what is a command is a text
pub command-text : (l : ℕ) (bs k rest : List ℕ) → field_of as_command l bs ≡ some (k, rest) → field_of as_text l bs ≡ some (k, rest)
unfolding field_of as_command ◌>>=◌
command-text l bs k rest e = got (tree l bs) _ (k, rest) e λ x p e. got (as_text x.0 >>= λ s. if one_of s step_fields then none else some s) _ (k, rest) e λ t q r.
    got (as_text x.0) _ t q λ u v q. chosen (one_of u step_fields) _ _ q
    (λ _ n. none≢ t n)
    (λ _ m. rw (p, v, some-injective _ _ m) r)

-- what is no text is no command
pub no_text : (l : ℕ) (bs : List ℕ) → field_of as_text l bs ≡ none → field_of as_command l bs ≡ none
unfolding field_of as_command ◌>>=◌
no_text l bs e = go (tree l bs) e
  where
    last : (x : Yaml × List ℕ) (o : Option (List ℕ)) → with_rest x.1 o ≡ none → with_rest x.1 (o >>= λ s. if one_of s step_fields then none else some s) ≡ none
    last x none e = refl
    last x (some k) e = absurd (none-ne-some (k, x.1) (sym e))

    go : (o : Option (Yaml × List ℕ)) → (o >>= λ x. with_rest x.1 (as_text x.0)) ≡ none → (o >>= λ x. with_rest x.1 (as_text x.0 >>= λ s. if one_of s step_fields then none else some s)) ≡ none
    go none e = refl
    go (some x) e = last x (as_text x.0) e

-- a text by its place
pub text-part : (s : List ℕ) (at to : ℕ) → Bytes s → (w : ReadAt (field_of as_text 0) s at to) → take (to - (at + 6)) (drop (at + 6) s) ≡ w.value
unfolding text_item encode item
text-part s at to b w =
    let k = w.value in
    let d : drop at s ≡ item 3 k ++ drop to s = (text-reads (drop at s) (k, drop to s) (bytes_drop at s b) w.is).is in
    let e : drop at s ≡ (head 3 (length k) ++ k) ++ drop to s = d in
    let n : length s - at ≡ 6 + length k + (length s - to) = sym (length-drop at s) ∙ ap length d ∙ simp (length-append, head-length, length-drop) in
    let m : to - (at + 6) ≡ length k = omega (arith, w.forward, w.fits) in
    let behind : drop (at + 6) s ≡ k ++ drop to s =
    sym (drop-drop 6 at s) ∙ ap (drop 6) (e ∙ append_assoc (head 3 (length k)) k (drop to s)) ∙ drop_at (head 3 (length k)) (k ++ drop to s) 6 (head-length 3 (length k)) in
    rw (m, behind) (take_at k (drop to s) (length k) refl)

-- a text is a command unless it is a field's name
pub command_ends : (s : List ℕ) (at to : ℕ) → Bytes s → ReadAt (field_of as_text 0) s at to → (b : Bool) → b ≡ one_of (take (to - (at + 6)) (drop (at + 6) s)) step_fields → Walks (field_of as_command 0) s at (then_some (not b) to)
command_ends s at to bytes w true e = no-command 0 (drop at s) w.value (drop to s) w.is (ap (λ (k : List ℕ). one_of k step_fields) (sym (text-part s at to bytes w)) ∙ sym e)
command_ends s at to bytes w false e = record {
  value = w.value;
  is = command 0 (drop at s) w.value (drop to s) w.is (ap (λ (k : List ℕ). one_of k step_fields) (sym (text-part s at to bytes w)) ∙ sym e);
  forward = w.forward;
  fits = w.fits;
}

pub command-part : (s : List ℕ) (at to : ℕ) → Bytes s → (w : ReadAt (field_of as_command 0) s at to) → w.value ≡ take (to - (at + 6)) (drop (at + 6) s)
command-part s at to b w =
    sym (text-part s at to b (record { value = w.value; is = command-text 0 (drop at s) w.value (drop to s) w.is; forward = w.forward; fits = w.fits }))
