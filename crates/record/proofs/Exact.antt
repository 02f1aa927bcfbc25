-- Bytes whose meaning is read are that meaning's record, and it keeps the rules. Assumes nothing.
use Rattle.std.proofs.Common.{◌≡◌, refl, sym, ap, ◌∙◌, subst, ℕ, zero, suc, ◌≤◌, List, [], ◌∷◌, ◌++◌, append-nil, map, Bool, true, false, leb, eqb, length, eqb-true, leb-true}
use Rattle.std.proofs.lemmas.Bool.{false≢true}
use Rattle.std.proofs.Math.Option.{Option, none, some, some-injective}
use Rattle.refusal.specs.Base.{one_of, limit}
use Rattle.refusal.proofs.Tools.{chosen}
use Rattle.item.specs.Tree.{Yaml, Items, Entries, null, bool, int, str, seq, dict, levels}
use Rattle.item.specs.Encode.{item, encode, Bytes}
use Rattle.item.specs.Decode.{Decoder, header}
use Rattle.item.proofs.Exact.{got, none≢, header-inv, nothing-inv, decode-exact}
use Rattle.meaning.specs.Sound.{sound}
use Rattle.value.specs.Tree.{tree}
use Rattle.value.proofs.Invariants.{taken}
use Rattle.value.proofs.Levels.{decode-low}
use Rattle.meaning.specs.Meaning.{Defaults, Step, Meaning, step_fields, built_in_steps}
use Rattle.meaning.specs.Record.{joined, optional, expected, text_item, step_parts, step_item, defaults_parts, defaults_item, tags_item, steps_item, fields, record_of}
use Rattle.meaning.specs.Rules.{Each, StepRules, Rules, IsRecord}
use Rattle.utf8.specs.Utf8.{Utf8}
use Rattle.record.specs.Read.{field_of, as_text, as_optional, as_flag, as_items, as_command, as_expect, content, in_item, many, all, step_in, defaults_in, rest_in, fields_in, meaning_in}

-- what was read stands in front, as it is written, and is good
pub record Front {A : Type 0} (write : A → List ℕ) (Good : A → Type 0) (bs : List ℕ) (x : A × List ℕ) : Type 0 where
  pub is : bs ≡ write x.0 ++ x.1
  pub left : Bytes x.1
  pub kept : Good x.0

abbrev pub Reads : {A : Type 0} → (A → List ℕ) → (A → Type 0) → Decoder A → Type 0
Reads {A} write Good f = (bs : List ℕ) (x : A × List ℕ) → Bytes bs → f bs ≡ some x → Front write Good bs x

-- the same of a whole content
abbrev pub Fills : {A : Type 0} → (A → List ℕ) → (A → Type 0) → (List ℕ → Option A) → Type 0
Fills {A} write Good inner = (s : List ℕ) (a : A) → Bytes s → inner s ≡ some a → (s ≡ write a) × Good a

-- ---- one field

abbrev pub Fit : ℕ → Yaml → Type 0
Fit l y = (sound y ≡ true) × (levels y ≤ l)

module _ {A : Type 0} (view : Yaml → Option A) (write : A → Yaml) (More : A → Type 0) (known : (y : Yaml) (a : A) → view y ≡ some a → (y ≡ write a) × More a) (l : ℕ) where
  field-reads : Reads (λ a. encode (write a)) (λ a. Fit l (write a) × More a) (field_of view l)
  unfolding field_of
  field-reads bs x b e = got (tree l bs) _ x e λ t p e. got (view t.0) _ x e λ a q r.
      let w = taken l bs t.0 t.1 p in
      let d = decode-exact l bs t b w.is in
      let k = known t.0 a q in
      subst (λ (x : A × List ℕ). Front (λ a. encode (write a)) (λ a. Fit l (write a) × More a) bs x) (some-injective _ _ r) (record {
        is = d.is ∙ ap (λ (y : Yaml). encode y ++ t.1) k.0;
        left = d.left;
        kept = ((ap (λ (y : Yaml). sound y) (sym k.0) ∙ w.kept, subst (λ (y : Yaml). levels y ≤ l) k.0 (decode-low l bs t w.is)), k.1);
      })

text-known : (y : Yaml) (s : List ℕ) → as_text y ≡ some s → (y ≡ str s) × Unit {0}
unfolding as_text
text-known (str t) s e = (ap str (some-injective _ _ e), tt)
text-known null s e = none≢ s e
text-known (bool b) s e = none≢ s e
text-known (int z) s e = none≢ s e
text-known (seq ys) s e = none≢ s e
text-known (dict es) s e = none≢ s e

optional-known : (y : Yaml) (o : Option (List ℕ)) → as_optional y ≡ some o → (y ≡ optional o) × Unit {0}
unfolding as_optional optional
optional-known null o e = (rw (← some-injective _ _ e), tt)
optional-known (str t) o e = (rw (← some-injective _ _ e), tt)
optional-known (bool b) o e = none≢ o e
optional-known (int z) o e = none≢ o e
optional-known (seq ys) o e = none≢ o e
optional-known (dict es) o e = none≢ o e

flag-known : (y : Yaml) (b : Bool) → as_flag y ≡ some b → (y ≡ bool b) × Unit {0}
unfolding as_flag
flag-known (bool c) b e = (ap bool (some-injective _ _ e), tt)
flag-known null b e = none≢ b e
flag-known (int z) b e = none≢ b e
flag-known (str s) b e = none≢ b e
flag-known (seq ys) b e = none≢ b e
flag-known (dict es) b e = none≢ b e

items-known : (y : Yaml) (ys : Items) → as_items y ≡ some ys → (y ≡ seq ys) × Unit {0}
unfolding as_items
items-known (seq zs) ys e = (ap seq (some-injective _ _ e), tt)
items-known null ys e = none≢ ys e
items-known (bool b) ys e = none≢ ys e
items-known (int z) ys e = none≢ ys e
items-known (str s) ys e = none≢ ys e
items-known (dict es) ys e = none≢ ys e

tree-known : (y z : Yaml) → some y ≡ some z → (y ≡ z) × Unit {0}
tree-known y z e = (some-injective _ _ e, tt)

abbrev Command : List ℕ → Type 0
Command s = one_of s step_fields ≡ false

command-known : (y : Yaml) (s : List ℕ) → as_command y ≡ some s → (y ≡ str s) × Command s
unfolding as_command
command-known y s e = got (as_text y) _ s e λ t p e. chosen (one_of t step_fields) _ _ e
    (λ _ r. none≢ s r)
    (λ u r. let q : t ≡ s = some-injective _ _ r in ((text-known y t p).0 ∙ ap str q, ap (λ (x : List ℕ). one_of x step_fields) (sym q) ∙ u))

abbrev Alone : List ℕ → Option Entries → Type 0
Alone key o = one_of key built_in_steps ≡ true → o ≡ none

expect-known : (key : List ℕ) (y : Yaml) (o : Option Entries) → as_expect key y ≡ some o → (y ≡ expected o) × Alone key o
unfolding as_expect expected
expect-known key null o e = (rw (← some-injective _ _ e), λ _. sym (some-injective _ _ e))
expect-known key (dict es) o e = chosen (one_of key built_in_steps) _ _ e
    (λ _ r. none≢ o r)
    (λ u r. (rw (← some-injective _ _ r), λ t. absurd (false≢true (sym u ∙ t))))
expect-known key (bool b) o e = none≢ o e
expect-known key (int z) o e = none≢ o e
expect-known key (str s) o e = none≢ o e
expect-known key (seq ys) o e = none≢ o e

abbrev pub Free : {A : Type 0} → A → Type 0
Free a = Unit {0}

-- ---- an item, by its content

content-reads : (k : ℕ) (bs : List ℕ) (x : List ℕ × List ℕ) → Bytes bs → content k bs ≡ some x → Front (item k) Bytes bs x
unfolding content
content-reads k bs x b e = got (header bs) _ x e λ y p e. chosen (eqb y.0 k) _ _ e
    (λ t r. let w = header-inv bs y b p in
    subst (Front (item k) Bytes bs) (some-injective _ _ r) (record {
      is = w.is ∙ ap (λ (j : ℕ). item j y.1 ++ y.2) (eqb-true _ _ t);
      left = w.left;
      kept = w.inner;
    }))
    (λ _ r. none≢ x r)

item-reads : {A : Type 0} (k : ℕ) (write : A → List ℕ) (Good : A → Type 0) (inner : List ℕ → Option A) → Fills write Good inner → Reads (λ a. item k (write a)) Good (in_item k inner)
unfolding in_item
item-reads {A} k write Good inner h bs x b e = got (content k bs) _ x e λ y p e. got (inner y.0) _ x e λ a q r.
    let w = content-reads k bs y b p in
    let f = h y.0 a w.kept q in
    subst (λ (x : A × List ℕ). Front (λ a. item k (write a)) Good bs x) (some-injective _ _ r) (record {
      is = w.is ∙ ap (λ (s : List ℕ). item k s ++ y.1) f.0;
      left = w.left;
      kept = f.1;
    })

-- ---- one thing behind another

module _ {A : Type 0} (write : A → List ℕ) (Good : A → Type 0) (one : Decoder A) (reads : Reads write Good one) where
  many-fills : (t : ℕ) → Fills (λ l. joined (map write l)) (Each Good) (many one t)
  unfolding many joined
  many-fills zero [] l b e = subst (λ (l : List A). ([] ≡ joined (map write l)) × Each Good l) (some-injective _ _ e) (refl, tt)
  many-fills zero (c ∷ bs) l b e = none≢ l e
  many-fills (suc t) [] l b e = subst (λ (l : List A). ([] ≡ joined (map write l)) × Each Good l) (some-injective _ _ e) (refl, tt)
  many-fills (suc t) (c ∷ bs) l b e = got (one (c ∷ bs)) _ l e
      λ x p e. got (many one t x.1) _ l e
      λ k q r.
      let w = reads (c ∷ bs) x b p in
      let f = many-fills t x.1 k w.left q in
      subst (λ (l : List A). (c ∷ bs ≡ joined (map write l)) × Each Good l) (some-injective _ _ r) (w.is ∙ ap (λ (s : List ℕ). write x.0 ++ s) f.0, (w.kept, f.1))

  all-fills : Fills (λ l. joined (map write l)) (Each Good) (all one)
  unfolding all
  all-fills s l b e = many-fills (length s) s l b e

-- the next part, in front of what is left
next : {A : Type 0} (write : A → List ℕ) {Good : A → Type 0} {bs : List ℕ} {x : A × List ℕ} {rest : List ℕ} → Front write Good bs x → x.1 ≡ rest → bs ≡ write x.0 ++ rest
next write {x = x} w e = w.is ∙ ap (λ (s : List ℕ). write x.0 ++ s) e

-- ---- the meaning

pub text-reads : Reads text_item (λ s. Fit 0 (str s) × Free s) (field_of as_text 0)
unfolding text_item
text-reads = field-reads as_text str Free text-known 0

optional-reads : Reads (λ o. encode (optional o)) (λ o. Fit 0 (optional o) × Free o) (field_of as_optional 0)
optional-reads = field-reads as_optional optional Free optional-known 0

step-fills : Fills (λ s. joined (step_parts s)) StepRules step_in
unfolding step_in step_parts joined text_item sound
step-fills s a b e =
    got (field_of as_text 0 s) _ a e λ x₁ p₁ e. let w₁ = text-reads s x₁ b p₁ in
    got (field_of as_text 0 x₁.1) _ a e λ x₂ p₂ e. let w₂ = text-reads x₁.1 x₂ w₁.left p₂ in
    got (field_of as_command 0 x₂.1) _ a e λ x₃ p₃ e. let w₃ = field-reads as_command str Command command-known 0 x₂.1 x₃ w₂.left p₃ in
    got (field_of some 29 x₃.1) _ a e λ x₄ p₄ e. let w₄ = field-reads some (λ y. y) Free tree-known 29 x₃.1 x₄ w₃.left p₄ in
    got (field_of as_optional 0 x₄.1) _ a e λ x₅ p₅ e. let w₅ = optional-reads x₄.1 x₅ w₄.left p₅ in
    got (field_of as_flag 0 x₅.1) _ a e λ x₆ p₆ e. let w₆ = field-reads as_flag bool Free flag-known 0 x₅.1 x₆ w₅.left p₆ in
    got (field_of (as_expect x₃.0) 29 x₆.1) _ a e λ x₇ p₇ e. let w₇ = field-reads (as_expect x₃.0) expected (Alone x₃.0) (expect-known x₃.0) 29 x₆.1 x₇ w₆.left p₇ in
    let v = nothing-inv _ a x₇.1 e in
    subst (λ (a : Step). (s ≡ joined (step_parts a)) × StepRules a) v.1 (
      next text_item w₁ (next text_item w₂ (next text_item w₃ (next encode w₄ (next (λ o. encode (optional o)) w₅ (next (λ c. encode (bool c)) w₆ (next (λ o. encode (expected o)) w₇ v.0)))))),
      record {
        name = w₁.kept.0.0;
        id = w₂.kept.0.0;
        key = w₃.kept.0.0;
        value = w₄.kept.0.0;
        timeout = w₅.kept.0.0;
        expect = w₇.kept.0.0;
        command = w₃.kept.1;
        alone = w₇.kept.1;
        value_levels = w₄.kept.0.1;
        expect_levels = w₇.kept.0.1;
      },
    )

abbrev Timed : Defaults → Type 0
Timed d = (sound (optional d.timeout) ≡ true) × (sound (optional d.wall_budget) ≡ true)

defaults-fills : Fills (λ d. joined (defaults_parts d)) Timed defaults_in
unfolding defaults_in defaults_parts joined
defaults-fills s a b e =
    got (field_of as_optional 0 s) _ a e λ x₁ p₁ e. let w₁ = optional-reads s x₁ b p₁ in
    got (field_of as_optional 0 x₁.1) _ a e λ x₂ p₂ e. let w₂ = optional-reads x₁.1 x₂ w₁.left p₂ in
    let v = nothing-inv _ a x₂.1 e in
    subst (λ (a : Defaults). (s ≡ joined (defaults_parts a)) × Timed a) v.1 (
      next (λ o. encode (optional o)) w₁ (next (λ o. encode (optional o)) w₂ v.0),
      (w₁.kept.0.0, w₂.kept.0.0),
    )

step-reads : Reads step_item StepRules (in_item 19 step_in)
unfolding step_item
step-reads = item-reads 19 (λ s. joined (step_parts s)) StepRules step_in step-fills

-- the last three fields, and what holds of them
abbrev Last : Type 0
Last = Defaults × Items × List Step

abbrev last_parts : Last → List (List ℕ)
last_parts x = defaults_item x.0 ∷ encode (seq x.1) ∷ steps_item x.2 ∷ []

abbrev LastRules : Last → Type 0
LastRules x = Timed x.0 × Fit 31 (seq x.1) × Each StepRules x.2

rest-fills : Fills (λ x. joined (last_parts x)) LastRules rest_in
unfolding rest_in joined defaults_item steps_item
rest-fills s a b e =
    got (in_item 17 defaults_in s) _ a e λ x₁ p₁ e. let w₁ = item-reads 17 (λ d. joined (defaults_parts d)) Timed defaults_in defaults-fills s x₁ b p₁ in
    got (field_of as_items 31 x₁.1) _ a e λ x₂ p₂ e. let w₂ = field-reads as_items seq Free items-known 31 x₁.1 x₂ w₁.left p₂ in
    got (in_item 18 (all (in_item 19 step_in)) x₂.1) _ a e λ x₃ p₃ e.
    let w₃ = item-reads 18 (λ l. joined (map step_item l)) (Each StepRules) (all (in_item 19 step_in)) (all-fills step_item StepRules (in_item 19 step_in) step-reads) x₂.1 x₃ w₂.left p₃ in
    let v = nothing-inv _ a x₃.1 e in
    subst (λ (a : Last). (s ≡ joined (last_parts a)) × LastRules a) v.1 (
      next (λ d. item 17 (joined (defaults_parts d))) w₁ (next (λ ys. encode (seq ys)) w₂ (next (λ l. item 18 (joined (map step_item l))) w₃ v.0)),
      (w₁.kept, w₂.kept.0, w₃.kept),
    )

tag-utf8 : (l : List (List ℕ)) → Each (λ s. Fit 0 (str s) × Free s) l → Each Utf8 l
unfolding sound
tag-utf8 [] h = tt
tag-utf8 (t ∷ l) h = (h.0.0.0, tag-utf8 l h.1)

abbrev Sized : Meaning → Type 0
Sized m = length (record_of m) ≤ limit → Rules m

meaning-fills : Fills (λ m. joined (fields m)) Sized fields_in
unfolding fields_in joined fields tags_item sound
meaning-fills s m b e =
    got (field_of as_text 0 s) _ m e λ x₁ p₁ e. let w₁ = text-reads s x₁ b p₁ in
    got (field_of as_text 0 x₁.1) _ m e λ x₂ p₂ e. let w₂ = text-reads x₁.1 x₂ w₁.left p₂ in
    got (in_item 4 (all (field_of as_text 0)) x₂.1) _ m e λ x₃ p₃ e.
    let w₃ = item-reads 4 (λ l. joined (map text_item l)) (Each (λ s. Fit 0 (str s) × Free s)) (all (field_of as_text 0)) (all-fills text_item (λ s. Fit 0 (str s) × Free s) (field_of as_text 0) text-reads) x₂.1 x₃ w₂.left p₃ in
    got (field_of as_text 0 x₃.1) _ m e λ x₄ p₄ e. let w₄ = text-reads x₃.1 x₄ w₃.left p₄ in
    got (field_of some 31 x₄.1) _ m e λ x₅ p₅ e. let w₅ = field-reads some (λ y. y) Free tree-known 31 x₄.1 x₅ w₄.left p₅ in
    got (rest_in x₅.1) _ m e λ x₆ p₆ r.
    let w₆ = rest-fills x₅.1 x₆ w₅.left p₆ in
    subst (λ (m : Meaning). (s ≡ joined (fields m)) × Sized m) (some-injective _ _ r) (
      next text_item w₁ (next text_item w₂ (next (λ l. item 4 (joined (map text_item l))) w₃ (next text_item w₄ (next encode w₅ w₆.0)))),
      λ small. record {
        name = w₁.kept.0.0;
        description = w₂.kept.0.0;
        tags = tag-utf8 x₃.0 w₃.kept;
        image = w₄.kept.0.0;
        setup = w₅.kept.0.0;
        timeout = w₆.1.0.0;
        wall_budget = w₆.1.0.1;
        fail_on = w₆.1.1.0;
        steps = w₆.1.2;
        setup_levels = w₅.kept.0.1;
        fail_on_levels = w₆.1.1.1;
        size = small;
      },
    )

-- bytes are accepted only if they are the record of a meaning within the rules, and then it is that one
pub meaning-exact : (b : List ℕ) (m : Meaning) → Bytes b → meaning_in b ≡ some m → IsRecord b m
unfolding meaning_in record_of
meaning-exact b m h e = chosen (leb (length b) limit) _ _ e
    (λ t e. got (in_item 16 fields_in b) _ m e λ x p e.
    let w = item-reads 16 (λ m. joined (fields m)) Sized fields_in meaning-fills b x h p in
    let v = nothing-inv x.0 m x.1 e in
    let is : record_of m ≡ b = sym (next (λ m. item 16 (joined (fields m))) w v.0 ∙ append-nil _ ∙ ap record_of v.1) in
    record {
      kept = subst Sized v.1 w.kept (subst (λ (s : List ℕ). length s ≤ limit) (sym is) (leb-true _ _ t));
      written = is;
    })
    (λ _ r. none≢ m r)
