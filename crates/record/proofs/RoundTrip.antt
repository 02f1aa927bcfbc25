-- The record of a meaning within the rules is read back to that meaning; so records are one-to-one. Assumes nothing.
use Rattle.std.specs.Prelude.{if◌then◌else◌}
use Rattle.std.proofs.Common.{◌≡◌, refl, sym, ◌∙◌, ℕ, zero, suc, ◌+◌, ◌^◌, ◌≤◌, ◌<◌, le_refl, arith, List, [], ◌∷◌, ◌++◌, append-nil, map, Bool, true, false, length, length-append, eq-eqb, le-leb}
use Rattle.std.proofs.Math.Option.{Option, none, some, some-injective}
use Rattle.refusal.specs.Base.{one_of, limit}
use Rattle.item.specs.Tree.{Yaml, Entries, bool, str, seq, levels}
use Rattle.item.specs.Encode.{item, encode}
use Rattle.item.proofs.Size.{item-length, encode-long}
use Rattle.item.specs.Decode.{◌>>=◌, Decoder, nothing}
use Rattle.item.proofs.RoundTrip.{header-item}
use Rattle.meaning.specs.Sound.{sound}
use Rattle.value.proofs.Levels.{tree-back}
use Rattle.meaning.specs.Meaning.{Defaults, Step, Meaning, step_fields, built_in_steps}
use Rattle.meaning.specs.Record.{joined, optional, expected, text_item, step_parts, step_item, defaults_parts, defaults_item, tags_item, steps_item, fields, record_of}
use Rattle.meaning.specs.Rules.{Each, StepRules, Rules, IsRecord}
use Rattle.utf8.specs.Utf8.{Utf8}
use Rattle.record.specs.Read.{field_of, as_text, as_optional, as_flag, as_items, as_command, as_expect, content, in_item, many, all, step_in, defaults_in, rest_in, fields_in, meaning_in}

-- lengths of four bytes
abbrev Short : List ℕ → Type 0
Short s = length s < 256 ^ 4

-- ---- a field, an item, one thing behind another

field_back : {A : Type 0} (view : Yaml → Option A) (l : ℕ) (y : Yaml) (a : A) (r : List ℕ) → view y ≡ some a → sound y ≡ true → levels y ≤ l → Short (encode y)
    → field_of view l (encode y ++ r) ≡ some (a, r)
unfolding field_of ◌>>=◌
field_back view l y a r v s d h = rw (tree-back l y r s d h, v)

item_back : {A : Type 0} (k : ℕ) (inner : List ℕ → Option A) (c : List ℕ) (a : A) (r : List ℕ) → inner c ≡ some a → k < 256 ^ 2 → Short c → in_item k inner (item k c ++ r) ≡ some (a, r)
unfolding in_item content ◌>>=◌
item_back k inner c a r e h s = rw (header-item k c r h s, eq-eqb k k refl, e)

module _ {A : Type 0} (write : A → List ℕ) (one : Decoder A) (Good : A → Type 0)
    (back : (a : A) (r : List ℕ) → Good a → Short (write a) → one (write a ++ r) ≡ some (a, r)) (long : (a : A) → 0 < length (write a)) where
  one_more : (t : ℕ) (bs r : List ℕ) (a : A) → 0 < length bs → one bs ≡ some (a, r) → many one (suc t) bs ≡ (many one t r >>= λ l. some (a ∷ l))
  unfolding many ◌>>=◌
  one_more t [] r a h e = absurd (omega arith)
  one_more t (b ∷ bs) r a h e = rw e

  many-back : (l : List A) (t : ℕ) → Each Good l → Short (joined (map write l)) → length (joined (map write l)) ≤ t → many one t (joined (map write l)) ≡ some l
  unfolding many joined ◌>>=◌
  many-back [] zero g h m = refl
  many-back [] (suc t) g h m = refl
  many-back (a ∷ l) zero g h m = absurd (omega (arith, length-append (write a) (joined (map write l)), long a))
  many-back (a ∷ l) (suc t) g h m =
      let n : length (write a ++ joined (map write l)) ≡ length (write a) + length (joined (map write l)) = length-append (write a) _ in
      let p : 0 < length (write a) = long a in
      one_more t (write a ++ joined (map write l)) (joined (map write l)) a (omega arith) (back a _ g.0 (omega arith))
      ∙ rw (many-back l t g.1 (omega arith) (omega arith))

  all_back : (l : List A) → Each Good l → Short (joined (map write l)) → all one (joined (map write l)) ≡ some l
  unfolding all
  all_back l g h = many-back l (length (joined (map write l))) g h (le_refl _)

-- ---- the fields

text-back : (s r : List ℕ) → Utf8 s → Short (text_item s) → field_of as_text 0 (text_item s ++ r) ≡ some (s, r)
unfolding text_item as_text sound levels
text-back s r u h = field_back as_text 0 (str s) s r refl u (omega arith) h

text-long : (s : List ℕ) → 0 < length (text_item s)
unfolding text_item
text-long s = encode-long (str s)

optional-low : (o : Option (List ℕ)) → levels (optional o) ≤ 0
unfolding optional levels
optional-low none = omega arith
optional-low (some s) = omega arith

optional-view : (o : Option (List ℕ)) → as_optional (optional o) ≡ some o
unfolding as_optional optional
optional-view none = refl
optional-view (some s) = refl

optional-back : (o : Option (List ℕ)) (r : List ℕ) → sound (optional o) ≡ true → Short (encode (optional o)) → field_of as_optional 0 (encode (optional o) ++ r) ≡ some (o, r)
optional-back o r s h = field_back as_optional 0 (optional o) o r (optional-view o) s (optional-low o) h

command-back : (s r : List ℕ) → Utf8 s → one_of s step_fields ≡ false → Short (text_item s) → field_of as_command 0 (text_item s ++ r) ≡ some (s, r)
unfolding text_item as_command as_text ◌>>=◌ sound levels
command-back s r u c h = field_back as_command 0 (str s) s r (rw c) u (omega arith) h

flag-back : (b : Bool) (r : List ℕ) → Short (encode (bool b)) → field_of as_flag 0 (encode (bool b) ++ r) ≡ some (b, r)
unfolding as_flag sound levels
flag-back b r h = field_back as_flag 0 (bool b) b r refl refl (omega arith) h

not-beside : (es : Entries) (t : Bool) → (t ≡ true → some es ≡ none) → (if t then none else some (some es)) ≡ some (some es)
not-beside es true a = let e : some es ≡ none = a refl in let z : ◌≡◌ {A = ℕ} 0 1 = cc in absurd (omega arith)
not-beside es false a = refl

expect-view : (key : List ℕ) (o : Option Entries) → (one_of key built_in_steps ≡ true → o ≡ none) → as_expect key (expected o) ≡ some o
unfolding as_expect expected
expect-view key none a = refl
expect-view key (some es) a = not-beside es (one_of key built_in_steps) a

expect-back : (key : List ℕ) (o : Option Entries) (r : List ℕ) → (one_of key built_in_steps ≡ true → o ≡ none) → sound (expected o) ≡ true → levels (expected o) ≤ 29 → Short (encode (expected o))
    → field_of (as_expect key) 29 (encode (expected o) ++ r) ≡ some (o, r)
expect-back key o r a s d h = field_back (as_expect key) 29 (expected o) o r (expect-view key o a) s d h

step-in-back : (s : Step) → StepRules s → Short (joined (step_parts s)) → step_in (joined (step_parts s)) ≡ some s
unfolding step_in step_parts joined ◌>>=◌ nothing
step-in-back s k h =
    let a₁ = text_item s.name in
    let a₂ = text_item s.id in
    let a₃ = text_item s.key in
    let a₄ = encode s.value in
    let a₅ = encode (optional s.timeout) in
    let a₆ = encode (bool s.continue) in
    let a₇ = encode (expected s.expect) in
    let r₆ = a₇ ++ [] in
    let r₅ = a₆ ++ r₆ in
    let r₄ = a₅ ++ r₅ in
    let r₃ = a₄ ++ r₄ in
    let r₂ = a₃ ++ r₃ in
    let r₁ = a₂ ++ r₂ in
    let l₁ : length (a₁ ++ r₁) ≡ length a₁ + length r₁ = length-append a₁ r₁ in
    let l₂ : length r₁ ≡ length a₂ + length r₂ = length-append a₂ r₂ in
    let l₃ : length r₂ ≡ length a₃ + length r₃ = length-append a₃ r₃ in
    let l₄ : length r₃ ≡ length a₄ + length r₄ = length-append a₄ r₄ in
    let l₅ : length r₄ ≡ length a₅ + length r₅ = length-append a₅ r₅ in
    let l₆ : length r₅ ≡ length a₆ + length r₆ = length-append a₆ r₆ in
    let l₇ : length r₆ ≡ length a₇ + 0 = length-append a₇ [] in
    rw (
      text-back s.name r₁ k.name (omega arith),
      text-back s.id r₂ k.id (omega arith),
      command-back s.key r₃ k.key k.command (omega arith),
      field_back some 29 s.value s.value r₄ refl k.value k.value_levels (omega arith),
      optional-back s.timeout r₅ k.timeout (omega arith),
      flag-back s.continue r₆ (omega arith),
      expect-back s.key s.expect [] k.alone k.expect k.expect_levels (omega arith),
    )

pub step_back : (s : Step) (r : List ℕ) → StepRules s → Short (step_item s) → in_item 19 step_in (step_item s ++ r) ≡ some (s, r)
unfolding step_item
step_back s r k h =
    let c : Short (joined (step_parts s)) = omega (arith, item-length 19 (joined (step_parts s))) in
    item_back 19 step_in (joined (step_parts s)) s r (step-in-back s k c) (omega arith) c

step-long : (s : Step) → 0 < length (step_item s)
unfolding step_item
step-long s = omega (arith, item-length 19 (joined (step_parts s)))

defaults-back : (d : Defaults) → sound (optional d.timeout) ≡ true → sound (optional d.wall_budget) ≡ true → Short (joined (defaults_parts d)) → defaults_in (joined (defaults_parts d)) ≡ some d
unfolding defaults_in defaults_parts joined nothing ◌>>=◌
defaults-back d t w h =
    let a₁ = encode (optional d.timeout) in
    let a₂ = encode (optional d.wall_budget) in
    let l₁ : length (a₁ ++ (a₂ ++ [])) ≡ length a₁ + length (a₂ ++ []) = length-append a₁ (a₂ ++ []) in
    let l₂ : length (a₂ ++ []) ≡ length a₂ + 0 = length-append a₂ [] in
    rw (optional-back d.timeout (a₂ ++ []) t (omega arith), optional-back d.wall_budget [] w (omega arith))

-- the content of a record
pub meaning-of-back : (m : Meaning) → Rules m → Short (joined (fields m)) → fields_in (joined (fields m)) ≡ some m
unfolding fields_in rest_in fields joined defaults_item tags_item steps_item as_items ◌>>=◌ nothing sound
meaning-of-back m k h =
    let tags = joined (map text_item m.tags) in
    let dd = joined (defaults_parts m.defaults) in
    let ss = joined (map step_item m.steps) in
    let a₁ = text_item m.name in
    let a₂ = text_item m.description in
    let a₃ = item 4 tags in
    let a₄ = text_item m.image in
    let a₅ = encode m.setup in
    let a₆ = item 17 dd in
    let a₇ = encode (seq m.fail_on) in
    let a₈ = item 18 ss in
    let r₇ = a₈ ++ [] in
    let r₆ = a₇ ++ r₇ in
    let r₅ = a₆ ++ r₆ in
    let r₄ = a₅ ++ r₅ in
    let r₃ = a₄ ++ r₄ in
    let r₂ = a₃ ++ r₃ in
    let r₁ = a₂ ++ r₂ in
    let l₁ : length (a₁ ++ r₁) ≡ length a₁ + length r₁ = length-append a₁ r₁ in
    let l₂ : length r₁ ≡ length a₂ + length r₂ = length-append a₂ r₂ in
    let l₃ : length r₂ ≡ length a₃ + length r₃ = length-append a₃ r₃ in
    let l₄ : length r₃ ≡ length a₄ + length r₄ = length-append a₄ r₄ in
    let l₅ : length r₄ ≡ length a₅ + length r₅ = length-append a₅ r₅ in
    let l₆ : length r₅ ≡ length a₆ + length r₆ = length-append a₆ r₆ in
    let l₇ : length r₆ ≡ length a₇ + length r₇ = length-append a₇ r₇ in
    let l₈ : length r₇ ≡ length a₈ + 0 = length-append a₈ [] in
    let t₃ : length a₃ ≡ 6 + length tags = item-length 4 tags in
    let t₆ : length a₆ ≡ 6 + length dd = item-length 17 dd in
    let t₈ : length a₈ ≡ 6 + length ss = item-length 18 ss in
    rw (
      text-back m.name r₁ k.name (omega arith),
      text-back m.description r₂ k.description (omega arith),
      item_back 4 (all (field_of as_text 0)) tags m.tags r₃ (all_back text_item (field_of as_text 0) Utf8 text-back text-long m.tags k.tags (omega arith)) (omega arith) (omega arith),
      text-back m.image r₄ k.image (omega arith),
      field_back some 31 m.setup m.setup r₅ refl k.setup k.setup_levels (omega arith),
      item_back 17 defaults_in dd m.defaults r₆ (defaults-back m.defaults k.timeout k.wall_budget (omega arith)) (omega arith) (omega arith),
      field_back as_items 31 (seq m.fail_on) m.fail_on r₇ refl k.fail_on k.fail_on_levels (omega arith),
      item_back 18 (all (in_item 19 step_in)) ss m.steps [] (all_back step_item (in_item 19 step_in) StepRules step_back step-long m.steps k.steps (omega arith)) (omega arith) (omega arith),
    )

-- the record of every meaning within the rules is accepted, and gives that meaning
pub meaning-back : (b : List ℕ) (m : Meaning) → IsRecord b m → meaning_in b ≡ some m
unfolding meaning_in record_of ◌>>=◌ nothing
meaning-back b m r =
    let c = joined (fields m) in
    let small : length (item 16 c) ≤ limit = r.kept.size in
    let n : length (item 16 c) ≡ 6 + length c = item-length 16 c in
    rw (
      ← r.written,
      le-leb (length (item 16 c)) limit small,
      ← append-nil (item 16 c),
      item_back 16 fields_in c m [] (meaning-of-back m r.kept (omega arith)) (omega arith) (omega arith),
    )

-- equal bytes, equal meanings
pub one-to-one : (m n : Meaning) → Rules m → Rules n → record_of m ≡ record_of n → m ≡ n
one-to-one m n h k e =
    some-injective _ _ (sym (meaning-back (record_of n) m (record { kept = h; written = e })) ∙ meaning-back (record_of n) n (record { kept = k; written = refl }))
