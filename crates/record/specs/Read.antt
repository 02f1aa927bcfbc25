-- Section 5 of document 01, read back: the meaning of bytes that are the record of one within the rules, and none of any other bytes (Exact
-- and RoundTrip of proofs/ show both). Uses Base of `refusal`; Tree and Decode of `item`; Meaning of `meaning`; Tree of `value`. Assumes
-- nothing.
use Rattle.std.specs.Prelude.{ℕ, zero, suc, List, [], ◌∷◌, Bool, leb, eqb, length, if◌then◌else◌}
use Rattle.std.proofs.Math.Option.{Option, none, some}
use Rattle.refusal.specs.Base.{one_of, limit}
use Rattle.item.specs.Tree.{Yaml, Items, Entries, null, bool, int, str, seq, dict}
use Rattle.item.specs.Decode.{◌>>=◌, Decoder, header, nothing}
use Rattle.value.specs.Tree.{tree}
use Rattle.meaning.specs.Meaning.{Defaults, Step, Meaning, step_fields, built_in_steps}

-- ---- one field

-- a sound tree of at most so many levels, as what the field holds
unfoldable pub field_of : {A : Type 0} → (Yaml → Option A) → ℕ → Decoder A
field_of view levels bs = do
  (y, rest) ← tree levels bs
  a ← view y
  some (a, rest)

-- a string
unfoldable pub as_text : Yaml → Option (List ℕ)
as_text (str s) = some s
as_text null = none
as_text (bool b) = none
as_text (int z) = none
as_text (seq ys) = none
as_text (dict es) = none

-- a string, or null for none
unfoldable pub as_optional : Yaml → Option (Option (List ℕ))
as_optional null = some none
as_optional (str s) = some (some s)
as_optional (bool b) = none
as_optional (int z) = none
as_optional (seq ys) = none
as_optional (dict es) = none

unfoldable pub as_flag : Yaml → Option Bool
as_flag (bool b) = some b
as_flag null = none
as_flag (int z) = none
as_flag (str s) = none
as_flag (seq ys) = none
as_flag (dict es) = none

unfoldable pub as_items : Yaml → Option Items
as_items (seq ys) = some ys
as_items null = none
as_items (bool b) = none
as_items (int z) = none
as_items (str s) = none
as_items (dict es) = none

-- no command is one of the five `STEP_FIELDS`
unfoldable pub as_command : Yaml → Option (List ℕ)
as_command y = do
  s ← as_text y
  if one_of s step_fields then none else some s

-- a mapping, or null for none; never a mapping beside `BUILT_IN_STEPS`
unfoldable pub as_expect : List ℕ → Yaml → Option (Option Entries)
as_expect key null = some none
as_expect key (dict es) = if one_of key built_in_steps then none else some (some es)
as_expect key (bool b) = none
as_expect key (int z) = none
as_expect key (str s) = none
as_expect key (seq ys) = none

-- ---- an item of one kind, by its content

-- the content of an item of this kind, and what is left
unfoldable pub content : ℕ → Decoder (List ℕ)
content kind bs = do
  (k, s, rest) ← header bs
  if eqb k kind then some (s, rest) else none

unfoldable pub in_item : {A : Type 0} → ℕ → (List ℕ → Option A) → Decoder A
in_item kind inner bs = do
  (s, rest) ← content kind bs
  a ← inner s
  some (a, rest)

-- all of the bytes, as one thing behind another; `turns` is at least their number
unfoldable pub many : {A : Type 0} → Decoder A → ℕ → List ℕ → Option (List A)
many one zero [] = some []
many one zero (b ∷ bs) = none
many one (suc turns) [] = some []
many one (suc turns) (b ∷ bs) = do
  (a, rest) ← one (b ∷ bs)
  l ← many one turns rest
  some (a ∷ l)

unfoldable pub all : {A : Type 0} → Decoder A → List ℕ → Option (List A)
all one bs = many one (length bs) bs

-- ---- the meaning

unfoldable pub step_in : List ℕ → Option Step
step_in s = do
  (name, s₁) ← field_of as_text 0 s
  (id, s₂) ← field_of as_text 0 s₁
  (key, s₃) ← field_of as_command 0 s₂
  (value, s₄) ← field_of some 29 s₃
  (timeout, s₅) ← field_of as_optional 0 s₄
  (continue, s₆) ← field_of as_flag 0 s₅
  (expect, s₇) ← field_of (as_expect key) 29 s₆
  nothing (record { name = name; id = id; key = key; value = value; timeout = timeout; continue = continue; expect = expect }) s₇

unfoldable pub defaults_in : List ℕ → Option Defaults
defaults_in s = do
  (timeout, s₁) ← field_of as_optional 0 s
  (wall_budget, s₂) ← field_of as_optional 0 s₁
  nothing (record { timeout = timeout; wall_budget = wall_budget }) s₂

-- the last three fields
unfoldable pub rest_in : List ℕ → Option (Defaults × Items × List Step)
rest_in s = do
  (defaults, s₁) ← in_item 17 defaults_in s
  (fail_on, s₂) ← field_of as_items 31 s₁
  (steps, s₃) ← in_item 18 (all (in_item 19 step_in)) s₂
  nothing (defaults, fail_on, steps) s₃

-- all eight
unfoldable pub fields_in : List ℕ → Option Meaning
fields_in s = do
  (name, s₁) ← field_of as_text 0 s
  (description, s₂) ← field_of as_text 0 s₁
  (tags, s₃) ← in_item 4 (all (field_of as_text 0)) s₂
  (image, s₄) ← field_of as_text 0 s₃
  (setup, s₅) ← field_of some 31 s₄
  (defaults, fail_on, steps) ← rest_in s₅
  some (record { name = name; description = description; tags = tags; image = image; setup = setup; defaults = defaults; fail_on = fail_on; steps = steps })

-- nothing behind the one item
unfoldable pub meaning_in : List ℕ → Option Meaning
meaning_in b =
    if leb (length b) limit
    then (in_item 16 fields_in b >>= λ (x : Meaning × List ℕ). nothing x.0 x.1)
    else none
