-- Section 4 of document 01: the meaning of a tree (`Scenario::parse`, `defaults_of`, `steps_of`), or its refusal. Uses Base of `refusal`;
-- Tree of `item`; Scalars of `scalar`; StepLines of `step_lines`; Meaning of this crate. Assumes nothing.
use Rattle.std.specs.Prelude.{ℕ, suc, List, [], ◌∷◌, Bool, false, not, if◌then◌else◌}
use Rattle.std.proofs.Math.Option.{Option, none, some}
use Rattle.refusal.specs.Base.{Answer, good, refused, ◌>>=◌, ◌>>◌, ensure, given, maybe, bytes, same, one_of}
use Rattle.item.specs.Tree.{Yaml, null, bool, int, str, seq, dict, Items, end, ◌▸◌, Entries, done, pair, get}
use Rattle.scalar.specs.Scalars.{key_text}
use Rattle.step_lines.specs.StepLines.{head_line, tail_lines}
use Rattle.meaning.specs.Meaning.{Defaults, Step, Meaning, step_fields, built_in_steps}

-- `TOP_LEVEL_KEYS`
unfoldable pub top_keys : List (List ℕ)
top_keys = bytes "schema" ∷ bytes "name" ∷ bytes "description" ∷ bytes "image" ∷ bytes "tags" ∷ bytes "setup" ∷ bytes "defaults" ∷ bytes "fail_on" ∷ bytes "steps" ∷ []

unfoldable pub schema : List ℕ
schema = bytes "passportsim/scenario@1"

-- a refusal that names no line and no step
abbrev pub refuse : {A : Type 0} → ℕ → Answer A
refuse n = refused n 0 0

-- ---- the top keys

-- 21
unfoldable pub document : Yaml → Answer Entries
document null = refuse 21
document (bool b) = refuse 21
document (int z) = refuse 21
document (str s) = refuse 21
document (seq ys) = refuse 21
document (dict es) = good es

-- 22, in entry order
unfoldable pub known_keys : Entries → Answer (Unit {0})
known_keys done = good tt
known_keys (pair k v es) = if one_of k top_keys then known_keys es else refuse 22

-- a key's scalar, rendered as key text; none for a key that is absent, null or a collection
unfoldable pub scalar_at : List ℕ → Entries → Option (List ℕ)
scalar_at k es = maybe (get k es) none key_text

-- what is no scalar becomes empty
unfoldable pub or_empty : Option (List ℕ) → List ℕ
or_empty o = maybe o [] (λ s. s)

-- 23 another scalar, 24 none
unfoldable pub check_schema : Option (List ℕ) → Answer (Unit {0})
check_schema none = refuse 24
check_schema (some s) = ensure (same s schema) 23 0 0

-- a sequence, empty where the key is absent or null: 26, 27, 31
unfoldable pub sequence_or : ℕ → Option Yaml → Answer Items
sequence_or n none = good end
sequence_or n (some null) = good end
sequence_or n (some (seq ys)) = good ys
sequence_or n (some (bool b)) = refuse n
sequence_or n (some (int z)) = refuse n
sequence_or n (some (str s)) = refuse n
sequence_or n (some (dict es)) = refuse n

-- tags drop null and collections
unfoldable pub cons_text : Option (List ℕ) → List (List ℕ) → List (List ℕ)
cons_text none ts = ts
cons_text (some t) ts = t ∷ ts

unfoldable pub texts_of : Items → List (List ℕ)
texts_of end = []
texts_of (y ▸ ys) = cons_text (key_text y) (texts_of ys)

-- ---- defaults: 28, then 29 and 30 in entry order

unfoldable pub scalar_default : Yaml → Answer (Option (List ℕ))
scalar_default null = good none
scalar_default (bool b) = good (key_text (bool b))
scalar_default (int z) = good (key_text (int z))
scalar_default (str s) = good (key_text (str s))
scalar_default (seq ys) = refuse 30
scalar_default (dict es) = refuse 30

unfoldable pub defaults_from : Defaults → Entries → Answer Defaults
defaults_from d done = good d
defaults_from d (pair k v es) =
    if same k (bytes "timeout") then (scalar_default v >>= λ t. defaults_from (record { timeout = t; wall_budget = d.wall_budget }) es)
    else if same k (bytes "wall_budget") then (scalar_default v >>= λ t. defaults_from (record { timeout = d.timeout; wall_budget = t }) es)
    else refuse 29

unfoldable pub no_defaults : Defaults
no_defaults = record { timeout = none; wall_budget = none }

unfoldable pub defaults_of : Option Yaml → Answer Defaults
defaults_of none = good no_defaults
defaults_of (some null) = good no_defaults
defaults_of (some (dict es)) = defaults_from no_defaults es
defaults_of (some (bool b)) = refuse 28
defaults_of (some (int z)) = refuse 28
defaults_of (some (str s)) = refuse 28
defaults_of (some (seq ys)) = refuse 28

-- ---- 21 to 31 in their order

-- what the top keys say; the steps are not looked into yet
pub record Top : Type 0 where
  pub name : List ℕ
  pub description : List ℕ
  pub tags : List (List ℕ)
  pub image : List ℕ
  pub setup : Yaml
  pub defaults : Defaults
  pub fail_on : Items
  pub steps : Items

unfoldable pub top_of : Yaml → Answer Top
top_of y = do
  es ← document y
  known_keys es
  check_schema (scalar_at (bytes "schema") es)
  name ← given (scalar_at (bytes "name") es) 25 0 0
  tags ← sequence_or 26 (get (bytes "tags") es)
  fail_on ← sequence_or 27 (get (bytes "fail_on") es)
  defaults ← defaults_of (get (bytes "defaults") es)
  steps ← sequence_or 31 (get (bytes "steps") es)
  good (record {
    name = name;
    description = or_empty (scalar_at (bytes "description") es);
    tags = texts_of tags;
    image = or_empty (scalar_at (bytes "image") es);
    setup = maybe (get (bytes "setup") es) null (λ v. v);
    defaults = defaults;
    fail_on = fail_on;
    steps = steps;
  })

-- ---- steps, one by one

-- 33
unfoldable pub expect_of : ℕ → ℕ → Option Yaml → Answer (Option Entries)
expect_of line step none = good none
expect_of line step (some (dict es)) = good (some es)
expect_of line step (some null) = refused 33 line step
expect_of line step (some (bool b)) = refused 33 line step
expect_of line step (some (int z)) = refused 33 line step
expect_of line step (some (str s)) = refused 33 line step
expect_of line step (some (seq ys)) = refused 33 line step

-- the entries that are none of the five fields: the command keys
unfoldable pub commands : Entries → Entries
commands done = done
commands (pair k v es) = if one_of k step_fields then commands es else pair k v (commands es)

-- 34
unfoldable pub command_of : ℕ → Entries → Answer (List ℕ × Yaml)
command_of step done = refused 34 0 step
command_of step (pair k v done) = good (k, v)
command_of step (pair k v (pair k' v' es)) = refused 34 0 step

-- 35
unfoldable pub expect_allowed : ℕ → ℕ → List ℕ → Option Entries → Answer (Unit {0})
expect_allowed line step k none = good tt
expect_allowed line step k (some es) = ensure (not (one_of k built_in_steps)) 35 line step

-- true only for boolean true
unfoldable pub is_true : Option Yaml → Bool
is_true none = false
is_true (some (bool b)) = b
is_true (some null) = false
is_true (some (int z)) = false
is_true (some (str s)) = false
is_true (some (seq ys)) = false
is_true (some (dict es)) = false

unfoldable pub step_of : ℕ → ℕ → Entries → Answer Step
step_of line step es = do
  expect ← expect_of line step (get (bytes "expect") es)
  (k, v) ← command_of step (commands es)
  expect_allowed line step k expect
  good (record {
    name = or_empty (scalar_at (bytes "name") es);
    id = or_empty (scalar_at (bytes "id") es);
    key = k;
    value = v;
    timeout = scalar_at (bytes "timeout") es;
    continue = is_true (get (bytes "continue_on_error") es);
    expect = expect;
  })

-- 32
unfoldable pub step_at : ℕ → ℕ → Yaml → Answer Step
step_at line step (dict es) = step_of line step es
step_at line step null = refused 32 0 step
step_at line step (bool b) = refused 32 0 step
step_at line step (int z) = refused 32 0 step
step_at line step (str s) = refused 32 0 step
step_at line step (seq ys) = refused 32 0 step

unfoldable pub steps_from : ℕ → List ℕ → Items → Answer (List Step)
steps_from step lines end = good []
steps_from step lines (y ▸ ys) = do
  s ← step_at (head_line lines) step y
  ss ← steps_from (suc step) (tail_lines lines) ys
  good (s ∷ ss)

-- ---- the meaning: 21 to 31, then 32 to 35 step by step

unfoldable pub with_steps : Top → List Step → Meaning
with_steps t steps = record {
  name = t.name;
  description = t.description;
  tags = t.tags;
  image = t.image;
  setup = t.setup;
  defaults = t.defaults;
  fail_on = t.fail_on;
  steps = steps;
}

unfoldable pub meaning_of : List ℕ → Yaml → Answer Meaning
meaning_of lines y = do
  t ← top_of y
  steps ← steps_from 1 lines t.steps
  good (with_steps t steps)
