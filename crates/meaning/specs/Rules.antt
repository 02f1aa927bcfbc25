-- Section 5 of document 01: the rules of a meaning, as facts. Uses Base of `refusal`; Utf8 of `utf8`; Tree of `item`; Sound, Meaning and
-- Record of this crate. Assumes nothing.
use Rattle.std.specs.Prelude.{◌≡◌, ℕ, ◌≤◌, List, [], ◌∷◌, true, false, length}
use Rattle.std.proofs.Math.Option.{none}
use Rattle.refusal.specs.Base.{one_of, limit}
use Rattle.utf8.specs.Utf8.{Utf8}
use Rattle.item.specs.Tree.{seq, levels}
use Rattle.meaning.specs.Sound.{sound}
use Rattle.meaning.specs.Meaning.{Step, Meaning, step_fields, built_in_steps}
use Rattle.meaning.specs.Record.{optional, expected, record_of}

-- every element has a property
abbrev pub Each : {A : Type 0} → (A → Type 0) → List A → Type 0
Each P [] = Unit {0}
Each P (a ∷ l) = P a × Each P l

-- what holds of a step; `sound` says that strings are UTF-8, integers have 64 bits and the keys of each mapping differ
pub record StepRules (s : Step) : Type 0 where
  pub name : Utf8 s.name
  pub id : Utf8 s.id
  pub key : Utf8 s.key
  pub value : sound s.value ≡ true
  pub timeout : sound (optional s.timeout) ≡ true
  pub expect : sound (expected s.expect) ≡ true
  -- no command is one of the five `STEP_FIELDS`
  pub command : one_of s.key step_fields ≡ false
  -- expect never beside `BUILT_IN_STEPS`
  pub alone : one_of s.key built_in_steps ≡ true → s.expect ≡ none
  -- values and expect 29 levels
  pub value_levels : levels s.value ≤ 29
  pub expect_levels : levels (expected s.expect) ≤ 29

pub record Rules (m : Meaning) : Type 0 where
  pub name : Utf8 m.name
  pub description : Utf8 m.description
  pub tags : Each Utf8 m.tags
  pub image : Utf8 m.image
  pub setup : sound m.setup ≡ true
  pub timeout : sound (optional m.defaults.timeout) ≡ true
  pub wall_budget : sound (optional m.defaults.wall_budget) ≡ true
  pub fail_on : sound m.fail_on ≡ true
  pub steps : Each StepRules m.steps
  -- setup and fail_on have at most 31 levels
  pub setup_levels : levels m.setup ≤ 31
  pub fail_on_levels : levels (seq m.fail_on) ≤ 31
  -- size at most 1,048,576
  pub size : length (record_of m) ≤ limit

-- `b` is the record of a meaning that keeps the rules
pub record IsRecord (b : List ℕ) (m : Meaning) : Type 0 where
  pub kept : Rules m
  pub written : record_of m ≡ b
