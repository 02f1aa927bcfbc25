-- Section 5 of document 01: what it calls a meaning, the values of a scenario without lines, in kind 16's eight fields. Uses Base of
-- `refusal`; Tree of `item`. Assumes nothing.
use Rattle.std.specs.Prelude.{ℕ, List, [], ◌∷◌, Bool}
use Rattle.std.proofs.Math.Option.{Option}
use Rattle.refusal.specs.Base.{bytes}
use Rattle.item.specs.Tree.{Yaml, Items, Entries}

pub record Defaults : Type 0 where
  pub timeout : Option (List ℕ)
  pub wall_budget : Option (List ℕ)

pub record Step : Type 0 where
  pub name : List ℕ
  pub id : List ℕ
  pub key : List ℕ
  pub value : Yaml
  pub timeout : Option (List ℕ)
  pub continue : Bool
  pub expect : Option Entries

pub record Meaning : Type 0 where
  pub name : List ℕ
  pub description : List ℕ
  pub tags : List (List ℕ)
  pub image : List ℕ
  pub setup : Yaml
  pub defaults : Defaults
  pub fail_on : Items
  pub steps : List Step

-- `STEP_FIELDS`
unfoldable pub step_fields : List (List ℕ)
step_fields = bytes "name" ∷ bytes "id" ∷ bytes "timeout" ∷ bytes "continue_on_error" ∷ bytes "expect" ∷ []

-- `BUILT_IN_STEPS`
unfoldable pub built_in_steps : List (List ℕ)
built_in_steps = bytes "repeat" ∷ bytes "set" ∷ bytes "delay" ∷ bytes "expect_not" ∷ bytes "ui.expect" ∷ []
