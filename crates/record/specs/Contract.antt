-- Section 5 of document 01, for the contracts inside the crate: what the functions inside the check answer, by the definitions of Read.
-- Uses Base and Told of `refusal`; Tree, Encode and Kinds of `item`; Entries of `entries`; Meaning, Record and Rules of `meaning`; Jobs and
-- Read of this crate. Assumes nothing.
use Rattle.std.specs.Prelude.{◌≡◌, ℕ, ◌+◌, ◌-◌, ◌≤◌, List, map, Bool, true, false, Option as StdOption, None, Some, Result, Ok, Err, eqb, length, take, drop, if◌then◌else◌}
use Rattle.std.specs.List.{list_any}
use Rattle.std.proofs.Math.Option.{Option, none, some}
use Rattle.refusal.specs.Base.{maybe, Answer, good}
use Rattle.refusal.specs.Told.{refusal}
use Rattle.refusal.specs.declared.Refusal.{Refusal}
use Rattle.item.specs.Tree.{Yaml, Ranged}
use Rattle.item.specs.Encode.{kind_of}
use Rattle.item.specs.declared.Kind.{Kind}
use Rattle.item.specs.Kinds.{number_of}
use Rattle.meaning.specs.Meaning.{Step, Meaning}
use Rattle.meaning.specs.Record.{joined, step_item}
use Rattle.meaning.specs.Rules.{Each, IsRecord}
use Rattle.entries.specs.Entries.{Stands}
use Rattle.entries.specs.declared.Span.{Span}
use Rattle.record.specs.Jobs.{Found, nothing, part, steps_start}
use Rattle.record.specs.declared.StepItems.{StepItems}
use Rattle.record.specs.Read.{field_of, as_text, content, in_item, all, step_in, defaults_in, rest_in, fields_in, meaning_in}

-- a tree of one of some kinds
unfoldable pub of_kinds : List Kind → Yaml → Option Yaml
of_kinds kinds y = if list_any (λ kind. eqb (kind_of y) (number_of kind)) kinds then some y else none

-- an item of a kind at a place ends at another
pub record ItemAt (kind : ℕ) (s : List ℕ) (at to : ℕ) : Type 0 where
  pub is : content kind (drop at s) ≡ some (take (to - (at + 6)) (drop (at + 6) s), drop to s)
  pub forward : at + 6 ≤ to
  pub fits : to ≤ length s

abbrev pub ItemEnds : ℕ → List ℕ → ℕ → StdOption ℕ → Type 0
ItemEnds kind s at (Some to) = ItemAt kind s at to
ItemEnds kind s at None = content kind (drop at s) ≡ none

unfoldable pub is_some : {A : Type 0} → Option A → Bool
is_some o = maybe o false (λ _. true)

unfoldable pub are_texts : List ℕ → Bool
are_texts s = is_some (all (field_of as_text 0) s)

unfoldable pub are_defaults : List ℕ → Bool
are_defaults s = is_some (defaults_in s)

unfoldable pub is_step : List ℕ → Bool
is_step s = is_some (step_in s)

-- how many steps were read, with those before
unfoldable pub counted : {A : Type 0} → ℕ → Option (List A) → Option ℕ
counted n o = maybe o none (λ l. some (n + length l))

unfoldable pub steps_in : List ℕ → Option ℕ
steps_in s = counted 0 (all (in_item 19 step_in) s)

unfoldable pub rest_steps : List ℕ → Option ℕ
rest_steps s = maybe (rest_in s) none (λ x. some (length x.2))

unfoldable pub meaning_steps : List ℕ → Option ℕ
meaning_steps s = maybe (fields_in s) none (λ m. some (length m.steps))

unfoldable pub record_steps : List ℕ → Option ℕ
record_steps b = maybe (meaning_in b) none (λ m. some (length m.steps))

abbrev pub count_of : StdOption ℕ → Option ℕ
count_of (Some n) = some n
count_of None = none

-- ---- what was found among items

abbrev pub span_of : StdOption Span → Answer Found
span_of (Some span) = good (part span.start span.end)
span_of None = good nothing

abbrev pub looked_of : Result (StdOption Span) Refusal → Answer Found
looked_of (Ok span) = span_of span
looked_of (Err e) = refusal e

-- ---- what a function answers that may refuse

abbrev pub told_of : {A : Type 0} → Result A Refusal → Answer A
told_of (Ok a) = good a
told_of (Err e) = refusal e

-- ---- the steps of a record, for those who walk along them

-- the items of steps that stand from a place to another; the integers in their values have 64 bits
pub record StepsLie (s : List ℕ) (from to : ℕ) (steps : List Step) : Type 0 where
  pub ranged : Each (λ x. Ranged x.value) steps
  pub stands : Stands s from (joined (map step_item steps))
  pub ends : to ≡ from + length (joined (map step_item steps))

-- those of a record, and how many they are
pub record StepsOf (b : List ℕ) (steps : StepItems) : Type 0 where
  pub meaning : Meaning
  pub is : meaning_in b ≡ some meaning
  pub record_is : IsRecord b meaning
  pub count : steps.count ≡ length meaning.steps
  pub bytes : steps.items.bytes.now ≡ b
  pub from : steps.items.from ≡ steps_start meaning
  pub lie : StepsLie b steps.items.from steps.items.to meaning.steps
