-- Section 6 of document 01: the check of a record's steps (`check_steps` without the reading of `ui.expect`, `repeat_steps`). Uses Base and
-- Told of `refusal`; Tree of `item`; StepLines of `step_lines`; Meaning and Meanings of `meaning`; Jobs of `record`; Names of this crate.
-- Assumes nothing.
use Rattle.std.specs.Prelude.{ℕ, suc, List, [], ◌∷◌, Bool, ◌||◌, length, if◌then◌else◌}
use Rattle.std.proofs.Math.Option.{Option, none, some}
use Rattle.refusal.specs.Base.{Answer, good, ◌>>=◌, ◌>>◌, given, ensure, bytes, same, one_of}
use Rattle.refusal.specs.Told.{refusal}
use Rattle.item.specs.Tree.{Yaml, null, bool, int, str, seq, dict, Items, get}
use Rattle.step_lines.specs.StepLines.{head_line, tail_lines}
use Rattle.meaning.specs.Meaning.{Step, built_in_steps}
use Rattle.meaning.specs.Meanings.{sequence_or, steps_from}
use Rattle.record.specs.Jobs.{opened}
use Rattle.check_steps.specs.Names.{names_in}
use Rattle.check_steps.specs.declared.StepsAnswer.{StepsAnswer}
use Rattle.check_steps.specs.declared.StepsAnswer.TheVariants.{Good, Refused}

-- a command that is built in or one of the names
unfoldable pub known : List (List ℕ) → List ℕ → Bool
known names key = one_of key built_in_steps || one_of key names

-- ---- the steps inside a `repeat`

-- the value of `steps` in its mapping
unfoldable pub repeated : Yaml → Option Yaml
repeated (dict es) = get (bytes "steps") es
repeated null = none
repeated (bool b) = none
repeated (int z) = none
repeated (str s) = none
repeated (seq ys) = none

-- inner 36, with the repeat's line and the outer step
unfoldable pub all_known : List (List ℕ) → ℕ → ℕ → List Step → Answer (Unit {0})
all_known names line step [] = good tt
all_known names line step (s ∷ ss) = ensure (known names s.key) 36 line step >> all_known names line step ss

-- 32 to 35 of all inner steps, which have no lines and are numbered from 1; then inner 36. Inner repeats aren't entered
unfoldable pub check_inner : List (List ℕ) → ℕ → ℕ → Items → Answer (Unit {0})
check_inner names line step items = do
  inner ← steps_from 1 [] items
  all_known names line step inner

-- 37 with the outer step, 31 with none
unfoldable pub check_repeat : List (List ℕ) → ℕ → ℕ → Yaml → Answer (Unit {0})
check_repeat names line step value = do
  v ← given (repeated value) 37 0 step
  items ← sequence_or 31 (some v)
  check_inner names line step items

-- ---- step by step

-- 36, then what a `repeat` is refused for
unfoldable pub check_step : List (List ℕ) → ℕ → ℕ → Step → Answer (Unit {0})
check_step names line step s = do
  ensure (known names s.key) 36 line step
  if same s.key (bytes "repeat") then check_repeat names line step s.value else good tt

-- a step beyond the lines has line 0
unfoldable pub check_from : List (List ℕ) → ℕ → List ℕ → List Step → Answer (Unit {0})
check_from names step lines [] = good tt
check_from names step lines (s ∷ ss) = check_step names (head_line lines) step s >> check_from names (suc step) (tail_lines lines) ss

-- 40 for bytes that are no record or no name list, before all else; a good check gives the step count
unfoldable pub check_steps : List ℕ → List ℕ → List ℕ → Answer ℕ
check_steps b lines names = do
  m ← opened b
  ns ← given (names_in names) 40 0 0
  check_from ns 1 lines m.steps
  good (length m.steps)

-- ---- the answer of the code

abbrev pub answer_of : StepsAnswer → Answer ℕ
answer_of (Good steps) = good steps
answer_of (Refused e) = refusal e
