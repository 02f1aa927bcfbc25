-- Sections 4 and 5 of document 01, for the contracts inside the crate: what the writers of a record promise. Uses Base and Told of
-- `refusal`; Encode of `item`; Lines of `lines`; StepLines of `step_lines`; Meaning and Record of `meaning`; Writing of `nodes`; Scenario
-- of this crate. Assumes nothing.
use Rattle.std.specs.Prelude.{◌≡◌, ℕ, ◌*◌, ◌≤◌, List, length, Result, Ok, Err}
use Rattle.std.proofs.lemmas.List.Edits.{sets}
use Rattle.refusal.specs.Base.{Answer, good}
use Rattle.refusal.specs.Told.{refusal}
use Rattle.refusal.specs.declared.Refusal.{Refusal}
use Rattle.meaning.specs.Meaning.{Step}
use Rattle.item.specs.Encode.{encode}
use Rattle.meaning.specs.Record.{record_of}
use Rattle.nodes.specs.declared.output.RecordWriter.{RecordWriter}
use Rattle.nodes.specs.Writing.{Writes}
use Rattle.scenario.specs.declared.Sizes.{Sizes}
use Rattle.lines.specs.Lines.{Line}
use Rattle.step_lines.specs.StepLines.{step_lines}
use Rattle.scenario.specs.Scenario.{lines_for, Reading}

-- numbers, stored from the front if there are places enough
pub record Numbered (old new numbers : List ℕ) (count : ℕ) : Type 0 where
  pub many : count ≡ length numbers
  pub stored : count ≤ length old → new ≡ sets old 0 numbers
  pub kept : length new ≡ length old

-- an answer, written as `write` says, and the lines of its steps, of `lines`
pub record WroteSteps {A : Type 0} (answer : Answer A) (write : A → List ℕ) (steps : A → List Step) (lines : List ℕ) (old new : RecordWriter) (places filled : List ℕ) (count : ℕ) : Type 0 where
  pub read : A
  pub is : answer ≡ good read
  pub writes : Writes old new (write read)
  pub lined : Numbered places filled (lines_for (steps read) lines) count
  pub many : count ≡ length (steps read)

abbrev pub AgreesSteps : {A : Type 0} → Answer A → (A → List ℕ) → (A → List Step) → List ℕ → RecordWriter → RecordWriter → List ℕ → List ℕ → Result ℕ Refusal → Type 0
AgreesSteps answer write steps lines old new places filled (Ok count) = WroteSteps answer write steps lines old new places filled count
AgreesSteps answer write steps lines old new places filled (Err e) = answer ≡ refusal e

-- the same of an answer that hangs on the step lines of a text's lines
abbrev pub WritesSteps : {A : Type 0} → (List ℕ → Answer A) → (A → List ℕ) → (A → List Step) → List Line → RecordWriter → RecordWriter → List ℕ → List ℕ → Result ℕ Refusal → Type 0
WritesSteps answer write steps text old new places filled r = AgreesSteps (answer (step_lines text)) write steps (step_lines text) old new places filled r

-- a reading, and its three outputs written from the front
pub record WroteScenario (answer : Answer Reading) (work tree room bytes places lines : List ℕ) (t r l n : ℕ) : Type 0 where
  pub read : Reading
  pub is : answer ≡ good read
  pub tree_stored : tree ≡ sets work 0 (encode read.tree)
  pub tree_size : t ≡ length (encode read.tree)
  pub tree_fits : t ≤ length work
  pub record_stored : bytes ≡ sets room 0 (record_of read.meaning)
  pub record_size : r ≡ length (record_of read.meaning)
  pub record_fits : r ≤ length room
  pub lines_stored : lines ≡ sets places 0 read.lines
  pub lines_many : n ≡ length read.lines
  pub steps_many : n ≡ length read.meaning.steps
  pub lines_fit : n ≤ length places
  pub lines_size : l ≡ 4 * n

abbrev pub AgreesScenario : Answer Reading → List ℕ → List ℕ → List ℕ → List ℕ → List ℕ → List ℕ → Result Sizes Refusal → Type 0
AgreesScenario answer work tree room bytes places lines (Ok z) = WroteScenario answer work tree room bytes places lines z.tree_bytes z.record_bytes z.line_bytes z.steps
AgreesScenario answer work tree room bytes places lines (Err e) = answer ≡ refusal e
