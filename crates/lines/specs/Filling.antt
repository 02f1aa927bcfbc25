-- Section 1 of document 01, for the contracts inside the crate: what it means that events of the scan are taken into the rows. Uses Base and
-- Told of `refusal`; Lines and Table of this crate. Assumes nothing.
use Rattle.std.specs.Prelude.{◌≡◌, ℕ, ◌-◌, List, length, Result, Ok, Err}
use Rattle.refusal.specs.Base.{Answer}
use Rattle.refusal.specs.Told.{refusal}
use Rattle.refusal.specs.declared.Refusal.{Refusal}
use Rattle.lines.specs.declared.Row.{Row}
use Rattle.lines.specs.Lines.{Line, Event, collect, most_lines}
use Rattle.lines.specs.Table.{table_lines, AllLieIn, behind}

-- what is read with these rows and these events to come
abbrev pub reading : List ℕ → List Row → List Event → Answer (List Line)
reading text rows events = behind (table_lines text rows) (collect (most_lines - length rows) events)

-- some events, taken into the rows: those before, less those after
pub record Took (text : List ℕ) (old new : List Row) (before after : List Event) : Type 0 where
  pub reads : reading text old before ≡ reading text new after
  pub placed : AllLieIn text old → AllLieIn text new

-- the same, with what it gives; or the refusal in which they end
abbrev pub Takes : {A : Type 0} → List ℕ → List Row → List Row → List Event → (A → List Event) → Result A Refusal → Type 0
Takes text old new before after (Ok a) = Took text old new before (after a)
Takes text old new before after (Err e) = reading text old before ≡ refusal e
