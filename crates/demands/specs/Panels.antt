-- What a sequencer and a panel say of the same bytes: of each record that the sequencer accepts, both have the same name, as many steps, and
-- the same name and id of each. Uses Base and Told of `refusal`; Meaning, Record and Rules of `meaning`; Jobs of `record` and of `panel`.
-- Assumes nothing.
use Rattle.std.specs.Prelude.{◌≡◌, ℕ, ◌+◌, List, length, Some}
use Rattle.refusal.specs.Base.{good, refused}
use Rattle.refusal.specs.Told.{refusal}
use Rattle.meaning.specs.Meaning.{Step, Meaning}
use Rattle.meaning.specs.Record.{text_item}
use Rattle.meaning.specs.Rules.{IsRecord}
use Rattle.record.specs.Jobs.{Found, part, field, part_of}
use Rattle.record.specs.declared.RecordAnswer.{RecordAnswer}
use Rattle.record.specs.declared.RecordAnswer.TheVariants.{Good, Refused as NoRecord}
use Rattle.record.specs.declared.Lookup.{Lookup}
use Rattle.record.specs.declared.Lookup.TheVariants.{Found as FoundPart, Nothing, Refused as NotFound}
use Rattle.panel.specs.declared.PanelName.{PanelName}
use Rattle.panel.specs.declared.PanelName.TheVariants.{Named}
use Rattle.panel.specs.declared.PanelStep.{PanelStep}
use Rattle.panel.specs.declared.PanelStep.TheVariants.{Found as Shown}
use Rattle.panel.specs.Panel.{numbered}
use Rattle.panel.specs.Jobs.{step_of}

-- the panel shows the meaning's name where the lookup by place has it, and as many steps as the check counts
pub record SameName (b : List ℕ) (steps : ℕ) (said : PanelName) : Type 0 where
  pub meaning : Meaning
  pub is : IsRecord b meaning
  pub many : steps ≡ length meaning.steps
  pub start : ℕ
  pub end : ℕ
  pub found : field b 1 ≡ good (part start end)
  pub shown : said ≡ Named start end steps
  pub name : part_of b start end ≡ text_item meaning.name

-- what the check refuses may be shown nevertheless
abbrev pub NamedAlike : List ℕ → RecordAnswer → PanelName → Type 0
NamedAlike b (Good steps) said = SameName b steps said
NamedAlike b (NoRecord e) said = Unit {0}

-- of the step that the lookup finds from a place on, the panel shows the name, which begins behind its header, and the id behind the name
pub record SameLabels (b : List ℕ) (number start : ℕ) (said : PanelStep) : Type 0 where
  pub meaning : Meaning
  pub is : IsRecord b meaning
  pub step : Step
  pub there : numbered meaning.steps number ≡ Some step
  pub name_end : ℕ
  pub id_end : ℕ
  pub shown : said ≡ Shown (start + 6) name_end name_end id_end
  pub name : part_of b (start + 6) name_end ≡ text_item step.name
  pub id : part_of b name_end id_end ≡ text_item step.id

-- where the one says that there is no such number, so does the other
abbrev pub LabelledAlike : List ℕ → ℕ → Lookup → PanelStep → Type 0
LabelledAlike b number (FoundPart start end) said = SameLabels b number start said
LabelledAlike b number Nothing said = ⊥
LabelledAlike b number (NotFound e) said = refusal {A = Found} e ≡ refused 53 0 0 → step_of said ≡ refused 53 0 0
