-- What a panel is told of a record: the programme's name and how many steps there are, or a step's name and id, as parts of the record. Uses
-- Base and Told of `refusal`; Panel of this crate. Assumes nothing.
use Rattle.std.specs.Prelude.{ℕ, ◌-◌, List, length, Option, None, Some}
use Rattle.refusal.specs.Base.{Answer, good, refused, ◌>>=◌}
use Rattle.refusal.specs.Told.{refusal}
use Rattle.item.specs.declared.Item.{Item}
use Rattle.panel.specs.Panel.{programme, numbered}
use Rattle.panel.specs.declared.PanelName.{PanelName}
use Rattle.panel.specs.declared.PanelName.TheVariants.{Named, Refused as NameRefused}
use Rattle.panel.specs.declared.PanelStep.{PanelStep}
use Rattle.panel.specs.declared.PanelStep.TheVariants.{Found, Refused as StepRefused}

-- what must be there, or a refusal that names no line and no step
unfoldable pub given : {A : Type 0} → Option A → ℕ → Answer A
given None n = refused n 0 0
given (Some a) n = good a

-- where an item begins, its header included
unfoldable pub start_of : Item → ℕ
start_of item = item.from - 6

-- 55: the whole record is judged before anything is given
unfoldable pub panel_name : List ℕ → Answer (ℕ × ℕ × ℕ)
panel_name s = do
  p ← given (programme s) 55
  good (start_of p.name, p.name.to, length p.steps)

-- then 53: a number 0, or above the count
unfoldable pub panel_step : List ℕ → ℕ → Answer (ℕ × ℕ × ℕ × ℕ)
panel_step s number = do
  p ← given (programme s) 55
  step ← given (numbered p.steps number) 53
  good (start_of step.name, step.name.to, start_of step.id, step.id.to)

-- ---- the answers of the code

abbrev pub name_of : PanelName → Answer (ℕ × ℕ × ℕ)
name_of (Named start end steps) = good (start, end, steps)
name_of (NameRefused e) = refusal e

abbrev pub step_of : PanelStep → Answer (ℕ × ℕ × ℕ × ℕ)
step_of (Found a b c d) = good (a, b, c, d)
step_of (StepRefused e) = refusal e
