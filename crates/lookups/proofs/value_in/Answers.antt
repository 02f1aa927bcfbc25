-- The value is the fourth part of the step. Assumes nothing.
use Rattle.std.proofs.Common.{sym, ap, ◌∙◌, ℕ, arith, rules}
use Rattle.std.proofs.Math.Option.{Option}
use Rattle.refusal.specs.Base.{good}
use Rattle.item.specs.Tree.{Yaml}
use Rattle.lookups.specs.Lookups.{item_part}
use Rattle.record.proofs.StepPlaces.{step_part, no_part}
use Rattle.lookups.proofs.Values.{step_value, in_step}
use Rattle.lookups.proofs.value_in.Goals as goal

pub returns-in_err-value : goal.returns-in_err-value
returns-in_err-value c = λ st g h. no_part st h (search rules) 3 (omega arith) (sym c.in_err-value.was ∙ c.nth_item.ensures)

pub returns : goal.returns
returns c = λ st g h.
    let p = step_part st h (search rules) 3 (omega arith) (sym c.in_ok-value.was ∙ c.nth_item.ensures) in
    c.in_mapping.ensures st.value g (step_value st p) ∙ ap (λ (o : Option (ℕ × Yaml)). good (item_part o)) (in_step st p _)
