-- The item, if it is a text. Assumes nothing.
use Rattle.std.proofs.Common.{ap, ◌∙◌}
use Rattle.std.specs.Bool.{then_some}
use Rattle.panel.specs.Panel.{is_text, text_of}
use Rattle.panel.specs.Contract.{text_from}
use Rattle.panel.proofs.Items.{if-then}
use Rattle.panel.proofs.text_at.Goals as goal

pub returns-in_err-item-clause-text : goal.returns-in_err-item-clause-text
unfolding text_from
returns-in_err-item-clause-text c = rw (← c.header_at.ensures.value, ← c.ok.ensures.value, c.in_err-item.was) c.from_residual.ensures

pub returns-clause-text : goal.returns-clause-text
unfolding text_from text_of is_text
returns-clause-text c = rw (← c.header_at.ensures.value, ← c.ok.ensures.value, c.in_ok-item.was) (c.then_some.ensures ∙ ap (λ b. then_some b c.in_ok-item.item) c.is_text.ensures ∙ if-then _ c.in_ok-item.item)
