-- Items, of which the first two are texts. Assumes nothing.
use Rattle.std.proofs.Common.{◌∙◌}
use Rattle.panel.proofs.Texts.{no-name, no-id, both}
use Rattle.panel.proofs.labels_of.Goals as goal

pub returns-in_err-name-clause-labels : goal.returns-in_err-name-clause-labels
returns-in_err-name-clause-labels c = c.from_residual.ensures ∙ no-name _ _ c.in_err-name.ensures.text

pub returns-in_err-id-clause-labels : goal.returns-in_err-id-clause-labels
returns-in_err-id-clause-labels c = c.from_residual-in_err-id.ensures ∙ no-id _ _ c.in_ok-name.ensures.text c.in_err-id.ensures.text

pub returns-clause-labels : goal.returns-clause-labels
returns-clause-labels c = c.then_some.ensures ∙ both _ _ c.in_ok-name.ensures.text c.in_ok-id.ensures.text _ c.are_items.ensures
