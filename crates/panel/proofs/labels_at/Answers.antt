-- The step's item, then its labels. Assumes nothing.
use Rattle.std.proofs.Common.{◌∙◌, None, Some, arith}
use Rattle.panel.proofs.Steps.{number-zero, number_at}
use Rattle.panel.proofs.labels_at.Goals as goal

pub returns-in_err-before-clause-labels : goal.returns-in_err-before-clause-labels
returns-in_err-before-clause-labels c = λ steps e. c.from_residual.ensures ∙ number-zero steps c.args.number (omega (arith, c.in_err-before.ensures))

pub returns-in_err-step-clause-labels : goal.returns-in_err-step-clause-labels
returns-in_err-step-clause-labels c = λ steps e.
    c.from_residual-in_err-step.ensures ∙ number_at _ _ steps e c.in_ok-before.before c.args.number None c.in_err-step.ensures.nth (omega (arith, c.in_ok-before.ensures.0, c.in_ok-before.ensures.1))

pub returns-clause-labels : goal.returns-clause-labels
returns-clause-labels c = λ steps e.
    c.labels_of.ensures.labels
    ∙ number_at _ _ steps e c.in_ok-before.before c.args.number (Some c.in_ok-step.step) c.in_ok-step.ensures.nth (omega (arith, c.in_ok-before.ensures.0, c.in_ok-before.ensures.1))
