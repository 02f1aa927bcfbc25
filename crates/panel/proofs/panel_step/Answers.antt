-- What is seen, or 55, then 53. Assumes nothing.
use Rattle.std.proofs.Common.{refl}
use Rattle.refusal.specs.Base.{◌>>=◌}
use Rattle.panel.specs.Jobs.{given, start_of, panel_step}
use Rattle.panel.proofs.Theorem.{shows-step}
use Rattle.panel.proofs.panel_step.Goals as goal

pub returns-in_default-clause-answer : goal.returns-in_default-clause-answer
unfolding panel_step given ◌>>=◌
returns-in_default-clause-answer c = rw c.in_default.ensures refl

pub returns-in_default-clause-programmes : goal.returns-in_default-clause-programmes
returns-in_default-clause-programmes c = shows-step _ c.type_inv.«record» (returns-in_default-clause-answer c)

pub returns-in_default-labels_at-clause-answer : goal.returns-in_default-labels_at-clause-answer
unfolding panel_step given ◌>>=◌
returns-in_default-labels_at-clause-answer c = let w = c.in-Some.ensures in rw (w.is, ← c.in_default-labels_at.ensures.labels w.steps w.listed) refl

pub returns-in_default-labels_at-clause-programmes : goal.returns-in_default-labels_at-clause-programmes
returns-in_default-labels_at-clause-programmes c = shows-step _ c.type_inv.«record» (returns-in_default-labels_at-clause-answer c)

pub returns-clause-answer : goal.returns-clause-answer
unfolding panel_step given start_of ◌>>=◌
returns-clause-answer c = let w = c.in-Some.ensures in rw (w.is, ← c.in-Some-labels_at.ensures.labels w.steps w.listed) refl

pub returns-clause-programmes : goal.returns-clause-programmes
returns-clause-programmes c = shows-step _ c.type_inv.«record» (returns-clause-answer c)
