-- What is seen, or 55. Assumes nothing.
use Rattle.std.proofs.Common.{refl}
use Rattle.refusal.specs.Base.{◌>>=◌}
use Rattle.panel.specs.Jobs.{given, start_of, panel_name}
use Rattle.panel.proofs.Theorem.{shows-name}
use Rattle.panel.proofs.panel_name.Goals as goal

pub returns-in_default-clause-answer : goal.returns-in_default-clause-answer
unfolding panel_name given ◌>>=◌
returns-in_default-clause-answer c = rw c.in_default.ensures refl

pub returns-in_default-clause-programmes : goal.returns-in_default-clause-programmes
returns-in_default-clause-programmes c = shows-name _ c.type_inv.«record» (returns-in_default-clause-answer c)

pub returns-clause-answer : goal.returns-clause-answer
unfolding panel_name given start_of ◌>>=◌
returns-clause-answer c = let w = c.in-Some.ensures in rw (w.is, ← w.count) refl

pub returns-clause-programmes : goal.returns-clause-programmes
returns-clause-programmes c = shows-name _ c.type_inv.«record» (returns-clause-answer c)
