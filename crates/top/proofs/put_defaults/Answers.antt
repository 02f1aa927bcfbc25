-- The two texts, and the header in front of them. Assumes nothing.
use Rattle.top.proofs.DefaultKeys.{defaults-written}
use Rattle.top.proofs.put_defaults.Goals as goal

pub returns-clause-defaults : goal.returns-clause-defaults
returns-clause-defaults c = λ d t.
    defaults-written d c.open-header.ensures (c.text_or_null.ensures.text d.timeout t.timeout) (c.text_or_null-2.ensures.text d.wall_budget t.wall_budget) c.close.ensures
