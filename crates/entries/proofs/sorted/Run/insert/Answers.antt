-- A place put in keeps the keys in order. Assumes nothing.
use Rattle.entries.proofs.Runs.{run_on}
use Rattle.entries.proofs.sorted.Run.insert.Goals as goal

pub invariant_of-self : goal.invariant_of-self
invariant_of-self c = record { in_order = run_on c.insert.ensures c.requires.gap.within c.args.self.now.in_order c.requires.inside c.requires.gap c.requires.room }
