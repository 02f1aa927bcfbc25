use Rattle.pair_logs.proofs.Turns.{resting_on}
use Rattle.pair_logs.proofs.rest.Goals as goal

pub loop-i-preserved : goal.loop-i-preserved
loop-i-preserved c = resting_on c.loop-i.invariant c.requires.0 c.loop-i-test.true c.if-time-last.false c.store.ensures
