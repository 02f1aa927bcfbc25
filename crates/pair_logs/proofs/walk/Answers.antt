use Rattle.std.proofs.Common.{rules}
use Rattle.pair_logs.proofs.Turns.{going_start, going_pair, going_hammer, going_sound}
use Rattle.pair_logs.proofs.walk.Goals as goal

pub loop-hammers-init : goal.loop-hammers-init
loop-hammers-init c = search (rules, going_start)

pub loop-hammers-preserved-in-Pair : goal.loop-hammers-preserved-in-Pair
loop-hammers-preserved-in-Pair c = (
  search rules,
  rw (c.behind-hammers.ensures, c.behind-sounds.ensures) (going_pair c.loop-hammers.invariant.1 c.loop-hammers-test.true c.if-sounds-logs.true (rw c.in-Pair.is at c.in_ok-turn_of.ensures) c.store.ensures c.store-in-Pair.ensures),
)

pub loop-hammers-preserved-in-LoneHammer : goal.loop-hammers-preserved-in-LoneHammer
loop-hammers-preserved-in-LoneHammer c = (
  search rules,
  rw c.behind-hammers-in-LoneHammer.ensures (going_hammer c.loop-hammers.invariant.1 c.loop-hammers-test.true c.if-sounds-logs.true (rw c.in-LoneHammer.is at c.in_ok-turn_of.ensures) c.store-in-LoneHammer.ensures),
)

pub loop-hammers-preserved : goal.loop-hammers-preserved
loop-hammers-preserved c = (
  search rules,
  rw c.behind-sounds-in-LoneSound.ensures (going_sound c.loop-hammers.invariant.1 c.loop-hammers-test.true c.if-sounds-logs.true (rw c.in-LoneSound.is at c.in_ok-turn_of.ensures) c.store-in-LoneSound.ensures),
)
