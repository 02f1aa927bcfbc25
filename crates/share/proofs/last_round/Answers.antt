use Rattle.std.proofs.Common.{arith}
use Rattle.share.proofs.Turns.{round_next, stored_more}
use Rattle.share.proofs.last_round.Goals as goal

pub loop-i-preserved : goal.loop-i-preserved
loop-i-preserved c =
    let l = c.loop-i in
    let a = c.args in
    let t = c.loop-i-test.true in
    (omega arith, rw (c.stroke-more.ensures, c.min-got.ensures) (stored_more _ (omega arith) (rw (round_next a.wishes.each.now l.i a.rounds.whole l.left t) at l.invariant.1)))
