-- The positions before `i` are written. Assumes nothing.
use Rattle.pair_logs.proofs.Turns.{Resting}
use Rattle.pair_logs.proofs.rest.Given as goal

abbrev pub invariant-loop-i : goal.invariant-loop-i
invariant-loop-i l = Resting l.times l.fn.left.from l.fn.left.before l.pairs l.initial.list l.list l.last l.i
