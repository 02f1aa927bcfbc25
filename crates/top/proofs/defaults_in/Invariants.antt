-- The invariant: for whatever entries stand there, those that are left, read behind the two found so far, say what all of them say; these two stand in the bytes. Assumes nothing.
use Rattle.top.proofs.DefaultKeys.{Walked}
use Rattle.top.proofs.defaults_in.Given as goal

abbrev pub invariant-loop-pair : goal.invariant-loop-pair
invariant-loop-pair l =
    Walked l.part.bytes.now l.part.from l.part.to l.pair-iterator (record { timeout = l.timeout; wall_budget = l.wall_budget })
