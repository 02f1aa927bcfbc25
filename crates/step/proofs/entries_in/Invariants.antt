-- The invariant: whatever entries stand there, what is known of those passed. Assumes nothing.
use Rattle.step.proofs.Commands.{Walked}
use Rattle.step.proofs.entries_in.Given as goal

abbrev pub invariant-loop-pair : goal.invariant-loop-pair
invariant-loop-pair l =
    Walked l.part.bytes.now l.part.from l.part.to l.pair-iterator
    (record { name = l.name; id = l.id; timeout = l.timeout; continues = l.continues; expect = l.expect; command = l.command })
