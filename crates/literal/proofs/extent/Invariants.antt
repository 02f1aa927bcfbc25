-- The invariant: the lines before `i` are of the literal, and what they give is counted. Assumes nothing.
use Rattle.literal.proofs.Laws.{Counted}
use Rattle.literal.proofs.extent.Given as goal

abbrev pub invariant-loop-i : goal.invariant-loop-i
invariant-loop-i l = Counted l.lines l.indent l.first l.i l.len
