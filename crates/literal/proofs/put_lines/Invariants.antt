-- The invariant: the lines before `i` are written. Assumes nothing.
use Rattle.literal.proofs.Laws.{Put}
use Rattle.literal.proofs.put_lines.Given as goal

abbrev pub invariant-loop-i : goal.invariant-loop-i
invariant-loop-i l = Put l.lines l.indent l.first l.i l.to l.fn.writer l.writer
