use Rattle.std.proofs.Common.{arith}
use Rattle.literal.proofs.Laws.{row-end, row-stop, put_room, put_end}
use Rattle.literal.proofs.put_lines.Goals as goal

pub put_line-requires-clause-line : goal.put_line-requires-clause-line
put_line-requires-clause-line c =
    let a = c.args in
    let l = c.loop-i in
    let s = c.extra_spaces in
    let t = c.text-line in
    put_room a.lines.now a.indent a.first l.i a.to a.writer.now l.writer l.invariant (omega arith) (omega arith) c.len-i-end.ensures.lines t.result.now t.ensures.value s.result (rw (← c.indent-deep.ensures.value) s.ensures.value) (omega arith)

pub returns-after-loop-i : goal.returns-after-loop-i
returns-after-loop-i c =
    let a = c.args in
    let l = c.loop-i in
    put_end a.lines.now a.indent a.first l.i a.to a.writer.now l.writer l.invariant (row-end a.lines.now a.indent l.i (omega arith))

pub returns-then-deep-indent : goal.returns-then-deep-indent
returns-then-deep-indent c =
    let a = c.args in
    let l = c.loop-i in
    put_end a.lines.now a.indent a.first l.i a.to a.writer.now l.writer l.invariant (row-stop a.lines.now a.indent l.i (omega arith) (omega arith))
