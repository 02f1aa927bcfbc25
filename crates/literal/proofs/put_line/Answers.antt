-- Three runs of bytes, one behind the other. Assumes nothing.
use Rattle.std.proofs.Common.{arith}
use Rattle.std.proofs.lemmas.List.{length-replicate}
use Rattle.refusal.specs.Base.{ch}
use Rattle.writer.proofs.Laws.{appends_more}
use Rattle.literal.proofs.Laws.{line-whole, line-cut}
use Rattle.literal.proofs.put_line.Goals as goal

pub returns-then-used-to : goal.returns-then-used-to
returns-then-used-to c =
    let a = c.args in
    let p = appends_more c.fill.ensures c.put.ensures in
    line-whole a.writer.now _ a.line.now a.spaces a.to p
    (omega (arith, c.fill.ensures.used, c.put.ensures.used, c.used.ensures, c.if-used-to.true, length-replicate a.spaces (ch " "))) c.push.ensures

pub returns-else-used-to : goal.returns-else-used-to
returns-else-used-to c =
    let a = c.args in
    let p = appends_more c.fill.ensures c.put.ensures in
    line-cut a.writer.now _ a.line.now a.spaces a.to p
    (omega (arith, c.requires.line, c.fill.ensures.used, c.put.ensures.used, c.used.ensures, c.if-used-to.false, length-replicate a.spaces (ch " ")))
