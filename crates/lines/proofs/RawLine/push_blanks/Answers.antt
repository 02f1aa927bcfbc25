-- Each row is the first of the blank lines that still wait. Assumes nothing.
use Rattle.std.proofs.Common.{◌-◌, ◌≡◌, arith}
use Rattle.std.specs.Prelude.{Ok, Err}
use Rattle.refusal.proofs.Tools.{err_is}
use Rattle.lines.specs.Lines.{blanks_before}
use Rattle.lines.proofs.TableLaws.{takes-blank}
use Rattle.lines.proofs.RawLine.push_blanks.Goals as goal

pub loop-number-preserved : goal.loop-number-preserved
loop-number-preserved c =
    let a = c.args in
    let l = c.loop-number in
    rw (← c.indent.ensures.value) (takes-blank a.self.text.now a.rows.now.items l.rows.items c.push.new.rows.items a.waiting a.self.number c.indent.result l.number (Ok _) (omega arith) (rw (← c.indent.ensures.value) at l.invariant) c.in_ok-push.ensures)

pub returns-in_err-push : goal.returns-in_err-push
returns-in_err-push c = λ es.
    let a = c.args in
    let l = c.loop-number in
    rw (err_is _ c.from_residual.ensures.1, ← c.indent.ensures.value)
    (takes-blank a.self.text.now a.rows.now.items l.rows.items c.push.new.rows.items a.waiting a.self.number c.indent.result l.number (Err _) (omega arith) (rw (← c.indent.ensures.value) at l.invariant) c.in_err-push.ensures es)

pub returns : goal.returns
unfolding blanks_before
returns c = λ es.
    let q : c.args.self.number - c.loop-number.number ≡ 0 = omega arith in
    rw q at (c.loop-number.invariant es)
