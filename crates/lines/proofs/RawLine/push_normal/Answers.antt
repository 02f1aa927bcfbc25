-- By what is left of the line. Assumes nothing.
use Rattle.std.proofs.Common.{sym, ap, ◌∙◌, ◌++◌, arith}
use Rattle.refusal.proofs.Tools.{err_is}
use Rattle.lines.proofs.TableLaws.{took_none, took_of, reading-stops, collect-bad}
use Rattle.lines.proofs.ScanLaws.{no-events, opens-none, opens, is-marked, is-entry}
use Rattle.lines.proofs.RawLine.push_normal.Goals as goal

pub returns-then-end-self-clause-taken : goal.returns-then-end-self-clause-taken
returns-then-end-self-clause-taken c = λ es.
    let a = c.args in
    took_of (ap (λ l. l ++ es) (no-events a.self c.requires _ c.significant_end-end.ensures.left c.if-end-self.true)) (took_none a.self.text.now a.rows.now.items es)

pub returns-then-end-self-clause-open : goal.returns-then-end-self-clause-open
returns-then-end-self-clause-open c = opens-none c.args.self c.requires _ c.significant_end-end.ensures.left c.if-end-self.true

pub returns-then-is_marker-clause-taken : goal.returns-then-is_marker-clause-taken
returns-then-is_marker-clause-taken c = λ es.
    let a = c.args in
    rw (is-marked a.self c.requires _ c.significant_end-end.ensures.left (omega (arith, c.if-end-self.false)) (omega arith) (sym c.is_marker.ensures ∙ c.if-is_marker.true))
    (reading-stops a.self.text.now a.rows.now.items _ 5 a.self.number 0 (collect-bad _ 5 a.self.number es))

pub returns-in_err-push-clause-taken : goal.returns-in_err-push-clause-taken
returns-in_err-push-clause-taken c = λ es.
    let a = c.args in
    rw (err_is _ c.from_residual.ensures.1)
    (rw (is-entry a.self c.requires _ c.significant_end-end.ensures.left (omega (arith, c.if-end-self.false)) (omega arith) c.row.result c.row.ensures.is (sym c.is_marker.ensures ∙ c.if-is_marker.false))
    (c.in_err-push.ensures a.self.text.now es c.row.ensures.lies))

pub returns-clause-taken : goal.returns-clause-taken
returns-clause-taken c = λ es.
    let a = c.args in
    rw (is-entry a.self c.requires _ c.significant_end-end.ensures.left (omega (arith, c.if-end-self.false)) (omega arith) c.row.result c.row.ensures.is (sym c.is_marker.ensures ∙ c.if-is_marker.false))
    (c.in_ok-push.ensures a.self.text.now es c.row.ensures.lies)

pub returns-clause-open : goal.returns-clause-open
returns-clause-open c = c.literal_after.ensures ∙ opens c.args.self c.requires _ c.significant_end-end.ensures.left _ c.indent.ensures.value
