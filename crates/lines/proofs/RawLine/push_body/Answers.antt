-- The blank lines that wait, and its own row. Assumes nothing.
use Rattle.std.proofs.Common.{refl, ap, ◌∙◌, ◌∷◌, ◌+◌, length}
use Rattle.refusal.proofs.Tools.{err_is}
use Rattle.utf8.specs.Part.{part}
use Rattle.utf8.specs.White.{trim_end}
use Rattle.lines.specs.Lines.{indent_of, entry}
use Rattle.lines.specs.Table.{row_of, line_of}
use Rattle.lines.specs.Raw.{raw_text}
use Rattle.lines.specs.Filling.{reading}
use Rattle.lines.proofs.TableLaws.{took_of, takes-both}
use Rattle.lines.proofs.ScanLaws.{is-body}
use Rattle.lines.proofs.RawLine.push_body.Goals as goal

pub returns-in_err-push_blanks : goal.returns-in_err-push_blanks
returns-in_err-push_blanks c = λ es.
    let a = c.args in
    let end = a.self.start + length (trim_end (part a.self.text.now a.self.start a.self.to)) in
    rw (err_is _ c.from_residual.ensures.1)
    (ap (reading a.self.text.now a.rows.now.items) (is-body a.self a.waiting end c.requires.untabbed refl es)
    ∙ c.in_err-push_blanks.ensures (entry (line_of a.self.text.now (row_of (indent_of (raw_text a.self)) a.self.start end a.self.number)) ∷ es))

pub returns : goal.returns
returns c = λ es.
    let a = c.args in
    let row = line_of a.self.text.now c.row.result in
    takes-both a.self.text.now a.rows.now.items c.push_blanks.new.rows.items c.push.new.rows.items _ (entry row ∷ es) _ c.push.result
    (took_of (rw c.row.ensures.is (is-body a.self a.waiting c.trim_end.result c.requires.untabbed c.trim_end.ensures.value es)) (c.in_ok-push_blanks.ensures (entry row ∷ es)))
    (c.push.ensures a.self.text.now es c.row.ensures.lies)
