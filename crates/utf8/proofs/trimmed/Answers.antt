-- The text is the part from 0 to its length. Assumes nothing.
use Rattle.std.proofs.Common.{sym, ap, ◌∙◌, arith, length}
use Rattle.utf8.specs.White.{trim}
use Rattle.utf8.proofs.Laws.{part-all, trim-part}
use Rattle.utf8.proofs.trimmed.Goals as goal

pub returns-clause-result_value : goal.returns-clause-result_value
returns-clause-result_value c =
    let s = c.args.s.now in
    let f = c.trim_start-from in
    let e = c.trim_end-to in
    sym (trim-part s 0 (length s) f.result e.result (omega arith) (omega arith) f.ensures.value e.ensures.value) ∙ ap trim (part-all s)
