-- What stands behind a `\` is an escape. Assumes nothing.
use Rattle.std.proofs.Common.{rules, tests, true, false}
use Rattle.scalar.specs.Read.{double_quoted}
use Rattle.scalar.proofs.QuoteLaws.{double-hid, stands_behind}
use Rattle.scalar.proofs.quoted_text.double_piece.Goals as goal

pub returns-in-92 : goal.returns-in-92
returns-in-92 c = let a = c.args in
    λ cap. stands_behind (double_quoted cap a.line true) (double_quoted cap a.line false) cap a.line a.s.now a.i
    (double-hid cap a.line a.s.now a.i (search (rules, tests)) (search (rules, tests)))
    c.escape_piece.result (c.escape_piece.ensures cap)
