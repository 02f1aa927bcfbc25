use Rattle.std.proofs.Common.{subst, arith}
use Rattle.refusal.proofs.Tools.{err_is}
use Rattle.std.specs.Prelude.{Ok}
use Rattle.scalar.specs.Contract.{quoted_of}
use Rattle.scalar.specs.Code.{ReadsPiece}
use Rattle.scalar.specs.declared.quoted_text.Piece.{Piece}
use Rattle.scalar.proofs.QuoteLaws.{passed_none, passed-byte, passed-shut, passed-refused}
use Rattle.scalar.proofs.quoted_text.span_of.Goals as goal

pub loop-piece-init : goal.loop-piece-init
loop-piece-init c = let a = c.args in (omega arith, omega (arith, a.string.inside), λ cap. passed_none cap a.string.line (quoted_of a.string.quote cap a.string.line) a.string.s.now a.string.from)

pub loop-piece-smaller : goal.loop-piece-smaller
loop-piece-smaller c =
    let a = c.args in
    let f = quoted_of a.string.quote 0 a.string.line in
    let k = subst (λ (r : Piece). ReadsPiece f f 0 a.string.line a.string.s.now c.loop-piece.place (Ok r)) c.in-Byte.is (c.in_ok-piece.ensures 0) in
    omega (arith, k.1, k.2)

pub loop-piece-preserved : goal.loop-piece-preserved
loop-piece-preserved c =
    let l = c.loop-piece in
    let a = c.args in
    let f = quoted_of a.string.quote 0 a.string.line in
    let k = subst (λ (r : Piece). ReadsPiece f f 0 a.string.line a.string.s.now l.place (Ok r)) c.in-Byte.is (c.in_ok-piece.ensures 0) in (
      omega (arith, k.1),
      omega (arith, k.2),
      λ cap. let g = quoted_of a.string.quote cap a.string.line in passed-byte cap a.string.line g a.string.s.now a.string.from l.place l.size (l.invariant.2 cap) _ _
          (subst (λ (r : Piece). ReadsPiece g g cap a.string.line a.string.s.now l.place (Ok r)) c.in-Byte.is (c.in_ok-piece.ensures cap)).0,
    )

pub returns-in-Shut : goal.returns-in-Shut
returns-in-Shut c =
    let l = c.loop-piece in
    let a = c.args in
    λ cap. let g = quoted_of a.string.quote cap a.string.line in
    let k = subst (λ (r : Piece). ReadsPiece g g cap a.string.line a.string.s.now l.place (Ok r)) c.in-Shut.is (c.in_ok-piece.ensures cap) in
    passed-shut cap a.string.line g a.string.s.now a.string.from l.place l.size (l.invariant.2 cap) _ k.0 k.1 (omega arith)

pub returns-in_err-piece : goal.returns-in_err-piece
returns-in_err-piece c =
    let l = c.loop-piece in
    let a = c.args in
    λ cap. rw (err_is _ c.from_residual.ensures.1) (passed-refused cap a.string.line (quoted_of a.string.quote cap a.string.line) a.string.s.now a.string.from l.place l.size (l.invariant.2 cap) _ (c.in_err-piece.ensures cap))
