use Rattle.std.proofs.Common.{ap, ◌∙◌, subst, ℕ, arith, drop}
use Rattle.std.specs.Prelude.{Result, Ok}
use Rattle.refusal.specs.declared.Refusal.{Refusal}
use Rattle.scalar.specs.declared.quoted_text.Piece.{Piece}
use Rattle.scalar.specs.Contract.{quoted_of}
use Rattle.scalar.specs.Code.{ReadsPiece}
use Rattle.scalar.proofs.QuoteLaws.{next-byte, one_more, not-shut}
use Rattle.scalar.proofs.quoted_text.unquote.Goals as goal

pub loop-slot-preserved : goal.loop-slot-preserved
loop-slot-preserved c =
    let l = c.loop-slot in
    let a = c.args in
    let b = c.in-Ok-Byte.piece.byte in
    let n = c.in-Ok-Byte.piece.next in
    let k = λ (cap : ℕ). let f = quoted_of a.string.quote cap a.string.line in
    subst (λ (r : Result Piece Refusal). ReadsPiece f f cap a.string.line a.string.s.now l.place r) (c.in-Ok-Byte.is ∙ ap Ok c.in-Ok-Byte.field-0-is) (c.piece_at.ensures cap) in (
      (k 0).2,
      λ cap t rest e h.
          let f = quoted_of a.string.quote cap a.string.line in
          let o = l.invariant.1 cap t rest e h in
          let q = next-byte cap a.string.line t rest l.slot-index b (f (drop l.place a.string.s.now)) (f (drop n a.string.s.now)) (omega arith) o.1 (k cap).0 in
          (one_more l.out t l.slot-index b (omega arith) (omega arith) o.0 q.0, q.1),
    )

pub returns-in-Ok-Shut : goal.returns-in-Ok-Shut
returns-in-Ok-Shut c =
    let l = c.loop-slot in
    let a = c.args in
    λ cap t rest e h. let f = quoted_of a.string.quote cap a.string.line in
    let k = subst (λ (r : Result Piece Refusal). ReadsPiece f f cap a.string.line a.string.s.now l.place r) (c.in-Ok-Shut.is ∙ ap Ok c.in-Ok-Shut.field-0-is) (c.piece_at.ensures cap) in
    not-shut cap a.string.line t rest _ l.slot-index (f (drop l.place a.string.s.now)) (omega arith) (l.invariant.1 cap t rest e h).1 k.0
