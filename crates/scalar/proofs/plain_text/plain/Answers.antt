-- Plain text by its places, then trimmed. Assumes nothing.
use Rattle.std.proofs.Common.{sym, ap, ◌∙◌, ℕ, List, drop}
use Rattle.refusal.proofs.Tools.{err_is}
use Rattle.writer.specs.Writing.{cap_of, Appends, Lacks}
use Rattle.scalar.specs.Scalars.{scalar_of}
use Rattle.scalar.specs.Contract.{is_in_flow, is_key, written}
use Rattle.scalar.specs.Read.{scalar}
use Rattle.scalar.proofs.Laws.{plain-part, flat_scalar, wrote_scalar, refused_scalar}
use Rattle.scalar.proofs.plain_text.plain.Goals as goal

pub returns-in_err-put_scalar : goal.returns-in_err-put_scalar
returns-in_err-put_scalar c = λ line.
    let a = c.args in
    let w = a.writer.now in
    let e = c.plain_end-next in
    let t = c.trimmed.result.now in
    let q = plain-part (cap_of w) line (is_in_flow a.stops) a.role w.used a.s.now a.i e.result e.ensures.here
    ∙ ap (λ (u : List ℕ). scalar (cap_of w) line a.role w.used (scalar_of u) (drop e.result a.s.now)) (sym c.trimmed.ensures.result_value) in
    let k : Lacks w c.put_scalar.new.writer (written a.role (scalar_of t)) c.in_err-put_scalar.field-0.0
    = rw (← c.said_by-said.ensures) c.in_err-put_scalar.ensures in
    rw (err_is _ c.from_residual.ensures.1, q) (refused_scalar a.role (scalar_of t) (flat_scalar t) a.s.now w _ e.result line e.ensures.in_range _ k)

pub returns : goal.returns
returns c = λ line.
    let a = c.args in
    let w = a.writer.now in
    let e = c.plain_end-next in
    let t = c.trimmed.result.now in
    let q = plain-part (cap_of w) line (is_in_flow a.stops) a.role w.used a.s.now a.i e.result e.ensures.here
    ∙ ap (λ (u : List ℕ). scalar (cap_of w) line a.role w.used (scalar_of u) (drop e.result a.s.now)) (sym c.trimmed.ensures.result_value) in
    let k : Appends w c.put_scalar.new.writer (written a.role (scalar_of t)) = rw (← c.said_by-said.ensures) c.in_ok-put_scalar.ensures in
    rw q (wrote_scalar a.role (scalar_of t) (flat_scalar t) a.s.now w _ e.result line e.ensures.in_range _ (c.is_key.ensures ∙ ap is_key c.said_by-said.ensures) k)
