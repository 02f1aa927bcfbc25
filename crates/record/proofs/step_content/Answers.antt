-- Seven fields in turn, and nothing behind them. Assumes nothing.
use Rattle.std.proofs.Common.{◌≡◌, ℕ, ◌+◌, ◌-◌, List, take, drop, sym, ap, ◌∙◌, Bor}
use Rattle.refusal.specs.Base.{maybe}
use Rattle.item.specs.Decode.{◌>>=◌}
use Rattle.item.specs.Encode.{Bytes}
use Rattle.value.specs.Walks.{ReadAt}
use Rattle.record.specs.Read.{field_of, as_command, step_in}
use Rattle.record.specs.Contract.{is_some, is_step}
use Rattle.std.specs.Prelude.{None, Some}
use Rattle.record.proofs.Invariants.{ended}
use Rattle.record.proofs.Views.{command-part, tree-walks}
use Rattle.record.proofs.step_content.Goals as goal

-- the command's text, in the bytes that are lent
command-in : (bytes all : Bor (List ℕ)) (at to : ℕ) → all ≡ bytes → Bytes bytes.now → (w : ReadAt (field_of as_command 0) bytes.now at to) → w.value ≡ take (to - (at + 6)) (drop (at + 6) all.now)
command-in bytes all at to e b w = command-part bytes.now at to b w ∙ ap (λ (x : Bor (List ℕ)). take (to - (at + 6)) (drop (at + 6) x.now)) (sym e)

pub returns-in_err-id : goal.returns-in_err-id
unfolding is_step is_some maybe step_in ◌>>=◌
returns-in_err-id c =
    rw (c.from_residual.ensures, c.in_err-id.ensures)

pub returns-in_err-command : goal.returns-in_err-command
unfolding is_step is_some maybe step_in ◌>>=◌
returns-in_err-command c =
    rw (c.from_residual-in_err-command.ensures, c.in_ok-id.ensures.is, c.in_err-command.ensures)

pub returns-in_err-value : goal.returns-in_err-value
unfolding is_step is_some maybe step_in ◌>>=◌
returns-in_err-value c =
    rw (c.from_residual-in_err-value.ensures, c.in_ok-id.ensures.is, c.in_ok-command.ensures.is, c.in_err-value.ensures)

pub returns-in_err-timeout : goal.returns-in_err-timeout
unfolding is_step is_some maybe step_in ◌>>=◌
returns-in_err-timeout c =
    rw (c.from_residual-in_err-timeout.ensures, c.in_ok-id.ensures.is, c.in_ok-command.ensures.is, c.in_ok-value.ensures.is, tree-walks 29 c.args.s.bytes.now c.in_ok-value.value None c.in_err-timeout.ensures)

pub returns-in_err-continues : goal.returns-in_err-continues
unfolding is_step is_some maybe step_in ◌>>=◌
returns-in_err-continues c =
    rw (c.from_residual-in_err-continues.ensures, c.in_ok-id.ensures.is, c.in_ok-command.ensures.is, c.in_ok-value.ensures.is, (tree-walks 29 c.args.s.bytes.now c.in_ok-value.value (Some c.in_ok-timeout.timeout) c.in_ok-timeout.ensures).is, c.in_err-continues.ensures)

pub returns-in_err-expect : goal.returns-in_err-expect
unfolding is_step is_some maybe step_in ◌>>=◌
returns-in_err-expect c =
    rw (c.from_residual-in_err-expect.ensures, c.in_ok-id.ensures.is, c.in_ok-command.ensures.is, c.in_ok-value.ensures.is, (tree-walks 29 c.args.s.bytes.now c.in_ok-value.value (Some c.in_ok-timeout.timeout) c.in_ok-timeout.ensures).is, c.in_ok-continues.ensures.is, c.in_err-expect.ensures)

pub returns-in_err-end : goal.returns-in_err-end
unfolding is_step is_some maybe step_in ◌>>=◌
returns-in_err-end c =
    rw (c.from_residual-in_err-end.ensures, c.in_ok-id.ensures.is, c.in_ok-command.ensures.is, c.in_ok-value.ensures.is, (tree-walks 29 c.args.s.bytes.now c.in_ok-value.value (Some c.in_ok-timeout.timeout) c.in_ok-timeout.ensures).is, c.in_ok-continues.ensures.is, c.in_ok-expect.ensures.is, command-in c.args.s.bytes c.all.result _ _ c.all.ensures.same c.all.ensures.bytes c.in_ok-value.ensures, c.in_err-end.ensures)

pub returns : goal.returns
unfolding is_step step_in ◌>>=◌
returns c =
    rw (c.filled.ensures, c.in_ok-id.ensures.is, c.in_ok-command.ensures.is, c.in_ok-value.ensures.is, (tree-walks 29 c.args.s.bytes.now c.in_ok-value.value (Some c.in_ok-timeout.timeout) c.in_ok-timeout.ensures).is, c.in_ok-continues.ensures.is, c.in_ok-expect.ensures.is, command-in c.args.s.bytes c.all.result _ _ c.all.ensures.same c.all.ensures.bytes c.in_ok-value.ensures, c.in_ok-end.ensures.is)
    (ended _ c.args.s.bytes.now c.in_ok-end.end c.in_ok-end.ensures.fits)
