-- Two fields, and nothing behind them. Assumes nothing.
use Rattle.refusal.specs.Base.{maybe}
use Rattle.item.specs.Decode.{◌>>=◌}
use Rattle.record.specs.Read.{defaults_in}
use Rattle.record.specs.Contract.{is_some, are_defaults}
use Rattle.record.proofs.Invariants.{ended}
use Rattle.record.proofs.defaults.Goals as goal

pub returns-in_err-wall_budget : goal.returns-in_err-wall_budget
unfolding are_defaults is_some maybe defaults_in ◌>>=◌
returns-in_err-wall_budget c = rw (c.from_residual.ensures, c.in_err-wall_budget.ensures)

pub returns-in_err-end : goal.returns-in_err-end
unfolding are_defaults is_some maybe defaults_in ◌>>=◌
returns-in_err-end c = rw (c.from_residual-in_err-end.ensures, c.in_ok-wall_budget.ensures.is, c.in_err-end.ensures)

pub returns : goal.returns
unfolding are_defaults defaults_in ◌>>=◌
returns c =
    let last = c.in_ok-end.ensures in
    rw (c.filled.ensures, c.in_ok-wall_budget.ensures.is, last.is) (ended _ c.args.s.bytes.now c.in_ok-end.end last.fits)
