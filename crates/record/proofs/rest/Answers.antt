-- Defaults, fail_on and the steps, which fill what is left. Assumes nothing.
use Rattle.std.proofs.Common.{sym, ap, ◌∙◌, drop, eqb-true}
use Rattle.std.proofs.lemmas.Bool.{eqb-false}
use Rattle.refusal.specs.Base.{maybe}
use Rattle.item.specs.Decode.{◌>>=◌}
use Rattle.record.specs.Read.{in_item, all, step_in, defaults_in, rest_in}
use Rattle.record.specs.Contract.{are_defaults, steps_in, rest_steps}
use Rattle.record.proofs.Chains.{no_item, content-read, content-refused, steps-behind, steps-last}
use Rattle.record.proofs.rest.Goals as goal

pub returns-in_err-fail_on : goal.returns-in_err-fail_on
unfolding rest_steps maybe rest_in ◌>>=◌
returns-in_err-fail_on c = rw (c.from_residual.ensures, no_item 17 defaults_in (drop c.args.at c.args.s.bytes.now) c.in_err-fail_on.ensures)

pub returns-in_err-defaults : goal.returns-in_err-defaults
unfolding rest_steps maybe rest_in ◌>>=◌ are_defaults
returns-in_err-defaults c = rw (c.from_residual-in_err-defaults.ensures, content-refused defaults_in c.in_ok-fail_on.ensures (ap are_defaults (sym c.slice.ensures) ∙ sym c.in_err-defaults.ensures))

pub returns-in_err-list : goal.returns-in_err-list
unfolding rest_steps maybe rest_in ◌>>=◌ are_defaults
returns-in_err-list c =
    let d = content-read defaults_in c.in_ok-fail_on.ensures (ap are_defaults (sym c.slice.ensures) ∙ sym c.in_ok-defaults.ensures) in
    rw (c.from_residual-in_err-list.ensures, d.is, c.in_err-list.ensures)

pub returns-in_err-end : goal.returns-in_err-end
unfolding rest_steps maybe rest_in ◌>>=◌ are_defaults
returns-in_err-end c =
    let d = content-read defaults_in c.in_ok-fail_on.ensures (ap are_defaults (sym c.slice.ensures) ∙ sym c.in_ok-defaults.ensures) in
    rw (c.from_residual-in_err-end.ensures, d.is, c.in_ok-list.ensures.is, no_item 18 (all (in_item 19 step_in)) (drop c.in_ok-list.list c.args.s.bytes.now) c.in_err-end.ensures)

pub returns-in_err-filled : goal.returns-in_err-filled
unfolding are_defaults
returns-in_err-filled c =
    rw c.from_residual-in_err-filled.ensures (steps-behind c.args.s.bytes.now (content-read defaults_in c.in_ok-fail_on.ensures (ap are_defaults (sym c.slice.ensures) ∙ sym c.in_ok-defaults.ensures)) c.in_ok-list.ensures c.in_ok-end.ensures (eqb-false _ _ (sym c.in_err-filled.ensures)))

pub returns : goal.returns
unfolding are_defaults
returns c =
    c.steps.ensures ∙ ap steps_in c.slice-2.ensures
    ∙ steps-last c.args.s.bytes.now (content-read defaults_in c.in_ok-fail_on.ensures (ap are_defaults (sym c.slice.ensures) ∙ sym c.in_ok-defaults.ensures)) c.in_ok-list.ensures c.in_ok-end.ensures (eqb-true _ _ (sym c.in_ok-filled.ensures))
