use Rattle.std.proofs.Common.{rules, ℕ, refl, sym, subst, ◌∙◌}
use Rattle.refusal.proofs.Tools.{err_is}
use Rattle.entries.specs.Entries.{Holds}
use Rattle.entries.proofs.Walking.{step, stop, turn, no-entry, first-ranged}
use Rattle.top.proofs.Parts.{lost}
use Rattle.top.proofs.DefaultKeys.{defaults-start, default-unknown, default-refused, default-turned, defaults-done}
use Rattle.top.proofs.defaults_in.Goals.{in-Timeout, in-WallBudget}
use Rattle.top.proofs.defaults_in.Goals as goal

pub loop-pair-init : goal.loop-pair-init
loop-pair-init c = (search rules, search rules, record { timeout = tt; wall_budget = tt }, λ es h. defaults-start es (subst (λ (n : ℕ). Holds c.args.part.bytes.now n c.args.part.to es) (search rules) h))

pub returns-in_default-clause-defaults : goal.returns-in_default-clause-defaults
returns-in_default-clause-defaults c = λ es h.
    let i = c.loop-pair.invariant in
    let t = stop _ _ i.0 i.1 c.in-Some.ensures.steps c.in_default.is in
    let k = i.3 es h in
    no-entry k.rest (search rules) t.before t.is k.holds.lies

pub returns-in_err-key-clause-defaults : goal.returns-in_err-key-clause-defaults
returns-in_err-key-clause-defaults c = λ es h.
    let i = c.loop-pair.invariant in
    let t = step _ _ i.0 i.1 c.in-Some.ensures.steps c.in-Ok.is in
    let k = i.3 es h in
    let l = lost c.in_err-key.ensures.value in
    rw (err_is _ c.from_residual.ensures.1, l.1) (default-unknown k (turn k.rest (search rules) t.before t.is k.holds.lies) (sym l.0 ∙ c.of.ensures))

pub returns-in_err-value-clause-defaults : goal.returns-in_err-value-clause-defaults
returns-in_err-value-clause-defaults c = λ es h.
    let i = c.loop-pair.invariant in
    let t = step _ _ i.0 i.1 c.in-Some.ensures.steps c.in-Ok.is in
    let k = i.3 es h in
    let e = turn k.rest (search rules) t.before t.is k.holds.lies in
    let l = lost c.in_err-value.ensures.value in
    absurd (rw l.0 at (c.at.ensures.value e.entry.v (first-ranged e.entry k.holds.ranged) (rw c.encoded-s.ensures e.value)))

pub returns-then-is_above_str-clause-defaults : goal.returns-then-is_above_str-clause-defaults
returns-then-is_above_str-clause-defaults c =
    default-refused _ _ (search rules) c.loop-pair.invariant c.in-Some.ensures.steps c.in-Ok.is c.encoded-s.ensures c.in_ok-value.ensures.ok_part c.at.ensures.bytes c.at.ensures.place c.at.ensures.value
    _ (sym c.in_ok-key.ensures.ok_part ∙ c.of.ensures) (sym c.if-is_above_str.true ∙ c.is_above_str.ensures)

pub loop-pair-preserved : goal.loop-pair-preserved
loop-pair-preserved c =
    default-turned _ _ (search rules) c.loop-pair.invariant c.in-Some.ensures.steps c.in-Ok.is c.encoded-s.ensures c.in_ok-value.ensures.ok_part c.at.ensures.bytes c.at.ensures.place c.at.ensures.value
    _ (sym c.in_ok-key.ensures.ok_part ∙ c.of.ensures) (sym c.if-is_above_str.false ∙ c.is_above_str.ensures)
    (elim c.match-key.branch [
      | in-Timeout w ↦ rw (w.in-Timeout.is, w.timeout-is, w.wall_budget-is) refl
      | in-WallBudget w ↦ rw (w.in-WallBudget.is, w.timeout-is, w.wall_budget-is) refl
    ])

pub returns-clause-defaults : goal.returns-clause-defaults
returns-clause-defaults c = λ es h. defaults-done (c.loop-pair.invariant.3 es h) (search rules)
