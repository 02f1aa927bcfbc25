-- By the byte of a boolean. Assumes nothing.
use Rattle.std.proofs.Common.{sym, ap, ◌∙◌, arith}
use Rattle.std.proofs.lemmas.Bool.{eqb-true, eqb-false, le-ltb}
use Rattle.meaning.specs.Meanings.{is_true}
use Rattle.step.proofs.Fields.{flag-true, flag-other, true-absent}
use Rattle.step.proofs.is_true.Goals as goal

pub returns-in_default : goal.returns-in_default
returns-in_default c = λ o f. true-absent (rw c.in_default.is at f)

pub returns-then-not-is : goal.returns-then-not-is
returns-then-not-is c = λ o f.
    let found = rw c.in-Some.is at f in
    flag-other found.value found.node_is.item_is (λ k. absurd (eqb-false _ _ (sym c.is.ensures ∙ c.if-not-is.true) k)) ∙ ap is_true (sym found.is)

pub returns-then-from-to : goal.returns-then-from-to
returns-then-from-to c = λ o f.
    let found = rw c.in-Some.is at f in
    flag-true found.value (eqb-true _ _ (sym c.is.ensures ∙ c.if-not-is.false)) found.node_is.item_is ∙ ap is_true (sym found.is)

pub returns-else-from-to : goal.returns-else-from-to
returns-else-from-to c = λ o f.
    let found = rw c.in-Some.is at f in
    le-ltb _ _ (omega (arith, c.if-from-to.false)) ∙ flag-other found.value found.node_is.item_is (λ _. omega (arith, c.if-from-to.false, c.in-Some.node.inside)) ∙ ap is_true (sym found.is)
