-- By its kind. Assumes nothing.
use Rattle.std.proofs.Common.{◌≡◌, sym, ◌∙◌, ◌||◌, eqb}
use Rattle.top.proofs.Values.{scalar-absent, scalar-there}
use Rattle.top.proofs.is_scalar.Goals.{then-is, else-is}
use Rattle.top.proofs.is_scalar.Goals as goal

pub returns-in_default : goal.returns-in_default
returns-in_default c = λ o f. scalar-absent (rw c.in_default.is at f)

pub returns-then-is-2 : goal.returns-then-is-2
returns-then-is-2 c = λ o f.
    let kind = c.in-Some.value.item.kind in
    let e : c.if-is.value ≡ (eqb kind 1 || eqb kind 2) = elim c.if-is.branch [
      | then-is w ↦ rw (← c.is.ensures, w.if-is.true) (w.value-is ∙ w.if-is.true)
      | else-is w ↦ rw (← c.is.ensures, w.if-is.false, ← w.is-else-is.ensures) w.value-is
    ] in
    rw c.if-is-2.true (rw (sym e ∙ c.if-is-2.true) at (scalar-there o (rw c.in-Some.is at f)))

pub returns-else-is-2 : goal.returns-else-is-2
returns-else-is-2 c = λ o f.
    let kind = c.in-Some.value.item.kind in
    let e : c.if-is.value ≡ (eqb kind 1 || eqb kind 2) = elim c.if-is.branch [
      | then-is w ↦ rw (← c.is.ensures, w.if-is.true) (w.value-is ∙ w.if-is.true)
      | else-is w ↦ rw (← c.is.ensures, w.if-is.false, ← w.is-else-is.ensures) w.value-is
    ] in
    rw c.is-else-is-2.ensures (rw (sym e ∙ c.if-is-2.false) at (scalar-there o (rw c.in-Some.is at f)))
