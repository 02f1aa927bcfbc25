use Rattle.std.proofs.Common.{arith, sym, ap, ◌∙◌, ℕ, ◌+◌, length, drop, eqb-true}
use Rattle.std.proofs.lemmas.Bool.{eqb-false}
use Rattle.number.specs.Code.{number_of, at_most}
use Rattle.number.proofs.Laws.{digits_from, digits-none, digits-zero, digits-start, from_other, from-over, from_on, from_end, bounded-by}
use Rattle.number.proofs.digits.Goals as goal
use Rattle.number.proofs.digits.Goals.{then-is_empty-via-then-is_empty, then-is_empty-via-else-is_empty+then-zero_first}

pub returns-then-is_empty : goal.returns-then-is_empty
unfolding at_most
returns-then-is_empty c = let t = c.args.t.now in
    elim c.then-is_empty.branch [
      | then-is_empty-via-then-is_empty w ↦ rw (digits-none t (eqb-true (length t) 0 (sym c.is_empty.ensures ∙ w.if-is_empty.true)))
      | then-is_empty-via-else-is_empty+then-zero_first w ↦ rw (digits-zero t (sym w.zero_first.ensures ∙ w.if-zero_first.true))
    ]

pub loop-b-init : goal.loop-b-init
loop-b-init c = let a = c.args in ap (at_most a.limit) (digits-start a.t.now (eqb-false (length a.t.now) 0 (sym c.is_empty.ensures ∙ c.if-is_empty.false)) (sym c.zero_first.ensures ∙ c.if-zero_first.false))

pub returns-then-not-is_ascii_digit : goal.returns-then-not-is_ascii_digit
unfolding at_most
returns-then-not-is_ascii_digit c = let l = c.loop-b in
    rw (l.invariant, from_other c.args.t.now l.b-index l.number c.loop-b-test.true (sym c.is_ascii_digit.ensures.value ∙ c.if-not-is_ascii_digit.true))

pub returns-in_err-checked_mul : goal.returns-in_err-checked_mul
returns-in_err-checked_mul c = let l = c.loop-b in let a = c.args in
    ap number_of c.from_residual.ensures ∙ from-over a.limit _ _ (omega (arith, c.in_err-checked_mul.ensures))
    ∙ sym (l.invariant ∙ ap (at_most a.limit) (from_on a.t.now l.b-index l.number c.loop-b-test.true (sym c.is_ascii_digit.ensures.value ∙ c.if-not-is_ascii_digit.false)))

pub returns-in_err-number : goal.returns-in_err-number
returns-in_err-number c = let l = c.loop-b in let a = c.args in
    ap number_of c.from_residual-in_err-number.ensures ∙ from-over a.limit _ _ (omega (arith, c.from.ensures, c.in_ok-checked_mul.ensures, c.in_err-number.ensures))
    ∙ sym (l.invariant ∙ ap (at_most a.limit) (from_on a.t.now l.b-index l.number c.loop-b-test.true (sym c.is_ascii_digit.ensures.value ∙ c.if-not-is_ascii_digit.false)))

pub loop-b-preserved : goal.loop-b-preserved
loop-b-preserved c = let l = c.loop-b in let a = c.args in
    l.invariant ∙ ap (at_most a.limit) (from_on a.t.now l.b-index l.number c.loop-b-test.true (sym c.is_ascii_digit.ensures.value ∙ c.if-not-is_ascii_digit.false)
    ∙ ap (λ (n : ℕ). digits_from n (drop (l.b-index + 1) a.t.now)) (omega (arith, c.from.ensures, c.in_ok-checked_mul.ensures, c.in_ok-number.ensures)))

pub returns : goal.returns
returns c = let l = c.loop-b in let a = c.args in
    rw (l.invariant, from_end a.t.now l.b-index l.number (omega arith), c.then_some.ensures) (bounded-by a.limit l.number)
