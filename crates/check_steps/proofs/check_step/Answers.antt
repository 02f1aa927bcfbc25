-- The third item, whether it is a known command, and whether it is `repeat`. Assumes nothing.
use Rattle.std.proofs.Common.{sym, ap, ◌∙◌, ℕ, List, rules}
use Rattle.refusal.specs.Base.{bytes, same}
use Rattle.check_steps.specs.CheckSteps.{known}
use Rattle.check_steps.proofs.Places.{step-at, step_lost}
use Rattle.check_steps.proofs.Steps.{step-36, step-repeat, step-passed}
use Rattle.check_steps.proofs.check_step.Goals as goal

pub returns-in_err-key : goal.returns-in_err-key
returns-in_err-key c = λ ns e at x q g st. step_lost x q (search rules) st (sym c.in_err-key.ensures.ok_part ∙ c.nth_item.ensures)

pub returns-then-not-is_known : goal.returns-then-not-is_known
returns-then-not-is_known c = λ ns e at x q g st.
    let a = step-at x q (search rules) st (sym c.in_ok-key.ensures.ok_part ∙ c.nth_item.ensures) in
    step-36 ns _ _ x (sym c.if-not-is_known.true ∙ c.is_known.ensures ns e ∙ ap (known ns) a.key)

pub returns-then-not-same_bytes : goal.returns-then-not-same_bytes
unfolding bytes
returns-then-not-same_bytes c = λ ns e at x q g st.
    let a = step-at x q (search rules) st (sym c.in_ok-key.ensures.ok_part ∙ c.nth_item.ensures) in
    step-passed ns _ _ x (sym c.if-not-is_known.false ∙ c.is_known.ensures ns e ∙ ap (known ns) a.key) (sym c.if-not-same_bytes.true ∙ c.same_bytes.ensures ∙ ap (λ (k : List ℕ). same k (bytes "repeat")) a.key)

pub returns-in_err-value : goal.returns-in_err-value
returns-in_err-value c = λ ns e at x q g st.
    let a = step-at x q (search rules) st (sym c.in_ok-key.ensures.ok_part ∙ c.nth_item.ensures) in
    absurd (rw c.in_err-value.ensures.ok_part at (c.at.ensures.value x.value g a.value))

pub returns : goal.returns
unfolding bytes
returns c = λ ns e at x q g st.
    let a = step-at x q (search rules) st (sym c.in_ok-key.ensures.ok_part ∙ c.nth_item.ensures) in
    c.check_repeat.ensures ns e x.value (rw c.in_ok-value.ensures.ok_part at (c.at.ensures.value x.value g a.value))
    ∙ step-repeat ns _ _ x (sym c.if-not-is_known.false ∙ c.is_known.ensures ns e ∙ ap (known ns) a.key) (sym c.if-not-same_bytes.false ∙ c.same_bytes.ensures ∙ ap (λ (k : List ℕ). same k (bytes "repeat")) a.key)
