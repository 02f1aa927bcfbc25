-- The value of `steps` by its kind. Assumes nothing.
use Rattle.std.proofs.Common.{sym, ◌∙◌}
use Rattle.std.proofs.lemmas.Bool.{eqb-true, eqb-false}
use Rattle.check_steps.proofs.Inner.{repeat-37, repeat-null, repeat-31, repeat-inner}
use Rattle.check_steps.proofs.check_repeat.Goals as goal

pub returns-in_default : goal.returns-in_default
returns-in_default c = λ ns e v i. repeat-37 ns _ _ v (c.in_default.ensures v i)

pub returns-then-is : goal.returns-then-is
returns-then-is c = λ ns e v i.
    let f = c.in-Some.ensures v i in
    repeat-null ns _ _ v f.value f.is (sym f.node_is.item_is.kind_is ∙ eqb-true _ _ (sym c.is.ensures ∙ c.if-is.true))

pub returns-in_default-sequence : goal.returns-in_default-sequence
returns-in_default-sequence c = λ ns e v i.
    let f = c.in-Some.ensures v i in
    repeat-31 ns _ _ v f.value f.is (λ n. eqb-false _ _ (sym c.is.ensures ∙ c.if-is.false) (f.node_is.item_is.kind_is ∙ n)) (c.in_default-sequence.ensures.items f.value f.node_is)

pub returns : goal.returns
returns c = λ ns e v i.
    let f = c.in-Some.ensures v i in
    let l = c.in-Some-sequence.ensures.items f.value f.node_is in
    repeat-inner ns _ _ v f.value f.is l.items l.is (c.check_inner.ensures ns e l.items l.holds)
