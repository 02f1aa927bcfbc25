-- The parts one behind another, and the header in front of them. Assumes nothing.
use Rattle.std.proofs.Common.{arith, ◌+◌, ◌^◌}
use Rattle.item.specs.Encode.{encode}
use Rattle.nodes.proofs.Writing.{writes_is, most_more, item_most, item_less}
use Rattle.step.proofs.Writing.{key_item, value-read, flag_item, expected-read, step-written}
use Rattle.step.proofs.put_step.Goals as goal

pub returns-clause-goes : goal.returns-clause-goes
unfolding encode
returns-clause-goes c =
    let key = item_most (6 + 2 ^ 20) _ _ c.text.ensures (omega (arith, c.args.step.short)) in
    let continues = item_most 7 _ _ c.bool.ensures (omega arith) in
    let front = most_more (most_more c.text_or_empty.ensures.goes c.text_or_empty-2.ensures.goes) key in
    let parts = most_more (most_more (most_more (most_more front c.value_or_null.ensures.goes) c.text_or_null.ensures.goes) continues) c.value_or_null-2.ensures.goes in
    item_less _ c.open-header.ensures parts c.close.ensures (omega arith)

pub returns-clause-step : goal.returns-clause-step
returns-clause-step c = λ step st.
    step-written step c.open-header.ensures (c.text_or_empty.ensures.text step.name st.name) (c.text_or_empty-2.ensures.text step.id st.id)
    (writes_is (key_item st.key) c.text.ensures) (c.value_or_null.ensures.value step.value (value-read st)) (c.text_or_null.ensures.text step.timeout st.timeout)
    (writes_is (flag_item st.continue (c.is_true.ensures st.continue.value st.continue.found)) c.bool.ensures)
    (c.value_or_null-2.ensures.value _ (expected-read step.expect st.expect)) c.close.ensures
