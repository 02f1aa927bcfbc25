-- One field after the other. Assumes nothing.
use Rattle.std.proofs.Common.{arith, ap, sym}
use Rattle.meaning.specs.Record.{tags_item}
use Rattle.nodes.proofs.Writing.{writes_is, most_less, most_more}
use Rattle.top.proofs.Parts.{sequence-most, sequence-written, fields-written}
use Rattle.top.proofs.put_top.Goals as goal

pub returns-clause-goes : goal.returns-clause-goes
returns-clause-goes c =
    let front = most_more (most_more (most_more c.text_or_empty.ensures.goes c.text_or_empty-2.ensures.goes) c.put_tags.ensures.goes) c.text_or_empty-3.ensures.goes in
    most_less _ (most_more (most_more (most_more front c.value_or_null.ensures.goes) c.put_defaults.ensures.goes) (sequence-most _ c.args.top.fail_on.inside c.put_sequence.ensures))
    (omega (arith, c.args.top.tags.inside))

pub returns-clause-fields : goal.returns-clause-fields
returns-clause-fields c = λ t st.
    fields-written t (c.text_or_empty.ensures.text t.name st.name) (c.text_or_empty-2.ensures.text t.description st.description)
    (writes_is (ap tags_item (sym st.tags.is)) (c.put_tags.ensures.tags st.tags.items st.tags.holds))
    (c.text_or_empty-3.ensures.text t.image st.image) (c.value_or_null.ensures.value t.setup st.setup) (c.put_defaults.ensures.defaults t.defaults st.defaults)
    (sequence-written t.fail_on st.fail_on c.put_sequence.ensures)
