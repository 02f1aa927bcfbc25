-- The bytes of a value that was found are its item. Assumes nothing.
use Rattle.std.proofs.Common.{subst, ◌∙◌, arith}
use Rattle.item.specs.Encode.{encode}
use Rattle.nodes.specs.Contract.{FindsNode}
use Rattle.nodes.proofs.Writing.{writes_is, item_most}
use Rattle.nodes.proofs.Texts.{value-part, no-value}
use Rattle.nodes.proofs.output.RecordWriter.value_or_null.Goals as goal

pub returns-in-None-clause-goes : goal.returns-in-None-clause-goes
unfolding encode
returns-in-None-clause-goes c = item_most _ _ _ c.null.ensures (omega arith)

pub returns-in-Some-clause-value : goal.returns-in-Some-clause-value
returns-in-Some-clause-value c = λ v r. writes_is (c.whole.ensures ∙ value-part r.value (subst (FindsNode r.value) c.in-Some.is r.found) r.is) c.put.ensures

pub returns-in-None-clause-value : goal.returns-in-None-clause-value
returns-in-None-clause-value c = λ v r. writes_is (no-value r.value (subst (FindsNode r.value) c.in-None.is r.found) r.is) c.null.ensures
