-- What was found, or what stands for no text. Assumes nothing.
use Rattle.std.proofs.Common.{arith}
use Rattle.item.specs.Encode.{encode}
use Rattle.nodes.proofs.Writing.{writes_is, item_most}
use Rattle.nodes.proofs.Texts.{optional-item, null-item}
use Rattle.nodes.proofs.output.RecordWriter.text_or_null.Goals as goal

pub returns-in-Some-clause-goes : goal.returns-in-Some-clause-goes
returns-in-Some-clause-goes c = item_most _ _ _ c.scalar.ensures (omega (arith, c.in-Some.ensures.short))

pub returns-in-None-clause-goes : goal.returns-in-None-clause-goes
unfolding encode
returns-in-None-clause-goes c = item_most _ _ _ c.null.ensures (omega arith)

pub returns-in-Some-clause-text : goal.returns-in-Some-clause-text
returns-in-Some-clause-text c = λ t r. writes_is (optional-item r.value (c.in-Some.ensures.text r.value r.found) r.is) c.scalar.ensures

pub returns-in-None-clause-text : goal.returns-in-None-clause-text
returns-in-None-clause-text c = λ t r. writes_is (null-item r.value (c.in-None.ensures.text r.value r.found) r.is) c.null.ensures
