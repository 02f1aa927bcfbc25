-- A value's text is what its node tells. Assumes nothing.
use Rattle.std.proofs.Common.{subst}
use Rattle.nodes.specs.Contract.{FindsNode}
use Rattle.nodes.proofs.Texts.{nothing_there, text_there, told}
use Rattle.nodes.proofs.scalar_of.Goals as goal

pub returns-in_err-node-clause-text : goal.returns-in_err-node-clause-text
returns-in_err-node-clause-text c = λ o f. rw c.from_residual.ensures (nothing_there o (subst (FindsNode o) c.in_err-node.was f))

pub returns-clause-text : goal.returns-clause-text
returns-clause-text c = λ o f. let i = subst (FindsNode o) c.in_ok-node.was f in text_there o i.value i.is (told i.value c.scalar.result (c.scalar.ensures.value i.value i.node_is))
