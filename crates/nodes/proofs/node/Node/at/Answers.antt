-- What the header says of a value that stands there. Assumes nothing.
use Rattle.nodes.proofs.Texts.{node-item, no-node}
use Rattle.nodes.proofs.node.Node.at.Goals as goal

pub returns-in_err-item-clause-value : goal.returns-in_err-item-clause-value
returns-in_err-item-clause-value c = λ y g st. absurd (no-node c.header_at.ensures.value y g c.args.s.short st c.in_err-item.ensures.value)

pub returns-clause-value : goal.returns-clause-value
returns-clause-value c = λ y g st.
    let n = node-item c.header_at.ensures.value y g c.args.s.short st c.in_ok-item.ensures.value in
    record { ranged = n.0; item_is = n.1 }
