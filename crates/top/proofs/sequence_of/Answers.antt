-- By the kind of the value. Assumes nothing.
use Rattle.std.proofs.Common.{rules, sym, ◌∙◌}
use Rattle.std.proofs.lemmas.Bool.{eqb-true, eqb-false}
use Rattle.top.proofs.Values.{sequence-absent, sequence-empty, sequence-there}
use Rattle.top.proofs.sequence_of.Goals as goal

pub returns-in_default-clause-items : goal.returns-in_default-clause-items
returns-in_default-clause-items c = λ es h.
    let p = c.part.ensures.places (search rules) (search rules) in
    sequence-absent _ _ (rw c.in_default.is at (c.value_of.ensures.value es h)) p.0 p.1

pub returns-then-is-clause-items : goal.returns-then-is-clause-items
returns-then-is-clause-items c = λ es h.
    let k = eqb-true _ _ (sym c.is.ensures ∙ c.if-is.true) in
    sequence-empty _ (c.in-Some.ensures.value es h) _ k c.content.ensures.bytes c.content.ensures.from c.content.ensures.to

pub returns-clause-items : goal.returns-clause-items
returns-clause-items c = λ es h.
    let k = eqb-false _ _ (sym c.is.ensures ∙ c.if-is.false) in
    let f = c.in-Some.ensures.value es h in
    sequence-there _ f c.sequence.result k (c.sequence.ensures.items f.value f.node_is)
