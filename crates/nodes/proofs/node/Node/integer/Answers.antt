-- By its kind, and the number that its eight bytes are. Assumes nothing.
use Rattle.std.proofs.Common.{sym, ◌∙◌}
use Rattle.std.proofs.lemmas.Bool.{eqb-true, eqb-false}
use Rattle.nodes.proofs.Texts.{int_is, no_int}
use Rattle.nodes.proofs.node.Node.integer.Goals.{then-not-is_integer-via-then-not-is_integer, then-not-is_integer-via-else-not-is_integer+then-to-from-lt8}
use Rattle.nodes.proofs.node.Node.integer.Goals as goal

pub returns-then-not-is_integer : goal.returns-then-not-is_integer
returns-then-not-is_integer c = λ y i.
    no_int y i.item_is (elim c.then-not-is_integer.branch [
      | then-not-is_integer-via-then-not-is_integer w ↦ λ k. absurd (eqb-false _ _ (sym c.is-is_integer.ensures ∙ w.if-not-is_integer.true) k)
      | then-not-is_integer-via-else-not-is_integer+then-to-from-lt8 w ↦ λ k. w.if-to-from-lt8.true
    ])

pub returns : goal.returns
returns c = λ y i.
    int_is _ y (eqb-true _ _ (sym c.is-is_integer.ensures ∙ c.if-not-is_integer.false)) i.ranged i.item_is c.integer_at.ensures
