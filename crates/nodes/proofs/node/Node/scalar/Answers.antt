-- The kinds of items, one by one. Assumes nothing.
use Rattle.std.proofs.Common.{◌≡◌, ◌∙◌, ap, arith}
use Rattle.item.specs.Kinds.{number_of}
use Rattle.nodes.proofs.Texts.{bool_short, int_short, bool_is, str_is, nothing_told, no_kind, other_told}
use Rattle.nodes.proofs.node.Node.scalar.Goals.{in_default-kind-via-in-Bool+else-from-to, in_default-kind-via-in_default-kind}
use Rattle.nodes.proofs.node.Node.scalar.Goals as goal

pub returns-in_default-clause-value : goal.returns-in_default-clause-value
returns-in_default-clause-value c = λ y i. no_kind y i.item_is c.in_default.ensures

pub returns-in-Bool-clause-short : goal.returns-in-Bool-clause-short
returns-in-Bool-clause-short c = bool_short _

pub returns-in-Bool-clause-value : goal.returns-in-Bool-clause-value
returns-in-Bool-clause-value c = λ y i. bool_is y (c.in-Ok.ensures ∙ ap number_of c.in-Bool.is) i.item_is

pub returns-in_ok-integer-in-Int-clause-short : goal.returns-in_ok-integer-in-Int-clause-short
returns-in_ok-integer-in-Int-clause-short c = int_short _

pub returns-in-Str-clause-value : goal.returns-in-Str-clause-value
returns-in-Str-clause-value c = λ y i. str_is y (c.in-Ok.ensures ∙ ap number_of c.in-Str.is) i.item_is

pub returns-in_default-kind-clause-value : goal.returns-in_default-kind-clause-value
returns-in_default-kind-clause-value c = λ y i. elim c.in_default-kind.branch [
  | in_default-kind-via-in-Bool+else-from-to w ↦
      let k : c.args.self.item.kind ≡ 1 = c.in-Ok.ensures ∙ ap number_of w.in-Bool.is in
      nothing_told y i.item_is (λ q. w.if-from-to.false) (λ q. omega (arith, k, q)) (λ q. omega (arith, k, q))
  | in_default-kind-via-in_default-kind w ↦ let d = w.in_default-kind in other_told _ y i.item_is c.in-Ok.ensures d.not-Bool d.not-Int d.not-Str
]
