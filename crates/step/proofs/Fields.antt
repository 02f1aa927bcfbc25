-- `continue_on_error` and `expect`, by what their values are. Assumes nothing.
use Rattle.std.proofs.Common.{◌≡◌, refl, sym, ap, ◌∙◌, ℕ, arith, Bool, true, false, eqb, List, get_or}
use Rattle.std.specs.Prelude.{Option as Maybe, Some, None, MatchOption}
use Rattle.std.proofs.Math.Option.{Option, none, some}
use Rattle.std.proofs.lemmas.Bool.{eqb-true, eqb-false}
use Rattle.refusal.specs.Base.{refused}
use Rattle.item.specs.Tree.{Yaml, null, bool, int, str, seq, dict}
use Rattle.item.specs.Encode.{kind_of, flag}
use Rattle.item.specs.declared.Item.{Item}
use Rattle.entries.specs.Entries.{content}
use Rattle.entries.proofs.Standing.{stands-byte}
use Rattle.entries.proofs.Values.{entries-of}
use Rattle.nodes.specs.declared.node.Node.{Node}
use Rattle.nodes.specs.Contract.{IsItem, FoundNode, FindsNode}
use Rattle.meaning.specs.Meanings.{expect_of, is_true}
use Rattle.step.specs.Contract.{mapping, AgreesExpect}

flag-one : (n : ℕ) (b : Bool) → n ≡ flag b → eqb n 1 ≡ b
unfolding flag
flag-one n true e = rw e refl
flag-one n false e = rw e refl

-- of a boolean by its byte
pub flag-true : {s : List ℕ} {item : Item} (y : Yaml) → item.kind ≡ 1 → IsItem s y item → eqb (get_or s item.from 0) 1 ≡ is_true (some y)
unfolding is_true kind_of content
flag-true null k i = absurd (omega (arith, i.kind_is))
flag-true {s} {item} (bool b) k i = flag-one (get_or s item.from 0) b (stands-byte i.stands)
flag-true (int z) k i = absurd (omega (arith, i.kind_is))
flag-true (str t) k i = absurd (omega (arith, i.kind_is))
flag-true (seq ys) k i = absurd (omega (arith, i.kind_is))
flag-true (dict es) k i = absurd (omega (arith, i.kind_is))

pub flag-other : {s : List ℕ} {item : Item} (y : Yaml) → IsItem s y item → (item.kind ≡ 1 → item.from ≡ item.to) → false ≡ is_true (some y)
unfolding is_true kind_of content
flag-other null i n = refl
flag-other (bool b) i n = absurd (omega (arith, i.ends, n i.kind_is))
flag-other (int z) i n = refl
flag-other (str t) i n = refl
flag-other (seq ys) i n = refl
flag-other (dict es) i n = refl

pub true-absent : {o : Option Yaml} → o ≡ none → false ≡ is_true o
unfolding is_true
true-absent e = rw e refl

other-expect : (line n : ℕ) (y : Yaml) → (kind_of y ≡ 5 → ⊥) → expect_of line n (some y) ≡ refused 33 line n
unfolding expect_of kind_of
other-expect line n null k = refl
other-expect line n (bool b) k = refl
other-expect line n (int z) k = refl
other-expect line n (str t) k = refl
other-expect line n (seq ys) k = refl
other-expect line n (dict es) k = absurd (k refl)

expect-absent : {o : Option Yaml} → o ≡ none → AgreesExpect o true
unfolding mapping
expect-absent e = (none, e)

expect-kind : {o : Option Yaml} {node : Node} → FoundNode o node → AgreesExpect o (eqb node.item.kind 5)
unfolding mapping
expect-kind {o} {node} f = go (eqb node.item.kind 5) refl
  where
    go : (b : Bool) → eqb node.item.kind 5 ≡ b → AgreesExpect o b
    go true e =
        let m = entries-of f.value f.node_is.ranged f.node_is.item_is.stands f.node_is.item_is.ends (sym f.node_is.item_is.kind_is ∙ eqb-true _ _ e) in
        (some m.inner, f.is ∙ ap some m.is)
    go false e = λ line n. ap (expect_of line n) f.is ∙ other-expect line n f.value (λ k. eqb-false _ _ e (f.node_is.item_is.kind_is ∙ k))

pub none-or-mapping : (o : Option Yaml) (v : Maybe Node) (r : Bool) (Gives : Node → Type 0)
    → MatchOption v (r ≡ true) Gives → ((x : Node) → Gives x → r ≡ eqb x.item.kind 5) → FindsNode o v → AgreesExpect o r
none-or-mapping o None r Gives m g f = rw m (expect-absent f)
none-or-mapping o (Some x) r Gives m g f = rw (g x m) (expect-kind f)
