-- A turn of a `for` over the items of a part, by what stands there. Assumes nothing.
use Rattle.std.proofs.Common.{◌≡◌, ℕ, ◌≤◌, ◌^◌, List, length, sym, subst, arith}
use Rattle.item.specs.Tree as trees
use Rattle.item.specs.Places.{header_at}
use Rattle.item.specs.declared.Item.{Item}
use Rattle.item.specs.declared.Broken.{Broken}
use Rattle.item.specs.declared.walk.Walk.{Walk}
use Rattle.item.proofs.Turns.{Turn, Stop, end_of}
use Rattle.entries.specs.Entries.{Holds}
use Rattle.entries.proofs.Standing.{value-head, valued}
use Rattle.entries.proofs.Walking.{FirstItem, first-item}
use Rattle.nodes.specs.Contract.{IsItem}

-- the first of the items that are left
pub record ItemTurn (s : List ℕ) (at to : ℕ) (ys : trees.Items) (item : Item) : Type 0 where
  pub first : FirstItem s at to ys
  pub item_is : IsItem s first.y item
  pub behind : Holds s item.to to first.others

module _ {s : List ℕ} {at to : ℕ} (ys : trees.Items) (w : length s ≤ 2 ^ 20) (h : Holds s at to ys) where
  pub item_turn : {item : Item} {new : Walk Item} → Turn s at to item new → ItemTurn s at to ys item
  item_turn t =
      let f = first-item ys t.before h in
      let v = valued t.is f.y w f.value in
      record { first = f; item_is = record { kind_is = v.kind_is; stands = v.inside; ends = v.ends }; behind = subst (λ (i : ℕ). Holds s i to f.others) (sym v.end) f.behind }

  pub no_item_here : {broken : Broken} {X : Type 0} → Stop header_at end_of s at to broken → X
  no_item_here t =
      let f = first-item ys t.before h in
      absurd (let z : ◌≡◌ {A = ℕ} 0 1 = cc (t.is, value-head f.y w f.value) in omega arith)
