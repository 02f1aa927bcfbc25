-- How deep sequences and mappings nest as they grow. Assumes nothing.
use Rattle.std.proofs.Common.{◌≡◌, ℕ, max, arith, List}
use Rattle.item.specs.Tree.{Yaml, Items, end, ◌▸◌, ◌◂◌, Entries, done, pair, add, levels}

pub levels-snoc : (ys : Items) (y : Yaml) → levels (ys ◂ y) ≡ max (levels ys) (levels y)
unfolding levels ◌◂◌
levels-snoc end y = omega arith
levels-snoc (x ▸ xs) y = omega (arith, levels-snoc xs y)

pub levels-add : (es : Entries) (k : List ℕ) (v : Yaml) → levels (add es k v) ≡ max (levels es) (levels v)
unfolding levels add
levels-add done k v = omega arith
levels-add (pair j u es) k v = omega (arith, levels-add es k v)
