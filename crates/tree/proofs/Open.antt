-- Every definition of a file of `specs/` opened at once, for proofs that compute with them. Assumes nothing.
use Rattle.tree.specs.Tree.{admitted, nothing_left, tree_of, tree, size_of, left}

unfoldable pub Tree-open : Unit {0}
unfolding admitted nothing_left tree_of tree size_of left
Tree-open = tt
