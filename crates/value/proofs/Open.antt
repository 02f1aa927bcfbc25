-- Every definition of a file of `specs/` opened at once, for proofs that compute with them. Assumes nothing.
use Rattle.value.specs.Tree.{tree, inside, accepts, accepts_items, accepts_entries}

unfoldable pub Tree-open : Unit {0}
unfolding tree inside accepts accepts_items accepts_entries
Tree-open = tt
