-- Every definition of a file of `specs/` opened at once, for proofs that compute with them. Assumes nothing.
use Rattle.refusal.specs.Base.{◌>>=◌, ◌>>◌, maybe, given, ensure, bytes, same, one_of, ends_with, empty}

unfoldable pub Base-open : Unit {0}
unfolding ◌>>=◌ ◌>>◌ maybe given ensure bytes same one_of ends_with empty
Base-open = tt
