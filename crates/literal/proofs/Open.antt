-- Every definition of a file of `specs/` opened at once, for proofs that compute with them. Assumes nothing.
use Rattle.literal.specs.Literal.{leaf, before_deeper, literal_line, literal_lines, literal_under, all_newlines, drop_newlines, literal}

unfoldable pub Literal-open : Unit {0}
unfolding leaf before_deeper literal_line literal_lines literal_under all_newlines drop_newlines literal
Literal-open = tt
