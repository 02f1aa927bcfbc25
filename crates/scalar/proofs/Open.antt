-- Every definition of a file of `specs/` opened at once, for proofs that compute with them. Assumes nothing.
use Rattle.scalar.specs.Key.{quote_after, opens, closes, last_or_space, depth_after, qualifies, key_end_from, key_end}
use Rattle.scalar.specs.Read.{cost, skip_spaces, ends_item, ends_colon, stops_plain, plain_text, escape, charge, stop, scalar, double_quoted, single_quoted, plain, string}
use Rattle.scalar.specs.Scalars.{int_or, scalar_of, bool_text, key_text}

unfoldable pub Key-open : Unit {0}
unfolding quote_after opens closes last_or_space depth_after qualifies key_end_from key_end
Key-open = tt

unfoldable pub Read-open : Unit {0}
unfolding cost skip_spaces ends_item ends_colon stops_plain plain_text escape charge stop scalar double_quoted single_quoted plain string
Read-open = tt

unfoldable pub Scalars-open : Unit {0}
unfolding int_or scalar_of bool_text key_text
Scalars-open = tt
