-- Every definition of a file of `specs/` opened at once, for proofs that compute with them. Assumes nothing.
use Rattle.utf8.specs.Points.{six_of, encode, in_any, scalar, white_points, white_point}
use Rattle.utf8.specs.Utf8.{within, table, behind_in, tails_of, utf8_from, is_utf8}
use Rattle.utf8.specs.White.{white1, white2, in2000, white3, white_at, white_len, leading_from, leading, trim_start, all_white, trim_end, trim}

unfoldable pub Points-open : Unit {0}
unfolding six_of encode in_any scalar white_points white_point
Points-open = tt

unfoldable pub Utf8-open : Unit {0}
unfolding within table behind_in tails_of utf8_from is_utf8
Utf8-open = tt

unfoldable pub White-open : Unit {0}
unfolding white1 white2 in2000 white3 white_at white_len leading_from leading trim_start all_white trim_end trim
White-open = tt
