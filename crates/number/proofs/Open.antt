-- Every definition of a file of `specs/` opened at once, for proofs that compute with them. Assumes nothing.
use Rattle.number.specs.Integers.{is_digit, all_digits, decimal_from, zero_first, digits, positive, negative, integer, decimal_of, int_text}

unfoldable pub Integers-open : Unit {0}
unfolding is_digit all_digits decimal_from zero_first digits positive negative integer decimal_of int_text
Integers-open = tt
