-- How many bytes items have, by their kinds. Assumes nothing.
use Rattle.std.proofs.Common.{◌≡◌, ℕ, ◌+◌, List, length, Bool, ℤ}
use Rattle.item.specs.Tree.{null, bool, int, str}
use Rattle.item.specs.Encode.{encode}
use Rattle.item.proofs.Size.{head-length, encode-size}

pub null_size : length (encode null) ≡ 6
null_size = encode-size null

pub bool_size : (b : Bool) → length (encode (bool b)) ≡ 7
bool_size b = encode-size (bool b)

pub int_size : (z : ℤ) → length (encode (int z)) ≡ 14
int_size z = encode-size (int z)

pub str_size : (s : List ℕ) → length (encode (str s)) ≡ 6 + length s
str_size s = encode-size (str s)

pub ruleset sizes = (head-length, null_size, bool_size, int_size, str_size)
