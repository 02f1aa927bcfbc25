-- Every definition of a file of `specs/` opened at once, for proofs that compute with them. Assumes nothing.
use Rattle.item.specs.Decode.{◌>>=◌, header, nothing, unflag, untwos, unint, unkey, decode_items, decode_entries, content_of, node, decode}
use Rattle.item.specs.Encode.{le, number, head, item, flag, twos, signed, encode, kind_of}
use Rattle.item.specs.Tree.{levels, ◌◂◌, no_item, add, no_entry, has_key, get}

unfoldable pub Decode-open : Unit {0}
unfolding ◌>>=◌ header nothing unflag untwos unint unkey decode_items decode_entries content_of node decode
Decode-open = tt

unfoldable pub Encode-open : Unit {0}
unfolding le number head item flag twos signed encode kind_of
Encode-open = tt

unfoldable pub Tree-open : Unit {0}
unfolding levels ◌◂◌ no_item add no_entry has_key get
Tree-open = tt
