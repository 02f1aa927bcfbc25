-- Every definition of a file of `specs/` opened at once, for proofs that compute with them. Assumes nothing.
use Rattle.yaml.specs.Block.{mark, chomped, shown}
use Rattle.yaml.specs.Characters.{printable, utf8_of, all_printable, characters, whites, nb_chars, among}
use Rattle.yaml.specs.Core.{nullable, behind, matches, word, null_text, true_text, false_text, decimal_text, octal_text, hex_text, float_text, json_decimal_text, digit_of, number, signed, prefixed}
use Rattle.yaml.specs.Flow.{json_like}
use Rattle.yaml.specs.Kept.{KeptCore, KeptFlow, KeptItems, KeptPairs, KeptPair, KeptLast, KeptLiteral, starts, KeptKey, KeyFound, NoKey, KeptBlock, KeptSeq, KeptItem, KeptMap, KeptEntry, opened, Cut, Trimmed, KeptRows, KeptDocument}
use Rattle.yaml.specs.Ordinary.{without, ascii, quoted_without, flow_without, items_without, pairs_without, pair_without, hash_behind_space}
use Rattle.yaml.specs.Represent.{fits64, as_yaml, tree_of}
use Rattle.yaml.specs.Rows.{raw, break_of, break_text, text_of, is_eof, ends_last, marker, no_marker, comment_line, tail}
use Rattle.yaml.specs.Scalars.{plain_safe, safe_next, plain_first, plain_char}

unfoldable pub Block-open : Unit {0}
unfolding mark chomped shown
Block-open = tt

unfoldable pub Characters-open : Unit {0}
unfolding printable utf8_of all_printable characters whites nb_chars among
Characters-open = tt

unfoldable pub Core-open : Unit {0}
unfolding nullable behind matches word null_text true_text false_text decimal_text octal_text hex_text float_text json_decimal_text digit_of number signed prefixed
Core-open = tt

unfoldable pub Flow-open : Unit {0}
unfolding json_like
Flow-open = tt

unfoldable pub Kept-open : Unit {0}
unfolding KeptCore KeptFlow KeptItems KeptPairs KeptPair KeptLast KeptLiteral starts KeptKey KeyFound NoKey KeptBlock KeptSeq KeptItem KeptMap KeptEntry opened Cut Trimmed KeptRows KeptDocument
Kept-open = tt

unfoldable pub Ordinary-open : Unit {0}
unfolding without ascii quoted_without flow_without items_without pairs_without pair_without hash_behind_space
Ordinary-open = tt

unfoldable pub Represent-open : Unit {0}
unfolding fits64 as_yaml tree_of
Represent-open = tt

unfoldable pub Rows-open : Unit {0}
unfolding raw break_of break_text text_of is_eof ends_last marker no_marker comment_line tail
Rows-open = tt

unfoldable pub Scalars-open : Unit {0}
unfolding plain_safe safe_next plain_first plain_char
Scalars-open = tt
