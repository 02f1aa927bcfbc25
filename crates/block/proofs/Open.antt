-- Every definition of a file of `specs/` opened at once, for proofs that compute with them. Assumes nothing.
use Rattle.lines.specs.Dash.{dashed}
use Rattle.block.specs.Block.{starts_complex, line_value, child, block_key, value_behind, entry_at, key_at, map_turn, map_lines, entries_of, block_map, inline_map, item_behind, seq_turn, seq_lines, items_of, block_seq, block_of, inline_of, inside_of, within, block}

unfoldable pub Block-open : Unit {0}
unfolding dashed starts_complex line_value child block_key value_behind entry_at key_at map_turn map_lines entries_of block_map inline_map item_behind seq_turn seq_lines items_of block_seq block_of inline_of inside_of within block
Block-open = tt
