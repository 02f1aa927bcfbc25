-- Every definition of a file of `specs/` opened at once, for proofs that compute with them. Assumes nothing.
use Rattle.flow.specs.Flow.{stuck, item_turn, items, behind_colon, fresh, entry_value, entry_turn, entries, flow_seq, flow_map, node, value, flow}

unfoldable pub Flow-open : Unit {0}
unfolding stuck item_turn items behind_colon fresh entry_value entry_turn entries flow_seq flow_map node value flow
Flow-open = tt
