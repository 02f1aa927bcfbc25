-- Every definition of a file of `specs/` opened at once, for proofs that compute with them. Assumes nothing.
use Rattle.lines.specs.Lines.{begins_newline, prepend, split_lines, indent_of, has_tab, tabbed, after_plain, place_after, starts_comment, uncommented, strip_comment, significant, is_marker, opens_literal, events_of, literal_of, literal_after, blanks_before, body_of, scan, collect, significant_lines}

unfoldable pub Lines-open : Unit {0}
unfolding begins_newline prepend split_lines indent_of has_tab tabbed after_plain place_after starts_comment uncommented strip_comment significant is_marker opens_literal events_of literal_of literal_after blanks_before body_of scan collect significant_lines
Lines-open = tt
