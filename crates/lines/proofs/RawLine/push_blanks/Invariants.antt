-- The invariant: the blank lines but for the last are taken into the table. Assumes nothing.
use Rattle.std.proofs.Common.{List, ◌++◌, ◌-◌}
use Rattle.lines.specs.Lines.{Event, indent_of, blanks_before}
use Rattle.lines.specs.Raw.{raw_text}
use Rattle.lines.specs.Filling.{Took}
use Rattle.lines.proofs.RawLine.push_blanks.Given as goal

abbrev pub invariant-loop-number : goal.invariant-loop-number
invariant-loop-number l = (es : List Event)
    → Took l.self.text.now l.initial.rows.items l.rows.items (blanks_before l.waiting l.self.number (indent_of (raw_text l.self)) ++ es) (blanks_before (l.self.number - l.number) l.self.number (indent_of (raw_text l.self)) ++ es)
