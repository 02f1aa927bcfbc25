-- Section 1 of document 01, for the contracts inside the crate: a line of the text, by its places. Uses Part and White of `utf8`; Lines of
-- this crate. Assumes nothing.
use Rattle.std.specs.Prelude.{ℕ, List, ltb, if◌then◌else◌}
use Rattle.utf8.specs.Part.{part}
use Rattle.utf8.specs.White.{all_white}
use Rattle.lines.specs.declared.RawLine.{RawLine}
use Rattle.lines.specs.declared.Literal.{Literal}
use Rattle.lines.specs.declared.Literal.TheVariants.{Closed, Under}
use Rattle.lines.specs.declared.Way.{Way}
use Rattle.lines.specs.declared.Way.TheVariants.{Normal, Blank, Body}
use Rattle.lines.specs.Lines.{indent_of}

abbrev pub raw_text : RawLine → List ℕ
raw_text raw = part raw.text.now raw.from raw.to

-- how a line is read, by what is open
unfoldable pub way_of : Literal → List ℕ → Way
way_of Closed raw = Normal
way_of (Under at) raw =
    if all_white raw then Blank at
    else if ltb at (indent_of raw) then Body at
    else Normal
