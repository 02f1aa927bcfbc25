-- Sections 3 and 4 of document 01: a line with a dash. Uses Base of `refusal`; Lines of this crate. Assumes nothing.
use Rattle.std.specs.Prelude.{ℕ, List, Bool, ◌&&◌, ◌||◌, eqb, take}
use Rattle.refusal.specs.Base.{bytes, same}
use Rattle.lines.specs.Lines.{Line}

-- a line `-` or starting `- `
unfoldable pub dashed : List ℕ → Bool
dashed t = same t (bytes "-") || same (take 2 t) (bytes "- ")

-- such a line at an indentation
abbrev pub is_dash : ℕ → Line → Bool
is_dash indent l = eqb l.indent indent && dashed l.text
