-- Section 4 of document 01: the lines of steps (`step_lines`). Uses Base of `refusal`; Lines and Dash of `lines`. Assumes nothing.
use Rattle.std.specs.Prelude.{ℕ, List, [], ◌∷◌, Bool, ◌&&◌, ltb, eqb, if◌then◌else◌}
use Rattle.refusal.specs.Base.{bytes, same}
use Rattle.lines.specs.Lines.{Line}
use Rattle.lines.specs.Dash.{is_dash}

-- a line exactly `steps:` at indentation 0
unfoldable pub is_steps : Line → Bool
is_steps l = eqb l.indent 0 && same l.text (bytes "steps:")

-- the lines behind the first of these
unfoldable pub behind_steps : List Line → List Line
behind_steps [] = []
behind_steps (l ∷ ls) = if is_steps l then ls else behind_steps ls

-- the lines `-` or starting `- ` at an indentation, until one less indented
unfoldable pub dashes_at : ℕ → List Line → List ℕ
dashes_at indent [] = []
dashes_at indent (l ∷ ls) =
    if ltb l.indent indent then []
    else if is_dash indent l then l.number ∷ dashes_at indent ls
    else dashes_at indent ls

-- at the next line's indentation
unfoldable pub dashes_from : List Line → List ℕ
dashes_from [] = []
dashes_from (l ∷ ls) = dashes_at l.indent (l ∷ ls)

unfoldable pub step_lines : List Line → List ℕ
step_lines ls = dashes_from (behind_steps ls)

-- the next of the step lines, and those behind it; steps beyond them have 0
unfoldable pub head_line : List ℕ → ℕ
head_line [] = 0
head_line (n ∷ ns) = n

unfoldable pub tail_lines : List ℕ → List ℕ
tail_lines [] = []
tail_lines (n ∷ ns) = ns
