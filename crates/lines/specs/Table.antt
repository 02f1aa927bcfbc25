-- Section 1 of document 01, for contracts: the lines that rows stand for. Uses Base of `refusal`; Part of `utf8`;
-- Lines of this crate. Assumes nothing.
use Rattle.std.specs.Prelude.{ℕ, ◌≤◌, List, [], ◌++◌, map, length, slice_index_or}
use Rattle.std.specs.List.{All}
use Rattle.refusal.specs.Base.{Answer, good, ◌>>=◌}
use Rattle.utf8.specs.Part.{part}
use Rattle.lines.specs.declared.Row.{Row}
use Rattle.lines.specs.Lines.{Line, line}

abbrev pub row_of : ℕ → ℕ → ℕ → ℕ → Row
row_of i s e n = record { indent = i; start = s; end = e; number = n }

-- the line that a row stands for
abbrev pub line_of : List ℕ → Row → Line
line_of text row = line row.indent (part text row.start row.end) row.number

abbrev pub table_lines : List ℕ → List Row → List Line
table_lines text rows = map (line_of text) rows

-- line `i`
abbrev pub line_at : List Line → ℕ → Line
line_at ls i = slice_index_or ls i (line 0 [] 0)

-- a row's text lies in the text
pub record LiesIn (text : List ℕ) (row : Row) : Type 0 where
  pub ordered : row.start ≤ row.end
  pub inside : row.end ≤ length text

abbrev pub AllLieIn : List ℕ → List Row → Type 0
AllLieIn text rows = All (λ row. LiesIn text row) rows

-- the lines of an answer behind those that are there
unfoldable pub behind : List Line → Answer (List Line) → Answer (List Line)
behind ls a = a >>= λ rest. good (ls ++ rest)
