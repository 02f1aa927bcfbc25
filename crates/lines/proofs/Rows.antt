-- The lines that rows stand for, one by one. Assumes nothing.
use Rattle.std.proofs.Common.{◌≡◌, ℕ, ◌+◌, ◌<◌, add-one, arith, List, [], ◌∷◌, length, drop, get_or, drop_of_length-le, drop-cons}
use Rattle.std.proofs.lemmas.List.{length-map, get_or-map}
use Rattle.lines.specs.declared.Row.{Row}
use Rattle.lines.specs.Lines.{Line, line}
use Rattle.lines.specs.Table.{line_of, table_lines, line_at}

pub lines_end : (ls : List Line) (i : ℕ) → i ≡ length ls → drop i ls ≡ []
lines_end ls i e = drop_of_length-le ls {i = i} (omega arith)

pub lines_next : (ls : List Line) (i : ℕ) → i < length ls → drop i ls ≡ line_at ls i ∷ drop (i + 1) ls
lines_next ls i h = rw add-one (drop-cons ls i (line 0 [] 0) h)

-- a row and its line
pub row_line : (text : List ℕ) (rows : List Row) (i : ℕ) (d : Row) → i < length (table_lines text rows) → line_at (table_lines text rows) i ≡ line_of text (get_or rows i d)
row_line text rows i d h = get_or-map (line_of text) rows i d (line 0 [] 0) (omega (arith, length-map rows (line_of text)))
