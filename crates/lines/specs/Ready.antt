-- Section 1 of document 01, for contracts: what a reader of lines asks of a text and the rows of its lines. Uses Base of `refusal`; Lines
-- and Table of this crate. Assumes nothing.
use Rattle.std.specs.Prelude.{◌≡◌, ℕ, ◌≤◌, List, [], ◌∷◌, ◌++◌, length}
use Rattle.refusal.specs.Base.{ch, good}
use Rattle.lines.specs.declared.Row.{Row}
use Rattle.lines.specs.Lines.{Line, most_lines, significant_lines}
use Rattle.lines.specs.Table.{table_lines, AllLieIn}

-- a text that ends in a byte other than a newline
pub record Closed (t : List ℕ) : Type 0 where
  pub front : List ℕ
  pub last : ℕ
  pub is : t ≡ front ++ last ∷ []
  pub other : last ≡ ch "\n" → ⊥

-- lines of which each blank one stands before one of its indentation, and each other one ends in a byte other than a newline
pub data Ended : List Line → Type 0 where
  none : Ended []
  blank : (l m : Line) (ls : List Line) → l.text ≡ [] → m.indent ≡ l.indent → Ended (m ∷ ls) → Ended (l ∷ m ∷ ls)
  full : (l : Line) (ls : List Line) → Closed l.text → Ended ls → Ended (l ∷ ls)

-- what is known of the lines of any text
pub record AreLines (ls : List Line) : Type 0 where
  pub few : length ls ≤ most_lines
  pub ended : Ended ls

-- a text and the rows of its lines
pub record Ready (text : List ℕ) (rows : List Row) : Type 0 where
  pub short : length text ≤ 65535
  pub placed : AllLieIn text rows
  pub lines : AreLines (table_lines text rows)

-- the rows are those of the definition's lines
pub record Filled (text : List ℕ) (rows : List Row) : Type 0 where
  pub lines : significant_lines text ≡ good (table_lines text rows)
  pub ready : Ready text rows
