-- The steps between a text and its tree, each as what is proved of the reader against the grammar. Assumes nothing.
use Rattle.std.specs.Prelude.{if◌then◌else◌}
use Rattle.std.proofs.Common.{◌≡◌, ℕ, suc, ◌+◌, ◌≤◌, ◌<◌, List, [], ◌∷◌, ◌++◌, Bool, true, false, length, drop}
use Rattle.std.proofs.Math.Option.{Option, some}
use Rattle.refusal.specs.Base.{good, empty}
use Rattle.item.specs.Tree.{Yaml, levels}
use Rattle.item.specs.Tree as Tree
use Rattle.item.proofs.Size.{size}
use Rattle.lines.specs.Lines.{Line, line, Event, entry, split_lines, indent_of, scan}
use Rattle.lines.specs.declared.Literal.TheVariants.{Closed}
use Rattle.literal.specs.Literal.{literal}
use Rattle.block.specs.Block.{block}
use Rattle.yaml.specs.Represent.{Rep, as_yaml}
use Rattle.yaml.specs.Rows.{Row, node, note, body, blank, raw}
use Rattle.yaml.specs.Block.{Chomp, strip, clip, Literal, Block, Stream}
use Rattle.yaml.specs.Kept.{Kept, inner, KeptLiteral, KeptBlock}

-- how many of the spaces that lead a literal row are indentation: all of them, but none of a row of spaces alone, which is not kept
unfoldable pub edge : List ℕ → ℕ
edge t = if empty (inner t) then 0 else indent_of t

-- the indentation of the first literal row: that of the blank ones before it
unfoldable pub next_body : List Row → ℕ
next_body [] = 0
next_body (node n t w b ∷ rs) = 0
next_body (note s b ∷ rs) = 0
next_body (body m t b ∷ rs) = m + edge t
next_body (blank k b ∷ rs) = next_body rs

-- the entries of rows that are numbered from n on
unfoldable pub lines_of : ℕ → List Row → List Line
lines_of n [] = []
lines_of n (node i t w b ∷ rs) = line i t n ∷ lines_of (suc n) rs
lines_of n (note s b ∷ rs) = lines_of (suc n) rs
lines_of n (body m t b ∷ rs) = line (m + edge t) (drop (edge t) t) n ∷ lines_of (suc n) rs
lines_of n (blank k b ∷ rs) = line (next_body rs) [] n ∷ lines_of (suc n) rs

unfoldable pub raws : List Row → List (List ℕ)
raws [] = []
raws (r ∷ rs) = raw r ∷ raws rs

unfoldable pub as_events : List Line → List Event
as_events [] = []
as_events (l ∷ ls) = entry l ∷ as_events ls

-- the lines of a text are its rows
unfoldable pub Splits : Type 0
Splits = (t : List ℕ) (r : Option Rep) (d : Stream t r) → split_lines t ≡ raws d.rows

-- section 1 of document 01 finds the entries
unfoldable pub Scans : Type 0
Scans = (t : List ℕ) (r : Option Rep) (d : Stream t r) → Kept d → scan Closed 0 1 (raws d.rows) ≡ as_events (lines_of 1 d.rows)

-- lines that begin less deep than m
unfoldable pub Below : ℕ → List Line → Type 0
Below m [] = Unit {0}
Below m (l ∷ ls) = l.indent < m

unfoldable pub strips : Chomp → Bool
strips strip = true
strips clip = false

-- a literal of a key at n
unfoldable pub ReadsLiteral : Type 0
ReadsLiteral =
    (cap n sum k : ℕ) (c : Chomp) (rs : List Row) (v : List ℕ) (d : Literal n c rs v) → KeptLiteral d → (rest : List Line) → Below (suc n) rest
    → sum + (6 + length v) ≤ cap → literal cap (strips c) n sum (lines_of k rs ++ rest) ≡ good (Tree.str v, sum + (6 + length v), rest)

-- a block at m
unfoldable pub ReadsBlock : Type 0
ReadsBlock =
    (cap l sum k m : ℕ) (rs : List Row) (r : Rep) (y : Yaml) (d : Block m rs r) → KeptBlock d → as_yaml r ≡ some y → (rest : List Line) → Below m rest
    → levels y ≤ l → sum + size y ≤ cap → block cap l sum (lines_of k rs ++ rest) ≡ good (y, sum + size y, rest)
