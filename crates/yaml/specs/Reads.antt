-- What is proved of the reader against the grammar. It is no converse: a text that the reader accepts need not be YAML, and a stream with
-- no document is read as null, by document 01 alone. Uses Base of `refusal`; Lines of `lines`; Tree and Encode of `item`; Tree of `tree`;
-- Meaning, Record and Meanings of `meaning`; Scenario of `scenario`; Represent, Rows, Block and Kept of this crate. Assumes nothing.
use Rattle.std.specs.Prelude.{◌≡◌, ℕ, suc, ◌/◌, ◌≤◌, min, List, [], ◌∷◌, length}
use Rattle.std.proofs.Math.Option.{Option, some}
use Rattle.refusal.specs.Base.{good, limit}
use Rattle.lines.specs.Lines.{most_lines}
use Rattle.item.specs.Tree.{Yaml, levels}
use Rattle.item.specs.Encode.{encode}
use Rattle.tree.specs.Tree.{tree}
use Rattle.meaning.specs.Meaning.{Meaning}
use Rattle.meaning.specs.Record.{record_of}
use Rattle.meaning.specs.Meanings.{meaning_of}
use Rattle.scenario.specs.Scenario.{Reading, scenario}
use Rattle.yaml.specs.Represent.{Rep, tree_of}
use Rattle.yaml.specs.Rows.{Row, node, note, body, blank}
use Rattle.yaml.specs.Block.{Stream}
use Rattle.yaml.specs.Kept.{Kept}

-- rows that can be entries of section 1 of document 01
unfoldable pub entries : List Row → ℕ
entries [] = 0
entries (node n t w b ∷ rs) = suc (entries rs)
entries (note s b ∷ rs) = entries rs
entries (body n t b ∷ rs) = suc (entries rs)
entries (blank k b ∷ rs) = suc (entries rs)

-- 1, 3, 20 and 50: the text and its tree `y` are within the limits, for so many lent bytes of work
pub record Limits {t : List ℕ} {r : Option Rep} (d : Stream t r) (y : Yaml) (work : ℕ) : Type 0 where
  pub short : length t ≤ 65535
  pub few : entries d.rows ≤ most_lines
  pub shallow : levels y ≤ 32
  pub small : length (encode y) ≤ min work limit

-- a text that is YAML, that document 01 keeps, and that is within the limits is read as YAML reads it
unfoldable pub Reads : Type 0
Reads =
    (work : ℕ) (t : List ℕ) (r : Option Rep) (y : Yaml) (d : Stream t r) → Kept d → tree_of r ≡ some y → Limits d y work
    → tree work t ≡ good y

-- and as a scenario it means what section 4 makes of that tree. The lines of steps, of which `meaning_of` takes none here, serve only refusals
unfoldable pub Means : Type 0
Means =
    (work room places : ℕ) (t : List ℕ) (r : Option Rep) (y : Yaml) (d : Stream t r) → Kept d → tree_of r ≡ some y → Limits d y work
    → (m : Meaning) → meaning_of [] y ≡ good m → length m.steps ≤ min places (limit / 4) → length (record_of m) ≤ min room limit
    → (x : Reading) × (scenario work room places t ≡ good x) × (x.tree ≡ y) × (x.meaning ≡ m)
