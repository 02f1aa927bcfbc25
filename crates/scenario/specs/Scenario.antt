-- Sections 1 to 5 of document 01 in their order: the scenario of a whole text, its tree, its meaning and the lines of its steps, or its
-- refusal. Uses Base and Told of `refusal`; Tree and Encode of `item`; Lines of `lines`; Tree of `tree`; StepLines of `step_lines`;
-- Meaning, Record and Meanings of `meaning`. Assumes nothing.
use Rattle.std.specs.Prelude.{ℕ, ◌*◌, ◌/◌, min, List, [], ◌∷◌, ◌++◌, leb, length, drop, replicate}
use Rattle.refusal.specs.Base.{Answer, good, refused, ◌>>=◌, ◌>>◌, ensure, limit}
use Rattle.item.specs.Tree.{Yaml}
use Rattle.item.specs.Encode.{encode}
use Rattle.lines.specs.Lines.{significant_lines}
use Rattle.tree.specs.Tree.{admitted, tree_of}
use Rattle.meaning.specs.Meaning.{Step, Meaning}
use Rattle.meaning.specs.Record.{record_of}
use Rattle.refusal.specs.Told.{refusal}
use Rattle.scenario.specs.declared.ScenarioAnswer.{ScenarioAnswer}
use Rattle.scenario.specs.declared.ScenarioAnswer.TheVariants.{Read, Refused as Unread}
use Rattle.step_lines.specs.StepLines.{step_lines, head_line, tail_lines}
use Rattle.meaning.specs.Meanings.{meaning_of}

-- a line for each step
unfoldable pub lines_for : List Step → List ℕ → List ℕ
lines_for [] lines = []
lines_for (s ∷ ss) lines = head_line lines ∷ lines_for ss (tail_lines lines)

-- ---- the reading

pub record Reading : Type 0 where
  pub tree : Yaml
  pub meaning : Meaning
  pub lines : List ℕ

-- the refusals of a tree, then 21 to 35
unfoldable pub reading_of : ℕ → List ℕ → Answer Reading
reading_of work text = do
  admitted text
  ls ← significant_lines text
  y ← tree_of (min work limit) ls
  m ← meaning_of (step_lines ls) y
  good (record { tree = y; meaning = m; lines = lines_for m.steps (step_lines ls) })

-- 51, 52; of any lent output at most 1,048,576 bytes count, and a line place has four
unfoldable pub scenario : ℕ → ℕ → ℕ → List ℕ → Answer Reading
scenario work room places text = do
  r ← reading_of work text
  ensure (leb (length r.meaning.steps) (min places (limit / 4))) 51 0 0
  ensure (leb (length (record_of r.meaning)) (min room limit)) 52 0 0
  good r

-- the same of what is lent
abbrev pub scenario_of : List ℕ → List ℕ → List ℕ → List ℕ → Answer Reading
scenario_of work room places text = scenario (length work) (length room) (length places) text

-- what is left in a lent output: what is written of a reading, and behind it what was there; or zeros
unfoldable pub output : (Reading → List ℕ) → Answer Reading → List ℕ → List ℕ
output write (good r) old = write r ++ drop (length (write r)) old
output write (refused k l s) old = replicate (length old) 0

unfoldable pub tree_bytes : Reading → List ℕ
tree_bytes r = encode r.tree

unfoldable pub record_bytes : Reading → List ℕ
record_bytes r = record_of r.meaning

unfoldable pub step_numbers : Reading → List ℕ
step_numbers r = r.lines

-- what the code's answer says: the bytes of tree, record and lines, and the steps
abbrev pub answer_of : ScenarioAnswer → Answer (ℕ × ℕ × ℕ × ℕ)
answer_of (Read t r l n) = good (t, r, l, n)
answer_of (Unread e) = refusal e

-- what it should say; a line place has four bytes
unfoldable pub sizes_of : Answer Reading → Answer (ℕ × ℕ × ℕ × ℕ)
sizes_of (good r) = good (length (encode r.tree), length (record_of r.meaning), 4 * length r.lines, length r.meaning.steps)
sizes_of (refused k l s) = refused k l s
