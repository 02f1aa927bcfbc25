-- Document 01, "Answers": what a caller of `read_scenario` can count on, which is a text's own meaning, what is lent, and the two ends of
-- every call. Uses Base and Told of `refusal`; Encode of `item`; Meaning and Record of `meaning`; Scenario of this crate. Assumes nothing.
use Rattle.std.specs.Prelude.{◌≡◌, ℕ, ◌*◌, ◌≤◌, min, ◌/◌, List, length, take, drop, replicate}
use Rattle.refusal.specs.Base.{Answer, good, ◌>>=◌, limit}
use Rattle.refusal.specs.Told.{refusal}
use Rattle.refusal.specs.declared.Refusal.{Refusal}
use Rattle.item.specs.Encode.{encode}
use Rattle.meaning.specs.Meaning.{Meaning}
use Rattle.meaning.specs.Record.{record_of}
use Rattle.scenario.specs.declared.ScenarioAnswer.{ScenarioAnswer}
use Rattle.scenario.specs.declared.ScenarioAnswer.TheVariants.{Read, Refused as Unread}
use Rattle.scenario.specs.Scenario.{Reading, reading_of, scenario_of}

-- ---- a text by itself

-- what is read of a text with the most work that counts, 1,048,576 bytes
unfoldable pub text_reading : List ℕ → Answer Reading
text_reading text = reading_of limit text

-- what sections 1 to 4 make of a text
unfoldable pub text_meaning : List ℕ → Answer Meaning
text_meaning text = do
  r ← text_reading text
  good r.meaning

-- what is lent is enough for a reading: work for its tree, places for its steps, room for its record
pub record Enough (work room places : ℕ) (r : Reading) : Type 0 where
  pub tree : length (encode r.tree) ≤ min work limit
  pub steps : length r.meaning.steps ≤ min places (limit / 4)
  pub bytes : length (record_of r.meaning) ≤ min room limit

-- ---- the two ends of a call, of what was lent and of what is there behind it

-- a text that is accepted: its sizes are told, each within its buffer, and behind each output all is kept
pub record ScenarioTold (text work tree room bytes places lines : List ℕ) (t b l n : ℕ) : Type 0 where
  pub read : Reading
  pub is : scenario_of work room places text ≡ good read
  pub meaning_is : text_meaning text ≡ good read.meaning
  pub tree_size : t ≡ length (encode read.tree)
  pub tree_fits : t ≤ min (length work) limit
  pub tree_is : take t tree ≡ encode read.tree
  pub tree_kept : drop t tree ≡ drop t work
  pub record_size : b ≡ length (record_of read.meaning)
  pub record_fits : b ≤ min (length room) limit
  pub record_is : take b bytes ≡ record_of read.meaning
  pub record_kept : drop b bytes ≡ drop b room
  pub steps : n ≡ length read.meaning.steps
  pub lines_fit : n ≤ min (length places) (limit / 4)
  pub lines_size : l ≡ 4 * n
  pub lines_are : take n lines ≡ read.lines
  pub lines_kept : drop n lines ≡ drop n places

-- a text that is refused: number, line and step are the definition's, and every output is zeros to its last place
pub record ScenarioLeft (text work tree room bytes places lines : List ℕ) (e : Refusal) : Type 0 where
  pub is : scenario_of work room places text ≡ refusal e
  pub tree_zeros : tree ≡ replicate (length work) 0
  pub record_zeros : bytes ≡ replicate (length room) 0
  pub lines_zeros : lines ≡ replicate (length places) 0

abbrev pub ScenarioEnds : (text work tree room bytes places lines : List ℕ) → ScenarioAnswer → Type 0
ScenarioEnds text work tree room bytes places lines (Read t b l n) = ScenarioTold text work tree room bytes places lines t b l n
ScenarioEnds text work tree room bytes places lines (Unread e) = ScenarioLeft text work tree room bytes places lines e
