-- Sections 5 and 6 of document 01: what the jobs on a record answer. Uses Base and Told of `refusal`; Meaning and Record of `meaning`; Read
-- of this crate. Assumes nothing.
use Rattle.std.specs.Prelude.{ℕ, zero, suc, ◌+◌, ◌-◌, List, [], map, ◌&&◌, leb, ltb, length, take, drop, if◌then◌else◌}
use Rattle.refusal.specs.Base.{Answer, good, refused, ◌>>=◌, ◌>>◌, given, ensure}
use Rattle.refusal.specs.Told.{refusal}
use Rattle.meaning.specs.Meaning.{Meaning}
use Rattle.meaning.specs.Record.{joined, step_item, fields}
use Rattle.record.specs.Read.{meaning_in}
use Rattle.record.specs.declared.RecordAnswer.{RecordAnswer}
use Rattle.record.specs.declared.RecordAnswer.TheVariants.{Good, Refused as RecordRefused}
use Rattle.record.specs.declared.Lookup.{Lookup}
use Rattle.record.specs.declared.Lookup.TheVariants.{Found as FoundPart, Nothing, Refused as LookupRefused}

-- 40
unfoldable pub opened : List ℕ → Answer Meaning
opened b = given (meaning_in b) 40 0 0

-- a good record's check gives its step count
unfoldable pub check_record : List ℕ → Answer ℕ
check_record b = do
  m ← opened b
  good (length m.steps)

-- a part of the record, from a place to another, or nothing
pub data Found : Type 0 where
  nothing : Found
  part : ℕ → ℕ → Found

-- of parts that stand one behind another from a place on, the one with so many before it
unfoldable pub part_at : ℕ → List (List ℕ) → ℕ → Found
part_at from ps i = part (from + length (joined (take i ps))) (from + length (joined (take (suc i) ps)))

-- 53: a number 0, or above the count
unfoldable pub numbered : ℕ → List (List ℕ) → ℕ → Answer Found
numbered from ps zero = refused 53 0 0
numbered from ps (suc i) = ensure (ltb i (length ps)) 53 0 0 >> good (part_at from ps i)

-- one of kind 16's eight fields by its place; they stand behind the header
unfoldable pub field : List ℕ → ℕ → Answer Found
field b place = do
  m ← opened b
  numbered 6 (fields m) place

-- where the first step begins: behind seven fields and two headers
unfoldable pub steps_start : Meaning → ℕ
steps_start m = 6 + length (joined (take 7 (fields m))) + 6

-- a step by number
unfoldable pub step : List ℕ → ℕ → Answer Found
step b number = do
  m ← opened b
  numbered (steps_start m) (map step_item m.steps) number

-- the bytes of a part; none where its ends are no places of the record in order
unfoldable pub part_of : List ℕ → ℕ → ℕ → List ℕ
part_of b start end = if leb start end && leb end (length b) then take (end - start) (drop start b) else []

-- ---- the answers of the code

abbrev pub answer_of : RecordAnswer → Answer ℕ
answer_of (Good steps) = good steps
answer_of (RecordRefused e) = refusal e

abbrev pub lookup_of : Lookup → Answer Found
lookup_of (FoundPart start end) = good (part start end)
lookup_of Nothing = good nothing
lookup_of (LookupRefused e) = refusal e
