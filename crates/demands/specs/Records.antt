-- Sections 5 and 6 of document 01: what the jobs on a record say of any bytes, in one statement. Uses Base and Told of `refusal`; Meaning,
-- Record and Rules of `meaning`; Read, Jobs and Theorems of `record`. Assumes nothing.
use Rattle.std.specs.Prelude.{◌≡◌, ℕ, suc, ◌≤◌, ◌<◌, List, [], map, length, get_or}
use Rattle.std.proofs.Math.Option.{some}
use Rattle.refusal.specs.Base.{refused}
use Rattle.refusal.specs.Told.{refusal}
use Rattle.meaning.specs.Meaning.{Meaning}
use Rattle.meaning.specs.Record.{step_item, fields}
use Rattle.meaning.specs.Rules.{IsRecord}
use Rattle.record.specs.Read.{fields_in}
use Rattle.record.specs.Jobs.{check_record, field, step}
use Rattle.record.specs.Theorems.{Gives, shown, together}
use Rattle.record.specs.declared.RecordAnswer.{RecordAnswer}
use Rattle.record.specs.declared.RecordAnswer.TheVariants.{Good, Refused}

-- one and only one meaning that keeps the rules has these bytes as its record, and the lookups read it back
pub record GoodRecord (b : List ℕ) (n : ℕ) : Type 0 where
  pub meaning : Meaning
  pub is : IsRecord b meaning
  pub only : (m : Meaning) → IsRecord b m → m ≡ meaning
  pub steps : n ≡ length meaning.steps
  -- a place gives that field's item, a number that step's
  pub fields_found : (i : ℕ) → i < 8 → Gives b (field b (suc i)) (get_or (fields meaning) i [])
  pub steps_found : (i : ℕ) → i < n → Gives b (step b (suc i)) (get_or (map step_item meaning.steps) i [])
  -- and together they are the whole meaning
  pub whole : fields_in (together (λ i. shown b (field b i)) (λ i. shown b (step b i)) n) ≡ some meaning
  -- the edges: place 0 and above 8, number 0 and above the count
  pub no_place : field b 0 ≡ refused 53 0 0
  pub places_end : (i : ℕ) → 8 ≤ i → field b (suc i) ≡ refused 53 0 0
  pub no_number : step b 0 ≡ refused 53 0 0
  pub numbers_end : (i : ℕ) → n ≤ i → step b (suc i) ≡ refused 53 0 0

-- bytes that are no record: 40 of every job
pub record NoRecord (b : List ℕ) : Type 0 where
  pub none : (m : Meaning) → IsRecord b m → ⊥
  pub check : check_record b ≡ refused 40 0 0
  pub fields : (place : ℕ) → field b place ≡ refused 40 0 0
  pub steps : (number : ℕ) → step b number ≡ refused 40 0 0

-- what every check ends in
abbrev pub RecordEnds : List ℕ → RecordAnswer → Type 0
RecordEnds b (Good n) = GoodRecord b n
RecordEnds b (Refused e) = (refusal {A = ℕ} e ≡ refused 40 0 0) × NoRecord b
