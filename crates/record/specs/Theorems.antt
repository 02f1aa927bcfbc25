-- Section 5 of document 01: what the jobs on a record are for. The check accepts just the records of meanings that keep the rules, and by
-- the lookups a record's whole meaning is read back. Uses Base of `refusal`; Encode of `item`; Meaning, Record and Rules of `meaning`; Jobs
-- of this crate. Assumes nothing.
use Rattle.std.specs.Prelude.{◌≡◌, ℕ, zero, suc, List, [], ◌∷◌, map, length}
use Rattle.refusal.specs.Base.{Answer, good, refused}
use Rattle.item.specs.Encode.{item}
use Rattle.meaning.specs.Meaning.{Meaning}
use Rattle.meaning.specs.Record.{joined}
use Rattle.meaning.specs.Rules.{IsRecord}
use Rattle.record.specs.Jobs.{Found, nothing, part, check_record, part_of}

-- ---- the check

-- what the check answers of any bytes
pub record Decides (b : List ℕ) : Type 0 where
  pub accepted : (n : ℕ) → check_record b ≡ good n → (m : Meaning) × IsRecord b m × (n ≡ length m.steps)
  pub accepts : (m : Meaning) → IsRecord b m → check_record b ≡ good (length m.steps)
  pub refuses : ((m : Meaning) → IsRecord b m → ⊥) → check_record b ≡ refused 40 0 0

-- ---- the lookups

-- an answer gives a part of the record with these bytes
pub record Gives (b : List ℕ) (a : Answer Found) (p : List ℕ) : Type 0 where
  pub start : ℕ
  pub end : ℕ
  pub is : a ≡ good (part start end)
  pub bytes : part_of b start end ≡ p

-- ---- the whole meaning from the two lookups

-- the bytes that a lookup shows
unfoldable pub shown : List ℕ → Answer Found → List ℕ
shown b (good (part start end)) = part_of b start end
shown b (good nothing) = []
shown b (refused n l s) = []

-- so many numbers from one on
unfoldable pub numbers : ℕ → ℕ → List ℕ
numbers from zero = []
numbers from (suc n) = from ∷ numbers (suc from) n

-- the fields found by place, and for the last one the steps found by number
unfoldable pub together : (ℕ → List ℕ) → (ℕ → List ℕ) → ℕ → List ℕ
together place number count =
    joined (place 1 ∷ place 2 ∷ place 3 ∷ place 4 ∷ place 5 ∷ place 6 ∷ place 7 ∷ item 18 (joined (map number (numbers 1 count))) ∷ [])
