-- Section 5 of document 01, for the contracts inside the crate: the record of a text as it is handed on, and what a lookup that is handed
-- on finds. Uses Base and Told of `refusal`; Record of `meaning`; Jobs of `record`; Scenario of `scenario`. Assumes nothing.
use Rattle.std.specs.Prelude.{◌≡◌, ℕ, ◌+◌, List, length, Result, Ok, Err}
use Rattle.std.proofs.Common.{Bor}
use Rattle.refusal.specs.Base.{Answer, good}
use Rattle.refusal.specs.Told.{refusal}
use Rattle.refusal.specs.declared.Refusal.{Refusal}
use Rattle.meaning.specs.Record.{joined, record_of}
use Rattle.record.specs.Jobs.{Found, numbered, lookup_of}
use Rattle.record.specs.declared.Lookup.{Lookup}
use Rattle.scenario.specs.Scenario.{Reading, scenario_of}

-- these bytes are the record of a text that is read with what is lent
pub record IsRead (text work room places b : List ℕ) : Type 0 where
  pub read : Reading
  pub is : scenario_of work room places text ≡ good read
  pub bytes : b ≡ record_of read.meaning

-- the record, or the refusal
abbrev pub RecordRead : (text work room places : List ℕ) → Result (Bor (List ℕ)) Refusal → Type 0
RecordRead text work room places (Ok bytes) = IsRead text work room places bytes.now
RecordRead text work room places (Err e) = scenario_of work room places text ≡ refusal e

-- a lookup of the code answers what this one of the definitions does
pub record LooksUp (answers : Bor (List ℕ) → ℕ → Lookup → Type 0) (lookup : List ℕ → ℕ → Answer Found) : Type 0 where
  pub is : (b : Bor (List ℕ)) (number : ℕ) (found : Lookup) → answers b number found → lookup_of found ≡ lookup b.now number

-- by the numbers from 1 to the count it finds parts of these bytes, which stand one behind another from a place to the end
pub record Parts (answers : Bor (List ℕ) → ℕ → Lookup → Type 0) (b : List ℕ) (count from : ℕ) : Type 0 where
  pub parts : List (List ℕ)
  pub many : count ≡ length parts
  pub is : (lent : Bor (List ℕ)) → lent.now ≡ b → (number : ℕ) (found : Lookup) → answers lent number found → lookup_of found ≡ numbered from parts number
  pub end : from + length (joined parts) ≡ length b
