-- Section 6 of document 01: a step by its id, a value by its key and a step's `times`, in the meaning that a record is the record of. The
-- lookups by place and by number stand in `record`. Uses Base and Told of `refusal`; Tree and Encode of `item`; Meaning, Record and Rules
-- of `meaning`; Jobs of `record`. Assumes nothing.
use Rattle.std.specs.Prelude.{◌≡◌, ℕ, zero, suc, ◌+◌, ◌<◌, ◌^◌, List, [], ◌∷◌, map, Bool, not, ◌&&◌, ◌⊎◌, ltb, length, take, get_or, pos, negsuc, if◌then◌else◌}
use Rattle.std.proofs.Math.Option.{Option, none, some}
use Rattle.refusal.specs.Base.{Answer, good, refused, ◌>>=◌, ◌>>◌, maybe, given, ensure, bytes, same, empty}
use Rattle.refusal.specs.Told.{refusal}
use Rattle.item.specs.Tree.{Yaml, Entries, null, bool, int, str, seq, dict, done, pair}
use Rattle.item.specs.Encode.{encode}
use Rattle.meaning.specs.Meaning.{Step, Meaning}
use Rattle.meaning.specs.Record.{joined, text_item, step_parts, step_item}
use Rattle.meaning.specs.Rules.{Each}
use Rattle.record.specs.Jobs.{Found, nothing, part, opened, steps_start, step}
use Rattle.lookups.specs.declared.TimesAnswer.{TimesAnswer}
use Rattle.lookups.specs.declared.TimesAnswer.TheVariants.{Times, Refused}

-- ---- a step by its id: the one with the smallest number among those that have it (document 02, P1)

-- no step has the empty id
unfoldable pub has_id : List ℕ → Step → Bool
has_id id s = not (empty id) && same s.id id

-- of steps that are numbered from a number on, the smallest number of one with this id
unfoldable pub number_of : List ℕ → ℕ → List Step → Option ℕ
number_of id n [] = none
number_of id n (s ∷ ss) = if has_id id s then some n else number_of id (suc n) ss

-- the step with that number, or nothing
unfoldable pub step_by_id : List ℕ → List ℕ → Answer Found
step_by_id b id = do
  m ← opened b
  maybe (number_of id 1 m.steps) (good nothing) (step b)

-- the step with so many before it has this id, which is not empty, and none before it has
pub record First (id : List ℕ) (ss : List Step) (i : ℕ) : Type 0 where
  pub not_empty : id ≡ [] → ⊥
  pub within : i < length ss
  pub has : get_or (map (λ s. s.id) ss) i [] ≡ id
  pub none_before : (j : ℕ) → j < i → get_or (map (λ s. s.id) ss) j [] ≡ id → ⊥

-- what an id finds in the record of a meaning
pub record FindsFirst (b : List ℕ) (m : Meaning) (id : List ℕ) : Type 0 where
  -- a step exactly if it is the first
  pub first : (i : ℕ) → First id m.steps i → step_by_id b id ≡ step b (suc i)
  pub only : (i : ℕ) → step_by_id b id ≡ step b (suc i) → First id m.steps i
  -- nothing exactly if the id is empty, or no step has it
  pub absent : (id ≡ []) ⊎ Each (λ s. s.id ≡ id → ⊥) m.steps → step_by_id b id ≡ good nothing
  pub nowhere : step_by_id b id ≡ good nothing → (id ≡ []) ⊎ Each (λ s. s.id ≡ id → ⊥) m.steps

-- ---- a value by its key

-- of entries from a place on, the value beside this key, and where its item begins
unfoldable pub beside : List ℕ → ℕ → Entries → Option (ℕ × Yaml)
beside key at done = none
beside key at (pair k v es) =
    if same k key then some (at + length (text_item k), v)
    else beside key (at + length (text_item k) + length (encode v)) es

-- of a value at a place: its entries stand behind the header
unfoldable pub in_mapping : List ℕ → ℕ → Yaml → Option (ℕ × Yaml)
in_mapping key at (dict es) = beside key (at + 6) es
in_mapping key at null = none
in_mapping key at (bool b) = none
in_mapping key at (int z) = none
in_mapping key at (str s) = none
in_mapping key at (seq ys) = none

-- of a step at a place: the value beside its command stands behind the header, name, id and key
unfoldable pub value_in : List ℕ → ℕ → Step → Option (ℕ × Yaml)
value_in key at s = in_mapping key (at + 6 + length (joined (take 3 (step_parts s)))) s.value

-- a value's item as a part of the record, header included
unfoldable pub item_part : Option (ℕ × Yaml) → Found
item_part o = maybe o nothing (λ (x : ℕ × Yaml). part x.0 (x.0 + length (encode x.1)))

-- of steps one behind another from a place on, the one with so many before it, and where its item begins
unfoldable pub nth_step : ℕ → List Step → ℕ → Option (ℕ × Step)
nth_step at [] i = none
nth_step at (s ∷ ss) zero = some (at, s)
nth_step at (s ∷ ss) (suc i) = nth_step (at + length (step_item s)) ss i

-- 53
unfoldable pub numbered_step : Meaning → ℕ → Answer (ℕ × Step)
numbered_step m zero = refused 53 0 0
numbered_step m (suc i) = given (nth_step (steps_start m) m.steps i) 53 0 0

unfoldable pub value_by_key : List ℕ → ℕ → List ℕ → Answer Found
value_by_key b number key = do
  m ← opened b
  (at, s) ← numbered_step m number
  good (item_part (value_in key at s))

-- ---- `times`

-- 38: no integer of at least 1; 39
unfoldable pub times_in : ℕ → Yaml → Answer ℕ
times_in number (int (pos (suc n))) = ensure (ltb (suc n) (2 ^ 32)) 39 0 number >> good (suc n)
times_in number (int (pos zero)) = refused 38 0 number
times_in number (int (negsuc n)) = refused 38 0 number
times_in number null = refused 38 0 number
times_in number (bool b) = refused 38 0 number
times_in number (str s) = refused 38 0 number
times_in number (seq ys) = refused 38 0 number
times_in number (dict es) = refused 38 0 number

unfoldable pub times : List ℕ → ℕ → Answer ℕ
times b number = do
  m ← opened b
  (at, s) ← numbered_step m number
  (from, v) ← given (value_in (bytes "times") at s) 38 0 number
  times_in number v

-- ---- the answers of the code

abbrev pub times_of : TimesAnswer → Answer ℕ
times_of (Times n) = good n
times_of (Refused e) = refusal e
