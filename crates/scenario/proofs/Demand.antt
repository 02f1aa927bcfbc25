-- Demand 3 over the definitions: of accepted texts, records and meanings tell each other, and lookups give a meaning back. Assumes nothing.
use Rattle.std.proofs.Common.{◌≡◌, refl, sym, ap, ◌∙◌, subst, ℕ, suc, ◌≤◌, ◌<◌, min, ◌^◌, arith, List, [], ◌∷◌, map, leb, length, get_or, leb-true}
use Rattle.std.proofs.Math.Option.{some}
use Rattle.refusal.specs.Base.{good, refused, ◌>>=◌, ◌>>◌, ensure, given}
use Rattle.refusal.proofs.Tools.{ensured, good-inj, bound}
use Rattle.item.specs.Encode.{Bytes}
use Rattle.lines.specs.Lines.{Line, significant_lines}
use Rattle.tree.specs.Tree.{admitted, tree_of, tree}
use Rattle.tree.proofs.Sound.{Sound, tree-sound}
use Rattle.meaning.specs.Meaning.{Step}
use Rattle.meaning.specs.Record.{step_item, fields, record_of}
use Rattle.meaning.specs.Rules.{Rules, IsRecord}
use Rattle.record.specs.Read as Read
use Rattle.record.specs.Jobs.{opened, check_record, field, step}
use Rattle.record.proofs.RoundTrip as Back
use Rattle.record.proofs.RoundTrip.{one-to-one}
use Rattle.record.specs.Theorems.{Decides, Gives, shown, together}
use Rattle.record.proofs.Theorems.{check-decides, field_back, step_back, step-beyond, read_back}
use Rattle.step_lines.specs.StepLines.{step_lines, tail_lines}
use Rattle.meaning.specs.Meanings.{meaning_of}
use Rattle.scenario.specs.Scenario.{Reading, lines_for, reading_of, scenario}
use Rattle.scenario.proofs.KeepsRules.{meaning-kept}

-- ---- the record check, of any bytes

-- it accepts exactly the records of meanings that keep document 01's rules, and gives the count of steps
pub check-exact : (b : List ℕ) → Bytes b → Decides b
check-exact = check-decides

-- ---- a reading

-- a reading's parts: the lines, the tree and the meaning it stands on
pub record Parts (work : ℕ) (text : List ℕ) (r : Reading) : Type 0 where
  pub lines : List Line
  pub lined : significant_lines text ≡ good lines
  pub tree_is : tree work text ≡ good r.tree
  pub meaning_is : meaning_of (step_lines lines) r.tree ≡ good r.meaning
  pub lines_are : r.lines ≡ lines_for r.meaning.steps (step_lines lines)

pub reading-parts : (work : ℕ) (text : List ℕ) (r : Reading) → reading_of work text ≡ good r → Parts work text r
unfolding reading_of tree ◌>>◌ ◌>>=◌
reading-parts work text r e = bound (admitted text) _ r e
    λ u a p. bound (significant_lines text) _ r p
    λ ls l p. bound (tree_of (min work (2 ^ 20)) ls) _ r p
    λ y t p. bound (meaning_of (step_lines ls) y) _ r p
    λ m k p. subst (Parts work text) (good-inj _ _ p) (record {
      lines = ls;
      lined = l;
      tree_is = rw (a, l) t;
      meaning_is = k;
      lines_are = refl;
    })

-- ---- an accepted text

pub record Accepted (work room places : ℕ) (text : List ℕ) (r : Reading) : Type 0 where
  pub reading : reading_of work text ≡ good r
  pub few : length r.meaning.steps ≤ min places (2 ^ 18)
  pub small : length (record_of r.meaning) ≤ min room (2 ^ 20)

lines_long : (ss : List Step) (lines : List ℕ) → length (lines_for ss lines) ≡ length ss
unfolding lines_for
lines_long [] lines = refl
lines_long (s ∷ ss) lines = ap suc (lines_long ss (tail_lines lines))

-- the seven fields found by place, and so many steps found by number
abbrev pub looked_up : List ℕ → ℕ → List ℕ
looked_up b n = together (λ i. shown b (field b i)) (λ i. shown b (step b i)) n

-- one accepted text, whatever was lent
module _ (work room places : ℕ) (text : List ℕ) (r : Reading) (e : scenario work room places text ≡ good r) where
  pub accepted : Accepted work room places text r
  unfolding scenario ◌>>◌
  accepted = bound (reading_of work text) _ r e
      λ x a p. bound (ensure (leb (length x.meaning.steps) (min places (2 ^ 18))) 51 0 0) _ r p
      λ u b p. bound (ensure (leb (length (record_of x.meaning)) (min room (2 ^ 20))) 52 0 0) _ r p
      λ v c p. subst (Accepted work room places text) (good-inj _ _ p) (record {
        reading = a;
        few = leb-true _ _ (ensured _ 51 0 0 u b);
        small = leb-true _ _ (ensured _ 52 0 0 v c);
      })

  pub accepted-parts : Parts work text r
  accepted-parts = reading-parts work text r accepted.reading

  pub accepted-tree : tree work text ≡ good r.tree
  accepted-tree = accepted-parts.tree_is

  pub accepted-sound : Sound r.tree
  accepted-sound = tree-sound work text r.tree accepted-tree

  -- the meaning keeps document 01's rules
  pub accepted-rules : Rules r.meaning
  accepted-rules = meaning-kept _ r.tree r.meaning accepted-sound accepted-parts.meaning_is (omega (arith, accepted.small))

  pub accepted-record : IsRecord (record_of r.meaning) r.meaning
  accepted-record = record { kept = accepted-rules; written = refl }

  -- the record check accepts it and gives the count of steps; ruled out: a made-up step count
  pub accepted-check : check_record (record_of r.meaning) ≡ good (length r.meaning.steps)
  unfolding check_record opened given ◌>>=◌
  accepted-check = rw (Back.meaning-back (record_of r.meaning) r.meaning accepted-record)

  -- places 1 to 8 give the items of the meaning's fields
  pub fields_back : (i : ℕ) → i < 8 → Gives (record_of r.meaning) (field (record_of r.meaning) (suc i)) (get_or (fields r.meaning) i [])
  fields_back = field_back (record_of r.meaning) r.meaning accepted-record

  -- numbers 1 to the count give the items of its steps; ruled out: a lookup that finds nothing
  pub steps_back : (i : ℕ) → i < length r.meaning.steps → Gives (record_of r.meaning) (step (record_of r.meaning) (suc i)) (get_or (map step_item r.meaning.steps) i [])
  steps_back = step_back (record_of r.meaning) r.meaning accepted-record

  -- and no number above it gives any
  pub steps-beyond : (i : ℕ) → length r.meaning.steps ≤ i → step (record_of r.meaning) (suc i) ≡ refused 53 0 0
  steps-beyond = step-beyond (record_of r.meaning) r.meaning accepted-record

  -- what the two lookups give, put together, is read as the meaning
  pub meaning-back : Read.fields_in (looked_up (record_of r.meaning) (length r.meaning.steps)) ≡ some r.meaning
  meaning-back = read_back (record_of r.meaning) r.meaning accepted-record

  -- for as many steps as the check counts, so that the record alone tells the meaning
  pub meaning-found : (n : ℕ) → check_record (record_of r.meaning) ≡ good n → Read.fields_in (looked_up (record_of r.meaning) n) ≡ some r.meaning
  meaning-found n p = rw (← good-inj _ _ (sym accepted-check ∙ p)) meaning-back

  -- a line for each step
  pub lines-length : length r.lines ≡ length r.meaning.steps
  lines-length = ap length accepted-parts.lines_are ∙ lines_long r.meaning.steps (step_lines accepted-parts.lines)

-- ---- two accepted texts, however written and whatever was lent for each; a meaning has no lines

module _ (work room places : ℕ) (text : List ℕ) (r : Reading) (e : scenario work room places text ≡ good r)
    (work' room' places' : ℕ) (text' : List ℕ) (r' : Reading) (e' : scenario work' room' places' text' ≡ good r') where
  -- ruled out: always one programme's record, and a copier of the text
  pub same-records : (record_of r.meaning ≡ record_of r'.meaning → r.meaning ≡ r'.meaning) × (r.meaning ≡ r'.meaning → record_of r.meaning ≡ record_of r'.meaning)
  same-records = (one-to-one r.meaning r'.meaning (accepted-rules work room places text r e) (accepted-rules work' room' places' text' r' e'), λ p. ap record_of p)
