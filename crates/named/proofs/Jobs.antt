-- Where a job names a step, it counts from 1, and so does every line that it names of its own; its numbers are document 01's. Assumes nothing.
use Rattle.std.proofs.Common.{◌≡◌, refl, ℕ, zero, suc, ◌≤◌, min, ◌^◌, arith, List, [], ◌∷◌, map, false, ◌||◌, not, ltb, leb, pos, length}
use Rattle.std.proofs.Math.Option.{Option, none, some}
use Rattle.refusal.specs.Base.{Answer, good, refused, ◌>>=◌, maybe, bytes, same, one_of}
use Rattle.item.specs.Tree.{Yaml, null, int, seq, dict, Items, end, ◌▸◌, Entries, done, pair, get}
use Rattle.meaning.specs.Meaning.{Step, Meaning, Defaults, built_in_steps}
use Rattle.meaning.specs.Record.{step_item, fields, record_of}
use Rattle.meaning.specs.Meanings.{top_keys, schema, document, known_keys, scalar_at, check_schema, sequence_or, scalar_default, defaults_from, no_defaults, defaults_of, top_of, expect_of, commands, command_of, expect_allowed, step_of, step_at, steps_from, meaning_of}
use Rattle.step_lines.specs.StepLines.{step_lines, head_line, tail_lines}
use Rattle.scenario.specs.Scenario.{Reading, reading_of, scenario, sizes_of}
use Rattle.record.specs.Read.{meaning_in}
use Rattle.record.specs.Jobs.{nothing, opened, check_record, numbered, steps_start, field, step}
use Rattle.check_steps.specs.Names.{names_in}
use Rattle.check_steps.specs.CheckSteps.{known, repeated, all_known, check_inner, check_repeat, check_step, check_from, check_steps}
use Rattle.lookups.specs.Lookups.{number_of, step_by_id, nth_step, numbered_step, value_in, value_by_key, times_in, times}
use Rattle.named.specs.Named.{lined, stepped}
use Rattle.named.proofs.Counted.{Counts, never, refuses, plainly, stepwise, binds, next, ifs, givens, ensures}
use Rattle.named.proofs.Trees.{admits, lines_then, tree_ofs}

-- ---- meanings

documents : (y : Yaml) → Counts (document y)
unfolding document lined stepped
documents (dict es) = never
documents _ = plainly refl refl

all_known_lem : (es : Entries) → Counts (known_keys es)
unfolding known_keys lined stepped
all_known_lem done = never
all_known_lem (pair k v es) = ifs (one_of k top_keys) (all_known_lem es) (plainly refl refl)

schemas : (o : Option (List ℕ)) → Counts (check_schema o)
unfolding check_schema lined stepped
schemas none = plainly refl refl
schemas (some s) = ensures (same s schema) (plainly refl refl)

sequences : (k : ℕ) → lined k || leb 55 k ≡ false → stepped k ≡ false → (o : Option Yaml) → Counts (sequence_or k o)
unfolding sequence_or
sequences k p q none = never
sequences k p q (some null) = never
sequences k p q (some (seq ys)) = never
sequences k p q (some _) = plainly p q

scalar_defaults : (y : Yaml) → Counts (scalar_default y)
unfolding scalar_default lined stepped
scalar_defaults (seq ys) = plainly refl refl
scalar_defaults (dict es) = plainly refl refl
scalar_defaults _ = never

defaults_froms : (d : Defaults) (es : Entries) → Counts (defaults_from d es)
unfolding defaults_from lined stepped
defaults_froms d done = never
defaults_froms d (pair k v es) = ifs (same k (bytes "timeout")) (binds (scalar_defaults v) λ t. defaults_froms _ es)
    (ifs (same k (bytes "wall_budget")) (binds (scalar_defaults v) λ t. defaults_froms _ es) (plainly refl refl))

defaultses : (o : Option Yaml) → Counts (defaults_of o)
unfolding defaults_of lined stepped
defaultses none = never
defaultses (some null) = never
defaultses (some (dict es)) = defaults_froms no_defaults es
defaultses (some _) = plainly refl refl

tops : (y : Yaml) → Counts (top_of y)
unfolding top_of lined stepped
tops y = binds (documents y)
    λ es. next (all_known_lem es)
    (next (schemas (scalar_at (bytes "schema") es))
    (binds (givens (scalar_at (bytes "name") es) (plainly refl refl))
    λ name. binds (sequences 26 refl refl (get (bytes "tags") es))
    λ tags. binds (sequences 27 refl refl (get (bytes "fail_on") es))
    λ fail_on. binds (defaultses (get (bytes "defaults") es))
    λ defaults. binds (sequences 31 refl refl (get (bytes "steps") es))
    λ steps. never))

module _ (l k : ℕ) (h : 1 ≤ k) where
  expects : (o : Option Yaml) → Counts (expect_of l k o)
  unfolding expect_of lined
  expects none = never
  expects (some (dict es)) = never
  expects (some _) = stepwise refl h

  command : (es : Entries) → Counts (command_of k es)
  unfolding command_of lined
  command done = stepwise refl h
  command (pair a v done) = never
  command (pair a v (pair b w es)) = stepwise refl h

  allowed : (key : List ℕ) (o : Option Entries) → Counts (expect_allowed l k key o)
  unfolding expect_allowed lined
  allowed key none = never
  allowed key (some es) = ensures (not (one_of key built_in_steps)) (stepwise refl h)

  step-counted : (y : Yaml) → Counts (step_at l k y)
  unfolding step_at step_of lined
  step-counted (dict es) = binds (expects (get (bytes "expect") es)) λ e. binds (command (commands es)) λ c. next (allowed c.0 e) never
  step-counted _ = stepwise refl h

steps-counted : (k : ℕ) (lines : List ℕ) (ys : Items) → 1 ≤ k → Counts (steps_from k lines ys)
unfolding steps_from
steps-counted k lines end h = never
steps-counted k lines (y ▸ ys) h = binds (step-counted (head_line lines) k h y) λ s. binds (steps-counted (suc k) (tail_lines lines) ys (omega arith)) λ ss. never

meanings : (lines : List ℕ) (y : Yaml) → Counts (meaning_of lines y)
unfolding meaning_of
meanings lines y = binds (tops y) λ t. binds (steps-counted 1 lines t.steps (omega arith)) λ ss. never

-- ---- scenarios

readings : (work : ℕ) (text : List ℕ) → Counts (reading_of work text)
unfolding reading_of
readings work text = next (admits text) (lines_then text λ ls c. binds (tree_ofs (min work (2 ^ 20)) ls c) λ y. binds (meanings (step_lines ls) y) λ m. never)

sizes : (a : Answer Reading) → Counts a → Counts (sizes_of a)
unfolding sizes_of
sizes (good r) h = never
sizes (refused n i j) h = refuses n i j (h n i j refl)

pub scenario-counted : (work room places : ℕ) (text : List ℕ) → Counts (sizes_of (scenario work room places text))
unfolding scenario lined stepped
scenario-counted work room places text = sizes (scenario work room places text) (binds (readings work text)
    λ r. next (ensures (leb (length r.meaning.steps) (min places (2 ^ 18))) (plainly refl refl))
    (next (ensures (leb (length (record_of r.meaning)) (min room (2 ^ 20))) (plainly refl refl)) never))

-- ---- the check and the lookups of a record

opens : (b : List ℕ) → Counts (opened b)
unfolding opened lined stepped
opens b = givens (meaning_in b) (plainly refl refl)

numbers : (from : ℕ) (ps : List (List ℕ)) (i : ℕ) → Counts (numbered from ps i)
unfolding numbered lined stepped
numbers from ps zero = plainly refl refl
numbers from ps (suc i) = next (ensures (ltb i (length ps)) (plainly refl refl)) never

pub record-counted : (b : List ℕ) → Counts (check_record b)
unfolding check_record
record-counted b = binds (opens b) λ m. never

pub field-counted : (b : List ℕ) (place : ℕ) → Counts (field b place)
unfolding field
field-counted b place = binds (opens b) λ m. numbers 6 (fields m) place

pub number-counted : (b : List ℕ) (number : ℕ) → Counts (step b number)
unfolding step
number-counted b number = binds (opens b) λ m. numbers (steps_start m) (map step_item m.steps) number

-- ---- the check of steps: those inside a `repeat` are numbered from 1 too

module _ (names : List (List ℕ)) (l k : ℕ) (h : 1 ≤ k) where
  knowns : (ss : List Step) → Counts (all_known names l k ss)
  unfolding all_known lined
  knowns [] = never
  knowns (s ∷ ss) = next (ensures (known names s.key) (stepwise refl h)) (knowns ss)

  inners : (ys : Items) → Counts (check_inner names l k ys)
  unfolding check_inner
  inners ys = binds (steps-counted 1 [] ys (omega arith)) λ ss. knowns ss

  repeats : (v : Yaml) → Counts (check_repeat names l k v)
  unfolding check_repeat lined stepped
  repeats v = binds (givens (repeated v) (stepwise refl h)) λ x. binds (sequences 31 refl refl (some x)) λ ys. inners ys

  step-checked : (s : Step) → Counts (check_step names l k s)
  unfolding check_step lined
  step-checked s = next (ensures (known names s.key) (stepwise refl h)) (ifs (same s.key (bytes "repeat")) (repeats s.value) never)

steps-checked : (names : List (List ℕ)) (k : ℕ) (lines : List ℕ) (ss : List Step) → 1 ≤ k → Counts (check_from names k lines ss)
unfolding check_from
steps-checked names k lines [] h = never
steps-checked names k lines (s ∷ ss) h = next (step-checked names (head_line lines) k h s) (steps-checked names (suc k) (tail_lines lines) ss (omega arith))

pub check-counted : (b lines names : List ℕ) → Counts (check_steps b lines names)
unfolding check_steps lined stepped
check-counted b lines names = binds (opens b)
    λ m. binds (givens (names_in names) (plainly refl refl))
    λ ns. next (steps-checked ns 1 lines m.steps (omega arith)) never

-- ---- the lookups of section 6

pub id-counted : (b id : List ℕ) → Counts (step_by_id b id)
unfolding step_by_id maybe
id-counted b id = binds (opens b) λ m. go (number_of id 1 m.steps)
  where
    go : (o : Option ℕ) → Counts (maybe o (good nothing) (step b))
    go none = never
    go (some n) = number-counted b n

numbered-steps : (m : Meaning) (number : ℕ) → Counts (numbered_step m number)
unfolding numbered_step lined stepped
numbered-steps m zero = plainly refl refl
numbered-steps m (suc i) = givens (nth_step (steps_start m) m.steps i) (plainly refl refl)

pub value-counted : (b : List ℕ) (number : ℕ) (key : List ℕ) → Counts (value_by_key b number key)
unfolding value_by_key
value-counted b number key = binds (opens b) λ m. binds (numbered-steps m number) λ x. never

times-ins : (k : ℕ) → 1 ≤ k → (v : Yaml) → Counts (times_in k v)
unfolding times_in lined
times-ins k h (int (pos (suc n))) = next (ensures (ltb (suc n) (2 ^ 32)) (stepwise refl h)) never
times-ins k h _ = stepwise refl h

-- number 0 is refused before `times` is looked for
pub times-counted : (b : List ℕ) (number : ℕ) → Counts (times b number)
unfolding times numbered_step ◌>>=◌ lined stepped
times-counted b zero = binds (opens b) λ m. plainly refl refl
times-counted b (suc i) = binds (opens b)
    λ m. binds (numbered-steps m (suc i))
    λ x. binds (givens (value_in (bytes "times") x.0 x.1) (stepwise refl (omega arith)))
    λ y. times-ins (suc i) (omega arith) y.1
