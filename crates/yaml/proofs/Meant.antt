-- A scenario that is YAML means what section 4 of document 01 makes of YAML's tree (`Means`), and what that says of the main job. Assumes nothing.
use Rattle.std.proofs.Common.{◌≡◌, refl, ap, ◌∙◌, ℕ, suc, ◌≤◌, min, ◌^◌, List, [], ◌++◌, length, drop, le-leb, Bool, true, false, not}
use Rattle.std.proofs.Math.Option.{Option, none, some}
use Rattle.refusal.specs.Base.{Answer, good, ◌>>=◌, ◌>>◌, ensure, one_of}
use Rattle.refusal.proofs.Tools.{refused≢good, bound}
use Rattle.item.specs.Tree.{Yaml, Items, end, ◌▸◌, Entries}
use Rattle.item.specs.Tree as Tree
use Rattle.meaning.specs.Meaning.{Meaning, built_in_steps}
use Rattle.meaning.specs.Record.{record_of}
use Rattle.step_lines.specs.StepLines.{step_lines, head_line, tail_lines}
use Rattle.meaning.specs.Meanings.{meaning_of, steps_from, step_at, step_of, expect_of, command_of, expect_allowed}
use Rattle.scenario.specs.Scenario.{Reading, reading_of, scenario, lines_for, output, record_bytes}
use Rattle.scenario.proofs.ReadScenario.{Promised}
use Rattle.scenario.specs.declared.ScenarioAnswer.{ScenarioAnswer}
use Rattle.yaml.specs.Represent.{Rep, tree_of}
use Rattle.yaml.specs.Block.{Stream}
use Rattle.yaml.specs.Kept.{Kept}
use Rattle.yaml.specs.Reads.{Limits, Means}
use Rattle.yaml.proofs.Parts.{lines_of}
use Rattle.yaml.proofs.Whole.{admits, found, whole-tree}

-- ---- the lines and numbers of steps serve only refusals

abbrev Keeps : {A : Type 0} → Answer A → Answer A → Type 0
Keeps {A} a b = (x : A) → a ≡ good x → b ≡ good x

binds : {A B : Type 0} (a b : Answer A) (f g : A → Answer B) → Keeps a b → ((u : A) → Keeps (f u) (g u)) → Keeps (a >>= f) (b >>= g)
unfolding ◌>>=◌
binds a b f g h k x p = bound a f x p λ u s t. rw (h u s) (k u x t)

thens : {A B : Type 0} (a b : Answer A) (c d : Answer B) → Keeps a b → Keeps c d → Keeps (a >> c) (b >> d)
unfolding ◌>>◌
thens a b c d h k = binds a b _ _ h (λ _. k)

module _ (l n l' n' : ℕ) where
  expects : (o : Option Yaml) → Keeps (expect_of l n o) (expect_of l' n' o)
  unfolding expect_of
  expects none x p = p
  expects (some Tree.null) x p = refused≢good x 33 l n p
  expects (some (Tree.bool b)) x p = refused≢good x 33 l n p
  expects (some (Tree.int z)) x p = refused≢good x 33 l n p
  expects (some (Tree.str s)) x p = refused≢good x 33 l n p
  expects (some (Tree.seq ys)) x p = refused≢good x 33 l n p
  expects (some (Tree.dict es)) x p = p

  command : (es : Entries) → Keeps (command_of n es) (command_of n' es)
  unfolding command_of
  command Tree.done x p = refused≢good x 34 0 n p
  command (Tree.pair k v Tree.done) x p = p
  command (Tree.pair k v (Tree.pair k' v' es)) x p = refused≢good x 34 0 n p

  allowed : (k : List ℕ) (o : Option Entries) → Keeps (expect_allowed l n k o) (expect_allowed l' n' k o)
  unfolding expect_allowed ensure
  allowed k none x p = p
  allowed k (some es) x p = go (not (one_of k built_in_steps)) p
    where
      go : (b : Bool) → ensure b 35 l n ≡ good x → ensure b 35 l' n' ≡ good x
      go true p = p
      go false p = refused≢good x 35 l n p

  step_of_lem : (es : Entries) → Keeps (step_of l n es) (step_of l' n' es)
  unfolding step_of
  step_of_lem es = binds _ _ _ _ (expects _) λ e. binds _ _ _ _ (command _) λ c. thens _ _ _ _ (allowed _ e) λ x p. p

  step_at_lem : (y : Yaml) → Keeps (step_at l n y) (step_at l' n' y)
  unfolding step_at
  step_at_lem Tree.null x p = refused≢good x 32 0 n p
  step_at_lem (Tree.bool b) x p = refused≢good x 32 0 n p
  step_at_lem (Tree.int z) x p = refused≢good x 32 0 n p
  step_at_lem (Tree.str s) x p = refused≢good x 32 0 n p
  step_at_lem (Tree.seq ys) x p = refused≢good x 32 0 n p
  step_at_lem (Tree.dict es) x p = step_of_lem es x p

steps_from_lem : (n : ℕ) (ls ls' : List ℕ) (ys : Items) → Keeps (steps_from n ls ys) (steps_from n ls' ys)
unfolding steps_from
steps_from_lem n ls ls' end = λ x p. p
steps_from_lem n ls ls' (y ▸ ys) = binds _ _ _ _ (step_at_lem (head_line ls) n (head_line ls') n y) λ s. binds _ _ _ _ (steps_from_lem (suc n) (tail_lines ls) (tail_lines ls') ys) λ ss x p. p

pub meaning-lines : (ls ls' : List ℕ) (y : Yaml) → Keeps (meaning_of ls y) (meaning_of ls' y)
unfolding meaning_of
meaning-lines ls ls' y = binds _ _ _ _ (λ x p. p) λ t. binds _ _ _ _ (steps_from_lem 1 ls ls' t.steps) λ ss x p. p

-- ---- the meaning

module _ {t : List ℕ} {r : Option Rep} {work : ℕ} (y : Yaml) (d : Stream t r) (k : Kept d) (e : tree_of r ≡ some y) (h : Limits d y work) where
  -- what is read, or why it is refused, is what section 4 makes of the tree
  pub reading : reading_of work t ≡ (meaning_of (step_lines (lines_of 1 d.rows)) y >>= λ m. good (record { tree = y; meaning = m; lines = lines_for m.steps (step_lines (lines_of 1 d.rows)) }))
  unfolding reading_of ◌>>◌ ◌>>=◌
  reading = rw (admits t r d k h.short, found t r d k h.few, whole-tree {work = work} y d k e h)

pub means : Means
unfolding Means scenario ◌>>◌ ◌>>=◌ ensure
means work room places t r y d k e h m q few small =
    let ls = step_lines (lines_of 1 d.rows) in (
      record { tree = y; meaning = m; lines = lines_for m.steps ls },
      rw (reading {work = work} y d k e h, meaning-lines [] ls y m q, le-leb (length m.steps) (min places (2 ^ 18)) few, le-leb (length (record_of m)) (min room (2 ^ 20)) small),
      refl,
      refl,
    )

-- ---- what the contract of `read_scenario` says of such a text: the record of that meaning is at the front of its buffer

pub recorded : (t work tree room bytes places lines : List ℕ) (a : ScenarioAnswer) → Promised t work tree room bytes places lines a → (r : Option Rep) (y : Yaml) (d : Stream t r) → Kept d → tree_of r ≡ some y
    → Limits d y (length work) → (m : Meaning) → meaning_of [] y ≡ good m → length m.steps ≤ min (length places) (2 ^ 18) → length (record_of m) ≤ min (length room) (2 ^ 20)
    → bytes ≡ record_of m ++ drop (length (record_of m)) room
unfolding Means output record_bytes
recorded t work tree room bytes places lines a p r y d k e h m q few small =
    let g = means (length work) (length room) (length places) t r y d k e h m q few small in
    p.record_left ∙ ap (λ (x : Answer Reading). output record_bytes x room) g.1 ∙ ap (λ (n : Meaning). record_of n ++ drop (length (record_of n)) room) g.3
