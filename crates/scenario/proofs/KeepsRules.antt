-- The meaning of a sound tree keeps the rules that the record check holds a record against. Assumes nothing.
use Rattle.std.proofs.Common.{◌≡◌, refl, ap, subst, ℕ, suc, ◌≤◌, ◌^◌, arith, List, true, false, length, lt-ltb}
use Rattle.std.proofs.Math.Option.{Option, none, some}
use Rattle.std.specs.Int.Signed.{mag}
use Rattle.refusal.specs.Base.{good, ◌>>◌, ensure, given, maybe, bytes, same, one_of, limit}
use Rattle.refusal.proofs.Tools.{good-inj, refused≢good, bound, bound', chosen, gave}
use Rattle.utf8.proofs.Utf8Laws.{utf8_nil}
use Rattle.item.specs.Tree.{Shape, Node, Yaml, null, bool, int, str, seq, dict, Items, end, ◌▸◌, Entries, done, pair, levels, get, Ranged}
use Rattle.scalar.specs.Scalars.{key_text}
use Rattle.std.proofs.lemmas.Bool.{cond_both}
use Rattle.tree.proofs.Keys.{Differing}
use Rattle.utf8.specs.Utf8.{Utf8}
use Rattle.tree.proofs.Strings.{Texts, key-utf8}
use Rattle.tree.proofs.Fit.{Fit, fit-null, fit-end, fit-seq}
use Rattle.tree.proofs.Sound.{Sound}
use Rattle.meaning.specs.Sound.{sound}
use Rattle.meaning.specs.Meaning.{Defaults, Step, Meaning, step_fields, built_in_steps}
use Rattle.meaning.specs.Record.{optional, expected, record_of}
use Rattle.meaning.specs.Rules.{Each, StepRules, Rules}
use Rattle.step_lines.specs.StepLines.{head_line, tail_lines}
use Rattle.meaning.specs.Meanings.{document, known_keys, scalar_at, or_empty, check_schema, sequence_or, cons_text, texts_of, scalar_default, defaults_from, no_defaults, defaults_of, expect_of, commands, command_of, expect_allowed, step_of, step_at, steps_from, Top, top_of, with_steps, meaning_of}

-- ---- the parts of a tree that fits

module _ {l : ℕ} where
  in-seq : {ys : Items} → Fit (suc l) (seq ys) → Fit l ys
  unfolding levels
  in-seq h = record { few = omega (arith, h.few); keys = h.keys; strings = h.strings; integers = h.integers }

  in-dict : {es : Entries} → Fit (suc l) (dict es) → Fit l es
  unfolding levels
  in-dict h = record { few = omega (arith, h.few); keys = h.keys; strings = h.strings; integers = h.integers }

  first : {y : Yaml} {ys : Items} → Fit l (y ▸ ys) → Fit l y
  unfolding levels
  first h = record { few = omega (arith, h.few); keys = h.keys.0; strings = h.strings.0; integers = h.integers.0 }

  others : {y : Yaml} {ys : Items} → Fit l (y ▸ ys) → Fit l ys
  unfolding levels
  others h = record { few = omega (arith, h.few); keys = h.keys.1; strings = h.strings.1; integers = h.integers.1 }

  value : {k : List ℕ} {v : Yaml} {es : Entries} → Fit l (pair k v es) → Fit l v
  unfolding levels
  value h = record { few = omega (arith, h.few); keys = h.keys.1; strings = h.strings.1; integers = h.integers.0 }

  rest : {k : List ℕ} {v : Yaml} {es : Entries} → Fit l (pair k v es) → Fit l es
  unfolding levels
  rest h = record { few = omega (arith, h.few); keys = h.keys.2; strings = h.strings.2; integers = h.integers.1 }

-- a tree that fits is sound for a record
sound-is : {s : Shape} (y : Node s) → Differing y → Texts y → Ranged y → sound y ≡ true
unfolding sound
sound-is null d t r = refl
sound-is (bool b) d t r = refl
sound-is (int z) d t r = lt-ltb (mag z) (2 ^ 63) r
sound-is (str s) d t r = t
sound-is (seq ys) d t r = sound-is ys d t r
sound-is (dict es) d t r = sound-is es d t r
sound-is end d t r = refl
sound-is (y ▸ ys) d t r = rw (sound-is y d.0 t.0 r.0) (sound-is ys d.1 t.1 r.1)
sound-is done d t r = refl
sound-is (pair k v es) d t r = rw (t.0, d.0, sound-is v d.1 t.1 r.0) (sound-is es d.2 t.2 r.1)

fit-sound : {l : ℕ} {s : Shape} {y : Node s} → Fit l y → sound y ≡ true
fit-sound {y = y} h = sound-is y h.keys h.strings h.integers

-- ---- what is looked up

-- what an option holds has a property
abbrev Held : {A : Type 0} → (A → Type 0) → Option A → Type 0
Held P none = Unit {0}
Held P (some a) = P a

get_fit : {l : ℕ} (k : List ℕ) (es : Entries) → Fit l es → Held (Fit l) (get k es)
unfolding get
get_fit k done h = tt
get_fit {l} k (pair j v es) h = cond_both (same j k) (some v) (get k es) (Held (Fit l)) (λ _. value h) (λ _. get_fit k es (rest h))

text-utf8 : (y : Yaml) → Texts y → Held Utf8 (key_text y)
unfolding given
text-utf8 y h = go (key_text y) refl
  where
    go : (o : Option (List ℕ)) → key_text y ≡ o → Held Utf8 o
    go none e = tt
    go (some s) e = key-utf8 y s 16 0 0 h (ap (λ (o : Option (List ℕ)). given o 16 0 0) e)

scalar-utf8 : {l : ℕ} (k : List ℕ) (es : Entries) → Fit l es → Held Utf8 (scalar_at k es)
unfolding scalar_at maybe
scalar-utf8 {l} k es h = go (get k es) (get_fit k es h)
  where
    go : (o : Option Yaml) → Held (Fit l) o → Held Utf8 (maybe o none key_text)
    go none f = tt
    go (some y) f = text-utf8 y f.strings

empty-utf8 : (o : Option (List ℕ)) → Held Utf8 o → Utf8 (or_empty o)
unfolding or_empty maybe
empty-utf8 none h = utf8_nil
empty-utf8 (some s) h = h

optional-sound : (o : Option (List ℕ)) → Held Utf8 o → sound (optional o) ≡ true
unfolding optional sound
optional-sound none h = refl
optional-sound (some s) h = h

sequence-fit : {l : ℕ} (n : ℕ) (o : Option Yaml) (ys : Items) → Held (Fit (suc l)) o → sequence_or n o ≡ good ys → Fit l ys
unfolding sequence_or
sequence-fit {l} n none ys h e = subst (λ (x : Items). Fit l x) (good-inj _ _ e) fit-end
sequence-fit {l} n (some null) ys h e = subst (λ (x : Items). Fit l x) (good-inj _ _ e) fit-end
sequence-fit {l} n (some (seq xs)) ys h e = subst (λ (x : Items). Fit l x) (good-inj _ _ e) (in-seq h)
sequence-fit n (some (bool b)) ys h e = refused≢good ys n 0 0 e
sequence-fit n (some (int z)) ys h e = refused≢good ys n 0 0 e
sequence-fit n (some (str s)) ys h e = refused≢good ys n 0 0 e
sequence-fit n (some (dict es)) ys h e = refused≢good ys n 0 0 e

or-null : {l : ℕ} (o : Option Yaml) → Held (Fit l) o → Fit l (maybe o null (λ v. v))
unfolding maybe
or-null {l} none h = fit-null l
or-null (some y) h = h

cons-utf8 : (o : Option (List ℕ)) (ts : List (List ℕ)) → Held Utf8 o → Each Utf8 ts → Each Utf8 (cons_text o ts)
unfolding cons_text
cons-utf8 none ts h k = k
cons-utf8 (some s) ts h k = (h, k)

tags-utf8 : {l : ℕ} (ys : Items) → Fit l ys → Each Utf8 (texts_of ys)
unfolding texts_of
tags-utf8 end h = tt
tags-utf8 (y ▸ ys) h = cons-utf8 (key_text y) (texts_of ys) (text-utf8 y h.strings.0) (tags-utf8 ys (others h))

-- ---- defaults

default-utf8 : (y : Yaml) (t : Option (List ℕ)) → Texts y → scalar_default y ≡ good t → Held Utf8 t
unfolding scalar_default
default-utf8 null t h e = subst (λ (o : Option (List ℕ)). Held Utf8 o) (good-inj _ _ e) tt
default-utf8 (bool b) t h e = subst (λ (o : Option (List ℕ)). Held Utf8 o) (good-inj _ _ e) (text-utf8 (bool b) h)
default-utf8 (int z) t h e = subst (λ (o : Option (List ℕ)). Held Utf8 o) (good-inj _ _ e) (text-utf8 (int z) h)
default-utf8 (str s) t h e = subst (λ (o : Option (List ℕ)). Held Utf8 o) (good-inj _ _ e) (text-utf8 (str s) h)
default-utf8 (seq ys) t h e = refused≢good t 30 0 0 e
default-utf8 (dict es) t h e = refused≢good t 30 0 0 e

record Kept (d : Defaults) : Type 0 where
  timeout : Held Utf8 d.timeout
  wall_budget : Held Utf8 d.wall_budget

defaults_from_lem : {l : ℕ} (d : Defaults) (es : Entries) (r : Defaults) → Kept d → Fit l es → defaults_from d es ≡ good r → Kept r
unfolding defaults_from
defaults_from_lem d done r k h e = subst Kept (good-inj _ _ e) k
defaults_from_lem d (pair j v es) r k h e = chosen (same j (bytes "timeout")) _ _ e
    (λ _ p. bound (scalar_default v) _ r p λ t q p. defaults_from_lem _ es r (record { timeout = default-utf8 v t h.strings.1 q; wall_budget = k.wall_budget }) (rest h) p)
    λ _ p. chosen (same j (bytes "wall_budget")) _ _ p
    (λ _ p. bound (scalar_default v) _ r p λ t q p. defaults_from_lem _ es r (record { timeout = k.timeout; wall_budget = default-utf8 v t h.strings.1 q }) (rest h) p)
    λ _ p. refused≢good r 29 0 0 p

defaults-kept : (l : ℕ) (o : Option Yaml) (r : Defaults) → Held (Fit (suc l)) o → defaults_of o ≡ good r → Kept r
unfolding defaults_of no_defaults
defaults-kept l none r h e = subst Kept (good-inj _ _ e) (record { timeout = tt; wall_budget = tt })
defaults-kept l (some null) r h e = subst Kept (good-inj _ _ e) (record { timeout = tt; wall_budget = tt })
defaults-kept l (some (dict es)) r h e = defaults_from_lem _ es r (record { timeout = tt; wall_budget = tt }) (in-dict h) e
defaults-kept l (some (bool b)) r h e = refused≢good r 28 0 0 e
defaults-kept l (some (int z)) r h e = refused≢good r 28 0 0 e
defaults-kept l (some (str s)) r h e = refused≢good r 28 0 0 e
defaults-kept l (some (seq ys)) r h e = refused≢good r 28 0 0 e

-- ---- steps

expect-fit : {l : ℕ} (line step : ℕ) (o : Option Yaml) (x : Option Entries) → Held (Fit l) o → expect_of line step o ≡ good x → Fit l (expected x)
unfolding expect_of expected
expect-fit {l} line step none x h e = subst (λ (z : Option Entries). Fit l (expected z)) (good-inj _ _ e) (fit-null l)
expect-fit {l} line step (some (dict es)) x h e = subst (λ (z : Option Entries). Fit l (expected z)) (good-inj _ _ e) h
expect-fit line step (some null) x h e = refused≢good x 33 line step e
expect-fit line step (some (bool b)) x h e = refused≢good x 33 line step e
expect-fit line step (some (int z)) x h e = refused≢good x 33 line step e
expect-fit line step (some (str s)) x h e = refused≢good x 33 line step e
expect-fit line step (some (seq ys)) x h e = refused≢good x 33 line step e

-- a command key with its value
record Command (l : ℕ) (c : List ℕ × Yaml) : Type 0 where
  key : Utf8 c.0
  value : Fit l c.1
  free : one_of c.0 step_fields ≡ false

abbrev Commands : ℕ → Entries → Type 0
Commands l done = Unit {0}
Commands l (pair k v es) = Command l (k, v) × Commands l es

commands-fit : {l : ℕ} (es : Entries) → Fit l es → Commands l (commands es)
unfolding commands
commands-fit done h = tt
commands-fit {l} (pair k v es) h = cond_both (one_of k step_fields) (commands es) (pair k v (commands es)) (Commands l)
    (λ _. commands-fit es (rest h))
    (λ f. (record { key = h.strings.0; value = value h; free = f }, commands-fit es (rest h)))

command-fit : {l : ℕ} (step : ℕ) (es : Entries) (c : List ℕ × Yaml) → Commands l es → command_of step es ≡ good c → Command l c
unfolding command_of
command-fit step done c h e = refused≢good c 34 0 step e
command-fit {l} step (pair k v done) c h e = subst (Command l) (good-inj _ _ e) h.0
command-fit step (pair k v (pair k' v' es)) c h e = refused≢good c 34 0 step e

expect-alone : (line step : ℕ) (k : List ℕ) (o : Option Entries) (x : Unit {0}) → expect_allowed line step k o ≡ good x → one_of k built_in_steps ≡ true → o ≡ none
unfolding expect_allowed ensure
expect-alone line step k none x e b = refl
expect-alone line step k (some es) x e b = refused≢good x 35 line step (rw b at e)

step_kept : (line step : ℕ) (es : Entries) (s : Step) → Fit 29 es → step_of line step es ≡ good s → StepRules s
unfolding step_of ◌>>◌
step_kept line step es s h e = bound (expect_of line step (get (bytes "expect") es)) _ s e
    λ x a p. bound (command_of step (commands es)) _ s p
    λ c b p. bound (expect_allowed line step c.0 x) _ s p
    λ u d p. subst StepRules (good-inj _ _ p)
    (let f : Fit 29 (expected x) = expect-fit line step _ x (get_fit (bytes "expect") es h) a in
    let g : Command 29 c = command-fit step (commands es) c (commands-fit es h) b in
    record {
      name = empty-utf8 _ (scalar-utf8 (bytes "name") es h);
      id = empty-utf8 _ (scalar-utf8 (bytes "id") es h);
      key = g.key;
      value = fit-sound g.value;
      timeout = optional-sound _ (scalar-utf8 (bytes "timeout") es h);
      expect = fit-sound f;
      command = g.free;
      alone = expect-alone line step c.0 x u d;
      value_levels = g.value.few;
      expect_levels = f.few;
    })

step-at-kept : (line step : ℕ) (y : Yaml) (s : Step) → Fit 30 y → step_at line step y ≡ good s → StepRules s
unfolding step_at
step-at-kept line step (dict es) s h e = step_kept line step es s (in-dict h) e
step-at-kept line step null s h e = refused≢good s 32 0 step e
step-at-kept line step (bool b) s h e = refused≢good s 32 0 step e
step-at-kept line step (int z) s h e = refused≢good s 32 0 step e
step-at-kept line step (str t) s h e = refused≢good s 32 0 step e
step-at-kept line step (seq ys) s h e = refused≢good s 32 0 step e

steps-kept : (step : ℕ) (lines : List ℕ) (ys : Items) (ss : List Step) → Fit 30 ys → steps_from step lines ys ≡ good ss → Each StepRules ss
unfolding steps_from
steps-kept step lines end ss h e = subst (λ (l : List Step). Each StepRules l) (good-inj _ _ e) tt
steps-kept step lines (y ▸ ys) ss h e = bound (step_at (head_line lines) step y) _ ss e
    λ s a p. bound (steps_from (suc step) (tail_lines lines) ys) _ ss p
    λ l b p. subst (λ (l : List Step). Each StepRules l) (good-inj _ _ p)
    (step-at-kept (head_line lines) step y s (first h) a, steps-kept (suc step) (tail_lines lines) ys l (others h) b)

-- ---- the meaning

document-fit : {l : ℕ} (y : Yaml) (es : Entries) → Fit (suc l) y → document y ≡ good es → Fit l es
unfolding document
document-fit {l} (dict es) r h e = subst (λ (x : Entries). Fit l x) (good-inj _ _ e) (in-dict h)
document-fit null r h e = refused≢good r 21 0 0 e
document-fit (bool b) r h e = refused≢good r 21 0 0 e
document-fit (int z) r h e = refused≢good r 21 0 0 e
document-fit (str s) r h e = refused≢good r 21 0 0 e
document-fit (seq ys) r h e = refused≢good r 21 0 0 e

-- what holds of the parts before the steps are looked into
record TopKept (t : Top) : Type 0 where
  name : Utf8 t.name
  description : Utf8 t.description
  tags : Each Utf8 t.tags
  image : Utf8 t.image
  setup : Fit 31 t.setup
  defaults : Kept t.defaults
  fail_on : Fit 30 t.fail_on
  steps : Fit 30 t.steps

top_kept : (y : Yaml) (t : Top) → Sound y → top_of y ≡ good t → TopKept t
unfolding top_of ◌>>◌
top_kept y t h e = bound (document y) _ t e
    λ es a p. bound' (known_keys es) _ t p
    λ p. bound' (check_schema (scalar_at (bytes "schema") es)) _ t p
    λ p. bound (given (scalar_at (bytes "name") es) 25 0 0) _ t p
    λ name b p. bound (sequence_or 26 (get (bytes "tags") es)) _ t p
    λ tags c p. bound (sequence_or 27 (get (bytes "fail_on") es)) _ t p
    λ fail_on d p. bound (defaults_of (get (bytes "defaults") es)) _ t p
    λ defaults f p. bound (sequence_or 31 (get (bytes "steps") es)) _ t p
    λ steps g p.
    let u : Fit 31 es = document-fit y es h a in
    subst TopKept (good-inj _ _ p) (record {
      name = gave (scalar_at (bytes "name") es) 25 0 0 name b λ z. subst (λ (o : Option (List ℕ)). Held Utf8 o) z (scalar-utf8 (bytes "name") es u);
      description = empty-utf8 _ (scalar-utf8 (bytes "description") es u);
      tags = tags-utf8 tags (sequence-fit 26 _ tags (get_fit (bytes "tags") es u) c);
      image = empty-utf8 _ (scalar-utf8 (bytes "image") es u);
      setup = or-null _ (get_fit (bytes "setup") es u);
      defaults = defaults-kept 30 _ defaults (get_fit (bytes "defaults") es u) f;
      fail_on = sequence-fit 27 _ fail_on (get_fit (bytes "fail_on") es u) d;
      steps = sequence-fit 31 _ steps (get_fit (bytes "steps") es u) g;
    })

-- all rules but the size, which the room for the record bounds
pub meaning-kept : (lines : List ℕ) (y : Yaml) (m : Meaning) → Sound y → meaning_of lines y ≡ good m → length (record_of m) ≤ limit → Rules m
unfolding meaning_of with_steps
meaning-kept lines y m h e small = bound (top_of y) _ m e
    λ t a p. bound (steps_from 1 lines t.steps) _ m p
    λ steps b p.
    let k = top_kept y t h a in
    let q : with_steps t steps ≡ m = good-inj _ _ p in
    let sq : Fit 31 (seq t.fail_on) = fit-seq k.fail_on in
    subst Rules q (record {
      name = k.name;
      description = k.description;
      tags = k.tags;
      image = k.image;
      setup = fit-sound k.setup;
      timeout = optional-sound _ k.defaults.timeout;
      wall_budget = optional-sound _ k.defaults.wall_budget;
      fail_on = fit-sound k.fail_on;
      steps = steps-kept 1 lines t.steps steps k.steps b;
      setup_levels = k.setup.few;
      fail_on_levels = sq.few;
      size = rw q small;
    })
