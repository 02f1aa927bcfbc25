-- The step of a mapping: its refusals in their order, and where its parts stand. Assumes nothing.
use Rattle.std.proofs.Common.{◌≡◌, refl, sym, ap, ◌∙◌, subst, ℕ, ◌+◌, ◌-◌, arith, take, drop, List, Bool, not, true, false}
use Rattle.std.proofs.Math.Option.{Option, none, some}
use Rattle.std.specs.Prelude.{Option as Maybe, Some, None, MatchOption}
use Rattle.std.specs.Option.{is_some}
use Rattle.std.proofs.lemmas.Bool.{false≢true}
use Rattle.refusal.specs.Base.{good, refused, ◌>>=◌, ◌>>◌, ensure, one_of, bytes}
use Rattle.item.specs.Tree.{Yaml, null, bool, int, str, seq, dict, Entries, get}
use Rattle.item.specs.Encode.{kind_of}
use Rattle.item.specs.declared.encoded.Part.{Part}
use Rattle.entries.proofs.Standing.{stands_at}
use Rattle.nodes.specs.declared.node.Node.{Node}
use Rattle.nodes.specs.Contract.{IsNode, FindsNode, AgreesMapping}
use Rattle.meaning.specs.Meaning.{built_in_steps}
use Rattle.meaning.specs.Meanings.{scalar_at, or_empty, expect_of, commands, command_of, expect_allowed, is_true, step_of, step_at}
use Rattle.step.specs.declared.parts.StepFields.{StepFields}
use Rattle.step.specs.declared.parts.StepNodes.{StepNodes}
use Rattle.step.specs.Contract.{mapping, ReadsStep, AgreesExpect, AgreesFields, OneCommand, AgreesAllowed, StandsAs}

-- ---- 32

pub step-32 : (line n : ℕ) (y : Yaml) → (kind_of y ≡ 5 → ⊥) → step_at line n y ≡ refused 32 0 n
unfolding kind_of step_at
step-32 line n null k = refl
step-32 line n (bool b) k = refl
step-32 line n (int z) k = refl
step-32 line n (str t) k = refl
step-32 line n (seq ys) k = refl
step-32 line n (dict es) k = absurd (k refl)

pub mapping-there : (y : Yaml) (v : Maybe Node) (r : Maybe Part) (Gives : Node → Type 0)
    → MatchOption v (r ≡ None) Gives → ((x : Node) → Gives x → (y : Yaml) → IsNode y x → AgreesMapping y r) → StandsAs y v → AgreesMapping y r
mapping-there y None r Gives m g i = absurd i
mapping-there y (Some x) r Gives m g i = g x m y i

-- ---- what is expected

expect-is : (line n : ℕ) (m : Option Entries) → expect_of line n (mapping m) ≡ good m
unfolding expect_of mapping
expect-is line n none = refl
expect-is line n (some es) = refl

pub not-found : (o : Maybe Node) {v : Option Yaml} → is_some o ≡ false → FindsNode v o → v ≡ none
not-found None e f = f
not-found (Some node) e f = absurd (false≢true (sym e))

pub is-found : (o : Maybe Node) {v : Option Yaml} → is_some o ≡ true → FindsNode v o → (y : Yaml) × v ≡ some y
is-found None e f = absurd (false≢true e)
is-found (Some node) e f = (f.value, f.is)

pub nothing-expected : (line n : ℕ) (k : List ℕ) (m : Option Entries) → mapping m ≡ none → expect_allowed line n k m ≡ ensure true 35 line n
unfolding expect_allowed mapping ensure
nothing-expected line n k none e = refl
nothing-expected line n k (some es) e = absurd (let z : ◌≡◌ {A = ℕ} 0 1 = cc in omega arith)

pub something-expected : (line n : ℕ) (k : List ℕ) (m : Option Entries) {y : Yaml} → mapping m ≡ some y → expect_allowed line n k m ≡ ensure (not (one_of k built_in_steps)) 35 line n
unfolding expect_allowed mapping
something-expected line n k none e = absurd (let z : ◌≡◌ {A = ℕ} 0 1 = cc in omega arith)
something-expected line n k (some es) e = refl

-- ---- 33 to 35

module _ (line n : ℕ) (es : Entries) where
  pub step-33 : AgreesExpect (get (bytes "expect") es) false → step_of line n es ≡ refused 33 line n
  unfolding step_of ◌>>=◌
  step-33 e = rw (e line n)

  module _ (x : AgreesExpect (get (bytes "expect") es) true) where
    fits : expect_of line n (get (bytes "expect") es) ≡ good x.0
    fits = ap (expect_of line n) x.1 ∙ expect-is line n x.0

    pub step-34 : command_of n (commands es) ≡ refused 34 0 n → step_of line n es ≡ refused 34 0 n
    unfolding step_of ◌>>=◌
    step-34 c = rw (fits, c)

    module _ {s : List ℕ} {key value : ℕ} (o : OneCommand s (commands es) key value) {fields : StepFields} (f : AgreesFields es fields) (b : Bool) (a : AgreesAllowed fields.expect (take (value - key) (drop key s)) b) where
      found : FindsNode (mapping x.0) fields.expect
      found = subst (λ (y : Option Yaml). FindsNode y fields.expect) x.1 f.expect

      allowed : expect_allowed line n o.k x.0 ≡ ensure b 35 line n
      allowed = ap (λ (k : List ℕ). expect_allowed line n k x.0) (sym o.entry.key) ∙ a line n x.0 found

      pub step-35 : b ≡ false → step_of line n es ≡ refused 35 line n
      unfolding step_of ◌>>=◌ ◌>>◌ ensure
      step-35 e = rw (fits, o.is n, allowed, e)

      pub step-read : b ≡ true → (node : StepNodes) → node.fields ≡ fields → node.key.now ≡ take (value - key) (drop key s) → IsNode o.v node.value → node.value.bytes.now ≡ s → node.value.item.from ≡ value + 6
          → ReadsStep (step_of line n es) node
      unfolding step_of ◌>>=◌ ◌>>◌ ensure scalar_at
      step-read e node p k v w at =
          let g = rw (← p) at f in
          record {
            step = record {
              name = or_empty (scalar_at (bytes "name") es);
              id = or_empty (scalar_at (bytes "id") es);
              key = o.k;
              value = o.v;
              timeout = scalar_at (bytes "timeout") es;
              continue = is_true (get (bytes "continue_on_error") es);
              expect = x.0;
            };
            is = rw (fits, o.is n, allowed, e);
            stands = record {
              name = record { value = get (bytes "name") es; found = g.name; is = refl };
              id = record { value = get (bytes "id") es; found = g.id; is = refl };
              key = k ∙ o.entry.key;
              value = v;
              whole = rw w (stands_at (omega (arith, at)) o.entry.value);
              timeout = record { value = get (bytes "timeout") es; found = g.timeout; is = refl };
              continue = record { value = get (bytes "continue_on_error") es; found = g.continue; is = refl };
              expect = rw p found;
            };
          }
