-- The try-out scenario of document 01, and texts that are no scenario, computed from the definitions in one table. Assumes nothing.
use Rattle.std.proofs.Common.{◌≡◌, refl, ℕ, List, [], ◌∷◌, map, true, length}
use Prim.Native.String.{String}
use Rattle.refusal.specs.Base.{Answer, good, refused, ◌>>=◌, bytes, same}
use Rattle.refusal.proofs.Open.{Base-open}
use Rattle.utf8.proofs.Open.{Utf8-open, White-open}
use Rattle.item.proofs.Open as Item
use Rattle.item.specs.Encode.{encode}
use Rattle.item.proofs.Open.{Encode-open}
use Rattle.lines.proofs.Open.{Lines-open}
use Rattle.number.proofs.Open.{Integers-open}
use Rattle.scalar.proofs.Open.{Scalars-open, Key-open, Read-open}
use Rattle.flow.proofs.Open.{Flow-open}
use Rattle.literal.proofs.Open.{Literal-open}
use Rattle.block.proofs.Open.{Block-open}
use Rattle.tree.proofs.Open.{Tree-open}
use Rattle.meaning.specs.Meaning.{Step, step_fields, built_in_steps}
use Rattle.meaning.specs.Record.{record_of}
use Rattle.meaning.proofs.Open.{Record-open, Meanings-open}
use Rattle.step_lines.specs.StepLines.{head_line, tail_lines}
use Rattle.step_lines.proofs.Open.{StepLines-open}
use Rattle.scenario.specs.Scenario.{Reading, scenario}
use Rattle.scenario.proofs.Open.{Scenario-open}

-- what `drumread` prints of a scenario: record bytes, tree bytes, steps; for each step its line and its command key's bytes
abbrev pub Print : Type 0
Print = ℕ × ℕ × ℕ × List (ℕ × ℕ)

unfoldable pub steps_print : List Step → List ℕ → List (ℕ × ℕ)
steps_print [] lines = []
steps_print (s ∷ ss) lines = (head_line lines, length s.key) ∷ steps_print ss (tail_lines lines)

unfoldable pub print : Reading → Print
print r = (length (record_of r.meaning), length (encode r.tree), length r.meaning.steps, steps_print r.meaning.steps r.lines)

-- with `drumread`'s room
unfoldable pub drumread : String → Answer Print
drumread text = scenario 65536 65536 512 (bytes text) >>= λ r. good (print r)

-- a text, and what is printed of it
abbrev pub Case : Type 0
Case = String × Answer Print

unfoldable pub tried : List Case
tried =
    ("schema: passportsim/scenario@1\nname: noon\nsteps:\n  - strike: 5", good (133, 115, 1, (4, 6) ∷ []))
    -- the same meaning in one line: no line is exactly `steps:`
    ∷ ("{schema: passportsim/scenario@1, name: noon, steps: [{strike: 5}]}", good (133, 115, 1, (0, 6) ∷ []))
    ∷ ("drum: 1", refused 22 0 0)
    ∷ ("schema: noon", refused 23 0 0)
    ∷ ("name: noon", refused 24 0 0)
    ∷ ("schema: passportsim/scenario@1", refused 25 0 0)
    ∷ ("{schema: passportsim/scenario@1, name: a, tags: b}", refused 26 0 0)
    ∷ ("{schema: passportsim/scenario@1, name: a, fail_on: b}", refused 27 0 0)
    ∷ ("{schema: passportsim/scenario@1, name: a, defaults: b}", refused 28 0 0)
    ∷ ("{schema: passportsim/scenario@1, name: a, defaults: {b: 1}}", refused 29 0 0)
    ∷ ("{schema: passportsim/scenario@1, name: a, defaults: {timeout: []}}", refused 30 0 0)
    ∷ ("{schema: passportsim/scenario@1, name: a, steps: b}", refused 31 0 0)
    ∷ ("{schema: passportsim/scenario@1, name: a, steps: [b]}", refused 32 0 1)
    ∷ ("schema: passportsim/scenario@1\nname: a\nsteps:\n - b: 1\n - expect: 2", refused 33 5 2)
    ∷ ("schema: passportsim/scenario@1\nname: a\nsteps:\n - b: 1\n - id: 2", refused 34 0 2)
    ∷ ("schema: passportsim/scenario@1\nname: a\nsteps:\n - set: 1\n   expect: {}", refused 35 4 1)
    ∷ []

pub tried-hold : map (λ (c : Case). drumread c.0) tried ≡ map (λ (c : Case). c.1) tried
unfolding tried drumread print steps_print step_fields built_in_steps Base-open Utf8-open White-open Item.Tree-open Encode-open Lines-open Integers-open Scalars-open Key-open Read-open Flow-open Literal-open Block-open Tree-open Record-open StepLines-open Meanings-open Scenario-open
tried-hold = refl

-- the try-out scenario with just enough lent, and with one less of each: 50, 52, 51
abbrev try_out : String
try_out = "schema: passportsim/scenario@1\nname: noon\nsteps:\n  - strike: 5"

abbrev lent : ℕ → ℕ → ℕ → Answer Print
lent work room places = scenario work room places (bytes try_out) >>= λ r. good (print r)

pub lent-hold : (lent 115 133 1 ∷ lent 114 133 1 ∷ lent 115 132 1 ∷ lent 115 133 0 ∷ [])
    ≡ (good (133, 115, 1, (4, 6) ∷ []) ∷ refused 50 0 0 ∷ refused 52 0 0 ∷ refused 51 0 0 ∷ [])
unfolding print steps_print step_fields built_in_steps Base-open Utf8-open White-open Item.Tree-open Encode-open Lines-open Integers-open Scalars-open Key-open Read-open Flow-open Literal-open Block-open Tree-open Record-open StepLines-open Meanings-open Scenario-open
lent-hold = refl

-- two writings of one meaning have one record
pub two-writings : (do
  r ← scenario 115 133 1 (bytes try_out)
  q ← scenario 115 133 1 (bytes "{schema: passportsim/scenario@1, name: noon, steps: [{strike: 5}]}")
  good (same (record_of r.meaning) (record_of q.meaning))) ≡ good true
unfolding step_fields built_in_steps Base-open Utf8-open White-open Item.Tree-open Encode-open Lines-open Integers-open Scalars-open Key-open Read-open Flow-open Literal-open Block-open Tree-open Record-open StepLines-open Meanings-open Scenario-open
two-writings = refl
