-- The starred try-out texts of document 01 in one table, with what P4 of document 02 makes of two of them and the one of P3, proved together
-- about the definitions of both jobs. Assumes nothing.
use Rattle.std.proofs.Common.{◌≡◌, refl, ℕ, List, [], ◌∷◌, map, pos, negsuc}
use Prim.Native.String.{String}
use Rattle.refusal.specs.Base.{Answer, good, refused, bytes}
use Rattle.refusal.proofs.Open.{Base-open}
use Rattle.utf8.proofs.Open.{Utf8-open, White-open}
use Rattle.item.specs.Tree.{Yaml, null, int, str, seq, dict, end, ◌▸◌, done, pair}
use Rattle.item.proofs.Open as Item
use Rattle.lines.proofs.Open.{Lines-open}
use Rattle.number.proofs.Open.{Integers-open}
use Rattle.scalar.proofs.Open.{Scalars-open, Key-open, Read-open}
use Rattle.flow.proofs.Open.{Flow-open}
use Rattle.literal.proofs.Open.{Literal-open}
use Rattle.block.proofs.Open.{Block-open}
use Rattle.tree.specs.Tree.{tree}
use Rattle.tree.proofs.Open.{Tree-open}
use Rattle.step_lines.proofs.Open.{StepLines-open}
use Rattle.meaning.proofs.Open.{Meanings-open}
use Rattle.scenario.specs.Scenario.{scenario, sizes_of}
use Rattle.scenario.proofs.Open.{Scenario-open}

-- a text, and what a job reads from it or tells of it, lent 65,536 bytes of each output and 512 line places
pub data Case : Type 0 where
  as_tree : String → Answer Yaml → Case
  as_scenario : String → Answer (ℕ × ℕ × ℕ × ℕ) → Case

-- the case as the definitions have it
unfoldable pub defined : Case → Case
defined (as_tree t a) = as_tree t (tree 65536 (bytes t))
defined (as_scenario t a) = as_scenario t (sizes_of (scenario 65536 65536 512 (bytes t)))

abbrev string : String → Yaml
string s = str (bytes s)

unfoldable pub starred : List Case
starred =
    as_tree "" (good null)
    ∷ as_scenario "" (refused 21 0 0)
    ∷ as_tree "[,]" (good (seq (null ▸ end)))
    ∷ as_tree "{,}" (refused 16 1 0)
    ∷ as_tree "[a: b]" (refused 19 1 0)
    ∷ as_tree "[}" (refused 19 1 0)
    ∷ as_tree "a: 007" (good (dict (pair (bytes "a") (string "007") done)))
    ∷ as_tree "5: a\n+5: b" (good (dict (pair (bytes "5") (string "a") (pair (bytes "+5") (string "b") done))))
    ∷ as_tree "-9223372036854775808" (good (int (negsuc 9223372036854775807)))
    ∷ as_tree "9223372036854775808" (good (string "9223372036854775808"))
    ∷ as_tree "a:\n- b: 1" (good (dict (pair (bytes "a") null (pair (bytes "- b") (int (pos 1)) done))))
    ∷ as_tree "- - a" (good (seq (string "- a" ▸ end)))
    ∷ as_tree "a: |\n x" (good (dict (pair (bytes "a") (string "x\n") done)))
    ∷ as_tree "a: |-\n x" (good (dict (pair (bytes "a") (string "x") done)))
    ∷ as_tree "\"a\\\"b\": 1" (refused 8 1 0)
    ∷ as_tree "a: |\n x\n\n   y" (good (dict (pair (bytes "a") (string "x\n\n  y\n") done)))
    ∷ []

pub starred-hold : map defined starred ≡ starred
unfolding starred defined sizes_of Base-open Utf8-open White-open Item.Tree-open Lines-open Integers-open Scalars-open Key-open Read-open Flow-open Literal-open Block-open Tree-open StepLines-open Meanings-open Scenario-open
starred-hold = refl
