-- What is written of the parts of a step. Assumes nothing.
use Rattle.std.proofs.Common.{◌≡◌, refl, sym, ap, ◌∙◌, ℕ, List, append-nil, Bool}
use Rattle.std.specs.Prelude.{Option as Maybe, Some}
use Rattle.std.proofs.Math.Option.{Option, none, some}
use Rattle.refusal.specs.Base.{maybe}
use Rattle.item.specs.Tree.{bool, Entries}
use Rattle.item.specs.Encode.{item, encode}
use Rattle.nodes.specs.declared.node.Node.{Node}
use Rattle.nodes.specs.declared.output.RecordWriter.{RecordWriter}
use Rattle.nodes.specs.Writing.{Writes, Opens, Closes}
use Rattle.nodes.specs.Contract.{FindsNode, ReadsFound, or_null}
use Rattle.nodes.proofs.Writing.{writes_is, writes_more, writes_item}
use Rattle.meaning.specs.Meaning.{Step}
use Rattle.meaning.specs.Meanings.{is_true}
use Rattle.meaning.specs.Record.{joined, optional, expected, text_item, step_parts, step_item}
use Rattle.step.specs.declared.parts.StepNodes.{StepNodes}
use Rattle.step.specs.Contract.{StepStands, mapping}

-- ---- the parts

pub key_item : {s k : List ℕ} → s ≡ k → item 3 s ≡ text_item k
unfolding text_item encode
key_item e = ap (item 3) e

pub value-read : {step : Step} {n : StepNodes} → StepStands step n → ReadsFound or_null (Some n.value) step.value
unfolding maybe
value-read {step} r = record { value = some step.value; found = record { value = step.value; is = refl; node_is = r.value; whole = r.whole }; is = refl }

pub flag_item : {place : Maybe Node} {flag b : Bool} (r : ReadsFound is_true place flag) → b ≡ is_true r.value → encode (bool b) ≡ encode (bool flag)
flag_item r e = ap (λ (x : Bool). encode (bool x)) (e ∙ sym r.is)

pub expected-read : {place : Maybe Node} (m : Option Entries) → FindsNode (mapping m) place → ReadsFound or_null place (expected m)
unfolding maybe expected mapping
expected-read none f = record { value = none; found = f; is = refl }
expected-read (some es) f = record { value = mapping (some es); found = f; is = refl }

-- ---- the item

pub step-written : {a b c d e f g h i j : RecordWriter} {header : ℕ} (step : Step) → Opens a b header → Writes b c (text_item step.name) → Writes c d (text_item step.id)
    → Writes d e (text_item step.key) → Writes e f (encode step.value) → Writes f g (encode (optional step.timeout)) → Writes g h (encode (bool step.continue))
    → Writes h i (encode (expected step.expect)) → Closes i j header 19 → Writes a j (step_item step)
unfolding step_item step_parts joined
step-written step o name id key value timeout continue expect r =
    writes_item o
    (writes_more name (writes_more id (writes_more key (writes_more value (writes_more timeout (writes_more continue (writes_is (sym (append-nil _)) expect)))))))
    r
