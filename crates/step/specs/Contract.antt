-- Section 4 of document 01, for contracts: what the readers and the writers of a step promise. Uses Base and Told of `refusal`; Tree and
-- Encode of `item`; Entries of `entries`; Meaning and Meanings of `meaning`; Contract of `nodes`. Assumes nothing.
use Rattle.std.specs.Prelude.{◌≡◌, ℕ, ◌-◌, ◌≤◌, List, Bool, true, false, take, drop, Result, Ok, Err, Option as Maybe, Some, None}
use Rattle.std.proofs.Math.Option.{Option, none, some}
use Rattle.refusal.specs.Base.{Answer, good, refused, ensure, bytes}
use Rattle.refusal.specs.Told.{refusal}
use Rattle.refusal.specs.declared.Refusal.{Refusal}
use Rattle.item.specs.Tree.{Yaml, dict, Entries, Ranged, get}
use Rattle.item.specs.Encode.{encode}
use Rattle.item.specs.declared.Found.{Found}
use Rattle.item.specs.declared.Found.TheVariants as found
use Rattle.item.specs.declared.encoded.Part.{Part}
use Rattle.entries.specs.Entries.{Stands}
use Rattle.nodes.specs.declared.node.Node.{Node}
use Rattle.nodes.specs.Contract.{IsNode, NodeOf, FindsNode, ReadsFound, scalar_text, text_or_empty}
use Rattle.meaning.specs.Meaning.{Step}
use Rattle.meaning.specs.Meanings.{expect_of, commands, command_of, expect_allowed, is_true}
use Rattle.step.specs.declared.Command.{Command}
use Rattle.step.specs.declared.Command.TheVariants.{Nothing, One, More}
use Rattle.step.specs.declared.parts.StepFields.{StepFields}
use Rattle.step.specs.declared.parts.StepNodes.{StepNodes}
use Rattle.step.specs.declared.StepEntries.{StepEntries}

-- ---- a step by its values

-- a value that stands as a node, which is there
abbrev pub StandsAs : Yaml → Maybe Node → Type 0
StandsAs y (Some node) = IsNode y node
StandsAs y None = ⊥

-- a key's value that is absent or a mapping
unfoldable pub mapping : Option Entries → Option Yaml
mapping none = none
mapping (some es) = some (dict es)

pub record StepStands (step : Step) (n : StepNodes) : Type 0 where
  pub name : ReadsFound text_or_empty n.fields.name step.name
  pub id : ReadsFound text_or_empty n.fields.id step.id
  pub key : n.key.now ≡ step.key
  pub value : IsNode step.value n.value
  pub whole : Stands n.value.bytes.now (n.value.item.from - 6) (encode step.value)
  pub timeout : ReadsFound scalar_text n.fields.timeout step.timeout
  pub continue : ReadsFound is_true n.fields.continues step.continue
  pub expect : FindsNode (mapping step.expect) n.fields.expect

-- a reading, and the values of the step that it gives
pub record ReadsStep (answer : Answer Step) (n : StepNodes) : Type 0 where
  pub step : Step
  pub is : answer ≡ good step
  pub stands : StepStands step n

abbrev pub AgreesStep : Answer Step → Result StepNodes Refusal → Type 0
AgreesStep answer (Ok n) = ReadsStep answer n
AgreesStep answer (Err e) = answer ≡ refusal e

-- nodes of these bytes, whatever they are
pub record FieldsInside (s : List ℕ) (f : StepFields) : Type 0 where
  pub name : NodeOf s f.name
  pub id : NodeOf s f.id
  pub timeout : NodeOf s f.timeout
  pub continue : NodeOf s f.continues
  pub expect : NodeOf s f.expect

abbrev pub CommandInside : List ℕ → Maybe Part → Type 0
CommandInside s (Some key) = key.bytes.now ≡ s
CommandInside s None = Unit {0}

pub record EntriesInside (s : List ℕ) (e : StepEntries) : Type 0 where
  pub fields : FieldsInside s e.fields
  pub command : CommandInside s e.command

-- the same of a step, whose key stands in front of its value
pub record StepInside (s : List ℕ) (n : StepNodes) : Type 0 where
  pub fields : FieldsInside s n.fields
  pub value : n.value.bytes.now ≡ s
  pub start : ℕ
  pub order : start ≤ n.value.item.from - 6
  pub key : n.key.now ≡ take (n.value.item.from - 6 - start) (drop start s)

-- ---- 33

abbrev pub AgreesExpect : Option Yaml → Bool → Type 0
AgreesExpect o true = (m : Option Entries) × (o ≡ mapping m)
AgreesExpect o false = (line n : ℕ) → expect_of line n o ≡ refused 33 line n

-- ---- 34

-- an entry: the text of its key, and behind it its value
pub record EntryAt (s : List ℕ) (start end : ℕ) (k : List ℕ) (v : Yaml) : Type 0 where
  pub order : start ≤ end
  pub key : take (end - start) (drop start s) ≡ k
  pub ranged : Ranged v
  pub value : Stands s end (encode v)

-- the one command
pub record OneCommand (s : List ℕ) (cs : Entries) (key value : ℕ) : Type 0 where
  pub k : List ℕ
  pub v : Yaml
  pub is : (n : ℕ) → command_of n cs ≡ good (k, v)
  pub entry : EntryAt s key value k v

abbrev pub AgreesCommand : Entries → Maybe Part → Type 0
AgreesCommand cs (Some key) = OneCommand key.bytes.now cs key.from key.to
AgreesCommand cs None = (n : ℕ) → command_of n cs ≡ refused 34 0 n

-- ---- the fields of entries

-- with one entry more of its key: the first counts
abbrev pub field_with : Found → ℕ → Found
field_with (found.At p) value = found.At p
field_with found.Nothing value = found.At value

abbrev pub command_with : Command → ℕ → ℕ → Command
command_with Nothing key value = One key value
command_with (One k v) key value = More
command_with More key value = More

-- what is known of entries
pub record AgreesFields (es : Entries) (f : StepFields) : Type 0 where
  pub name : FindsNode (get (bytes "name") es) f.name
  pub id : FindsNode (get (bytes "id") es) f.id
  pub timeout : FindsNode (get (bytes "timeout") es) f.timeout
  pub continue : FindsNode (get (bytes "continue_on_error") es) f.continues
  pub expect : FindsNode (get (bytes "expect") es) f.expect

pub record AgreesEntries (es : Entries) (e : StepEntries) : Type 0 where
  pub fields : AgreesFields es e.fields
  pub command : AgreesCommand (commands es) e.command

-- ---- 35

abbrev pub AgreesAllowed : Maybe Node → List ℕ → Bool → Type 0
AgreesAllowed expect key r = (line n : ℕ) (m : Option Entries) → FindsNode (mapping m) expect → expect_allowed line n key m ≡ ensure r 35 line n
