-- Section 4 of document 01, for contracts: what is read of a tree, and what is written of it. Uses Base and Told of `refusal`; Tree and
-- Encode of `item`; Integers of `number`; Scalars of `scalar`; Entries of `entries`; Meanings of `meaning`; Writing of this crate. Assumes nothing.
use Rattle.std.specs.Prelude.{◌≡◌, ◌≢◌, ℕ, ◌+◌, ◌-◌, List, length, ⊤, Option as Maybe, Some, None, Result, Ok, Err}
use Rattle.std.proofs.Math.Option.{Option, none, some}
use Rattle.refusal.specs.Base.{Answer, good, maybe}
use Rattle.refusal.specs.Told.{refusal}
use Rattle.refusal.specs.declared.Refusal.{Refusal}
use Rattle.item.specs.Tree.{Yaml, null, bool, int, str, seq, dict, Items, Entries, Ranged}
use Rattle.item.specs.Encode.{encode, kind_of, signed}
use Rattle.item.specs.declared.encoded.Part.{Part}
use Rattle.item.specs.declared.Item.{Item}
use Rattle.item.specs.declared.Integer.{Integer}
use Rattle.number.specs.Integers.{int_text}
use Rattle.scalar.specs.Scalars.{bool_text, key_text}
use Rattle.entries.specs.Entries.{Stands, Holds, content}
use Rattle.meaning.specs.Meanings.{or_empty}
use Rattle.nodes.specs.declared.node.Node.{Node}
use Rattle.nodes.specs.declared.Scalar.{Scalar}
use Rattle.nodes.specs.declared.Scalar.TheVariants.{Bool, Int, Str}
use Rattle.nodes.specs.declared.output.RecordWriter.{RecordWriter}
use Rattle.nodes.specs.Writing.{Writes}

-- ---- what is read

-- the item that a value stands as
pub record IsItem (s : List ℕ) (y : Yaml) (item : Item) : Type 0 where
  pub kind_is : item.kind ≡ kind_of y
  pub stands : Stands s item.from (content y)
  pub ends : item.to ≡ item.from + length (content y)

-- a value with integers of 64 bits, and the node that it stands as
pub record IsNode (y : Yaml) (node : Node) : Type 0 where
  pub ranged : Ranged y
  pub item_is : IsItem node.bytes.now y node.item

-- a value that was looked for, and its node
pub record FoundNode (o : Option Yaml) (node : Node) : Type 0 where
  pub value : Yaml
  pub is : o ≡ some value
  pub node_is : IsNode value node
  pub whole : Stands node.bytes.now (node.item.from - 6) (encode value)

abbrev pub FindsNode : Option Yaml → Maybe Node → Type 0
FindsNode o (Some node) = FoundNode o node
FindsNode o None = o ≡ none

-- a value that stands in these bytes, if there is one
abbrev pub NodeOf : List ℕ → Maybe Node → Type 0
NodeOf s (Some node) = node.bytes.now ≡ s
NodeOf s None = Unit {0}

-- a mapping, and the part where its entries stand
pub record IsMapping (y : Yaml) (part : Part) : Type 0 where
  pub entries : Entries
  pub is : y ≡ dict entries
  pub holds : Holds part.bytes.now part.from part.to entries

abbrev pub AgreesMapping : Yaml → Maybe Part → Type 0
AgreesMapping y (Some part) = IsMapping y part
AgreesMapping y None = kind_of y ≢ 5

-- a sequence, and the part where its items stand
pub record IsItems (y : Yaml) (part : Part) : Type 0 where
  pub items : Items
  pub is : y ≡ seq items
  pub holds : Holds part.bytes.now part.from part.to items

abbrev pub AgreesItems : Yaml → Maybe Part → Type 0
AgreesItems y (Some part) = IsItems y part
AgreesItems y None = kind_of y ≢ 4

-- the integer that a value is; nothing else is one
abbrev pub AgreesInteger : Yaml → Maybe Integer → Type 0
AgreesInteger y (Some n) = y ≡ int (signed n.negative n.magnitude)
AgreesInteger y None = kind_of y ≢ 2

-- the scalar that a value is; null and collections are none
abbrev pub AgreesScalar : Yaml → Maybe Scalar → Type 0
AgreesScalar y None = none ≡ key_text y
AgreesScalar y (Some (Bool b)) = y ≡ bool b
AgreesScalar y (Some (Int n)) = y ≡ int (signed n.negative n.magnitude)
AgreesScalar y (Some (Str t)) = y ≡ str t.now

-- a scalar's text
abbrev pub text_of : Scalar → List ℕ
text_of (Bool b) = bool_text b
text_of (Int n) = int_text (signed n.negative n.magnitude)
text_of (Str t) = t.now

abbrev pub told_of : Maybe Scalar → Option (List ℕ)
told_of None = none
told_of (Some scalar) = some (text_of scalar)

-- a key's value, its scalar's text, and what stands in for none
abbrev pub or_null : Option Yaml → Yaml
or_null o = maybe o null (λ v. v)

abbrev pub scalar_text : Option Yaml → Option (List ℕ)
scalar_text o = maybe o none key_text

abbrev pub text_or_empty : Option Yaml → List ℕ
text_or_empty o = or_empty (scalar_text o)

-- what a value that was looked for comes to
pub record ReadsFound {A : Type 0} (of : Option Yaml → A) (node : Maybe Node) (a : A) : Type 0 where
  pub value : Option Yaml
  pub found : FindsNode value node
  pub is : a ≡ of value

-- ---- what is written

-- an answer, and what is written of it
pub record WrotePart {A : Type 0} (answer : Answer A) (write : A → List ℕ) (old new : RecordWriter) : Type 0 where
  pub read : A
  pub is : answer ≡ good read
  pub writes : Writes old new (write read)

abbrev pub AgreesPart : {A : Type 0} → Answer A → (A → List ℕ) → RecordWriter → RecordWriter → Result ⊤ Refusal → Type 0
AgreesPart answer write old new (Ok _) = WrotePart answer write old new
AgreesPart answer write old new (Err e) = answer ≡ refusal e
