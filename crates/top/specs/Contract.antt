-- Section 4 of document 01, for contracts: what the readers and the writers of top keys promise. Uses Base and Told of `refusal`; Tree and
-- Encode of `item`; Entries of `entries`; Meaning, Record and Meanings of `meaning`; Contract of `nodes`. Assumes nothing.
use Rattle.std.specs.Prelude.{◌≡◌, ℕ, List, [], Bool, true, false, eqb, take, if◌then◌else◌, Option as Maybe, Some, None, Result, Ok, Err}
use Rattle.std.proofs.Math.Option.{Option, none, some}
use Rattle.refusal.specs.Base.{Answer, good, refused, bytes, same}
use Rattle.refusal.specs.Told.{refusal}
use Rattle.refusal.specs.declared.Refusal.{Refusal}
use Rattle.item.specs.Tree.{Yaml, Items, Entries}
use Rattle.item.specs.Encode.{kind_of}
use Rattle.item.specs.declared.encoded.Part.{Part}
use Rattle.entries.specs.Entries.{Holds}
use Rattle.nodes.specs.Contract.{NodeOf, ReadsFound, or_null, scalar_text, text_or_empty}
use Rattle.meaning.specs.Meaning as meaning
use Rattle.meaning.specs.Record.{fields}
use Rattle.meaning.specs.Meanings.{document, known_keys, scalar_at, check_schema, sequence_or, texts_of, Top, with_steps}
use Rattle.top.specs.declared.DefaultKey.{DefaultKey}
use Rattle.top.specs.declared.DefaultKey.TheVariants.{Timeout, WallBudget}
use Rattle.top.specs.declared.DefaultNodes.{DefaultNodes}
use Rattle.top.specs.declared.TopNodes.{TopNodes}

-- ---- the parts of a scenario where they stand

-- the texts of the items that stand in a part
pub record Tagged (part : Part) (ts : List (List ℕ)) : Type 0 where
  pub items : Items
  pub holds : Holds part.bytes.now part.from part.to items
  pub is : ts ≡ texts_of items

pub record DefaultsStand (d : meaning.Defaults) (nodes : DefaultNodes) : Type 0 where
  pub timeout : ReadsFound scalar_text nodes.timeout d.timeout
  pub wall_budget : ReadsFound scalar_text nodes.wall_budget d.wall_budget

pub record TopStands (t : Top) (nodes : TopNodes) : Type 0 where
  pub name : ReadsFound text_or_empty nodes.name t.name
  pub description : ReadsFound text_or_empty nodes.description t.description
  pub tags : Tagged nodes.tags t.tags
  pub image : ReadsFound text_or_empty nodes.image t.image
  pub setup : ReadsFound or_null nodes.setup t.setup
  pub defaults : DefaultsStand t.defaults nodes.defaults
  pub fail_on : Holds nodes.fail_on.bytes.now nodes.fail_on.from nodes.fail_on.to t.fail_on
  pub steps : Holds nodes.steps.bytes.now nodes.steps.from nodes.steps.to t.steps

-- a reading, and where the parts stand that it gives
pub record ReadsTop (answer : Answer Top) (nodes : TopNodes) : Type 0 where
  pub top : Top
  pub is : answer ≡ good top
  pub stands : TopStands top nodes

abbrev pub AgreesTop : Answer Top → Result TopNodes Refusal → Type 0
AgreesTop answer (Ok nodes) = ReadsTop answer nodes
AgreesTop answer (Err e) = answer ≡ refusal e

-- nodes and parts of these bytes, whatever they are
pub record DefaultsInside (s : List ℕ) (nodes : DefaultNodes) : Type 0 where
  pub timeout : NodeOf s nodes.timeout
  pub wall_budget : NodeOf s nodes.wall_budget

pub record TopInside (s : List ℕ) (nodes : TopNodes) : Type 0 where
  pub name : NodeOf s nodes.name
  pub description : NodeOf s nodes.description
  pub tags : nodes.tags.bytes.now ≡ s
  pub image : NodeOf s nodes.image
  pub setup : NodeOf s nodes.setup
  pub defaults : DefaultsInside s nodes.defaults
  pub fail_on : nodes.fail_on.bytes.now ≡ s
  pub steps : nodes.steps.bytes.now ≡ s

-- the fields of a record before its steps
unfoldable pub top_fields : Top → List (List ℕ)
top_fields t = take 7 (fields (with_steps t []))

-- ---- one value

-- a value other than null
unfoldable pub no_null : Option Yaml → Option Yaml
no_null none = none
no_null (some y) = if eqb (kind_of y) 0 then none else some y

-- ---- 22

abbrev pub KnownKeys : Entries → Bool → Type 0
KnownKeys es true = known_keys es ≡ good tt
KnownKeys es false = known_keys es ≡ refused 22 0 0

-- ---- 24, 25

-- whether there is a scalar, by its text
abbrev pub AgreesScalar : Option (List ℕ) → Bool → Type 0
AgreesScalar t true = (u : List ℕ) × (t ≡ some u)
AgreesScalar t false = t ≡ none

-- ---- 21 to 24

-- a tree whose entries 21 to 24 let pass
pub record Passed (y : Yaml) (es : Entries) : Type 0 where
  pub document_is : document y ≡ good es
  pub known : known_keys es ≡ good tt
  pub schema_is : check_schema (scalar_at (bytes "schema") es) ≡ good tt

-- ---- 26, 27, 31

-- a sequence or nothing, whatever number refuses another value
pub record IsSequence (o : Option Yaml) (part : Part) : Type 0 where
  pub items : Items
  pub is : (n : ℕ) → sequence_or n o ≡ good items
  pub holds : Holds part.bytes.now part.from part.to items

abbrev pub AgreesSequence : Option Yaml → Maybe Part → Type 0
AgreesSequence o (Some part) = IsSequence o part
AgreesSequence o None = (n : ℕ) → sequence_or n o ≡ refused n 0 0

-- ---- 28 to 30

unfoldable pub default_key : List ℕ → Maybe DefaultKey
default_key k = if same k (bytes "timeout") then Some Timeout else if same k (bytes "wall_budget") then Some WallBudget else None

-- the two defaults, and where they stand
pub record IsDefaults (answer : Answer meaning.Defaults) (nodes : DefaultNodes) : Type 0 where
  pub read : meaning.Defaults
  pub is : answer ≡ good read
  pub stands : DefaultsStand read nodes

abbrev pub AgreesDefaults : Answer meaning.Defaults → Result DefaultNodes Refusal → Type 0
AgreesDefaults answer (Ok nodes) = IsDefaults answer nodes
AgreesDefaults answer (Err e) = answer ≡ refusal e
