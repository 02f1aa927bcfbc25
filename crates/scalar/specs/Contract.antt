-- For contracts: the answer of a reader and the bytes that it wrote. Uses Base and Told of `refusal`; Tree and Encode of `item`; Writing of
-- `writer`; Integers of `number`; Scalars and Read of this crate. Assumes nothing.
use Rattle.std.specs.Prelude.{◌≡◌, ℕ, ◌≤◌, List, [], Bool, true, false, length, drop, Result, Ok, Err}
use Rattle.refusal.specs.Base.{Answer, good}
use Rattle.refusal.specs.Told.{refusal}
use Rattle.refusal.specs.declared.Refusal.{Refusal}
use Rattle.item.specs.Tree.{Yaml, null, bool, int, str, seq, dict}
use Rattle.item.specs.Encode.{item, encode}
use Rattle.writer.specs.declared.Writer.{Writer}
use Rattle.writer.specs.Writing.{Appends, Keeps}
use Rattle.number.specs.Integers.{int_text}
use Rattle.scalar.specs.declared.Role.{Role}
use Rattle.scalar.specs.declared.Role.TheVariants.{AsValue, AsKey}
use Rattle.scalar.specs.declared.Stops.{Stops}
use Rattle.scalar.specs.declared.Stops.TheVariants.{AtLineEnd, InFlow}
use Rattle.scalar.specs.declared.Quote.{Quote}
use Rattle.scalar.specs.declared.Quote.TheVariants.{Single, Double}
use Rattle.scalar.specs.declared.Parsed.{Parsed}
use Rattle.scalar.specs.Scalars.{bool_text}
use Rattle.scalar.specs.Read.{Got, double_quoted, single_quoted}

-- the bytes that a value is written as: its item; a key the item of its text, a null key nothing
unfoldable pub written : Role → Yaml → List ℕ
written AsValue y = encode y
written AsKey null = []
written AsKey (bool b) = item 3 (bool_text b)
written AsKey (int z) = item 3 (int_text z)
written AsKey (str s) = item 3 s
written AsKey (seq ys) = encode (seq ys)
written AsKey (dict es) = encode (dict es)

-- whether a value can be a key: it has a text
unfoldable pub is_key : Yaml → Bool
is_key null = false
is_key (bool b) = true
is_key (int z) = true
is_key (str s) = true
is_key (seq ys) = false
is_key (dict es) = false

-- whether plain text stops as in a collection
abbrev pub is_in_flow : Stops → Bool
is_in_flow AtLineEnd = false
is_in_flow InFlow = true

-- a string's bytes behind its opening quote
abbrev pub quoted_of : Quote → ℕ → ℕ → List ℕ → Answer (List ℕ × List ℕ)
quoted_of Single cap line bs = single_quoted cap line false bs
quoted_of Double cap line bs = double_quoted cap line false bs

-- a refusal; what was written before is kept
pub record Refuses {A : Type 0} (answer : Answer A) (old new : Writer) (e : Refusal) : Type 0 where
  pub is : answer ≡ refusal e
  pub keeps : Keeps old new

-- a value read from `s` up to `next`, and written behind what was written before
pub record WroteValue (role : Role) (answer : Answer (Got Yaml)) (s : List ℕ) (old new : Writer) (next : ℕ) (key : Bool) : Type 0 where
  pub tree : Yaml
  pub is : answer ≡ good (tree, new.used, drop next s)
  pub appends : Appends old new (written role tree)
  pub forward : next ≤ length s
  pub keyed : key ≡ is_key tree

-- what the definition answers, the code does
abbrev pub ReadsValue : Role → Answer (Got Yaml) → List ℕ → Writer → Writer → Result Parsed Refusal → Type 0
ReadsValue role answer s old new (Ok p) = WroteValue role answer s old new p.next p.key
ReadsValue role answer s old new (Err e) = Refuses answer old new e
