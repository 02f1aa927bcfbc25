-- Section 5 of document 01, for contracts: encoded items side by side in some bytes, where they stand, and what was found among them. Uses
-- Base of `refusal`; Tree, Encode and Places of `item`. Assumes nothing.
use Rattle.std.specs.Prelude.{◌≡◌, ℕ, zero, suc, ◌+◌, ◌≤◌, ◌^◌, List, [], ◌∷◌, ◌++◌, length, drop, Bool, false, ◌||◌, if◌then◌else◌, Option as StdOption, None, Some, Result, Ok, Err}
use Rattle.std.proofs.Math.Option.{Option, none, some}
use Rattle.refusal.specs.Base.{same}
use Rattle.item.specs.Tree.{Shape, Node, Yaml, null, bool, int, str, seq, dict, Entries, done, pair, has_key, Ranged}
use Rattle.item.specs.Encode.{le, twos, flag, encode, kind_of}
use Rattle.item.specs.Places.{header_at}
use Rattle.item.specs.declared.Item.{Item}
use Rattle.item.specs.declared.Broken.{Broken}
use Rattle.item.specs.declared.Found.{Found}
use Rattle.item.specs.declared.encoded.Part.{Part}
use Rattle.item.specs.declared.Found.TheVariants as found
use Rattle.entries.specs.declared.Pair.{Pair}
use Rattle.entries.specs.declared.Span.{Span}

-- bytes that stand at a place of others
pub record Stands (s : List ℕ) (p : ℕ) (b : List ℕ) : Type 0 where
  pub rest : List ℕ
  pub here : drop p s ≡ b ++ rest
  pub within : p + length b ≤ length s

-- the content of a value's item
unfoldable pub content : Yaml → List ℕ
content null = []
content (bool b) = flag b ∷ []
content (int z) = le 8 (twos z)
content (str t) = t
content (seq ys) = encode ys
content (dict es) = encode es

-- a value, items or entries that stand from a place to another
pub record Lies {sh : Shape} (s : List ℕ) (from to : ℕ) (n : Node sh) : Type 0 where
  pub stands : Stands s from (encode n)
  pub ends : to ≡ from + length (encode n)

-- the same with integers of 64 bits
pub record Holds {sh : Shape} (s : List ℕ) (from to : ℕ) (n : Node sh) : Type 0 where
  pub ranged : Ranged n
  pub lies : Lies s from to n

-- the same of what stands in a part
abbrev pub LiesIn : {sh : Shape} → Part → Node sh → Type 0
LiesIn part n = Lies part.bytes.now part.from part.to n

abbrev pub HoldsIn : {sh : Shape} → Part → Node sh → Type 0
HoldsIn part n = Holds part.bytes.now part.from part.to n

-- ---- an entry

-- the entry at a place, by its key's header and its value's
unfoldable pub with_value : Item → Result Item Broken → Result Pair Broken
with_value key (Ok value) = Ok (record { start = key.from; end = key.to; kind = value.kind; next = value.to })
with_value key (Err broken) = Err broken

unfoldable pub with_key : List ℕ → Result Item Broken → Result Pair Broken
with_key s (Ok key) = with_value key (header_at s key.to)
with_key s (Err broken) = Err broken

unfoldable pub pair_at : List ℕ → ℕ → Result Pair Broken
pair_at s at = with_key s (header_at s at)

-- its places, whatever stands there
pub record Places (s : List ℕ) (at start end next : ℕ) : Type 0 where
  pub first : start ≡ at + 6
  pub key : start ≤ end
  pub value : end + 6 ≤ next
  pub inside : next ≤ length s

abbrev pub PairPlaces : List ℕ → ℕ → Result Pair Broken → Type 0
PairPlaces s at (Ok entry) = Places s at entry.start entry.end entry.next
PairPlaces s at (Err broken) = Unit {0}

-- its places, where an entry stands
pub record Paired (s : List ℕ) (at : ℕ) (r : Result Pair Broken) : Type 0 where
  pub is : (k : List ℕ) (v : Yaml) (es : Entries) → length s ≤ 2 ^ 20 → Stands s at (encode (pair k v es))
      → r ≡ Ok (record { start = at + 6; end = at + 6 + length k; kind = kind_of v; next = at + 6 + length k + length (encode v) })

-- ---- a key's value

-- of entries from a place on, where the value beside a key begins
unfoldable pub place_of : List ℕ → ℕ → Entries → Found
place_of key at done = found.Nothing
place_of key at (pair k v es) = if same k key then found.At (at + 6 + length k) else place_of key (at + 6 + length k + length (encode v)) es

-- it stands at a place
pub record SoughtAt (s : List ℕ) (o : Option Yaml) (p : ℕ) : Type 0 where
  pub value : Yaml
  pub is : o ≡ some value
  pub stands : Stands s p (encode value)

abbrev pub Seeks : List ℕ → Option Yaml → Found → Type 0
Seeks s o (found.At p) = SoughtAt s o p
Seeks s o found.Nothing = o ≡ none

-- the same with integers of 64 bits
pub record FoundAt (s : List ℕ) (o : Option Yaml) (p : ℕ) : Type 0 where
  pub value : Yaml
  pub is : o ≡ some value
  pub ranged : Ranged value
  pub stands : Stands s p (encode value)

abbrev pub Finds : List ℕ → Option Yaml → Found → Type 0
Finds s o (found.At p) = FoundAt s o p
Finds s o found.Nothing = o ≡ none

-- a place in the bytes, whatever they are
abbrev pub FoundInside : List ℕ → Found → Type 0
FoundInside s (found.At p) = p ≤ length s
FoundInside s found.Nothing = Unit {0}

-- a key that stands twice
unfoldable pub key_twice : Entries → Bool
key_twice done = false
key_twice (pair k v es) = has_key k es || key_twice es

-- ---- the n-th item

-- the item at a place, by its header
unfoldable pub span_at : ℕ → Result Item Broken → StdOption Span
span_at at (Ok item) = Some (record { start = at; end = item.to })
span_at at (Err broken) = None

unfoldable pub behind : Result Item Broken → (ℕ → StdOption Span) → StdOption Span
behind (Ok item) more = more item.to
behind (Err broken) more = None

-- the item behind so many others
unfoldable pub nth_item : List ℕ → ℕ → ℕ → StdOption Span
nth_item s at zero = span_at at (header_at s at)
nth_item s at (suc skip) = behind (header_at s at) (λ to. nth_item s to skip)
