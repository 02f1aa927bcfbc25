-- Section 5 of document 01, for the contracts inside the crate: the bits by which keys are told to be new, the classes in which they are
-- judged, and the order in which they are looked up. Uses Tree of `item`, and Entries. Assumes nothing.
use Rattle.std.specs.Prelude.{◌≡◌, ℕ, ◌+◌, ◌*◌, ◌-◌, ◌/◌, ◌%◌, ◌^◌, ◌≤◌, ◌<◌, List, [], ◌∷◌, Bool, true, false, ◌&&◌, ◌||◌, eqb, length, take, drop, get_or, Option, Some, None, Result, Ok, Err}
use Rattle.std.specs.Int.Bits.{bit_and, bit_or}
use Rattle.std.specs.declared.cmp.Ordering.{Ordering}
use Rattle.std.specs.declared.cmp.Ordering.TheVariants.{Less}
use Rattle.std.specs.Ordering.{ordering_then, nat_cmp}
use Rattle.std.specs.Cmp.Lexicographic.{slice_cmp}
use Rattle.item.specs.Tree.{Entries, done, pair, has_key}
use Rattle.entries.specs.Entries.{Lies, key_twice}
use Rattle.entries.specs.declared.sorted.KeyPlace.{KeyPlace}

-- a key's hash
unfoldable pub hash_from : ℕ → List ℕ → ℕ
hash_from h [] = h
hash_from h (b ∷ bs) = hash_from ((h + b + 1) * 16777619 % 2 ^ 32) bs

unfoldable pub hash_of : List ℕ → ℕ
hash_of k = hash_from 0 k

-- the bits of a hash in its word, as shifts make them
unfoldable pub bit : ℕ → ℕ
bit n = 1 * 2 ^ (n % 2 ^ 6) % 2 ^ 64

unfoldable pub bits_of : ℕ → ℕ
bits_of h = bit_or (bit_or (bit (h / 2 ^ 11)) (bit (h / 2 ^ 17))) (bit (h / 2 ^ 23))

-- words that have the bits of a hash
unfoldable pub Has : List ℕ → ℕ → Type 0
Has seen h = bit_and (get_or seen (h % 2 ^ 11) 0) (bits_of h) ≡ bits_of h

-- words before and after the bits of a hash are put in, and whether it had them before
pub record Marked (old new : List ℕ) (h : ℕ) (had : Bool) : Type 0 where
  pub size : length new ≡ length old
  pub here : Has new h
  pub kept : (g : ℕ) → Has old g → Has new g
  pub told : Has old h → had ≡ false → ⊥

-- a key of a kind that stands twice
unfoldable pub twice_in : (List ℕ → Bool) → Entries → Bool
twice_in p done = false
twice_in p (pair k v es) = (p k && has_key k es) || twice_in p es

-- the class of a key
unfoldable pub of_class : ℕ → ℕ → List ℕ → Bool
of_class class last k = eqb (bit_and (hash_of k / 2 ^ 28) last) class

-- ---- keys in their order

-- the shorter is below; of one length, byte by byte
abbrev pub key_cmp : List ℕ → List ℕ → Ordering
key_cmp a b = ordering_then (nat_cmp (length a) (length b)) (slice_cmp nat_cmp a b)

-- a key's places that lie within some bytes
pub record Inside (s : List ℕ) (place : KeyPlace) : Type 0 where
  pub order : place.start ≤ place.end
  pub fits : place.end ≤ length s

-- a key by its places
unfoldable pub key_of : List ℕ → KeyPlace → List ℕ
key_of s place = take (place.end - place.start) (drop place.start s)

abbrev pub blank : KeyPlace
blank = record { start = 0; end = 0 }

-- the i-th of some keys
abbrev pub key_in : List ℕ → List KeyPlace → ℕ → List ℕ
key_in s run i = key_of s (get_or run i blank)

-- the first places of some, of keys that rise
pub record InOrder (s : List ℕ) (run : List KeyPlace) (n : ℕ) : Type 0 where
  pub size : length run ≡ 2 ^ 11
  pub few : n ≤ 2 ^ 11
  pub inside : (i : ℕ) → i < n → Inside s (get_or run i blank)
  pub rising : (i j : ℕ) → i < j → j < n → key_cmp (key_in s run i) (key_in s run j) ≡ Less

-- a key that is one of them
pub record Held (s : List ℕ) (run : List KeyPlace) (n : ℕ) (key : List ℕ) : Type 0 where
  pub index : ℕ
  pub below : index < n
  pub is : key_in s run index ≡ key

-- the index of a key that is none of them
pub record Gap (s : List ℕ) (run : List KeyPlace) (n : ℕ) (key : List ℕ) (index : ℕ) : Type 0 where
  pub within : index ≤ n
  pub before : (i : ℕ) → i < index → key_cmp (key_in s run i) key ≡ Less
  pub behind : (i : ℕ) → index ≤ i → i < n → key_cmp key (key_in s run i) ≡ Less

abbrev pub Located : List ℕ → List KeyPlace → ℕ → List ℕ → Result ℕ ℕ → Type 0
Located s run n key (Ok index) = Held s run n key
Located s run n key (Err index) = Gap s run n key index

-- places before and after one is put in among the first of them
pub record Inserted (old new : List KeyPlace) (n index : ℕ) (place : KeyPlace) : Type 0 where
  pub size : length new ≡ length old
  pub before : (i : ℕ) → i < index → get_or new i blank ≡ get_or old i blank
  pub here : get_or new index blank ≡ place
  pub behind : (i : ℕ) → index ≤ i → i < n → get_or new (i + 1) blank ≡ get_or old i blank

-- ---- entries in chunks

-- what is left decides as all of it does
pub record LeftOver (s : List ℕ) (to at : ℕ) (es : Entries) : Type 0 where
  pub rest : Entries
  pub lies : Lies s at to rest
  pub whole : key_twice es ≡ key_twice rest

abbrev pub AgreesChunk : List ℕ → ℕ → Entries → Option ℕ → Type 0
AgreesChunk s to es None = key_twice es ≡ true
AgreesChunk s to es (Some behind) = LeftOver s to behind es
