-- Section 2 of document 01: one line's scalars, and what they add to the running sum of refusal 50. Uses Base of `refusal`; White of
-- `utf8`; Tree of `item`; Integers of `number`; Scalars of this crate. Assumes nothing.
use Rattle.std.specs.Prelude.{ℕ, ◌+◌, List, [], ◌∷◌, Bool, true, false, ◌&&◌, ◌||◌, leb, eqb, length, if◌then◌else◌}
use Rattle.std.proofs.Math.Option.{Option, none, some}
use Rattle.refusal.specs.Base.{Answer, good, refused, ◌>>=◌, ch}
use Rattle.utf8.specs.White.{trim}
use Rattle.item.specs.Tree.{Yaml, null, bool, int, str, seq, dict}
use Rattle.number.specs.Integers.{int_text}
use Rattle.scalar.specs.declared.Role.{Role}
use Rattle.scalar.specs.declared.Role.TheVariants.{AsValue, AsKey}
use Rattle.scalar.specs.Scalars.{scalar_of, bool_text}

-- ---- what a reading adds to the running sum, and refusal 50

-- a scalar adds its item's size, a key as its text, a null key nothing; a collection has added 6 when it was opened
unfoldable pub cost : Role → Yaml → ℕ
cost AsValue null = 6
cost AsValue (bool b) = 7
cost AsValue (int z) = 14
cost AsValue (str s) = 6 + length s
cost AsValue (seq ys) = 0
cost AsValue (dict es) = 0
cost AsKey null = 0
cost AsKey (bool b) = 6 + length (bool_text b)
cost AsKey (int z) = 6 + length (int_text z)
cost AsKey (str s) = 6 + length s
cost AsKey (seq ys) = 0
cost AsKey (dict es) = 0

-- ---- scalars

unfoldable pub skip_spaces : List ℕ → List ℕ
skip_spaces [] = []
skip_spaces (b ∷ bs) = if eqb b (ch " ") then skip_spaces bs else b ∷ bs

unfoldable pub ends_item : ℕ → Bool
ends_item b = eqb b (ch ",") || eqb b (ch "}") || eqb b (ch "]")

unfoldable pub ends_colon : List ℕ → Bool
ends_colon [] = true
ends_colon (b ∷ bs) = eqb b (ch " ") || ends_item b

-- a byte, with what follows it, at which plain text stops in flow
unfoldable pub stops_plain : ℕ → List ℕ → Bool
stops_plain b bs = ends_item b || (eqb b (ch ":") && ends_colon bs)

abbrev pub onto : ℕ → List ℕ × List ℕ → List ℕ × List ℕ
onto b (t, rest) = (b ∷ t, rest)

-- plain text and what is left; `in_flow` says whether a collection is open
unfoldable pub plain_text : Bool → List ℕ → List ℕ × List ℕ
plain_text in_flow [] = ([], [])
plain_text in_flow (b ∷ bs) =
    if in_flow && stops_plain b bs then ([], b ∷ bs)
    else onto b (plain_text in_flow bs)

unfoldable pub escape : ℕ → Option ℕ
escape c =
    if eqb c (ch "n") then some (ch "\n")
    else if eqb c (ch "t") then some (ch "\t")
    else if eqb c (ch "r") then some (ch "\r")
    else if eqb c (ch "0") then some 0
    else if eqb c (ch "\"") || eqb c (ch "\\") || eqb c (ch "/") then some c
    else none

-- a value that was read, the running sum, and the bytes that are left
abbrev pub Got : Type 0 → Type 0
Got A = A × ℕ × List ℕ

abbrev pub Reader : Type 0
Reader = Role → ℕ → List ℕ → Answer (Got Yaml)

-- the running sum with `k` more, against the `cap` bytes of work
unfoldable pub charge : ℕ → ℕ → ℕ → Answer ℕ
charge cap sum k = if leb (sum + k) cap then good (sum + k) else refused 50 0 0

-- the rest of the line is read with `cap` bytes of work, and is the text's line `number`
module _ (cap number : ℕ) where
  unfoldable pub stop : {A : Type 0} → ℕ → Answer A
  stop k = refused k number 0

  unfoldable pub scalar : Role → ℕ → Yaml → List ℕ → Answer (Got Yaml)
  scalar role sum y rest = do
    sum' ← charge cap sum (cost role y)
    good (y, sum', rest)

  abbrev pub onto_good : ℕ → Answer (List ℕ × List ℕ) → Answer (List ℕ × List ℕ)
  onto_good b (good (t, rest)) = good (b ∷ t, rest)
  onto_good b (refused k l s) = refused k l s

  abbrev pub onto_escape : Option ℕ → Answer (List ℕ × List ℕ) → Answer (List ℕ × List ℕ)
  onto_escape none t = stop 12
  onto_escape (some e) t = onto_good e t

  -- a string's bytes behind its opening quote, and what is left; `hid` says that a `\` stands before
  unfoldable pub double_quoted : Bool → List ℕ → Answer (List ℕ × List ℕ)
  double_quoted true [] = stop 11
  double_quoted false [] = stop 13
  double_quoted true (b ∷ bs) = onto_escape (escape b) (double_quoted false bs)
  double_quoted false (b ∷ bs) =
      if eqb b (ch "\"") then good ([], bs)
      else if eqb b (ch "\\") then double_quoted true bs
      else onto_good b (double_quoted false bs)

  -- `shut` says that a `'` stands before, which either closes or is the first of two
  unfoldable pub single_quoted : Bool → List ℕ → Answer (List ℕ × List ℕ)
  single_quoted true [] = good ([], [])
  single_quoted false [] = stop 13
  single_quoted true (b ∷ bs) =
      if eqb b (ch "'") then onto_good b (single_quoted false bs) else good ([], b ∷ bs)
  single_quoted false (b ∷ bs) =
      if eqb b (ch "'") then single_quoted true bs else onto_good b (single_quoted false bs)

  unfoldable pub plain : Bool → Role → ℕ → List ℕ → Answer (Got Yaml)
  plain in_flow role sum bs = let (t, rest) = plain_text in_flow bs in scalar role sum (scalar_of (trim t)) rest

  unfoldable pub string : Role → ℕ → Answer (List ℕ × List ℕ) → Answer (Got Yaml)
  string role sum t = do
    (s, rest) ← t
    scalar role sum (str s) rest
