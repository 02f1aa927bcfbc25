-- Section 2 of document 01, its last rules: scalars (`scalar_of`, `as_str`). Uses Base of `refusal`; Tree of `item`; Integers of `number`.
-- Assumes nothing.
use Rattle.std.specs.Prelude.{ℕ, List, [], ◌∷◌, Bool, true, false, ℤ, if◌then◌else◌}
use Rattle.std.proofs.Math.Option.{Option, none, some}
use Rattle.refusal.specs.Base.{bytes, one_of}
use Rattle.item.specs.Tree.{Yaml, null, bool, int, str, seq, dict}
use Rattle.number.specs.Integers.{integer, int_text}

-- ---- plain scalars

abbrev pub nulls : List (List ℕ)
nulls = [] ∷ bytes "~" ∷ bytes "null" ∷ bytes "Null" ∷ bytes "NULL" ∷ []

abbrev pub trues : List (List ℕ)
trues = bytes "true" ∷ bytes "True" ∷ bytes "TRUE" ∷ []

abbrev pub falses : List (List ℕ)
falses = bytes "false" ∷ bytes "False" ∷ bytes "FALSE" ∷ []

unfoldable pub int_or : List ℕ → Option ℤ → Yaml
int_or s none = str s
int_or s (some z) = int z

unfoldable pub scalar_of : List ℕ → Yaml
scalar_of s =
    if one_of s nulls then null
    else if one_of s trues then bool true
    else if one_of s falses then bool false
    else int_or s (integer s)

-- ---- scalars as texts

unfoldable pub bool_text : Bool → List ℕ
bool_text true = bytes "true"
bool_text false = bytes "false"

-- `as_str`: none for null and collections
unfoldable pub key_text : Yaml → Option (List ℕ)
key_text null = none
key_text (bool b) = some (bool_text b)
key_text (int z) = some (int_text z)
key_text (str s) = some s
key_text (seq ys) = none
key_text (dict es) = none
