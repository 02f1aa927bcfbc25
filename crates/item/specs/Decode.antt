-- Section 5 of document 01, kinds 0 to 5, read back: a tree of at most so many levels in front of a list of bytes, and what is left behind
-- it. Uses Tree and Encode of this crate. Assumes nothing.
use Rattle.std.specs.Prelude.{ℕ, zero, suc, ◌-◌, ◌^◌, List, [], ◌∷◌, Bool, true, false, ◌&&◌, ltb, leb, eqb, length, take, drop, ℤ, pos, negsuc, if◌then◌else◌}
use Rattle.std.proofs.Math.Option.{Option, none, some}
use Rattle.item.specs.Tree.{Yaml, null, bool, int, str, seq, dict, Items, end, ◌▸◌, Entries, done, pair}
use Rattle.item.specs.Encode.{number}

infixl 20 ◌>>=◌
unfoldable pub ◌>>=◌ : {A B : Type 0} → Option A → (A → Option B) → Option B
none >>= f = none
some a >>= f = f a

-- an item's kind, its content and what is left; none where the bytes end inside it
unfoldable pub header : List ℕ → Option (ℕ × List ℕ × List ℕ)
header bs =
    if leb 6 (length bs) && leb (number (take 4 bs)) (length bs - 6)
    then some (number (take 2 (drop 4 bs)), take (number (take 4 bs)) (drop 6 bs), drop (number (take 4 bs)) (drop 6 bs))
    else none

-- content of no bytes
unfoldable pub nothing : {A : Type 0} → A → List ℕ → Option A
nothing a [] = some a
nothing a (b ∷ bs) = none

-- one byte 0 or 1
unfoldable pub unflag : List ℕ → Option Bool
unflag [] = none
unflag (zero ∷ bs) = nothing false bs
unflag (suc zero ∷ bs) = nothing true bs
unflag (suc (suc n) ∷ bs) = none

unfoldable pub untwos : ℕ → ℤ
untwos n = if ltb n (2 ^ 63) then pos n else negsuc (0xffff_ffff_ffff_ffff - n)

-- 8 bytes
unfoldable pub unint : List ℕ → Option ℤ
unint bs = if eqb (length bs) 8 then some (untwos (number bs)) else none

-- a kind 3 item's content, and what is left
unfoldable pub unkey : List ℕ → Option (List ℕ × List ℕ)
unkey bs = do
  (kind, s, rest) ← header bs
  if eqb kind 3 then some (s, rest) else none

abbrev pub Decoder : Type 0 → Type 0
Decoder A = List ℕ → Option (A × List ℕ)

-- items up to the end; `turns` is at least the number of bytes
unfoldable pub decode_items : Decoder Yaml → ℕ → List ℕ → Option Items
decode_items inside zero [] = some end
decode_items inside zero (b ∷ bs) = none
decode_items inside (suc turns) [] = some end
decode_items inside (suc turns) (b ∷ bs) = do
  (y, rest) ← inside (b ∷ bs)
  ys ← decode_items inside turns rest
  some (y ▸ ys)

-- keys and values in turn
unfoldable pub decode_entries : Decoder Yaml → ℕ → List ℕ → Option Entries
decode_entries inside zero [] = some done
decode_entries inside zero (b ∷ bs) = none
decode_entries inside (suc turns) [] = some done
decode_entries inside (suc turns) (b ∷ bs) = do
  (k, rest₁) ← unkey (b ∷ bs)
  (v, rest₂) ← inside rest₁
  es ← decode_entries inside turns rest₂
  some (pair k v es)

-- `inside` reads the items of a collection, where one may stand here
unfoldable pub content_of : Option (Decoder Yaml) → ℕ → List ℕ → Option Yaml
content_of inside kind s =
    if eqb kind 0 then nothing null s
    else if eqb kind 1 then (unflag s >>= λ b. some (bool b))
    else if eqb kind 2 then (unint s >>= λ z. some (int z))
    else if eqb kind 3 then some (str s)
    else if eqb kind 4 then (inside >>= λ f. decode_items f (length s) s >>= λ ys. some (seq ys))
    else if eqb kind 5 then (inside >>= λ f. decode_entries f (length s) s >>= λ es. some (dict es))
    else none

unfoldable pub node : Option (Decoder Yaml) → Decoder Yaml
node inside bs = do
  (kind, s, rest) ← header bs
  y ← content_of inside kind s
  some (y, rest)

unfoldable pub decode : ℕ → Decoder Yaml
decode zero bs = node none bs
decode (suc levels) bs = node (some (λ r. decode levels r)) bs
