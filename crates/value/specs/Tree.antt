-- Section 5 of document 01: sound trees read back from bytes. Uses Base of `refusal`; Tree and Decode of `item`; Sound of `meaning`.
-- Assumes nothing.
use Rattle.std.specs.Prelude.{ℕ, zero, suc, List, Bool, false, length, if◌then◌else◌}
use Rattle.std.proofs.Math.Option.{Option, none, some}
use Rattle.refusal.specs.Base.{maybe}
use Rattle.item.specs.Tree.{Yaml}
use Rattle.item.specs.Decode.{◌>>=◌, Decoder, decode_items, decode_entries, content_of, decode}
use Rattle.meaning.specs.Sound.{sound}

-- a sound tree of at most so many levels, and what is left behind it
unfoldable pub tree : ℕ → Decoder Yaml
tree levels bs = do
  (y, rest) ← decode levels bs
  if sound y then some (y, rest) else none

-- what reads the items inside a collection, which is itself one of the levels
unfoldable pub inside : ℕ → Option (Decoder Yaml)
inside zero = none
inside (suc levels) = some (λ r. decode levels r)

-- whether this is the content of a sound value of a kind, or the items or the entries of a sound collection
unfoldable pub accepts : ℕ → ℕ → List ℕ → Bool
accepts levels kind s = maybe (content_of (inside levels) kind s) false sound

unfoldable pub accepts_items : ℕ → List ℕ → Bool
accepts_items levels s = maybe (decode_items (λ r. decode levels r) (length s) s) false sound

unfoldable pub accepts_entries : ℕ → List ℕ → Bool
accepts_entries levels s = maybe (decode_entries (λ r. decode levels r) (length s) s) false sound
