-- Document 01, "Answers" and section 5: a list of command names, which is what bytes must be that are lent as one; any others are refused
-- with 40. Uses Decode of `item`; Read of `record`. Assumes nothing.
use Rattle.std.specs.Prelude.{ℕ, List}
use Rattle.std.proofs.Math.Option.{Option}
use Rattle.item.specs.Decode.{◌>>=◌, nothing}
use Rattle.record.specs.Read.{field_of, as_text, in_item, all}

-- names that fill some bytes exactly: kind 3 items of UTF-8; they may be equal, and may be any number
abbrev pub filled : List ℕ → Option (List (List ℕ))
filled s = all (field_of as_text 0) s

-- a kind 4 item, nothing behind it
unfoldable pub names_in : List ℕ → Option (List (List ℕ))
names_in b = do
  (names, rest) ← in_item 4 (λ s. filled s) b
  nothing names rest
