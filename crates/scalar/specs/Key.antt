-- Section 2 of document 01: the search for a key's end (`key_end`). Uses Base of `refusal`. Assumes nothing.
use Rattle.std.specs.Prelude.{ℕ, suc, ◌-◌, List, [], ◌∷◌, Bool, true, false, ◌&&◌, ◌||◌, not, eqb, if◌then◌else◌}
use Rattle.std.proofs.Math.Option.{Option, none, some}
use Rattle.refusal.specs.Base.{ch}

-- the quote that is open behind a byte: 0 for none, else the byte that closes it
unfoldable pub quote_after : ℕ → ℕ → ℕ
quote_after q b =
    if eqb q 0 then (if eqb b (ch "'") || eqb b (ch "\"") then b else 0)
    else if eqb b q then 0 else q

unfoldable pub opens : ℕ → Bool
opens b = eqb b (ch "{") || eqb b (ch "[")

unfoldable pub closes : ℕ → Bool
closes b = eqb b (ch "}") || eqb b (ch "]")

unfoldable pub last_or_space : List ℕ → Bool
last_or_space [] = true
last_or_space (b ∷ bs) = eqb b (ch " ")

unfoldable pub depth_after : ℕ → ℕ → ℕ → ℕ
depth_after q depth b =
    if not (eqb q 0) then depth
    else if opens b then suc depth
    else if closes b then depth - 1
    else depth

-- a text that begins with a colon that qualifies, in the quote `q` and with `depth` brackets open
unfoldable pub qualifies : ℕ → ℕ → List ℕ → Bool
qualifies q depth [] = false
qualifies q depth (b ∷ bs) = eqb q 0 && eqb b (ch ":") && eqb depth 0 && last_or_space bs

-- `at` bytes are passed; here `\` hides nothing
unfoldable pub key_end_from : ℕ → ℕ → ℕ → List ℕ → Option ℕ
key_end_from q depth at [] = none
key_end_from q depth at (b ∷ bs) =
    if qualifies q depth (b ∷ bs) then some at
    else key_end_from (quote_after q b) (depth_after q depth b) (suc at) bs

unfoldable pub key_end : List ℕ → Option ℕ
key_end s = key_end_from 0 0 0 s
