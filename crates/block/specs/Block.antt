-- Section 3 of document 01: blocks (`parse_block`, `parse_seq`, `parse_map`, `read_entry`). Uses Base of `refusal`; White of `utf8`; Tree
-- of `item`; Lines and Dash of `lines`; Scalars, Key and Read of `scalar`; Flow of `flow`; Literal of `literal`. Assumes nothing.
use Rattle.std.specs.Prelude.{ℕ, zero, suc, ◌+◌, ◌-◌, List, [], ◌∷◌, Bool, true, false, ◌||◌, not, ltb, eqb, length, take, drop, if◌then◌else◌}
use Rattle.std.proofs.Math.Option.{Option, none, some}
use Rattle.refusal.specs.Base.{Answer, good, ◌>>=◌, ◌>>◌, ensure, given, maybe, ch, bytes, same, empty}
use Rattle.utf8.specs.White.{trim, trim_start}
use Rattle.item.specs.Tree.{Yaml, null, seq, dict, Items, end, ◌◂◌, Entries, done, pair, add}
use Rattle.lines.specs.Lines.{Line}
use Rattle.lines.specs.Dash.{dashed, is_dash}
use Rattle.scalar.specs.declared.Role.TheVariants.{AsValue, AsKey}
use Rattle.scalar.specs.Scalars.{key_text}
use Rattle.scalar.specs.Key.{key_end}
use Rattle.scalar.specs.Read.{charge}
use Rattle.flow.specs.Flow.{flow, fresh}
use Rattle.literal.specs.Literal.{Read, leaf, literal}

-- where the key of a line of this mapping ends: a line without a key end closes it, as does one at another indentation
unfoldable pub key_at : ℕ → Line → Option ℕ
key_at indent l = if eqb l.indent indent then key_end l.text else none

-- 15
unfoldable pub starts_complex : List ℕ → Bool
starts_complex [] = false
starts_complex (b ∷ bs) = eqb b (ch "?") || eqb b (ch "&") || eqb b (ch "*")

-- what can be read where `levels` more collections may be opened: a block, and the mapping of an entry behind a dash (its line's
-- number, its indentation, its text and the place of the colon there)
pub record Inside : Type 0 where
  pub levels : ℕ
  pub block : ℕ → List Line → Read Yaml
  pub inline : ℕ → ℕ → List ℕ → ℕ → ℕ → List Line → Read Yaml

-- with `cap` bytes of work
module _ (cap : ℕ) where
  -- one flow value, of line `n`
  unfoldable pub line_value : ℕ → ℕ → ℕ → List ℕ → List Line → Read Yaml
  line_value levels n sum t ls = do
    (y, sum') ← flow cap n levels AsValue sum t
    good (y, sum', ls)

  -- a value on a deeper line is read as a block again; without one it is null
  unfoldable pub child : Inside → ℕ → ℕ → List Line → Read Yaml
  child inside indent sum [] = leaf cap sum null []
  child inside indent sum (l ∷ ls) =
      if ltb indent l.indent then inside.block sum (l ∷ ls) else leaf cap sum null (l ∷ ls)

  -- ---- mappings

  -- 14, 15, the key's own refusals, 16
  unfoldable pub block_key : ℕ → ℕ → ℕ → List ℕ → Answer (List ℕ × ℕ)
  block_key levels n sum t = do
    ensure (not (empty t)) 14 n 0
    ensure (not (starts_complex t)) 15 n 0
    (k, sum') ← flow cap n levels AsKey sum t
    key ← given (key_text k) 16 n 0
    good (key, sum')

  -- the text behind the colon is a literal if `|` or `|-`, else a flow value unless empty
  unfoldable pub value_behind : Inside → ℕ → ℕ → ℕ → List ℕ → List Line → Read Yaml
  value_behind inside n indent sum t ls =
      if empty t then child inside indent sum ls
      else if same t (bytes "|") then literal cap false indent sum ls
      else if same t (bytes "|-") then literal cap true indent sum ls
      else line_value inside.levels n sum t ls

  -- the entry of a text whose key ends at `split`: the key before the colon and the text behind it are trimmed
  unfoldable pub entry_at : Inside → ℕ → ℕ → List ℕ → ℕ → ℕ → List Line → Read (List ℕ × Yaml)
  entry_at inside n indent t split sum ls = do
    (key, sum₁) ← block_key inside.levels n sum (trim (take split t))
    (v, sum₂, rest) ← value_behind inside n indent sum₁ (trim (drop (suc split) t)) ls
    good ((key, v), sum₂, rest)

  -- 18 comes after the entry's value; `more` takes the next turn
  unfoldable pub map_turn : Inside → ℕ → (Entries → ℕ → List Line → Read Entries) → Entries → ℕ → List Line → Read Entries
  map_turn inside indent more got sum [] = good (got, sum, [])
  map_turn inside indent more got sum (l ∷ ls) = maybe (key_at indent l) (good (got, sum, l ∷ ls)) λ split. do
    (e, sum', rest) ← entry_at inside l.number indent l.text split sum ls
    fresh cap l.number e.0 got
    more (add got e.0 e.1) sum' rest

  -- `turns` is at least the number of lines that are left: each turn takes one, so that they never run out (Progress)
  unfoldable pub map_lines : Inside → ℕ → ℕ → Entries → ℕ → List Line → Read Entries
  map_lines inside indent zero got sum ls = good (got, sum, ls)
  map_lines inside indent (suc turns) got sum ls = map_turn inside indent (λ g s r. map_lines inside indent turns g s r) got sum ls

  unfoldable pub entries_of : Inside → ℕ → ℕ → List Line → Read Entries
  entries_of inside indent sum ls = map_lines inside indent (length ls) done sum ls

  unfoldable pub block_map : Inside → ℕ → ℕ → List Line → Read Yaml
  block_map inside indent sum ls = do
    sum₁ ← charge cap sum 6
    (es, sum₂, rest) ← entries_of inside indent sum₁ ls
    good (dict es, sum₂, rest)

  -- `- k: v`: later keys stand under `k`; the first is held against them after all of them, at the dash's line
  unfoldable pub inline_map : Inside → ℕ → ℕ → List ℕ → ℕ → ℕ → List Line → Read Yaml
  inline_map inside n indent t split sum ls = do
    sum₁ ← charge cap sum 6
    (e, sum₂, ls₁) ← entry_at inside n indent t split sum₁ ls
    (es, sum₃, ls₂) ← entries_of inside indent sum₂ ls₁
    fresh cap n e.0 es
    good (dict (pair e.0 e.1 es), sum₃, ls₂)

  -- ---- sequences

  -- the text behind a dash: `k` stands so many bytes behind the line's indentation as it stands behind the dash
  unfoldable pub item_behind : Inside → Line → ℕ → List ℕ → List Line → Read Yaml
  item_behind inside l sum t ls =
      if empty t then child inside l.indent sum ls
      else maybe (key_end t) (line_value inside.levels l.number sum t ls)
      λ split. inside.inline l.number (l.indent + (length l.text - length t)) t split sum ls

  -- a sequence closes at a line without a dash, or at another indentation
  unfoldable pub seq_turn : Inside → ℕ → (Items → ℕ → List Line → Read Items) → Items → ℕ → List Line → Read Items
  seq_turn inside indent more got sum [] = good (got, sum, [])
  seq_turn inside indent more got sum (l ∷ ls) =
      if not (is_dash indent l) then good (got, sum, l ∷ ls)
      else do
        (y, sum', rest) ← item_behind inside l sum (trim_start (drop 1 l.text)) ls
        more (got ◂ y) sum' rest

  unfoldable pub seq_lines : Inside → ℕ → ℕ → Items → ℕ → List Line → Read Items
  seq_lines inside indent zero got sum ls = good (got, sum, ls)
  seq_lines inside indent (suc turns) got sum ls = seq_turn inside indent (λ g s r. seq_lines inside indent turns g s r) got sum ls

  unfoldable pub items_of : Inside → ℕ → ℕ → List Line → Read Items
  items_of inside indent sum ls = seq_lines inside indent (length ls) end sum ls

  unfoldable pub block_seq : Inside → ℕ → ℕ → List Line → Read Yaml
  block_seq inside indent sum ls = do
    sum₁ ← charge cap sum 6
    (ys, sum₂, rest) ← items_of inside indent sum₁ ls
    good (seq ys, sum₂, rest)

  -- ---- a block: a sequence, a mapping, or one flow value. Where no level is left there is no `inside`: 20

  unfoldable pub block_of : ℕ → Option Inside → ℕ → List Line → Read Yaml
  block_of levels inside sum [] = leaf cap sum null []
  block_of levels inside sum (l ∷ ls) =
      if dashed l.text then (given inside 20 l.number 0 >>= λ i. block_seq i l.indent sum (l ∷ ls))
      else maybe (key_end l.text) (line_value levels l.number sum l.text ls)
      λ split. given inside 20 l.number 0 >>= λ i. block_map i l.indent sum (l ∷ ls)

  unfoldable pub inline_of : Option Inside → ℕ → ℕ → List ℕ → ℕ → ℕ → List Line → Read Yaml
  inline_of inside n indent t split sum ls = given inside 20 n 0 >>= λ i. inline_map i n indent t split sum ls

  unfoldable pub inside_of : ℕ → Option Inside → Inside
  inside_of levels inside = record {
    levels = levels;
    block = λ s r. block_of levels inside s r;
    inline = λ n indent t split s r. inline_of inside n indent t split s r;
  }

  unfoldable pub within : ℕ → Inside
  within zero = inside_of 0 none
  within (suc levels) = inside_of (suc levels) (some (within levels))

  unfoldable pub block : ℕ → ℕ → List Line → Read Yaml
  block levels sum ls = (within levels).block sum ls
