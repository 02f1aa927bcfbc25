-- Section 2 of document 01: one line's value, its flow sequences and flow mappings (`Cursor`). Uses Base of `refusal`; Tree of `item`;
-- Scalars and Read of `scalar`. Assumes nothing.
use Rattle.std.specs.Prelude.{ℕ, zero, suc, List, [], ◌∷◌, Bool, true, false, ◌&&◌, ◌||◌, not, eqb, length, if◌then◌else◌}
use Rattle.std.proofs.Math.Option.{Option, none, some}
use Rattle.refusal.specs.Base.{Answer, good, ◌>>=◌, ◌>>◌, ensure, given, ch, empty}
use Rattle.item.specs.Tree.{Yaml, null, seq, dict, Items, end, ◌◂◌, no_item, Entries, done, add, no_entry, has_key}
use Rattle.scalar.specs.declared.Role.{Role}
use Rattle.scalar.specs.declared.Role.TheVariants.{AsValue, AsKey}
use Rattle.scalar.specs.Scalars.{key_text}
use Rattle.scalar.specs.Read.{Got, Reader, charge, stop, scalar, skip_spaces, ends_colon, double_quoted, single_quoted, string, plain}

-- where plain text takes no byte and the sequence does not either
unfoldable pub stuck : ℕ → List ℕ → Bool
stuck b bs = eqb b (ch "}") || (eqb b (ch ":") && ends_colon bs)

-- the line is read with `cap` bytes of work, and is the text's line `number`
module _ (cap number : ℕ) where
  -- ---- a flow sequence, behind its `[`: `more` takes the next turn

  unfoldable pub item_turn : Reader → (Items → ℕ → List ℕ → Answer (Got Items)) → Items → ℕ → List ℕ → Answer (Got Items)
  item_turn inside more got sum [] = stop cap number 10
  item_turn inside more got sum (b ∷ bs) =
      if eqb b (ch "]") then good (got, sum, bs)
      else if eqb b (ch ",") && not (no_item got) then more got sum bs
      else if stuck b bs then stop cap number 19
      else do
        (y, sum', rest) ← inside AsValue sum (b ∷ bs)
        more (got ◂ y) sum' rest

  -- `turns` is at least what is left of the line: no turn but the first leaves it as long as it was
  unfoldable pub items : Reader → ℕ → Items → ℕ → List ℕ → Answer (Got Items)
  items inside zero got sum bs = stop cap number 10
  items inside (suc turns) got sum bs = item_turn inside (λ g s r. items inside turns g s r) got sum (skip_spaces bs)

  -- ---- a flow mapping, behind its `{`

  -- 17
  unfoldable pub behind_colon : List ℕ → Answer (List ℕ)
  behind_colon [] = stop cap number 17
  behind_colon (b ∷ bs) = if eqb b (ch ":") then good bs else stop cap number 17

  -- 18
  unfoldable pub fresh : List ℕ → Entries → Answer (Unit {0})
  fresh k es = ensure (not (has_key k es)) 18 number 0

  unfoldable pub entry_value : Reader → ℕ → List ℕ → Answer (Got Yaml)
  entry_value inside sum [] = inside AsValue sum []
  entry_value inside sum (b ∷ bs) =
      if eqb b (ch ",") || eqb b (ch "}") then scalar cap number AsValue sum null (b ∷ bs) else inside AsValue sum (b ∷ bs)

  unfoldable pub entry_turn : Reader → (Entries → ℕ → List ℕ → Answer (Got Entries)) → Entries → ℕ → List ℕ → Answer (Got Entries)
  entry_turn inside more got sum [] = stop cap number 9
  entry_turn inside more got sum (b ∷ bs) =
      if eqb b (ch "}") then good (got, sum, bs)
      else if eqb b (ch ",") && not (no_entry got) then more got sum bs
      else do
        (k, sum₁, rest₁) ← inside AsKey sum (b ∷ bs)
        key ← given (key_text k) 16 number 0
        rest₂ ← behind_colon (skip_spaces rest₁)
        (v, sum₂, rest₃) ← entry_value inside sum₁ (skip_spaces rest₂)
        fresh key got
        more (add got key v) sum₂ rest₃

  unfoldable pub entries : Reader → ℕ → Entries → ℕ → List ℕ → Answer (Got Entries)
  entries inside zero got sum bs = stop cap number 9
  entries inside (suc turns) got sum bs = entry_turn inside (λ g s r. entries inside turns g s r) got sum (skip_spaces bs)

  -- ---- a value; `inside` reads one level deeper, and there is none at the 32nd level

  unfoldable pub flow_seq : Option Reader → ℕ → List ℕ → Answer (Got Yaml)
  flow_seq none sum bs = stop cap number 20
  flow_seq (some inside) sum bs = do
    sum₁ ← charge cap sum 6
    (ys, sum₂, rest) ← items inside (suc (length bs)) end sum₁ bs
    good (seq ys, sum₂, rest)

  unfoldable pub flow_map : Option Reader → ℕ → List ℕ → Answer (Got Yaml)
  flow_map none sum bs = stop cap number 20
  flow_map (some inside) sum bs = do
    sum₁ ← charge cap sum 6
    (es, sum₂, rest) ← entries inside (suc (length bs)) done sum₁ bs
    good (dict es, sum₂, rest)

  unfoldable pub node : Option Reader → Bool → Reader
  node inside in_flow role sum [] = scalar cap number role sum null []
  node inside in_flow role sum (b ∷ bs) =
      if eqb b (ch "{") then flow_map inside sum bs
      else if eqb b (ch "[") then flow_seq inside sum bs
      else if eqb b (ch "\"") then string cap number role sum (double_quoted cap number false bs)
      else if eqb b (ch "'") then string cap number role sum (single_quoted cap number false bs)
      else if eqb b (ch "&") || eqb b (ch "*") || eqb b (ch "!") then stop cap number 7
      else plain cap number in_flow role sum (b ∷ bs)

  -- a value that may open so many levels
  unfoldable pub value : ℕ → Bool → Reader
  value zero in_flow role sum bs = node none in_flow role sum bs
  value (suc levels) in_flow role sum bs = node (some (λ r s b. value levels true r s b)) in_flow role sum bs

  -- a text that is one value, and the running sum behind it
  unfoldable pub flow : ℕ → Role → ℕ → List ℕ → Answer (Yaml × ℕ)
  flow levels role sum t = do
    (y, sum', rest) ← value levels false role sum (skip_spaces t)
    ensure (empty (skip_spaces rest)) 8 number 0
    good (y, sum')
