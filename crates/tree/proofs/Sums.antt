-- The running sum behind a block is the length of what it is written as. Assumes nothing.
use Rattle.std.proofs.Common.{◌≡◌, refl, ap, ◌∙◌, subst, ℕ, zero, suc, ◌+◌, arith, List, [], ◌∷◌, Bool, ◌&&◌, not, eqb, ltb, length, take, drop}
use Rattle.std.proofs.Math.Option.{Option, none, some, some-injective, none-ne-some}
use Rattle.refusal.specs.Base.{good, ensure, given, bytes, same, empty}
use Rattle.refusal.proofs.Tools.{good-inj, bound, bound', chosen, present, gave}
use Rattle.utf8.specs.White.{trim, trim_start}
use Rattle.item.specs.Tree.{Yaml, null, str, Items, end, ◌◂◌, Entries, done, add}
use Rattle.item.specs.Encode.{encode}
use Rattle.item.proofs.Size.{size, encode-size}
use Rattle.lines.specs.Lines.{Line}
use Rattle.scalar.specs.declared.Role.TheVariants.{AsValue, AsKey}
use Rattle.scalar.specs.Scalars.{key_text}
use Rattle.scalar.specs.Key.{key_end}
use Rattle.scalar.specs.Read.{cost, charge}
use Rattle.flow.specs.Flow.{flow, fresh}
use Rattle.flow.proofs.Sums.{charged, flow-sum, key-weight, size-snoc, size-add}
use Rattle.literal.specs.Literal.{Read, leaf, literal}
use Rattle.lines.specs.Dash.{dashed}
use Rattle.block.specs.Block.{Inside, starts_complex, line_value, child, block_key, value_behind, entry_at, key_at, map_turn, map_lines, entries_of, block_map, inline_map, item_behind, seq_turn, seq_lines, items_of, block_seq, block_of, inline_of, inside_of, within, block}

-- what was read, the running sum and the lines left
abbrev pub Got : Type 0 → Type 0
Got A = A × ℕ × List Line

module _ (cap : ℕ) where
  -- a reader whose sums are right
  abbrev Sums : (ℕ → List Line → Read Yaml) → Type 0
  Sums f = (sum : ℕ) (ls : List Line) (g : Got Yaml) → f sum ls ≡ good g → g.1 ≡ sum + size g.0

  record InsideSums (i : Inside) : Type 0 where
    block_sum : Sums i.block
    inline_sum : (n d : ℕ) (t : List ℕ) (k : ℕ) → Sums (i.inline n d t k)

  leaf-sum : (y : Yaml) → cost AsValue y ≡ size y → Sums (λ sum ls. leaf cap sum y ls)
  unfolding leaf
  leaf-sum y h sum ls g e = bound (charge cap sum (cost AsValue y)) _ g e
      λ s p q. rw (← good-inj _ _ q) (charged cap sum (cost AsValue y) s p ∙ ap (λ (k : ℕ). sum + k) h)

  leaf-null : Sums (λ sum ls. leaf cap sum null ls)
  unfolding cost
  leaf-null sum ls g e = leaf-sum null refl sum ls g e

  literal-sum : (strip : Bool) (under : ℕ) → Sums (literal cap strip under)
  unfolding literal cost
  literal-sum strip under sum ls g e = leaf-sum (str _) refl sum _ g e

  line_value-sum : (levels n : ℕ) (t : List ℕ) → Sums (λ sum ls. line_value cap levels n sum t ls)
  unfolding line_value
  line_value-sum levels n t sum ls g e = bound (flow cap n levels AsValue sum t) _ g e λ x p q. rw (← good-inj _ _ q) (flow-sum cap n levels AsValue sum t x p)

  block_key-sum : (levels n sum : ℕ) (t : List ℕ) (g : List ℕ × ℕ) → block_key cap levels n sum t ≡ good g → g.1 ≡ sum + (6 + length g.0)
  unfolding block_key
  block_key-sum levels n sum t g e = bound' (ensure (not (empty t)) 14 n 0) _ g e
      λ p. bound' (ensure (not (starts_complex t)) 15 n 0) _ g p
      λ p. bound (flow cap n levels AsKey sum t) _ g p
      λ x q p. bound (given (key_text x.0) 16 n 0) _ g p
      λ k r p. rw (← good-inj _ _ p) (omega (arith, flow-sum cap n levels AsKey sum t x q, key-weight cap n x.0 k r))

  -- with what is read one level deeper
  module _ (i : Inside) (h : InsideSums i) where
    child-sum : (d : ℕ) → Sums (child cap i d)
    unfolding child
    child-sum d sum [] g e = leaf-null sum [] g e
    child-sum d sum (l ∷ ls) g e = chosen (ltb d l.indent) _ _ e (λ _ q. h.block_sum sum (l ∷ ls) g q) (λ _ q. leaf-null sum (l ∷ ls) g q)

    value_behind-sum : (n d : ℕ) (t : List ℕ) → Sums (λ sum ls. value_behind cap i n d sum t ls)
    unfolding value_behind
    value_behind-sum n d t sum ls g e =
        chosen (empty t) _ _ e (λ _ q. child-sum d sum ls g q)
        λ _ p. chosen (same t (bytes "|")) _ _ p (λ _ q. literal-sum _ d sum ls g q)
        λ _ p. chosen (same t (bytes "|-")) _ _ p (λ _ q. literal-sum _ d sum ls g q)
        λ _ p. line_value-sum i.levels n t sum ls g p

    entry_at-sum : (n d : ℕ) (t : List ℕ) (split sum : ℕ) (ls : List Line) (g : Got (List ℕ × Yaml))
        → entry_at cap i n d t split sum ls ≡ good g → g.1 ≡ sum + (6 + length g.0.0 + size g.0.1)
    unfolding entry_at
    entry_at-sum n d t split sum ls g e = bound (block_key cap i.levels n sum (trim (take split t))) _ g e
        λ k q p. bound (value_behind cap i n d k.1 (trim (drop (suc split) t)) ls) _ g p
        λ v r p. rw (← good-inj _ _ p) (omega (arith, block_key-sum i.levels n sum _ k q, value_behind-sum n d _ k.1 ls v r))

    -- ---- mappings: of a turn, then of all

    abbrev EntriesSum : (Entries → ℕ → List Line → Read Entries) → Type 0
    EntriesSum more = (got : Entries) (sum : ℕ) (ls : List Line) (g : Got Entries) → more got sum ls ≡ good g → g.1 + size got ≡ sum + size g.0

    map_turn-sum : (d : ℕ) (more : Entries → ℕ → List Line → Read Entries) → EntriesSum more → EntriesSum (map_turn cap i d more)
    unfolding map_turn
    map_turn-sum d more ih got sum [] g e = rw (← good-inj _ _ e)
    map_turn-sum d more ih got sum (l ∷ ls) g e = present (key_at d l) _ _ e (λ _ p. rw (← good-inj _ _ p))
        λ split _ p. bound (entry_at cap i l.number d l.text split sum ls) _ g p
        λ x q p. bound' (fresh cap l.number x.0.0 got) _ g p
        λ r. omega (arith, entry_at-sum l.number d l.text split sum ls x q, ih (add got x.0.0 x.0.1) x.1 x.2 g r, size-add got x.0.0 x.0.1)

    map_lines-sum : (d t : ℕ) → EntriesSum (map_lines cap i d t)
    unfolding map_lines
    map_lines-sum d zero got sum ls g e = rw (← good-inj _ _ e)
    map_lines-sum d (suc t) got sum ls g e = map_turn-sum d _ (map_lines-sum d t) got sum ls g e

    entries_of-sum : (d sum : ℕ) (ls : List Line) (g : Got Entries) → entries_of cap i d sum ls ≡ good g → g.1 ≡ sum + size g.0
    unfolding entries_of
    entries_of-sum d sum ls g e = omega (arith, map_lines-sum d (length ls) done sum ls g e)

    block_map-sum : (d : ℕ) → Sums (block_map cap i d)
    unfolding block_map
    block_map-sum d sum ls g e = bound (charge cap sum 6) _ g e
        λ s p q. bound (entries_of cap i d s ls) _ g q
        λ x q r. rw (← good-inj _ _ r) (omega (arith, charged cap sum 6 s p, entries_of-sum d s ls x q))

    inline_map-sum : (n d : ℕ) (t : List ℕ) (k : ℕ) → Sums (inline_map cap i n d t k)
    unfolding inline_map
    inline_map-sum n d t k sum ls g e = bound (charge cap sum 6) _ g e
        λ s p q. bound (entry_at cap i n d t k s ls) _ g q
        λ x q r. bound (entries_of cap i d x.1 x.2) _ g r
        λ y r p'. bound' (fresh cap n x.0.0 y.0) _ g p'
        λ p''. rw (← good-inj _ _ p'') (omega (arith, charged cap sum 6 s p, entry_at-sum n d t k s ls x q, entries_of-sum d x.1 x.2 y r))

    -- ---- sequences

    item_behind-sum : (l : Line) (t : List ℕ) → Sums (λ sum ls. item_behind cap i l sum t ls)
    unfolding item_behind
    item_behind-sum l t sum ls g e =
        chosen (empty t) _ _ e (λ _ q. child-sum l.indent sum ls g q)
        λ _ p. present (key_end t) _ _ p (λ _ q. line_value-sum i.levels l.number t sum ls g q)
        λ k _ q. h.inline_sum l.number _ t k sum ls g q

    abbrev ItemsSum : (Items → ℕ → List Line → Read Items) → Type 0
    ItemsSum more = (got : Items) (sum : ℕ) (ls : List Line) (g : Got Items) → more got sum ls ≡ good g → g.1 + size got ≡ sum + size g.0

    seq_turn-sum : (d : ℕ) (more : Items → ℕ → List Line → Read Items) → ItemsSum more → ItemsSum (seq_turn cap i d more)
    unfolding seq_turn
    seq_turn-sum d more ih got sum [] g e = rw (← good-inj _ _ e)
    seq_turn-sum d more ih got sum (l ∷ ls) g e =
        chosen (not (eqb l.indent d && dashed l.text)) _ _ e (λ _ p. rw (← good-inj _ _ p))
        λ _ p. bound (item_behind cap i l sum (trim_start (drop 1 l.text)) ls) _ g p
        λ x q r. omega (arith, item_behind-sum l _ sum ls x q, ih (got ◂ x.0) x.1 x.2 g r, size-snoc got x.0)

    seq_lines-sum : (d t : ℕ) → ItemsSum (seq_lines cap i d t)
    unfolding seq_lines
    seq_lines-sum d zero got sum ls g e = rw (← good-inj _ _ e)
    seq_lines-sum d (suc t) got sum ls g e = seq_turn-sum d _ (seq_lines-sum d t) got sum ls g e

    block_seq-sum : (d : ℕ) → Sums (block_seq cap i d)
    unfolding block_seq items_of
    block_seq-sum d sum ls g e = bound (charge cap sum 6) _ g e
        λ s p q. bound (items_of cap i d s ls) _ g q
        λ x q r. rw (← good-inj _ _ r) (omega (arith, charged cap sum 6 s p, seq_lines-sum d (length ls) end s ls x q))

  -- ---- blocks

  inside_of-sums : (levels : ℕ) (o : Option Inside) → ((i : Inside) → o ≡ some i → InsideSums i) → InsideSums (inside_of cap levels o)
  unfolding inside_of block_of inline_of
  inside_of-sums levels o h = record { block_sum = blocks; inline_sum = inlines }
    where
      blocks : Sums (block_of cap levels o)
      blocks sum [] g e = leaf-null sum [] g e
      blocks sum (l ∷ ls) g e =
          chosen (dashed l.text) _ _ e
          (λ _ p. bound (given o 20 l.number 0) _ g p λ i q r. gave o 20 l.number 0 i q λ q. block_seq-sum i (h i q) l.indent sum (l ∷ ls) g r)
          λ _ p. present (key_end l.text) _ _ p (λ _ q. line_value-sum levels l.number l.text sum ls g q)
          λ _ _ p. bound (given o 20 l.number 0) _ g p λ i q r. gave o 20 l.number 0 i q λ q. block_map-sum i (h i q) l.indent sum (l ∷ ls) g r

      inlines : (n d : ℕ) (t : List ℕ) (k : ℕ) → Sums (inline_of cap o n d t k)
      inlines n d t k sum ls g e = bound (given o 20 n 0) _ g e λ i q r. gave o 20 n 0 i q λ q. inline_map-sum i (h i q) n d t k sum ls g r

  within-sums : (levels : ℕ) → InsideSums (within cap levels)
  unfolding within
  within-sums zero = inside_of-sums 0 none (λ i p. absurd (none-ne-some i p))
  within-sums (suc l) = inside_of-sums (suc l) (some (within cap l)) (λ i p. subst InsideSums (some-injective _ _ p) (within-sums l))

  -- the running sum behind a block is the sum before it and the length of what the block is written as
  pub block-sum : (levels sum : ℕ) (ls : List Line) (g : Got Yaml) → block cap levels sum ls ≡ good g → g.1 ≡ sum + length (encode g.0)
  unfolding block
  block-sum levels sum ls g e = rw (encode-size g.0) ((within-sums levels).block_sum sum ls g e)

  pub block-length : (y : Yaml) (sum : ℕ) (ls rest : List Line) → block cap 32 0 ls ≡ good (y, sum, rest) → sum ≡ length (encode y)
  block-length y sum ls rest e = omega (arith, block-sum 32 0 ls (y, sum, rest) e)
