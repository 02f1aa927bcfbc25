-- A reading of lines leaves no more of them than it was given, and each turn of a loop takes one: so the loops' counts are never used up. Assumes nothing.
use Rattle.std.proofs.Common.{◌≡◌, refl, subst, ℕ, zero, suc, ◌≤◌, arith, List, [], ◌∷◌, Bool, not, ltb, leb, length, take, drop}
use Rattle.std.proofs.Math.Option.{Option, none, some, some-injective, none-ne-some}
use Rattle.std.proofs.lemmas.Bool.{cond_both}
use Rattle.refusal.specs.Base.{good, ◌>>=◌, ◌>>◌, given, maybe, bytes, same, empty}
use Rattle.refusal.proofs.Tools.{good-inj, bound, bound', chosen, present, gave, bind-cong, if-cong}
use Rattle.utf8.specs.White.{trim, trim_start}
use Rattle.item.specs.Tree.{Yaml, null, str, Items, end, ◌◂◌, Entries, done, add}
use Rattle.lines.specs.Lines.{Line}
use Rattle.lines.specs.Dash.{dashed, is_dash}
use Rattle.scalar.specs.declared.Role.TheVariants.{AsValue}
use Rattle.scalar.specs.Key.{key_end}
use Rattle.scalar.specs.Read.{cost, charge}
use Rattle.flow.specs.Flow.{flow, fresh}
use Rattle.literal.specs.Literal.{Read, leaf, literal_lines, literal_under, literal}
use Rattle.block.specs.Block.{Inside, key_at, line_value, child, block_key, value_behind, entry_at, map_turn, map_lines, entries_of, block_map, inline_map, item_behind, seq_turn, seq_lines, items_of, block_seq, block_of, inline_of, inside_of, within}

-- ---- literals

lines_left : (indent : ℕ) (ls : List Line) → length (literal_lines indent ls).1 ≤ length ls
unfolding literal_lines
lines_left indent [] = omega arith
lines_left indent (l ∷ ls) = cond_both (leb indent l.indent) _ _ (λ (b : List ℕ × List Line). length b.1 ≤ suc (length ls)) (λ _. omega (arith, lines_left indent ls)) (λ _. omega arith)

under_left : (under : ℕ) (ls : List Line) → length (literal_under under ls).1 ≤ length ls
unfolding literal_under
under_left under [] = omega arith
under_left under (l ∷ ls) = cond_both (ltb under l.indent) _ _ (λ (b : List ℕ × List Line). length b.1 ≤ suc (length ls)) (λ _. lines_left l.indent (l ∷ ls)) (λ _. omega arith)

module _ (cap : ℕ) where
  -- a reader that leaves no more lines than it was given
  abbrev Leaves : {A : Type 0} → (ℕ → List Line → Read A) → Type 0
  Leaves {A} f = (sum : ℕ) (ls : List Line) (g : A × ℕ × List Line) → f sum ls ≡ good g → length g.2 ≤ length ls

  pub record InsideLeaves (i : Inside) : Type 0 where
    pub block_left : Leaves i.block
    pub inline_left : (n d : ℕ) (t : List ℕ) (split : ℕ) → Leaves (i.inline n d t split)

  leaf-left : (y : Yaml) → Leaves (λ sum ls. leaf cap sum y ls)
  unfolding leaf
  leaf-left y sum ls g e = bound (charge cap sum (cost AsValue y)) _ g e λ s p q. rw (← good-inj _ _ q) (omega arith)

  literal-left : (strip : Bool) (under : ℕ) → Leaves (literal cap strip under)
  unfolding literal
  literal-left strip under sum ls g e = omega (arith, leaf-left (str _) sum (literal_under under ls).1 g e, under_left under ls)

  line_value-left : (levels n : ℕ) (t : List ℕ) → Leaves (λ sum ls. line_value cap levels n sum t ls)
  unfolding line_value
  line_value-left levels n t sum ls g e = bound (flow cap n levels AsValue sum t) _ g e λ x p q. rw (← good-inj _ _ q) (omega arith)

  -- with what is read one level deeper
  module _ (i : Inside) (h : InsideLeaves i) where
    child-left : (d : ℕ) → Leaves (child cap i d)
    unfolding child
    child-left d sum [] g e = leaf-left null sum [] g e
    child-left d sum (l ∷ ls) g e = chosen (ltb d l.indent) _ _ e (λ _ q. h.block_left sum (l ∷ ls) g q) (λ _ q. leaf-left null sum (l ∷ ls) g q)

    value_behind-left : (n d : ℕ) (t : List ℕ) → Leaves (λ sum ls. value_behind cap i n d sum t ls)
    unfolding value_behind
    value_behind-left n d t sum ls g e =
        chosen (empty t) _ _ e (λ _ q. child-left d sum ls g q)
        λ _ p. chosen (same t (bytes "|")) _ _ p (λ _ q. literal-left _ d sum ls g q)
        λ _ p. chosen (same t (bytes "|-")) _ _ p (λ _ q. literal-left _ d sum ls g q)
        λ _ p. line_value-left i.levels n t sum ls g p

    entry_at-left : (n d : ℕ) (t : List ℕ) (split : ℕ) → Leaves (entry_at cap i n d t split)
    unfolding entry_at
    entry_at-left n d t split sum ls g e = bound (block_key cap i.levels n sum (trim (take split t))) _ g e
        λ k q p. bound (value_behind cap i n d k.1 (trim (drop (suc split) t)) ls) _ g p
        λ v r p. rw (← good-inj _ _ p) (value_behind-left n d _ k.1 ls v r)

    item_behind-left : (l : Line) (t : List ℕ) → Leaves (λ sum ls. item_behind cap i l sum t ls)
    unfolding item_behind
    item_behind-left l t sum ls g e =
        chosen (empty t) _ _ e (λ _ q. child-left l.indent sum ls g q)
        λ _ p. present (key_end t) _ _ p (λ _ q. line_value-left i.levels l.number t sum ls g q)
        λ k _ q. h.inline_left l.number _ t k sum ls g q

    -- ---- mappings

    map_turn-left : (d : ℕ) (more : Entries → ℕ → List Line → Read Entries) → ((got : Entries) → Leaves (more got)) → (got : Entries) → Leaves (map_turn cap i d more got)
    unfolding map_turn
    map_turn-left d more ih got sum [] g e = rw (← good-inj _ _ e) (omega arith)
    map_turn-left d more ih got sum (l ∷ ls) g e = present (key_at d l) _ _ e (λ _ p. rw (← good-inj _ _ p) (omega arith))
        λ split _ p. bound (entry_at cap i l.number d l.text split sum ls) _ g p
        λ x q p. bound' (fresh cap l.number x.0.0 got) _ g p
        λ r. omega (arith, entry_at-left l.number d l.text split sum ls x q, ih (add got x.0.0 x.0.1) x.1 x.2 g r)

    map_lines-left : (d t : ℕ) (got : Entries) → Leaves (map_lines cap i d t got)
    unfolding map_lines
    map_lines-left d zero got sum ls g e = rw (← good-inj _ _ e) (omega arith)
    map_lines-left d (suc t) got sum ls g e = map_turn-left d _ (map_lines-left d t) got sum ls g e

    entries_of-left : (d : ℕ) → Leaves (entries_of cap i d)
    unfolding entries_of
    entries_of-left d sum ls g e = map_lines-left d (length ls) done sum ls g e

    block_map-left : (d : ℕ) → Leaves (block_map cap i d)
    unfolding block_map
    block_map-left d sum ls g e = bound (charge cap sum 6) _ g e
        λ s p q. bound (entries_of cap i d s ls) _ g q
        λ x q r. rw (← good-inj _ _ r) (entries_of-left d s ls x q)

    inline_map-left : (n d : ℕ) (t : List ℕ) (k : ℕ) → Leaves (inline_map cap i n d t k)
    unfolding inline_map
    inline_map-left n d t k sum ls g e = bound (charge cap sum 6) _ g e
        λ s p q. bound (entry_at cap i n d t k s ls) _ g q
        λ x q r. bound (entries_of cap i d x.1 x.2) _ g r
        λ y r p. bound' (fresh cap n x.0.0 y.0) _ g p
        λ p. rw (← good-inj _ _ p) (omega (arith, entry_at-left n d t k s ls x q, entries_of-left d x.1 x.2 y r))

    -- ---- sequences

    seq_turn-left : (d : ℕ) (more : Items → ℕ → List Line → Read Items) → ((got : Items) → Leaves (more got)) → (got : Items) → Leaves (seq_turn cap i d more got)
    unfolding seq_turn
    seq_turn-left d more ih got sum [] g e = rw (← good-inj _ _ e) (omega arith)
    seq_turn-left d more ih got sum (l ∷ ls) g e = chosen (not (is_dash d l)) _ _ e (λ _ p. rw (← good-inj _ _ p) (omega arith))
        λ _ p. bound (item_behind cap i l sum (trim_start (drop 1 l.text)) ls) _ g p
        λ x q r. omega (arith, item_behind-left l _ sum ls x q, ih (got ◂ x.0) x.1 x.2 g r)

    seq_lines-left : (d t : ℕ) (got : Items) → Leaves (seq_lines cap i d t got)
    unfolding seq_lines
    seq_lines-left d zero got sum ls g e = rw (← good-inj _ _ e) (omega arith)
    seq_lines-left d (suc t) got sum ls g e = seq_turn-left d _ (seq_lines-left d t) got sum ls g e

    block_seq-left : (d : ℕ) → Leaves (block_seq cap i d)
    unfolding block_seq items_of
    block_seq-left d sum ls g e = bound (charge cap sum 6) _ g e
        λ s p q. bound (items_of cap i d s ls) _ g q
        λ x q r. rw (← good-inj _ _ r) (seq_lines-left d (length ls) end s ls x q)

    -- ---- the counts: with at least as many turns as lines are left, any number of them gives the same

    pub map_lines-enough : (d t u : ℕ) (got : Entries) (sum : ℕ) (ls : List Line) → length ls ≤ t → length ls ≤ u → map_lines cap i d t got sum ls ≡ map_lines cap i d u got sum ls
    unfolding map_lines map_turn maybe ◌>>◌
    map_lines-enough d zero zero got sum ls p q = refl
    map_lines-enough d zero (suc u) got sum [] p q = refl
    map_lines-enough d zero (suc u) got sum (l ∷ ls) p q = absurd (omega arith)
    map_lines-enough d (suc t) zero got sum [] p q = refl
    map_lines-enough d (suc t) zero got sum (l ∷ ls) p q = absurd (omega arith)
    map_lines-enough d (suc t) (suc u) got sum [] p q = refl
    map_lines-enough d (suc t) (suc u) got sum (l ∷ ls) p q = go (key_at d l) (λ g s r a b. map_lines-enough d t u g s r a b)
      where
        turn : (Entries → ℕ → List Line → Read Entries) → ℕ → Read Entries
        turn more split = entry_at cap i l.number d l.text split sum ls >>= λ x. fresh cap l.number x.0.0 got >> more (add got x.0.0 x.0.1) x.1 x.2

        go : (k : Option ℕ) → ((g : Entries) (s : ℕ) (r : List Line) → length r ≤ t → length r ≤ u → map_lines cap i d t g s r ≡ map_lines cap i d u g s r)
            → maybe k (good (got, sum, l ∷ ls)) (turn (map_lines cap i d t)) ≡ maybe k (good (got, sum, l ∷ ls)) (turn (map_lines cap i d u))
        go none ih = refl
        go (some split) ih = bind-cong (entry_at cap i l.number d l.text split sum ls) _ _ λ x k.
            let w : length x.2 ≤ length ls = entry_at-left l.number d l.text split sum ls x k in
            bind-cong (fresh cap l.number x.0.0 got) _ _ λ _ _. ih (add got x.0.0 x.0.1) x.1 x.2 (omega arith) (omega arith)

    pub seq_lines-enough : (d t u : ℕ) (got : Items) (sum : ℕ) (ls : List Line) → length ls ≤ t → length ls ≤ u → seq_lines cap i d t got sum ls ≡ seq_lines cap i d u got sum ls
    unfolding seq_lines seq_turn
    seq_lines-enough d zero zero got sum ls p q = refl
    seq_lines-enough d zero (suc u) got sum [] p q = refl
    seq_lines-enough d zero (suc u) got sum (l ∷ ls) p q = absurd (omega arith)
    seq_lines-enough d (suc t) zero got sum [] p q = refl
    seq_lines-enough d (suc t) zero got sum (l ∷ ls) p q = absurd (omega arith)
    seq_lines-enough d (suc t) (suc u) got sum [] p q = refl
    seq_lines-enough d (suc t) (suc u) got sum (l ∷ ls) p q = if-cong (not (is_dash d l)) _ _ _ _ (λ _. refl)
        λ _. bind-cong (item_behind cap i l sum (trim_start (drop 1 l.text)) ls) _ _ λ x k.
        let w : length x.2 ≤ length ls = item_behind-left l _ sum ls x k in
        seq_lines-enough d t u (got ◂ x.0) x.1 x.2 (omega arith) (omega arith)

  -- ---- blocks

  inside_of-left : (levels : ℕ) (o : Option Inside) → ((i : Inside) → o ≡ some i → InsideLeaves i) → InsideLeaves (inside_of cap levels o)
  unfolding inside_of block_of inline_of
  inside_of-left levels o h = record { block_left = blocks; inline_left = inlines }
    where
      blocks : Leaves (block_of cap levels o)
      blocks sum [] g e = leaf-left null sum [] g e
      blocks sum (l ∷ ls) g e =
          chosen (dashed l.text) _ _ e
          (λ _ p. bound (given o 20 l.number 0) _ g p λ i q r. gave o 20 l.number 0 i q λ q. block_seq-left i (h i q) l.indent sum (l ∷ ls) g r)
          λ _ p. present (key_end l.text) _ _ p (λ _ q. let w : length g.2 ≤ length ls = line_value-left levels l.number l.text sum ls g q in omega arith)
          λ _ _ p. bound (given o 20 l.number 0) _ g p λ i q r. gave o 20 l.number 0 i q λ q. block_map-left i (h i q) l.indent sum (l ∷ ls) g r

      inlines : (n d : ℕ) (t : List ℕ) (k : ℕ) → Leaves (inline_of cap o n d t k)
      inlines n d t k sum ls g e = bound (given o 20 n 0) _ g e λ i q r. gave o 20 n 0 i q λ q. inline_map-left i (h i q) n d t k sum ls g r

  -- so the laws of the counts hold of what the definition reads inside a collection
  pub within-left : (levels : ℕ) → InsideLeaves (within cap levels)
  unfolding within
  within-left zero = inside_of-left 0 none (λ i p. absurd (none-ne-some i p))
  within-left (suc l) = inside_of-left (suc l) (some (within cap l)) (λ i p. subst InsideLeaves (some-injective _ _ p) (within-left l))
