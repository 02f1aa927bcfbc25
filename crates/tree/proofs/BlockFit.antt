-- A block that is read with `l` levels left fits `l` levels. Assumes nothing.
use Rattle.std.proofs.Common.{◌≡◌, refl, sym, ◌∙◌, subst, ℕ, zero, suc, ◌≤◌, ◌<◌, arith, List, [], ◌∷◌, Bool, true, ◌&&◌, not, eqb, ltb, length, take, drop}
use Rattle.std.proofs.lemmas.Bool.{and_parts, cond_both, not-false}
use Rattle.std.proofs.Math.Option.{Option, none, some, some-injective, none-ne-some}
use Rattle.refusal.specs.Base.{good, ◌>>=◌, ensure, given, bytes, same, empty, ch}
use Rattle.refusal.proofs.Tools.{good-inj, bound, bound', chosen, present, gave}
use Rattle.utf8.proofs.Ranges.{if-one}
use Rattle.utf8.specs.White.{trim, trim_start}
use Rattle.utf8.proofs.Utf8Laws.{utf8-trim, utf8-trim_start}
use Rattle.item.specs.Tree.{Shape, Node, Yaml, null, str, Items, end, ◌◂◌, Entries, done, add}
use Rattle.lines.specs.Lines.{Line}
use Rattle.scalar.specs.declared.Role.TheVariants.{AsValue, AsKey}
use Rattle.scalar.specs.Scalars.{key_text}
use Rattle.scalar.specs.Key.{key_end}
use Rattle.scalar.specs.Read.{cost, charge}
use Rattle.flow.specs.Flow.{flow}
use Rattle.literal.specs.Literal.{Read, leaf, literal, literal_under, drop_newlines}
use Rattle.lines.specs.Dash.{dashed}
use Rattle.block.specs.Block.{Inside, starts_complex, line_value, child, block_key, value_behind, entry_at, key_at, map_turn, map_lines, entries_of, block_map, inline_map, item_behind, seq_turn, seq_lines, items_of, block_seq, block_of, inline_of, inside_of, within, block}
use Rattle.tree.proofs.Sums.{Got}
use Rattle.utf8.specs.Utf8.{Utf8}
use Rattle.tree.proofs.Strings.{key-utf8, cut}
use Rattle.tree.proofs.Parts.{known, Lines, Parted, key-parted, under-body, drop-utf8}
use Rattle.tree.proofs.Fit.{Fit, fit-null, fit-str, fit-end, fit-done, fit-snoc, fit-add, fit-pair, fit-seq, fit-dict, Fine, charge-le, was-fresh}
use Rattle.tree.proofs.FlowFit.{flow-fine}

-- a line that begins with a dash, without it
undashed : (t : List ℕ) → Utf8 t → dashed t ≡ true → Utf8 (drop 1 t)
unfolding dashed same bytes
undashed [] u e = u
undashed (b ∷ t) u e = (cut [] b t (if-one (same (b ∷ t) (bytes "-")) (same (take 2 (b ∷ t)) (bytes "- ")) e (first (same t [])) (first (same (take 1 t) (bytes " ")))) u).1
  where
    first : (x : Bool) → eqb b (ch "-") && x ≡ true → b < 0x80
    first x p = known b (ch "-") (omega arith) (and_parts (eqb b (ch "-")) x p).0

module _ (cap : ℕ) where
  -- a reader of values
  abbrev pub Reads : ℕ → (ℕ → List Line → Read Yaml) → Type 0
  Reads l f = (sum : ℕ) (ls : List Line) (g : Got Yaml) → Lines ls → f sum ls ≡ good g → Fine cap l Lines g

  -- what adds to a collection that was read so far
  abbrev pub Adds : ℕ → {s : Shape} → (Node s → ℕ → List Line → Read (Node s)) → Type 0
  Adds l {s} more = (got : Node s) (sum : ℕ) (ls : List Line) (g : Got (Node s)) → Fine cap l Lines (got, sum, ls) → more got sum ls ≡ good g → Fine cap l Lines g

  pub record InsideFine (l : ℕ) (i : Inside) : Type 0 where
    pub as_many : i.levels ≡ l
    pub block_fine : Reads l i.block
    pub inline_fine : (n d : ℕ) (t : List ℕ) (k : ℕ) → Parted t k → Reads l (i.inline n d t k)

  -- an entry: its key and its value
  record EntryFine (l : ℕ) (g : Got (List ℕ × Yaml)) : Type 0 where
    key : Utf8 g.0.0
    value : Fit l g.0.1
    sum : g.1 ≤ cap
    left : Lines g.2

  leaf-fine : (l : ℕ) (y : Yaml) → Fit l y → Reads l (λ sum ls. leaf cap sum y ls)
  unfolding leaf
  leaf-fine l y h sum ls g u e = bound (charge cap sum (cost AsValue y)) _ g e
      λ s p q. rw (← good-inj _ _ q) (record { tree = h; sum = charge-le cap sum (cost AsValue y) s p; left = u })

  pub literal-fine : (l : ℕ) (strip : Bool) (under : ℕ) → Reads l (literal cap strip under)
  unfolding literal
  literal-fine l strip under sum ls g u e =
      let b = under-body under ls u in
      leaf-fine l (str _) (fit-str l _ (cond_both strip (drop_newlines (literal_under under ls).0) _ Utf8 (λ _. drop-utf8 _ b.0) (λ _. b.0))) sum _ g b.1 e

  pub line_value-fine : (l n : ℕ) (t : List ℕ) → Utf8 t → Reads l (λ sum ls. line_value cap l n sum t ls)
  unfolding line_value
  line_value-fine l n t v sum ls g u e = bound (flow cap n l AsValue sum t) _ g e
      λ x p q. let f = flow-fine cap n l AsValue sum t x v p in rw (← good-inj _ _ q) (record { tree = f.0; sum = f.1; left = u })

  block_key-utf8 : (l n sum : ℕ) (t : List ℕ) (g : List ℕ × ℕ) → Utf8 t → block_key cap l n sum t ≡ good g → Utf8 g.0
  unfolding block_key
  block_key-utf8 l n sum t g u e = bound' (ensure (not (empty t)) 14 n 0) _ g e
      λ p. bound' (ensure (not (starts_complex t)) 15 n 0) _ g p
      λ p. bound (flow cap n l AsKey sum t) _ g p
      λ x q p. bound (given (key_text x.0) 16 n 0) _ g p
      λ k r p. rw (← good-inj _ _ p) (key-utf8 x.0 k 16 n 0 (flow-fine cap n l AsKey sum t x u q).0.strings r)

  -- with what is read one level deeper
  module _ (l : ℕ) (i : Inside) (h : InsideFine l i) where
    inner-fine : (n : ℕ) (t : List ℕ) → Utf8 t → Reads l (λ sum ls. line_value cap i.levels n sum t ls)
    inner-fine n t v = rw h.as_many (line_value-fine l n t v)

    pub child-fine : (d : ℕ) → Reads l (child cap i d)
    unfolding child
    child-fine d sum [] g u e = leaf-fine l null (fit-null l) sum [] g u e
    child-fine d sum (m ∷ ls) g u e = chosen (ltb d m.indent) _ _ e (λ _ q. h.block_fine sum (m ∷ ls) g u q) (λ _ q. leaf-fine l null (fit-null l) sum (m ∷ ls) g u q)

    pub value_behind-fine : (n d : ℕ) (t : List ℕ) → Utf8 t → Reads l (λ sum ls. value_behind cap i n d sum t ls)
    unfolding value_behind
    value_behind-fine n d t v sum ls g u e =
        chosen (empty t) _ _ e (λ _ q. child-fine d sum ls g u q)
        λ _ p. chosen (same t (bytes "|")) _ _ p (λ _ q. literal-fine l _ d sum ls g u q)
        λ _ p. chosen (same t (bytes "|-")) _ _ p (λ _ q. literal-fine l _ d sum ls g u q)
        λ _ p. inner-fine n t v sum ls g u p

    entry_at-fine : (n d : ℕ) (t : List ℕ) (split sum : ℕ) (ls : List Line) (g : Got (List ℕ × Yaml)) → Parted t split → Lines ls → entry_at cap i n d t split sum ls ≡ good g → EntryFine l g
    unfolding entry_at
    entry_at-fine n d t split sum ls g c u e = bound (block_key cap i.levels n sum (trim (take split t))) _ g e
        λ k q p. bound (value_behind cap i n d k.1 (trim (drop (suc split) t)) ls) _ g p
        λ v r p.
        let f = value_behind-fine n d _ (utf8-trim _ c.1) k.1 ls v u r in
        rw (← good-inj _ _ p) (record { key = block_key-utf8 i.levels n sum _ k (utf8-trim _ c.0) q; value = f.tree; sum = f.sum; left = f.left })

    -- ---- mappings: of a turn, then of all

    key_at-parted : (d split : ℕ) (m : Line) → Utf8 m.text → key_at d m ≡ some split → Parted m.text split
    unfolding key_at
    key_at-parted d split m u e = chosen (eqb m.indent d) _ _ e (λ _ p. key-parted m.text split u p) (λ _ p. absurd (none-ne-some split p))

    map_turn-fine : (d : ℕ) (more : Entries → ℕ → List Line → Read Entries) → Adds l more → Adds l (map_turn cap i d more)
    unfolding map_turn
    map_turn-fine d more ih got sum [] g f e = rw (← good-inj _ _ e) f
    map_turn-fine d more ih got sum (m ∷ ls) g f e = present (key_at d m) _ _ e (λ _ p. rw (← good-inj _ _ p) f)
        λ split k p. bound (entry_at cap i m.number d m.text split sum ls) _ g p
        λ x q p. was-fresh cap m.number x.0.0 got _ g p
        λ new r.
        let v = entry_at-fine m.number d m.text split sum ls x (key_at-parted d split m f.left.0 k) f.left.1 q in
        ih (add got x.0.0 x.0.1) x.1 x.2 g (record { tree = fit-add x.0.0 f.tree new v.key v.value; sum = v.sum; left = v.left }) r

    map_lines-fine : (d t : ℕ) → Adds l (map_lines cap i d t)
    unfolding map_lines
    map_lines-fine d zero got sum ls g f e = rw (← good-inj _ _ e) f
    map_lines-fine d (suc t) got sum ls g f e = map_turn-fine d _ (map_lines-fine d t) got sum ls g f e

    entries_of-fine : (d sum : ℕ) (ls : List Line) (g : Got Entries) → sum ≤ cap → Lines ls → entries_of cap i d sum ls ≡ good g → Fine cap l Lines g
    unfolding entries_of
    entries_of-fine d sum ls g s u e = map_lines-fine d (length ls) done sum ls g (record { tree = fit-done; sum = s; left = u }) e

    pub block_map-fine : (d : ℕ) → Reads (suc l) (block_map cap i d)
    unfolding block_map
    block_map-fine d sum ls g u e = bound (charge cap sum 6) _ g e
        λ s p q. bound (entries_of cap i d s ls) _ g q
        λ x q r.
        let v = entries_of-fine d s ls x (charge-le cap sum 6 s p) u q in
        rw (← good-inj _ _ r) (record { tree = fit-dict v.tree; sum = v.sum; left = v.left })

    pub inline_map-fine : (n d : ℕ) (t : List ℕ) (k : ℕ) → Parted t k → Reads (suc l) (inline_map cap i n d t k)
    unfolding inline_map
    inline_map-fine n d t k c sum ls g u e = bound (charge cap sum 6) _ g e
        λ s p q. bound (entry_at cap i n d t k s ls) _ g q
        λ x q r. bound (entries_of cap i d x.1 x.2) _ g r
        λ y r p. was-fresh cap n x.0.0 y.0 _ g p
        λ new p.
        let v = entry_at-fine n d t k s ls x c u q in
        let w = entries_of-fine d x.1 x.2 y v.sum v.left r in
        rw (← good-inj _ _ p) (record { tree = fit-dict (fit-pair new v.key v.value w.tree); sum = w.sum; left = w.left })

    -- ---- sequences

    item_behind-fine : (m : Line) (t : List ℕ) → Utf8 t → Reads l (λ sum ls. item_behind cap i m sum t ls)
    unfolding item_behind
    item_behind-fine m t v sum ls g u e =
        chosen (empty t) _ _ e (λ _ q. child-fine m.indent sum ls g u q)
        λ _ p. present (key_end t) _ _ p (λ _ q. inner-fine m.number t v sum ls g u q)
        λ k c q. h.inline_fine m.number _ t k (key-parted t k v c) sum ls g u q

    seq_turn-fine : (d : ℕ) (more : Items → ℕ → List Line → Read Items) → Adds l more → Adds l (seq_turn cap i d more)
    unfolding seq_turn
    seq_turn-fine d more ih got sum [] g f e = rw (← good-inj _ _ e) f
    seq_turn-fine d more ih got sum (m ∷ ls) g f e =
        chosen (not (eqb m.indent d && dashed m.text)) _ _ e (λ _ p. rw (← good-inj _ _ p) f)
        λ k p. bound (item_behind cap i m sum (trim_start (drop 1 m.text)) ls) _ g p
        λ x q r.
        let dash : dashed m.text ≡ true = (and_parts (eqb m.indent d) (dashed m.text) (not-false _ k)).1 in
        let v = item_behind-fine m _ (utf8-trim_start _ (undashed m.text f.left.0 dash)) sum ls x f.left.1 q in
        ih (got ◂ x.0) x.1 x.2 g (record { tree = fit-snoc f.tree v.tree; sum = v.sum; left = v.left }) r

    seq_lines-fine : (d t : ℕ) → Adds l (seq_lines cap i d t)
    unfolding seq_lines
    seq_lines-fine d zero got sum ls g f e = rw (← good-inj _ _ e) f
    seq_lines-fine d (suc t) got sum ls g f e = seq_turn-fine d _ (seq_lines-fine d t) got sum ls g f e

    pub block_seq-fine : (d : ℕ) → Reads (suc l) (block_seq cap i d)
    unfolding block_seq items_of
    block_seq-fine d sum ls g u e = bound (charge cap sum 6) _ g e
        λ s p q. bound (items_of cap i d s ls) _ g q
        λ x q r.
        let v = seq_lines-fine d (length ls) end s ls x (record { tree = fit-end; sum = charge-le cap sum 6 s p; left = u }) q in
        rw (← good-inj _ _ r) (record { tree = fit-seq v.tree; sum = v.sum; left = v.left })

  -- ---- blocks: what is inside has one level less

  abbrev pub Deeper : ℕ → Option Inside → Type 0
  Deeper zero o = o ≡ none
  Deeper (suc l) o = (i : Inside) → o ≡ some i → InsideFine l i

  -- a collection that was opened
  opened : (l : ℕ) (o : Option Inside) → Deeper l o → (n : ℕ) (f : Inside → Read Yaml) (g : Got Yaml)
      → ((k : ℕ) (i : Inside) → InsideFine k i → f i ≡ good g → Fine cap (suc k) Lines g) → (given o 20 n 0 >>= f) ≡ good g → Fine cap l Lines g
  opened zero o h n f g r e = bound (given o 20 n 0) f g e λ i p q. gave o 20 n 0 i p λ p. absurd (none-ne-some i (sym h ∙ p))
  opened (suc l) o h n f g r e = bound (given o 20 n 0) f g e λ i p q. gave o 20 n 0 i p λ p. r l i (h i p) q

  pub block_of-fine : (l : ℕ) (o : Option Inside) → Deeper l o → Reads l (block_of cap l o)
  unfolding block_of
  block_of-fine l o h sum [] g u e = leaf-fine l null (fit-null l) sum [] g u e
  block_of-fine l o h sum (m ∷ ls) g u e =
      chosen (dashed m.text) _ _ e (λ _ p. opened l o h m.number _ g (λ k i f q. block_seq-fine k i f m.indent sum (m ∷ ls) g u q) p)
      λ _ p. present (key_end m.text) _ _ p (λ _ q. line_value-fine l m.number m.text u.0 sum ls g u.1 q)
      λ _ _ p. opened l o h m.number _ g (λ k i f q. block_map-fine k i f m.indent sum (m ∷ ls) g u q) p

  inline_of-fine : (l : ℕ) (o : Option Inside) → Deeper l o → (n d : ℕ) (t : List ℕ) (k : ℕ) → Parted t k → Reads l (inline_of cap o n d t k)
  unfolding inline_of
  inline_of-fine l o h n d t k c sum ls g u e = opened l o h n _ g (λ j i f q. inline_map-fine j i f n d t k c sum ls g u q) e

  inside_of-fine : (l : ℕ) (o : Option Inside) → Deeper l o → InsideFine l (inside_of cap l o)
  unfolding inside_of
  inside_of-fine l o h = record { as_many = refl; block_fine = block_of-fine l o h; inline_fine = inline_of-fine l o h }

  pub within-fine : (l : ℕ) → InsideFine l (within cap l)
  unfolding within
  within-fine zero = inside_of-fine 0 none refl
  within-fine (suc l) = inside_of-fine (suc l) (some (within cap l)) (λ i p. subst (InsideFine l) (some-injective _ _ p) (within-fine l))

  pub block-fine : (l sum : ℕ) (ls : List Line) (g : Got Yaml) → Lines ls → block cap l sum ls ≡ good g → Fine cap l Lines g
  unfolding block
  block-fine l sum ls g u e = (within-fine l).block_fine sum ls g u e
