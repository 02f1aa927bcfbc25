-- Block nodes of the grammar are read as YAML reads them (`ReadsBlock`): one induction over derivations. Assumes nothing.
use Rattle.std.proofs.Common.{◌≡◌, sym, ap, ◌∙◌, subst, ℕ, ◌+◌, ◌≤◌, List, ◌++◌}
use Rattle.std.proofs.Math.Option.{none, some}
use Rattle.refusal.specs.Base.{good, maybe}
use Rattle.item.specs.Tree.{many, keyed, Yaml, Items, Entries, has_key, levels}
use Rattle.item.specs.Tree as Tree
use Rattle.item.proofs.Size.{size}
use Rattle.lines.specs.Lines.{Line}
use Rattle.scalar.specs.Scalars.{key_text}
use Rattle.block.specs.Block.{block}
use Rattle.yaml.specs.Represent.{Graph, Rep, as_yaml}
use Rattle.yaml.specs.Rows.{Row}
use Rattle.yaml.specs.Block.{Block, b_flow, b_seq, b_map, i_last, i_more, Item, i_flow, i_null, i_block, i_map, Pairs, Entry, e_flow, e_null, e_block, e_literal}
use Rattle.yaml.specs.Block as B
use Rattle.yaml.specs.Kept.{KeptBlock, KeptSeq, KeptItem, KeptMap, KeptEntry}
use Rattle.yaml.proofs.Parts.{lines_of, Below, ReadsBlock}
use Rattle.yaml.proofs.Trees.{Held, held, some-eq, pair_held, fresh}
use Rattle.yaml.proofs.RowJoins.{shape-block, shape-item, shape-entry}
use Rattle.yaml.proofs.BlockSteps.{BlockTo, block-flow, block_map_lem, block_seq_lem, key_of, EntryOf, entry-flow, entry-null, entry-block, entry-literal, MapOf, map_last, map_more, ItemOf, item-flow, item-null, item-block, item-map, SeqOf, seq-last, seq_more}

module _ (cap : ℕ) where
  mutual
    unfolding KeptBlock KeptSeq KeptItem KeptMap KeptEntry as_yaml maybe levels

    reads : {m : ℕ} {rs : List Row} {r : Rep} (d : Block m rs r) → KeptBlock d → (y : Yaml) → as_yaml r ≡ some y → BlockTo cap m rs y
    reads (b_flow {m = m} {cs = cs} {w = w} {b = b} d h c e) k y f num rest z = subst (λ (x : List Row). BlockTo cap m x y) (sym e) (block-flow cap m w b cs d k.0 k.1 y f c) num rest z
    reads (b_seq {m = m} {rs = rs} {xs = xs} d) k y f num rest b =
        let h : Held (as_yaml xs) (λ ys. some (Tree.seq ys)) y = held (as_yaml xs) (λ ys. some (Tree.seq ys)) y f in
        subst (λ (x : Yaml). (l sum : ℕ) → levels x ≤ l → sum + size x ≤ cap → block cap l sum (lines_of num rs ++ rest) ≡ good (x, sum + size x, rest)) (some-eq h.next)
        (block_seq_lem cap m num (lines_of num rs ++ rest) rest h.value (reads-items d k h.value h.is num rest b))
    reads (b_map {m = m} {rs = rs} {ps = ps} d) k y f num rest b =
        let h : Held (as_yaml ps) (λ es. some (Tree.dict es)) y = held (as_yaml ps) (λ es. some (Tree.dict es)) y f in
        subst (λ (x : Yaml). (l sum : ℕ) → levels x ≤ l → sum + size x ≤ cap → block cap l sum (lines_of num rs ++ rest) ≡ good (x, sum + size x, rest)) (some-eq h.next)
        (block_map_lem cap m num (lines_of num rs ++ rest) rest h.value (reads-pairs d k h.value h.is num rest b))

    reads-items : {m : ℕ} {rs : List Row} {xs : Graph many} (d : B.Items m rs xs) → KeptSeq d → (ys : Items) → as_yaml xs ≡ some ys → (num : ℕ) (rest : List Line) → Below m rest
        → SeqOf cap m num (lines_of num rs ++ rest) rest ys
    reads-items (i_last {m = m} {rs = rs} {r = r} d) k ys f num rest b =
        let h = held (as_yaml r) (λ y. some (Tree.◌▸◌ y Tree.end)) ys f in
        subst (SeqOf cap m num (lines_of num rs ++ rest) rest) (some-eq h.next) (seq-last cap m num rs rest h.value b (reads-item d k h.value h.is num))
    reads-items (i_more {m = m} {rs = rs} {xs = xs} {ys = zs} {r = r} {zs = q} d ds e) k ys f num rest b =
        let h = held (as_yaml r) (λ y. maybe (as_yaml q) none λ ys. some (Tree.◌▸◌ y ys)) ys f in
        let g = held (as_yaml q) (λ ys. some (Tree.◌▸◌ h.value ys)) ys h.next in
        let j = (shape-item d).joins in
        subst (λ (x : List Row). SeqOf cap m num (lines_of num x ++ rest) rest ys) (sym e)
        (subst (SeqOf cap m num (lines_of num (xs ++ zs) ++ rest) rest) (some-eq g.next)
        (seq_more cap m num xs zs rest h.value g.value j (reads-item d k.0 h.value h.is num) (reads-items ds k.1 g.value g.is (j.place num) rest b)))

    reads-item : {m : ℕ} {rs : List Row} {r : Rep} (d : Item m rs r) → KeptItem d → (y : Yaml) → as_yaml r ≡ some y → (num : ℕ) → ItemOf cap m num rs y
    reads-item (i_flow {m = m} {cs = cs} {w = w} {b = b} x v d h c e) k y f num = subst (λ (z : List Row). ItemOf cap m num z y) (sym e) (item-flow cap m num x w b cs v d k.0 k.1 y f c)
    reads-item (i_null {m = m} {rs = rs} {cs = cs} {w = w} {b = b} h c e) k y f num =
        subst (λ (x : List Row). ItemOf cap m num x y) (sym e) (subst (ItemOf cap m num _) (some-eq f) (item-null cap m num w b cs c))
    reads-item (i_block {m = m} {k = n} {cs = cs} {xs = xs} {w = w} {b = b} h c g d e) k y f num =
        subst (λ (x : List Row). ItemOf cap m num x y) (sym e) (item-block cap m n num w b cs xs y c g (shape-block d) (λ num' rest z. reads d k y f num' rest z))
    reads-item (i_map {m = m} {k = n} {rs = rs} {xs = xs} {t = t} {w = w} {b = b} {ps = ps} j g d e) k y f num =
        let h : Held (as_yaml ps) (λ es. some (Tree.dict es)) y = held (as_yaml ps) (λ es. some (Tree.dict es)) y f in
        subst (λ (x : List Row). ItemOf cap m num x y) (sym e)
        (subst (ItemOf cap m num _) (some-eq h.next) (item-map cap m n num j t w b xs h.value g (λ rest z. reads-pairs d k h.value h.is num rest z)))

    reads-pairs : {n : ℕ} {rs : List Row} {ps : Graph keyed} (d : Pairs n rs ps) → KeptMap d → (es : Entries) → as_yaml ps ≡ some es → (num : ℕ) (rest : List Line) → Below n rest
        → MapOf cap n num (lines_of num rs ++ rest) rest es
    reads-pairs (B.m_last {n = n} {rs = rs} {k = a} {v = v} d) k es f num rest b =
        let h = pair_held a v Graph.done es f in
        let g = fresh (has_key h.key h.rest) (Tree.pair h.key h.value h.rest) es h.next in
        subst (MapOf cap n num (lines_of num rs ++ rest) rest) (ap (λ (x : Entries). Tree.pair h.key h.value x) (some-eq h.rest_is) ∙ g.1)
        (map_last cap n num rs rest h.key h.value b (reads-entry d k h.tree h.key h.value h.key_is h.text_is h.value_is num))
    reads-pairs (B.m_more {n = n} {rs = rs} {xs = xs} {ys = ys} {k = a} {v = v} {ps = ps} d ds e) k es f num rest b =
        let h = pair_held a v ps es f in
        let g = fresh (has_key h.key h.rest) (Tree.pair h.key h.value h.rest) es h.next in
        let j = (shape-entry d).joins in
        subst (λ (x : List Row). MapOf cap n num (lines_of num x ++ rest) rest es) (sym e)
        (subst (MapOf cap n num (lines_of num (xs ++ ys) ++ rest) rest) g.1
        (map_more cap n num xs ys rest h.key h.value h.rest j g.0 (reads-entry d k.0 h.tree h.key h.value h.key_is h.text_is h.value_is num)
        (reads-pairs ds k.1 h.rest h.rest_is (j.place num) rest b)))

    reads-entry : {n : ℕ} {rs : List Row} {a v : Rep} (d : Entry n rs a v) → KeptEntry d → (x : Yaml) (key : List ℕ) (y : Yaml) → as_yaml a ≡ some x → key_text x ≡ some key → as_yaml v ≡ some y
        → (num : ℕ) → EntryOf cap n num rs key y
    reads-entry (e_flow {n = n} {cs = cs} {s = s} {w = w} {b = b} u q v d h c e) k x key y f g i num =
        subst (λ (z : List Row). EntryOf cap n num z key y) (sym e) (entry-flow cap n num s u w b cs key v d k.2 y i (key_of cap q k.0 x key f g) k.1 c)
    reads-entry (e_null {n = n} {cs = cs} {s = s} {w = w} {b = b} q h c e) k x key y f g i num =
        subst (λ (z : List Row). EntryOf cap n num z key y) (sym e) (subst (EntryOf cap n num _ key) (some-eq i) (entry-null cap n num s w b cs key (key_of cap q k.0 x key f g) k.1 c))
    reads-entry (e_block {n = n} {m = m} {cs = cs} {xs = xs} {s = s} {w = w} {b = b} q h c o d e) k x key y f g i num =
        subst (λ (z : List Row). EntryOf cap n num z key y) (sym e)
        (entry-block cap n m num s w b cs xs key y (key_of cap q k.0 x key f g) k.1 c o (shape-block d) (λ num' rest z. reads d k.2 y i num' rest z))
    reads-entry (e_literal {n = n} {xs = xs} {s = s} {w = w} {v = v} {b = b} u c q z h d e) k x key y f g i num =
        subst (λ (z : List Row). EntryOf cap n num z key y) (sym e)
        (subst (EntryOf cap n num _ key) (some-eq i) (entry-literal cap n num s u w b xs c key v z (key_of cap q k.0 x key f g) k.1 d k.2))

pub reads-block : ReadsBlock
unfolding ReadsBlock
reads-block cap l sum k m rs r y d p e rest b v g = reads cap d p y e k rest b l sum v g
