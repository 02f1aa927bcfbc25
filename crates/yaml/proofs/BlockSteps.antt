-- What the reader's steps for block nodes come to on the entries of a node's rows. Assumes nothing.
use Rattle.std.proofs.Common.{◌≡◌, refl, sym, ap, ◌∙◌, subst, ℕ, zero, suc, ◌+◌, ◌-◌, ◌≤◌, ◌<◌, arith, List, [], ◌∷◌, ◌++◌, append_assoc, append-nil, true, false, T, eqb, length, drop, length-append, eq-eqb, ne_eqb, le-leb}
use Rattle.std.proofs.lemmas.List.{length-replicate}
use Rattle.std.proofs.Math.Option.{some, none-ne-some}
use Rattle.std.proofs.Math.Seq.{take-append_seam}
use Rattle.refusal.specs.Base.{good, ◌>>=◌, ◌>>◌, ensure, given, maybe, ch, bytes, same, empty}
use Rattle.utf8.specs.Utf8 as U
use Rattle.utf8.specs.White.{white1, white2, white_at, leading_from, leading, trim_start, all_white, trim_end, trim}
use Rattle.utf8.proofs.Laws.{trim-nil}
use Rattle.item.specs.Tree.{Yaml, Items, Entries, end, ◌▸◌, ◌◂◌, done, pair, add, has_key, levels}
use Rattle.item.specs.Tree as Tree
use Rattle.item.proofs.Size.{size}
use Rattle.item.proofs.Joined.{◌⋈◌, add-more, none_more}
use Rattle.lines.specs.Lines.{Line, line}
use Rattle.scalar.specs.Scalars.{key_text}
use Rattle.scalar.specs.Key.{key_end, key_end_from}
use Rattle.scalar.specs.Read.{cost, charge}
use Rattle.scalar.specs.declared.Role.TheVariants.{AsValue, AsKey}
use Rattle.flow.specs.Flow.{flow, fresh}
use Rattle.yaml.specs.Scalars.{flow_out}
use Rattle.literal.specs.Literal.{leaf, literal}
use Rattle.lines.specs.Dash.{dashed}
use Rattle.block.specs.Block.{key_at, starts_complex, line_value, child, block_key, value_behind, entry_at, map_turn, map_lines, entries_of, block_map, inline_map, item_behind, seq_turn, seq_lines, items_of, block_seq, within, block}
use Rattle.scalar.specs.Code.{found_of}
use Rattle.block.proofs.Parts.{opens_dash, opens_key, opens_flow}
use Rattle.block.proofs.Cases.{within-levels, block-line, block-sequence, block-mapping, child-end, child-deeper, child-none, entry_whole, charged, item-child, item-line, item-inline}
use Rattle.yaml.specs.Characters.{whites, spaces}
use Rattle.yaml.specs.Represent.{Rep, as_yaml}
use Rattle.yaml.specs.Flow.{Flow}
use Rattle.yaml.specs.Rows.{Break, Row, node, Comments}
use Rattle.yaml.specs.Block.{Chomp, strip, clip, mark, Literal, Key, key}
use Rattle.yaml.specs.Kept.{KeptFlow, KeptKey, KeptLiteral, KeyFound, NoKey, starts}
use Rattle.yaml.proofs.Parts.{lines_of, Below, strips, ReadsLiteral}
use Rattle.yaml.proofs.Trees.{scalar-levels, key-size}
use Rattle.yaml.proofs.Grow.{Apart, apart-add, apart-done, ◌▸▸◌, snoc-more, no_more}
use Rattle.yaml.proofs.FlowReads.{flow-reads}
use Rattle.yaml.proofs.LiteralReads.{comments-none, reads-literal}
use Rattle.yaml.proofs.Whites.{whites-spaces, start-front, trim-front, trim-behind}
use Rattle.yaml.proofs.NodeTexts.{Front, front_of, node-trim, node-start, key-start}
use Rattle.yaml.proofs.RowJoins.{Joins, joins-comments, Shape}

-- ---- texts and lines

drop_past : (s : List ℕ) (c : ℕ) (u : List ℕ) → drop (suc (length s)) (s ++ (c ∷ u)) ≡ u
drop_past [] c u = refl
drop_past (b ∷ s) c u = drop_past s c u

pub Below-less : (n m : ℕ) (rest : List Line) → n < m → Below (suc n) rest → Below m rest
unfolding Below
Below-less n m [] h b = tt
Below-less n m (l ∷ ls) h b = omega arith

pub Below-more : (n : ℕ) (rest : List Line) → Below n rest → Below (suc n) rest
unfolding Below
Below-more n [] b = tt
Below-more n (l ∷ ls) b = omega arith

pub Below-line : (n : ℕ) (t : List ℕ) (k : ℕ) (ls : List Line) → Below (suc n) (line n t k ∷ ls)
unfolding Below
Below-line n t k ls = omega arith

dashed-item : (u : List ℕ) → dashed (45 ∷ 32 ∷ u) ≡ true
unfolding dashed same bytes
dashed-item u = refl

dashed-alone : dashed (45 ∷ []) ≡ true
unfolding dashed same bytes
dashed-alone = refl

start-nil : trim_start [] ≡ []
unfolding trim_start leading leading_from
start-nil = refl

key-long : (t : List ℕ) (i : ℕ) → key_end t ≡ some i → 0 < length t
unfolding key_end key_end_from
key-long [] i e = absurd (none-ne-some i e)
key-long (b ∷ t) i e = omega arith

first_text : List Line → List ℕ
first_text [] = []
first_text (l ∷ ls) = l.text

first_rest : List Line → List Line
first_rest [] = []
first_rest (l ∷ ls) = ls

module _ (cap : ℕ) where
  -- ---- what is to be read

  -- a block node on rows
  abbrev pub BlockTo : ℕ → List Row → Yaml → Type 0
  BlockTo m xs y = (num : ℕ) (rest : List Line) → Below m rest → (l sum : ℕ) → levels y ≤ l → sum + size y ≤ cap → block cap l sum (lines_of num xs ++ rest) ≡ good (y, sum + size y, rest)

  -- the value behind a colon, an entry at its key's place
  abbrev ValueTo : ℕ → ℕ → List ℕ → List Line → List Line → Yaml → Type 0
  ValueTo n num t ls rest y = (l sum : ℕ) → levels y ≤ l → sum + size y ≤ cap → value_behind cap (within cap l) num n sum t ls ≡ good (y, sum + size y, rest)

  abbrev EntryTo : ℕ → ℕ → List ℕ → ℕ → List Line → List Line → List ℕ → Yaml → Type 0
  EntryTo n num t split ls rest k y = (l sum : ℕ) → levels y ≤ l → sum + (6 + length k + size y) ≤ cap
      → entry_at cap (within cap l) num n t split sum ls ≡ good ((k, y), sum + (6 + length k + size y), rest)

  -- entries and items behind others that were read
  abbrev MapTo : ℕ → List Line → List Line → Entries → Type 0
  MapTo n ls rest es = (l u sum : ℕ) (got : Entries) → length ls ≤ u → Apart got es → levels es ≤ l → sum + size es ≤ cap
      → map_lines cap (within cap l) n u got sum ls ≡ good (got ⋈ es, sum + size es, rest)

  abbrev SeqTo : ℕ → List Line → List Line → Items → Type 0
  SeqTo m ls rest ys = (l u sum : ℕ) (got : Items) → length ls ≤ u → levels ys ≤ l → sum + size ys ≤ cap
      → seq_lines cap (within cap l) m u got sum ls ≡ good (got ▸▸ ys, sum + size ys, rest)

  -- ---- leaves and children

  leaf-null : (sum : ℕ) (rest : List Line) → sum + 6 ≤ cap → leaf cap sum Tree.null rest ≡ good (Tree.null, sum + 6, rest)
  unfolding leaf charge cost ◌>>=◌
  leaf-null sum rest h = rw (le-leb (sum + 6) cap h)

  child-null : (l n sum : ℕ) (rest : List Line) → Below (suc n) rest → sum + 6 ≤ cap → child cap (within cap l) n sum rest ≡ good (Tree.null, sum + 6, rest)
  unfolding Below
  child-null l n sum [] b h = child-end cap l n sum [] refl ∙ leaf-null sum [] h
  child-null l n sum (x ∷ rest) b h = child-none cap l n sum (x ∷ rest) x rest refl (omega arith) ∙ leaf-null sum (x ∷ rest) h

  -- comments, then a deeper node
  child-block : (n m num : ℕ) (cs xs : List Row) (rest : List Line) (y : Yaml) → Comments cs → n < m → Shape m xs → BlockTo m xs y → Below (suc n) rest → (l sum : ℕ) → levels y ≤ l → sum + size y ≤ cap
      → child cap (within cap l) n sum (lines_of num (cs ++ xs) ++ rest) ≡ good (y, sum + size y, rest)
  child-block n m num cs xs rest y c h s d b l sum v g =
      let j : Joins cs = joins-comments c in
      let k : ℕ = j.place num in
      ap (λ (z : List Line). child cap (within cap l) n sum (z ++ rest)) (j.is num xs ∙ ap (λ (z : List Line). z ++ lines_of k xs) (comments-none c num))
      ∙ child-deeper cap l n sum (lines_of k xs ++ rest) (line m s.text k) (s.more k ++ rest) (ap (λ (z : List Line). z ++ rest) (s.is k)) h
      ∙ d k rest (Below-less n m rest h b) l sum v g

  -- a flow node that is all of a line's text, or of a part of it
  line_value_lem : (l n sum : ℕ) {t : List ℕ} {r : Rep} (d : Flow flow_out t r) → KeptFlow d → (y : Yaml) → as_yaml r ≡ some y → (ls : List Line) → levels y ≤ l → sum + size y ≤ cap
      → line_value cap l n sum t ls ≡ good (y, sum + size y, ls)
  unfolding line_value ◌>>=◌
  line_value_lem l n sum d k y e ls v h = rw (flow-reads cap n l sum AsValue d k y e v h)

  pub block-flow : (m : ℕ) (w : List ℕ) (b : Break) (cs : List Row) {t : List ℕ} {r : Rep} (d : Flow flow_out t r) → KeptFlow d → NoKey t → (y : Yaml) → as_yaml r ≡ some y → Comments cs
      → BlockTo m (node m t w b ∷ cs) y
  unfolding lines_of NoKey
  block-flow m w b cs {t = t} d p k y e c num rest h l sum v g =
      let f : Front t = front_of d in
      let n : dashed t ≡ false = ap dashed (f.is ∙ sym (append-nil (f.byte ∷ f.rest))) ∙ f.no_dash [] in
      rw (comments-none c (suc num)) (block-line cap l sum (line m t num ∷ rest) (line m t num) rest refl (sym (opens_flow t n (ap found_of (sym k)))) ∙ line_value_lem l num sum d p y e rest v g)

  -- ---- keys

  key_at_lem : (l n sum b : ℕ) (t : List ℕ) (y : Yaml) (k : List ℕ) (s : ℕ) → eqb b 63 ≡ false → eqb b 38 ≡ false → eqb b 42 ≡ false → flow cap n l AsKey sum (b ∷ t) ≡ good (y, s) → key_text y ≡ some k
      → block_key cap l n sum (b ∷ t) ≡ good (k, s)
  unfolding block_key ensure given empty starts_complex ◌>>=◌ ◌>>◌
  key_at_lem l n sum b t y k s e₁ e₂ e₃ e₄ e₅ = rw (e₁, e₂, e₃, e₄, e₅)

  pub record KeyOf (s k : List ℕ) : Type 0 where
    pub start : (u : List ℕ) → trim_start (s ++ (ch ":" ∷ u)) ≡ s ++ (ch ":" ∷ u)
    pub no_dash : (u : List ℕ) → dashed (s ++ (ch ":" ∷ u)) ≡ false
    pub reads : (l n sum : ℕ) → sum + (6 + length k) ≤ cap → block_key cap l n sum (trim s) ≡ good (k, sum + (6 + length k))

  pub key_of : {s : List ℕ} {a : Rep} (d : Key s a) → KeptKey d → (y : Yaml) (k : List ℕ) → as_yaml a ≡ some y → key_text y ≡ some k → KeyOf s k
  unfolding KeptKey
  key_of (key {s = s} {t = t} x d w e h) (p, q) y k f g = subst (λ (z : List ℕ). KeyOf z k) (sym e) (record {
    start = λ u. key-start d p x u w;
    no_dash = λ u. ap dashed (append_assoc t x (58 ∷ u) ∙ ap (λ (z : List ℕ). z ++ (x ++ (58 ∷ u))) c.is) ∙ c.no_dash (x ++ (58 ∷ u));
    reads = λ l n sum m. ap (block_key cap l n sum) (trim-behind t x w ∙ node-trim d p) ∙ read l n sum m;
  })
    where
      c : Front t
      c = front_of d

      mark-not : starts 63 s ≡ false → eqb c.byte 63 ≡ false
      mark-not q = unfold starts in (rw (e, c.is) at q)

      read : (l n sum : ℕ) → sum + (6 + length k) ≤ cap → block_key cap l n sum t ≡ good (k, sum + (6 + length k))
      read l n sum m =
          let w : flow cap n l AsKey sum t ≡ good (y, sum + (6 + length k)) =
          flow-reads cap n l sum AsKey d p y f (omega (arith, scalar-levels y k g)) (omega (arith, key-size y k g)) ∙ ap (λ (z : ℕ). good (y, sum + z)) (key-size y k g) in
          ap (block_key cap l n sum) c.is
          ∙ key_at_lem l n sum c.byte c.rest y k (sum + (6 + length k)) (mark-not q) c.no_anchor c.no_alias (ap (flow cap n l AsKey sum) (sym c.is) ∙ w) g

  -- ---- values behind a colon

  value-at : (l num n sum b : ℕ) (t : List ℕ) (ls : List Line) → eqb b 124 ≡ false → value_behind cap (within cap l) num n sum (b ∷ t) ls ≡ line_value cap l num sum (b ∷ t) ls
  unfolding value_behind empty same bytes
  value-at l num n sum b t ls e = rw (e, within-levels cap l)

  value-flow : (n num : ℕ) (x : List ℕ) → T (whites x) → {t : List ℕ} {r : Rep} (d : Flow flow_out t r) → KeptFlow d → (y : Yaml) → as_yaml r ≡ some y → (rest : List Line)
      → ValueTo n num (trim (ch " " ∷ x ++ t)) rest rest y
  value-flow n num x w {t = t} d k y e rest l sum v h =
      let c : Front t = front_of d in
      ap (λ (x : List ℕ). value_behind cap (within cap l) num n sum x rest) (trim-front x t w ∙ node-trim d k ∙ c.is)
      ∙ value-at l num n sum c.byte c.rest rest c.no_bar
      ∙ ap (λ (x : List ℕ). line_value cap l num sum x rest) (sym c.is)
      ∙ line_value_lem l num sum d k y e rest v h

  value_none : (n num l sum : ℕ) (ls : List Line) → value_behind cap (within cap l) num n sum (trim []) ls ≡ child cap (within cap l) n sum ls
  unfolding value_behind empty
  value_none n num l sum ls = rw trim-nil

  mark-trim : (c : Chomp) → trim (ch "|" ∷ mark c) ≡ ch "|" ∷ mark c
  unfolding trim trim_start leading leading_from white_at white1 white2 U.within trim_end all_white empty maybe mark
  mark-trim strip = refl
  mark-trim clip = refl

  value-bar : (n num l sum : ℕ) (c : Chomp) (ls : List Line) → value_behind cap (within cap l) num n sum (ch "|" ∷ mark c) ls ≡ literal cap (strips c) n sum ls
  unfolding value_behind empty same bytes mark strips
  value-bar n num l sum strip ls = refl
  value-bar n num l sum clip ls = refl

  -- ---- entries

  pub record EntryOf (n num : ℕ) (xs : List Row) (k : List ℕ) (y : Yaml) : Type 0 where
    pub text : List ℕ
    pub split : ℕ
    pub more : List Line
    pub is : lines_of num xs ≡ line n text num ∷ more
    pub found : key_end text ≡ some split
    pub start : trim_start text ≡ text
    pub no_dash : dashed text ≡ false
    pub reads : (rest : List Line) → Below (suc n) rest → EntryTo n num text split (more ++ rest) rest k y

  entry_of : (n num : ℕ) (s u w : List ℕ) (b : Break) (xs : List Row) (k : List ℕ) (y : Yaml) → KeyOf s k → KeyFound s u
      → ((rest : List Line) → Below (suc n) rest → ValueTo n num (trim u) (lines_of (suc num) xs ++ rest) rest y) → EntryOf n num (node n (s ++ (ch ":" ∷ u)) w b ∷ xs) k y
  unfolding KeyFound lines_of
  entry_of n num s u w b xs k y d f g = record {
    text = s ++ (58 ∷ u);
    split = length s;
    more = lines_of (suc num) xs;
    is = refl;
    found = f;
    start = d.start u;
    no_dash = d.no_dash u;
    reads = λ rest h l sum v m.
        entry_whole cap l num n (s ++ (58 ∷ u)) (length s) sum (lines_of (suc num) xs ++ rest) k (sum + (6 + length k)) y (sum + (6 + length k) + size y) rest
        (ap (λ (x : List ℕ). block_key cap l num sum (trim x)) (take-append_seam s (58 ∷ u)) ∙ d.reads l num sum (omega arith))
        (ap (λ (x : List ℕ). value_behind cap (within cap l) num n (sum + (6 + length k)) (trim x) (lines_of (suc num) xs ++ rest)) (drop_past s 58 u) ∙ g rest h l (sum + (6 + length k)) v (omega arith))
        ∙ ap (λ (z : ℕ). good ((k, y), z, rest)) (omega arith);
  }

  pub entry-flow : (n num : ℕ) (s x w : List ℕ) (b : Break) (cs : List Row) (k : List ℕ) → T (whites x) → {t : List ℕ} {r : Rep} (d : Flow flow_out t r) → KeptFlow d → (y : Yaml) → as_yaml r ≡ some y
      → KeyOf s k → KeyFound s (ch " " ∷ x ++ t) → Comments cs → EntryOf n num (node n (s ++ (ch ":" ∷ ch " " ∷ x ++ t)) w b ∷ cs) k y
  entry-flow n num s x w b cs k q {t = t} d p y e a f c = entry_of n num s (32 ∷ x ++ t) w b cs k y a f
      (λ rest h. rw (comments-none c (suc num)) (value-flow n num x q d p y e rest))

  pub entry-null : (n num : ℕ) (s w : List ℕ) (b : Break) (cs : List Row) (k : List ℕ) → KeyOf s k → KeyFound s [] → Comments cs → EntryOf n num (node n (s ++ (ch ":" ∷ [])) w b ∷ cs) k Tree.null
  entry-null n num s w b cs k a f c = entry_of n num s [] w b cs k Tree.null a f
      (λ rest h l sum v m. value_none n num l sum _ ∙ rw (comments-none c (suc num)) (child-null l n sum rest h m))

  pub entry-block : (n m num : ℕ) (s w : List ℕ) (b : Break) (cs xs : List Row) (k : List ℕ) (y : Yaml) → KeyOf s k → KeyFound s [] → Comments cs → n < m → Shape m xs → BlockTo m xs y
      → EntryOf n num (node n (s ++ (ch ":" ∷ [])) w b ∷ cs ++ xs) k y
  entry-block n m num s w b cs xs k y a f c h z d = entry_of n num s [] w b (cs ++ xs) k y a f
      (λ rest g l sum v q. value_none n num l sum _ ∙ child-block n m (suc num) cs xs rest y c h z d g l sum v q)

  pub entry-literal : (n num : ℕ) (s x w : List ℕ) (b : Break) (xs : List Row) (c : Chomp) (k v : List ℕ) → T (whites x) → KeyOf s k → KeyFound s (ch " " ∷ x ++ (ch "|" ∷ mark c)) → (d : Literal n c xs v) → KeptLiteral d
      → EntryOf n num (node n (s ++ (ch ":" ∷ ch " " ∷ x ++ (ch "|" ∷ mark c))) w b ∷ xs) k (Tree.str v)
  unfolding ReadsLiteral
  entry-literal n num s x w b xs c k v h a f d p = entry_of n num s (32 ∷ x ++ (124 ∷ mark c)) w b xs k (Tree.str v) a f
      (λ rest g l sum z q.
      ap (λ (u : List ℕ). value_behind cap (within cap l) num n sum u (lines_of (suc num) xs ++ rest)) (trim-front x (124 ∷ mark c) h ∙ mark-trim c)
      ∙ value-bar n num l sum c (lines_of (suc num) xs ++ rest)
      ∙ reads-literal cap n sum (suc num) c xs v d p rest g q)

  -- ---- mappings

  map-end : (n : ℕ) (rest : List Line) → Below n rest → MapTo n rest rest done
  map-end n rest b l u sum got h a v g = go u rest b ∙ ap (λ (e : Entries). good (e, sum, rest)) (sym (none_more got)) ∙ ap (λ (s : ℕ). good (got ⋈ done, s, rest)) (omega arith)
    where
      go : (u : ℕ) (rest : List Line) → Below n rest → map_lines cap (within cap l) n u got sum rest ≡ good (got, sum, rest)
      go zero rest b = unfold map_lines in refl
      go (suc u) [] b = unfold map_lines map_turn in refl
      go (suc u) (x ∷ rest) b = unfold map_lines map_turn key_at maybe Below in (rw (ne_eqb x.indent n (λ e. omega arith)))

  map_turn_lem : (l u n num sum : ℕ) (got : Entries) (t : List ℕ) (split : ℕ) (more left : List Line) (k : List ℕ) (y : Yaml) (s : ℕ) → key_end t ≡ some split
      → entry_at cap (within cap l) num n t split sum more ≡ good ((k, y), s, left) → has_key k got ≡ false
      → map_lines cap (within cap l) n (suc u) got sum (line n t num ∷ more) ≡ map_lines cap (within cap l) n u (add got k y) s left
  unfolding map_lines map_turn key_at maybe fresh ensure ◌>>=◌ ◌>>◌
  map_turn_lem l u n num sum got t split more left k y s e₁ e₂ e₃ = rw (eq-eqb n n refl, e₁, e₂, e₃)

  -- a mapping by its first entry and the others
  pub record MapOf (n num : ℕ) (ls rest : List Line) (es : Entries) : Type 0 where
    pub text : List ℕ
    pub split : ℕ
    pub more : List Line
    pub left : List Line
    pub key : List ℕ
    pub value : Yaml
    pub others : Entries
    pub is : ls ≡ line n text num ∷ more
    pub found : key_end text ≡ some split
    pub start : trim_start text ≡ text
    pub no_dash : dashed text ≡ false
    pub reads : EntryTo n num text split more left key value
    pub fewer : length left ≤ length more
    pub whole : es ≡ pair key value others
    pub apart : has_key key others ≡ false
    pub to : MapTo n left rest others

  map-to : (n num : ℕ) (ls rest : List Line) (es : Entries) → MapOf n num ls rest es → MapTo n ls rest es
  unfolding levels
  map-to n num ls rest es m = rw (m.is, m.whole) go
    where
      go : MapTo n (line n m.text num ∷ m.more) rest (pair m.key m.value m.others)
      go l zero sum got h a v g = absurd (omega arith)
      go l (suc u) sum got h a v g =
          map_turn_lem l u n num sum got m.text m.split m.more m.left m.key m.value (sum + (6 + length m.key + size m.value)) m.found
          (m.reads l sum (omega arith) (omega arith)) a.0
          ∙ m.to l u (sum + (6 + length m.key + size m.value)) (add got m.key m.value) (omega (arith, m.fewer)) (apart-add got m.key m.value m.others m.apart a.1) (omega arith) (omega arith)
          ∙ rw (add-more got m.key m.value m.others) (ap (λ (s : ℕ). good (got ⋈ (pair m.key m.value m.others), s, rest)) (omega arith))

  entries-to : (l n sum : ℕ) (ls rest : List Line) (es : Entries) → MapTo n ls rest es → levels es ≤ l → sum + size es ≤ cap → entries_of cap (within cap l) n sum ls ≡ good (es, sum + size es, rest)
  unfolding entries_of ◌⋈◌
  entries-to l n sum ls rest es m v g = m l (length ls) sum done (omega arith) (apart-done es) v g

  map_whole : (l n sum : ℕ) (ls rest : List Line) (es : Entries) → MapTo n ls rest es → levels es ≤ l → sum + (6 + size es) ≤ cap
      → block_map cap (within cap l) n sum ls ≡ good (Tree.dict es, sum + (6 + size es), rest)
  unfolding block_map ◌>>=◌
  map_whole l n sum ls rest es m v g =
      rw (charged cap sum (omega arith), entries-to l n (sum + 6) ls rest es m v (omega arith)) (ap (λ (s : ℕ). good (Tree.dict es, s, rest)) (omega arith))

  map-inline : (l n num sum : ℕ) (t : List ℕ) (split : ℕ) (more left rest : List Line) (k : List ℕ) (y : Yaml) (es : Entries) → EntryTo n num t split more left k y → MapTo n left rest es → has_key k es ≡ false
      → levels y ≤ l → levels es ≤ l → sum + (6 + (6 + length k + (size y + size es))) ≤ cap
      → inline_map cap (within cap l) num n t split sum more ≡ good (Tree.dict (pair k y es), sum + (6 + (6 + length k + (size y + size es))), rest)
  unfolding inline_map fresh ensure ◌>>=◌ ◌>>◌
  map-inline l n num sum t split more left rest k y es e m a v w g =
      rw (charged cap sum (omega arith), e l (sum + 6) v (omega arith), entries-to l n (sum + 6 + (6 + length k + size y)) left rest es m w (omega arith), a)
      (ap (λ (s : ℕ). good (Tree.dict (pair k y es), s, rest)) (omega arith))

  pub block_map_lem : (n num : ℕ) (ls rest : List Line) (es : Entries) → MapOf n num ls rest es → (l sum : ℕ) → suc (levels es) ≤ l → sum + (6 + size es) ≤ cap
      → block cap l sum ls ≡ good (Tree.dict es, sum + (6 + size es), rest)
  block_map_lem n num ls rest es m l sum v g =
      block-mapping cap l sum ls (line n m.text num) m.more m.is m.split (sym (opens_key m.text m.no_dash m.split (ap found_of (sym m.found)))) (λ z. omega arith)
      ∙ map_whole (l - 1) n sum ls rest es (map-to n num ls rest es m) (omega arith) g

  -- the last entry, and one before others
  pub map_last : (n num : ℕ) (xs : List Row) (rest : List Line) (k : List ℕ) (y : Yaml) → Below n rest → EntryOf n num xs k y → MapOf n num (lines_of num xs ++ rest) rest (pair k y done)
  unfolding has_key
  map_last n num xs rest k y b e = record {
    text = e.text;
    split = e.split;
    more = e.more ++ rest;
    left = rest;
    key = k;
    value = y;
    others = done;
    is = ap (λ (z : List Line). z ++ rest) e.is;
    found = e.found;
    start = e.start;
    no_dash = e.no_dash;
    reads = e.reads rest (Below-more n rest b);
    fewer = omega (arith, length-append e.more rest);
    whole = refl;
    apart = refl;
    to = map-end n rest b;
  }

  pub map_more : (n num : ℕ) (xs ys : List Row) (rest : List Line) (k : List ℕ) (y : Yaml) (es : Entries) → (j : Joins xs) → has_key k es ≡ false → EntryOf n num xs k y
      → MapOf n (j.place num) (lines_of (j.place num) ys ++ rest) rest es → MapOf n num (lines_of num (xs ++ ys) ++ rest) rest (pair k y es)
  map_more n num xs ys rest k y es j a e m =
      let left : List Line = lines_of (j.place num) ys ++ rest in
      record {
        text = e.text;
        split = e.split;
        more = e.more ++ left;
        left = left;
        key = k;
        value = y;
        others = es;
        is = ap (λ (z : List Line). z ++ rest) (j.is num ys) ∙ append_assoc (lines_of num xs) (lines_of (j.place num) ys) rest ∙ ap (λ (z : List Line). z ++ left) e.is;
        found = e.found;
        start = e.start;
        no_dash = e.no_dash;
        reads = e.reads left (subst (Below (suc n)) (sym m.is) (Below-line n m.text (j.place num) m.more));
        fewer = omega (arith, length-append e.more left);
        whole = refl;
        apart = a;
        to = map-to n (j.place num) left rest es m;
      }

  -- ---- sequences

  seq_end : (m : ℕ) (rest : List Line) → Below m rest → SeqTo m rest rest end
  seq_end m rest b l u sum got h v g = go u rest b ∙ ap (λ (e : Items). good (e, sum, rest)) (sym (no_more got)) ∙ ap (λ (s : ℕ). good (got ▸▸ end, s, rest)) (omega arith)
    where
      go : (u : ℕ) (rest : List Line) → Below m rest → seq_lines cap (within cap l) m u got sum rest ≡ good (got, sum, rest)
      go zero rest b = unfold seq_lines in refl
      go (suc u) [] b = unfold seq_lines seq_turn in refl
      go (suc u) (x ∷ rest) b = unfold seq_lines seq_turn Below in (rw (ne_eqb x.indent m (λ e. omega arith)))

  seq_turn_lem : (l u m num sum : ℕ) (got : Items) (t : List ℕ) (more left : List Line) (y : Yaml) (s : ℕ) → dashed t ≡ true
      → item_behind cap (within cap l) (line m t num) sum (trim_start (drop 1 t)) more ≡ good (y, s, left)
      → seq_lines cap (within cap l) m (suc u) got sum (line m t num ∷ more) ≡ seq_lines cap (within cap l) m u (got ◂ y) s left
  unfolding seq_lines seq_turn ◌>>=◌
  seq_turn_lem l u m num sum got t more left y s e₁ e₂ = rw (eq-eqb m m refl, e₁, e₂)

  pub record ItemOf (m num : ℕ) (xs : List Row) (y : Yaml) : Type 0 where
    pub text : List ℕ
    pub more : List Line
    pub is : lines_of num xs ≡ line m text num ∷ more
    pub dash : dashed text ≡ true
    pub reads : (rest : List Line) → Below (suc m) rest → (l sum : ℕ) → levels y ≤ l → sum + size y ≤ cap
        → item_behind cap (within cap l) (line m text num) sum (trim_start (drop 1 text)) (more ++ rest) ≡ good (y, sum + size y, rest)

  pub record SeqOf (m num : ℕ) (ls rest : List Line) (ys : Items) : Type 0 where
    pub text : List ℕ
    pub more : List Line
    pub is : ls ≡ line m text num ∷ more
    pub dash : dashed text ≡ true
    pub to : SeqTo m ls rest ys

  seq-next : (m num : ℕ) (t : List ℕ) (more left rest : List Line) (y : Yaml) (ys : Items) → dashed t ≡ true → length left ≤ length more
      → ((l sum : ℕ) → levels y ≤ l → sum + size y ≤ cap → item_behind cap (within cap l) (line m t num) sum (trim_start (drop 1 t)) more ≡ good (y, sum + size y, left))
      → SeqTo m left rest ys → SeqTo m (line m t num ∷ more) rest (y ▸ ys)
  unfolding levels
  seq-next m num t more left rest y ys d f e q l zero sum got h v g = absurd (omega arith)
  seq-next m num t more left rest y ys d f e q l (suc u) sum got h v g =
      seq_turn_lem l u m num sum got t more left y (sum + size y) d (e l sum (omega arith) (omega arith))
      ∙ q l u (sum + size y) (got ◂ y) (omega arith) (omega arith) (omega arith)
      ∙ rw (snoc-more got y ys) (ap (λ (s : ℕ). good (got ▸▸ (y ▸ ys), s, rest)) (omega arith))

  pub seq-last : (m num : ℕ) (xs : List Row) (rest : List Line) (y : Yaml) → Below m rest → ItemOf m num xs y → SeqOf m num (lines_of num xs ++ rest) rest (y ▸ end)
  seq-last m num xs rest y b e =
      let w : lines_of num xs ++ rest ≡ line m e.text num ∷ (e.more ++ rest) = ap (λ (z : List Line). z ++ rest) e.is in
      record {
        text = e.text;
        more = e.more ++ rest;
        is = w;
        dash = e.dash;
        to = rw w (seq-next m num e.text (e.more ++ rest) rest rest y end e.dash (omega (arith, length-append e.more rest)) (e.reads rest (Below-more m rest b)) (seq_end m rest b));
      }

  pub seq_more : (m num : ℕ) (xs ys : List Row) (rest : List Line) (y : Yaml) (zs : Items) → (j : Joins xs) → ItemOf m num xs y
      → SeqOf m (j.place num) (lines_of (j.place num) ys ++ rest) rest zs → SeqOf m num (lines_of num (xs ++ ys) ++ rest) rest (y ▸ zs)
  seq_more m num xs ys rest y zs j e q =
      let left : List Line = lines_of (j.place num) ys ++ rest in
      let w : lines_of num (xs ++ ys) ++ rest ≡ line m e.text num ∷ (e.more ++ left) =
      ap (λ (z : List Line). z ++ rest) (j.is num ys) ∙ append_assoc (lines_of num xs) (lines_of (j.place num) ys) rest ∙ ap (λ (z : List Line). z ++ left) e.is in
      record {
        text = e.text;
        more = e.more ++ left;
        is = w;
        dash = e.dash;
        to = rw w
            (seq-next m num e.text (e.more ++ left) left rest y zs e.dash (omega (arith, length-append e.more left))
            (e.reads left (subst (Below (suc m)) (sym q.is) (Below-line m q.text (j.place num) q.more))) q.to);
      }

  seq-whole : (l m sum : ℕ) (ls rest : List Line) (ys : Items) → SeqTo m ls rest ys → levels ys ≤ l → sum + (6 + size ys) ≤ cap
      → block_seq cap (within cap l) m sum ls ≡ good (Tree.seq ys, sum + (6 + size ys), rest)
  unfolding block_seq items_of ◌>>=◌ ◌▸▸◌
  seq-whole l m sum ls rest ys q v g =
      rw (charged cap sum (omega arith), q l (length ls) (sum + 6) end (omega arith) v (omega arith)) (ap (λ (s : ℕ). good (Tree.seq ys, s, rest)) (omega arith))

  pub block_seq_lem : (m num : ℕ) (ls rest : List Line) (ys : Items) → SeqOf m num ls rest ys → (l sum : ℕ) → suc (levels ys) ≤ l → sum + (6 + size ys) ≤ cap
      → block cap l sum ls ≡ good (Tree.seq ys, sum + (6 + size ys), rest)
  block_seq_lem m num ls rest ys q l sum v g =
      block-sequence cap l sum ls (line m q.text num) q.more q.is (sym (opens_dash q.text q.dash)) (λ z. omega arith)
      ∙ seq-whole (l - 1) m sum ls rest ys q.to (omega arith) g

  -- ---- items

  front_long : {t : List ℕ} → Front t → 0 < length t
  front_long f = rw f.is (omega arith)

  pub item-flow : (m num : ℕ) (x w : List ℕ) (b : Break) (cs : List Row) → T (whites x) → {t : List ℕ} {r : Rep} (d : Flow flow_out t r) → KeptFlow d → NoKey t → (y : Yaml) → as_yaml r ≡ some y → Comments cs
      → ItemOf m num (node m (ch "-" ∷ ch " " ∷ x ++ t) w b ∷ cs) y
  unfolding lines_of NoKey
  item-flow m num x w b cs q {t = t} d p k y e c = record {
    text = 45 ∷ 32 ∷ x ++ t;
    more = [];
    is = ap (λ (z : List Line). line m (45 ∷ 32 ∷ x ++ t) num ∷ z) (comments-none c (suc num));
    dash = dashed-item (x ++ t);
    reads = λ rest h l sum v g.
        ap (λ (u : List ℕ). item_behind cap (within cap l) (line m (45 ∷ 32 ∷ x ++ t) num) sum u rest) (start-front x t q ∙ node-start d p)
        ∙ item-line cap l (line m (45 ∷ 32 ∷ x ++ t) num) sum t rest (front_long (front_of d)) k
        ∙ line_value_lem l num sum d p y e rest v g;
  }

  pub item-null : (m num : ℕ) (w : List ℕ) (b : Break) (cs : List Row) → Comments cs → ItemOf m num (node m (ch "-" ∷ []) w b ∷ cs) Tree.null
  unfolding lines_of
  item-null m num w b cs c = record {
    text = 45 ∷ [];
    more = [];
    is = ap (λ (z : List Line). line m (45 ∷ []) num ∷ z) (comments-none c (suc num));
    dash = dashed-alone;
    reads = λ rest h l sum v g. item-child cap l (line m (45 ∷ []) num) sum (trim_start []) rest start-nil ∙ child-null l m sum rest h g;
  }

  pub item-block : (m k num : ℕ) (w : List ℕ) (b : Break) (cs xs : List Row) (y : Yaml) → Comments cs → m < k → Shape k xs → BlockTo k xs y → ItemOf m num (node m (ch "-" ∷ []) w b ∷ cs ++ xs) y
  unfolding lines_of
  item-block m k num w b cs xs y c h s d = record {
    text = 45 ∷ [];
    more = lines_of (suc num) (cs ++ xs);
    is = refl;
    dash = dashed-alone;
    reads = λ rest q l sum v g. item-child cap l (line m (45 ∷ []) num) sum (trim_start []) (lines_of (suc num) (cs ++ xs) ++ rest) start-nil ∙ child-block m k (suc num) cs xs rest y c h s d q l sum v g;
  }

  -- the mapping behind a dash, from what its rows would be at their own indentation
  inline-at : (m n num j : ℕ) (t : List ℕ) (ls rest : List Line) (es : Entries) → n ≡ m + (2 + j) → MapOf n num (line n t num ∷ ls) rest es → (l sum : ℕ) → suc (levels es) ≤ l → sum + (6 + size es) ≤ cap
      → item_behind cap (within cap l) (line m (45 ∷ spaces (suc j) ++ t) num) sum (trim_start (spaces (suc j) ++ t)) ls ≡ good (Tree.dict es, sum + (6 + size es), rest)
  unfolding levels
  inline-at m n num j t ls rest es e q l sum v g =
      let found : key_end t ≡ some q.split = subst (λ (x : List ℕ). key_end x ≡ some q.split) same_text q.found in
      ap (λ (x : List ℕ). item_behind cap (within cap l) (line m (45 ∷ spaces (suc j) ++ t) num) sum x ls) (start-front (spaces j) t (whites-spaces j) ∙ subst (λ (x : List ℕ). trim_start x ≡ x) same_text q.start)
      ∙ item-inline cap l (line m (45 ∷ spaces (suc j) ++ t) num) sum t ls (key-long t q.split found) q.split found (λ z. omega arith)
      ∙ ap (λ (i : ℕ). inline_map cap (within cap (l - 1)) num i t q.split sum ls) (omega (arith, length-append (spaces j) t, length-replicate {A = ℕ} j 32))
      ∙ map-inline (l - 1) n num sum t q.split ls q.left rest q.key q.value q.others
      (subst (λ (x : List ℕ). EntryTo n num x q.split ls q.left q.key q.value) same_text (subst (λ (x : List Line). EntryTo n num q.text q.split x q.left q.key q.value) same_more q.reads))
      q.to q.apart (omega (arith, ap (λ (x : Entries). levels x) q.whole)) (omega (arith, ap (λ (x : Entries). levels x) q.whole)) (omega (arith, ap (λ (x : Entries). size x) q.whole))
      ∙ ap (λ (x : Entries). good (Tree.dict x, sum + (6 + size x), rest)) (sym q.whole)
    where
      same_text : q.text ≡ t
      same_text = unfold first_text in (ap first_text (sym q.is))

      same_more : q.more ≡ ls
      same_more = unfold first_rest in (ap first_rest (sym q.is))

  pub item-map : (m n num j : ℕ) (t w : List ℕ) (b : Break) (xs : List Row) (es : Entries) → n ≡ m + (2 + j)
      → ((rest : List Line) → Below n rest → MapOf n num (lines_of num (node n t w b ∷ xs) ++ rest) rest es)
      → ItemOf m num (node m (ch "-" ∷ spaces (suc j) ++ t) w b ∷ xs) (Tree.dict es)
  unfolding lines_of levels
  item-map m n num j t w b xs es e q = record {
    text = 45 ∷ spaces (suc j) ++ t;
    more = lines_of (suc num) xs;
    is = refl;
    dash = dashed-item (spaces j ++ t);
    reads = λ rest h l sum v g. inline-at m n num j t (lines_of (suc num) xs ++ rest) rest es e (q rest (Below-less m n rest (omega arith) h)) l sum v g;
  }
