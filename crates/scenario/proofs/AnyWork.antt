-- What less work changes of a reading: nothing, or it is refused with 50, and then the whole reading's sum is above the work. Assumes nothing.
use Rattle.std.specs.Prelude.{if◌then◌else◌}
use Rattle.std.proofs.Common.{◌≡◌, refl, ap, ◌∙◌, subst, ℕ, zero, suc, ◌+◌, ◌≤◌, ◌<◌, arith, List, [], ◌∷◌, Bool, true, false, ◌&&◌, ◌||◌, not, eqb, ltb, leb, length, take, drop, leb-true, leb-false, le-leb}
use Rattle.std.proofs.Math.Option.{Option, none, some}
use Rattle.refusal.specs.Base.{Answer, good, refused, ◌>>=◌, ◌>>◌, maybe, given, bytes, same, empty, ch}
use Rattle.refusal.proofs.Tools.{good-inj, refused≢good, bound, bound', chosen, if-cong}
use Rattle.utf8.specs.White.{trim, trim_start}
use Rattle.item.specs.Tree.{Yaml, null, str, Items, end, ◌◂◌, no_item, Entries, done, add, no_entry}
use Rattle.item.specs.Encode.{encode}
use Rattle.lines.specs.Lines.{Line}
use Rattle.scalar.specs.declared.Role.{Role}
use Rattle.scalar.specs.declared.Role.TheVariants.{AsValue, AsKey}
use Rattle.scalar.specs.Scalars.{key_text}
use Rattle.scalar.specs.Key.{key_end}
use Rattle.scalar.specs.Read.{Got, Reader, cost, charge, stop, scalar, skip_spaces, escape, onto_good, onto_escape, double_quoted, single_quoted, plain, string}
use Rattle.flow.specs.Flow.{stuck, item_turn, items, behind_colon, fresh, entry_value, entry_turn, entries, flow_seq, flow_map, node, value, flow}
use Rattle.literal.specs.Literal.{Read, leaf, literal}
use Rattle.lines.specs.Dash.{dashed}
use Rattle.block.specs.Block.{Inside, line_value, child, block_key, value_behind, entry_at, key_at, map_turn, map_lines, entries_of, block_map, inline_map, item_behind, seq_turn, seq_lines, items_of, block_seq, block_of, inline_of, inside_of, within, block}
use Rattle.tree.specs.Tree.{nothing_left, tree_of}
use Rattle.tree.proofs.Sums.{block-length}

-- ---- answers with less work and with more

-- the first is the second, or refused for its work, and then what the second is exceeds it
pub data Less {A : Type 0} (cap : ℕ) (sum : A → ℕ) (a b : Answer A) : Type 0 where
  alike : a ≡ b → Less cap sum a b
  short : a ≡ refused 50 0 0 → ((x : A) → b ≡ good x → cap < sum x) → Less cap sum a b

-- two sizes of the work
module _ (cap cap' : ℕ) (more_work : cap ≤ cap') where
  -- with the sum before, which never falls
  record Grows {A : Type 0} (from : ℕ) (sum : A → ℕ) (a b : Answer A) : Type 0 where
    less : Less cap sum a b
    grows : (x : A) → b ≡ good x → from ≤ sum x

  stopped : {A : Type 0} {from : ℕ} {sum : A → ℕ} {n l s : ℕ} → Grows {A = A} from sum (refused n l s) (refused n l s)
  stopped {n = n} {l = l} {s = s} = record { less = alike refl; grows = λ x e. refused≢good x n l s e }

  kept : {A : Type 0} {from : ℕ} {sum : A → ℕ} {x : A} → from ≤ sum x → Grows from sum (good x) (good x)
  kept {from = from} {sum = sum} {x = x} h = record { less = alike refl; grows = λ y e. subst (λ (z : _). from ≤ sum z) (good-inj x y e) h }

  binds : {A B : Type 0} {from : ℕ} {sa : A → ℕ} {sb : B → ℕ} {a b : Answer A} {f g : A → Answer B}
      → Grows from sa a b → ((x : A) → Grows (sa x) sb (f x) (g x)) → Grows from sb (a >>= f) (b >>= g)
  unfolding ◌>>=◌
  binds {A} {B} {from} {sa} {sb} {a} {b} {f} {g} h k = record { less = go h.less; grows = grown }
    where
      grown : (z : B) → (b >>= g) ≡ good z → from ≤ sb z
      grown z e = bound b g z e λ x p q. omega (arith, h.grows x p, (k x).grows z q)

      same_first : (c : Answer A) → Less cap sb (c >>= f) (c >>= g)
      same_first (good x) = (k x).less
      same_first (refused n l s) = alike refl

      go : Less cap sa a b → Less cap sb (a >>= f) (b >>= g)
      go (alike e) = subst (λ (c : Answer A). Less cap sb (a >>= f) (c >>= g)) e (same_first a)
      go (short e s) = short (ap (λ (c : Answer A). c >>= f) e) (λ z p. bound b g z p λ x q r. omega (arith, s x q, (k x).grows z r))

  -- what the work does not touch goes before
  after : {A B : Type 0} {from : ℕ} {sb : B → ℕ} (a b : Answer A) {f g : A → Answer B}
      → a ≡ b → ((x : A) → Grows from sb (f x) (g x)) → Grows from sb (a >>= f) (b >>= g)
  unfolding ◌>>=◌
  after {A} {from = from} {sb = sb} a b {f = f} {g = g} e k = subst (λ (c : Answer A). Grows from sb (a >>= f) (c >>= g)) e (go a)
    where
      go : (c : Answer A) → Grows from sb (c >>= f) (c >>= g)
      go (good x) = k x
      go (refused n l s) = stopped

  next : {A B : Type 0} {from : ℕ} {sb : B → ℕ} (a : Answer A) {c d : Answer B} → Grows from sb c d → Grows from sb (a >> c) (a >> d)
  unfolding ◌>>◌
  next a k = after a a refl (λ _. k)

  ifs : {A : Type 0} {from : ℕ} {sum : A → ℕ} (t : Bool) {a b c d : Answer A} → Grows from sum a b → Grows from sum c d → Grows from sum (if t then a else c) (if t then b else d)
  ifs true h k = h
  ifs false h k = k

  maybes : {A B : Type 0} {from : ℕ} {sum : B → ℕ} (o : Option A) {a b : Answer B} {f g : A → Answer B} → Grows from sum a b → ((x : A) → Grows from sum (f x) (g x)) → Grows from sum (maybe o a f) (maybe o b g)
  unfolding maybe
  maybes none h k = h
  maybes (some x) h k = k x

  -- what was read with its sum, and what is left
  abbrev Reads : {A B : Type 0} → ℕ → Answer (A × ℕ × B) → Answer (A × ℕ × B) → Type 0
  Reads {A} {B} from a b = Grows from (λ (g : A × ℕ × B). g.1) a b

  abbrev Reads₂ : {A : Type 0} → ℕ → Answer (A × ℕ) → Answer (A × ℕ) → Type 0
  Reads₂ {A} from a b = Grows from (λ (g : A × ℕ). g.1) a b

  charges : (sum k : ℕ) → Grows sum (λ (s : ℕ). s) (charge cap sum k) (charge cap' sum k)
  unfolding charge
  charges sum k = record { less = go (leb (sum + k) cap) refl; grows = λ x e. above x e }
    where
      above : (x : ℕ) → (if leb (sum + k) cap' then good (sum + k) else refused 50 0 0) ≡ good x → sum ≤ x
      above x e = chosen (leb (sum + k) cap') _ _ e (λ _ p. omega (arith, good-inj (sum + k) x p)) (λ _ p. refused≢good x 50 0 0 p)

      go : (t : Bool) → leb (sum + k) cap ≡ t → Less cap (λ (s : ℕ). s) (if t then good (sum + k) else refused 50 0 0) (if leb (sum + k) cap' then good (sum + k) else refused 50 0 0)
      go true e = alike (rw (le-leb (sum + k) cap' (omega (arith, leb-true (sum + k) cap e))))
      go false e = short refl
          (λ x p. chosen (leb (sum + k) cap') _ _ p (λ _ q. omega (arith, good-inj (sum + k) x q, leb-false (sum + k) cap e)) (λ _ q. refused≢good x 50 0 0 q))

  -- ---- one line

  module _ (n : ℕ) where
    scalars : (role : Role) (sum : ℕ) (y : Yaml) (rest : List ℕ) → Reads sum (scalar cap n role sum y rest) (scalar cap' n role sum y rest)
    unfolding scalar
    scalars role sum y rest = binds (charges sum (cost role y)) (λ s. kept (omega arith))

    onto_same : (b : ℕ) (a : Answer (List ℕ × List ℕ)) → onto_good cap n b a ≡ onto_good cap' n b a
    onto_same b (good x) = refl
    onto_same b (refused k l s) = refl

    onto-also : (b : ℕ) (a c : Answer (List ℕ × List ℕ)) → a ≡ c → onto_good cap n b a ≡ onto_good cap' n b c
    onto-also b a c e = onto_same b a ∙ ap (λ (x : Answer (List ℕ × List ℕ)). onto_good cap' n b x) e

    escape-also : (o : Option ℕ) (a c : Answer (List ℕ × List ℕ)) → a ≡ c → onto_escape cap n o a ≡ onto_escape cap' n o c
    unfolding stop
    escape-also none a c e = refl
    escape-also (some b) a c e = onto-also b a c e

    double-same : (bs : List ℕ) (hid : Bool) → double_quoted cap n hid bs ≡ double_quoted cap' n hid bs
    unfolding double_quoted stop
    double-same [] true = refl
    double-same [] false = refl
    double-same (b ∷ bs) true = escape-also (escape b) (double_quoted cap n false bs) (double_quoted cap' n false bs) (double-same bs false)
    double-same (b ∷ bs) false = if-cong (eqb b (ch "\"")) _ _ _ _ (λ _. refl)
        λ _. if-cong (eqb b (ch "\\")) _ _ _ _ (λ _. double-same bs true)
        λ _. onto-also b (double_quoted cap n false bs) (double_quoted cap' n false bs) (double-same bs false)

    single-same : (bs : List ℕ) (shut : Bool) → single_quoted cap n shut bs ≡ single_quoted cap' n shut bs
    unfolding single_quoted stop
    single-same [] true = refl
    single-same [] false = refl
    single-same (b ∷ bs) true = if-cong (eqb b (ch "'")) _ _ _ _
        (λ _. onto-also b (single_quoted cap n false bs) (single_quoted cap' n false bs) (single-same bs false))
        λ _. refl
    single-same (b ∷ bs) false = if-cong (eqb b (ch "'")) _ _ _ _ (λ _. single-same bs true)
        λ _. onto-also b (single_quoted cap n false bs) (single_quoted cap' n false bs) (single-same bs false)

    strings : (role : Role) (sum : ℕ) (a b : Answer (List ℕ × List ℕ)) → a ≡ b → Reads sum (string cap n role sum a) (string cap' n role sum b)
    unfolding string
    strings role sum a b e = after a b e (λ x. scalars role sum (str x.0) x.1)

    -- two readers of what is one level deeper
    abbrev Readers : Reader → Reader → Type 0
    Readers f g = (role : Role) (sum : ℕ) (bs : List ℕ) → Reads sum (f role sum bs) (g role sum bs)

    abbrev Adders : {C : Type 0} → (C → ℕ → List ℕ → Answer (Got C)) → (C → ℕ → List ℕ → Answer (Got C)) → Type 0
    Adders {C} f g = (got : C) (sum : ℕ) (bs : List ℕ) → Reads sum (f got sum bs) (g got sum bs)

    module _ (f g : Reader) (h : Readers f g) where
      item_turns : (more more' : Items → ℕ → List ℕ → Answer (Got Items)) → Adders more more' → Adders (item_turn cap n f more) (item_turn cap' n g more')
      unfolding item_turn stop
      item_turns more more' k got sum [] = stopped
      item_turns more more' k got sum (b ∷ bs) = ifs (eqb b (ch "]")) (kept (omega arith))
          (ifs (eqb b (ch ",") && not (no_item got)) (k got sum bs)
          (ifs (stuck b bs) stopped
          (binds (h AsValue sum (b ∷ bs)) λ x. k (got ◂ x.0) x.1 x.2)))

      itemses : (t : ℕ) → Adders (items cap n f t) (items cap' n g t)
      unfolding items stop
      itemses zero got sum bs = stopped
      itemses (suc t) got sum bs = item_turns _ _ (itemses t) got sum (skip_spaces bs)

      colons : (bs : List ℕ) → behind_colon cap n bs ≡ behind_colon cap' n bs
      unfolding behind_colon stop
      colons [] = refl
      colons (b ∷ bs) = refl

      entry_values : (sum : ℕ) (bs : List ℕ) → Reads sum (entry_value cap n f sum bs) (entry_value cap' n g sum bs)
      unfolding entry_value
      entry_values sum [] = h AsValue sum []
      entry_values sum (b ∷ bs) = ifs (eqb b (ch ",") || eqb b (ch "}")) (scalars AsValue sum null (b ∷ bs)) (h AsValue sum (b ∷ bs))

      entry_turns : (more more' : Entries → ℕ → List ℕ → Answer (Got Entries)) → Adders more more' → Adders (entry_turn cap n f more) (entry_turn cap' n g more')
      unfolding entry_turn stop fresh
      entry_turns more more' k got sum [] = stopped
      entry_turns more more' k got sum (b ∷ bs) = ifs (eqb b (ch "}")) (kept (omega arith))
          (ifs (eqb b (ch ",") && not (no_entry got)) (k got sum bs)
          (binds (h AsKey sum (b ∷ bs))
          λ x. after (given (key_text x.0) 16 n 0) (given (key_text x.0) 16 n 0) refl
          λ key. after (behind_colon cap n (skip_spaces x.2)) (behind_colon cap' n (skip_spaces x.2)) (colons (skip_spaces x.2))
          λ r. binds (entry_values x.1 (skip_spaces r))
          λ v. next _ (k (add got key v.0) v.1 v.2)))

      entrieses : (t : ℕ) → Adders (entries cap n f t) (entries cap' n g t)
      unfolding entries stop
      entrieses zero got sum bs = stopped
      entrieses (suc t) got sum bs = entry_turns _ _ (entrieses t) got sum (skip_spaces bs)

    -- at the 32nd level there is none
    abbrev Deeper : Option Reader → Option Reader → Type 0
    Deeper none none = Unit {0}
    Deeper none (some g) = ⊥
    Deeper (some f) none = ⊥
    Deeper (some f) (some g) = Readers f g

    flow_seqs : (o p : Option Reader) → Deeper o p → (sum : ℕ) (bs : List ℕ) → Reads sum (flow_seq cap n o sum bs) (flow_seq cap' n p sum bs)
    unfolding flow_seq stop
    flow_seqs none none h sum bs = stopped
    flow_seqs none (some g) h sum bs = absurd h
    flow_seqs (some f) none h sum bs = absurd h
    flow_seqs (some f) (some g) h sum bs = binds (charges sum 6)
        λ s. binds (itemses f g h (suc (length bs)) end s bs) λ x. kept (omega arith)

    flow_maps : (o p : Option Reader) → Deeper o p → (sum : ℕ) (bs : List ℕ) → Reads sum (flow_map cap n o sum bs) (flow_map cap' n p sum bs)
    unfolding flow_map stop
    flow_maps none none h sum bs = stopped
    flow_maps none (some g) h sum bs = absurd h
    flow_maps (some f) none h sum bs = absurd h
    flow_maps (some f) (some g) h sum bs = binds (charges sum 6)
        λ s. binds (entrieses f g h (suc (length bs)) done s bs) λ x. kept (omega arith)

    nodes : (o p : Option Reader) → Deeper o p → (in_flow : Bool) → Readers (node cap n o in_flow) (node cap' n p in_flow)
    unfolding node plain stop
    nodes o p h in_flow role sum [] = scalars role sum null []
    nodes o p h in_flow role sum (b ∷ bs) = ifs (eqb b (ch "{")) (flow_maps o p h sum bs)
        (ifs (eqb b (ch "[")) (flow_seqs o p h sum bs)
        (ifs (eqb b (ch "\"")) (strings role sum _ _ (double-same bs false))
        (ifs (eqb b (ch "'")) (strings role sum _ _ (single-same bs false))
        (ifs (eqb b (ch "&") || eqb b (ch "*") || eqb b (ch "!")) stopped
        (scalars role sum _ _)))))

    values : (l : ℕ) (in_flow : Bool) → Readers (value cap n l in_flow) (value cap' n l in_flow)
    unfolding value
    values zero in_flow role sum bs = nodes none none tt in_flow role sum bs
    values (suc l) in_flow role sum bs = nodes (some (λ r s b. value cap n l true r s b)) (some (λ r s b. value cap' n l true r s b)) (values l true) in_flow role sum bs

    flows : (l : ℕ) (role : Role) (sum : ℕ) (t : List ℕ) → Reads₂ sum (flow cap n l role sum t) (flow cap' n l role sum t)
    unfolding flow
    flows l role sum t = binds (values l false role sum (skip_spaces t)) λ x. next _ (kept (omega arith))

  -- ---- blocks

  leaves : (sum : ℕ) (y : Yaml) (ls : List Line) → Reads sum (leaf cap sum y ls) (leaf cap' sum y ls)
  unfolding leaf
  leaves sum y ls = binds (charges sum (cost AsValue y)) λ s. kept (omega arith)

  literals : (strip : Bool) (under sum : ℕ) (ls : List Line) → Reads sum (literal cap strip under sum ls) (literal cap' strip under sum ls)
  unfolding literal
  literals strip under sum ls = leaves sum _ _

  line_values : (l n sum : ℕ) (t : List ℕ) (ls : List Line) → Reads sum (line_value cap l n sum t ls) (line_value cap' l n sum t ls)
  unfolding line_value
  line_values l n sum t ls = binds (flows n l AsValue sum t) λ x. kept (omega arith)

  block_keys : (l n sum : ℕ) (t : List ℕ) → Reads₂ sum (block_key cap l n sum t) (block_key cap' l n sum t)
  unfolding block_key
  block_keys l n sum t = next _ (next _ (binds (flows n l AsKey sum t) λ x. after _ _ refl λ key. kept (omega arith)))

  -- what adds to a collection that was read so far
  abbrev Fillers : {C : Type 0} → (C → ℕ → List Line → Read C) → (C → ℕ → List Line → Read C) → Type 0
  Fillers {C} f g = (got : C) (sum : ℕ) (ls : List Line) → Reads sum (f got sum ls) (g got sum ls)

  -- two readers of what is one level deeper
  record Insides (i j : Inside) : Type 0 where
    levels : i.levels ≡ j.levels
    block : (sum : ℕ) (ls : List Line) → Reads sum (i.block sum ls) (j.block sum ls)
    inline : (n d : ℕ) (t : List ℕ) (k sum : ℕ) (ls : List Line) → Reads sum (i.inline n d t k sum ls) (j.inline n d t k sum ls)

  module _ (i j : Inside) (h : Insides i j) where
    children : (d sum : ℕ) (ls : List Line) → Reads sum (child cap i d sum ls) (child cap' j d sum ls)
    unfolding child
    children d sum [] = leaves sum null []
    children d sum (m ∷ ls) = ifs (ltb d m.indent) (h.block sum (m ∷ ls)) (leaves sum null (m ∷ ls))

    inners : (n sum : ℕ) (t : List ℕ) (ls : List Line) → Reads sum (line_value cap i.levels n sum t ls) (line_value cap' j.levels n sum t ls)
    inners n sum t ls = subst (λ (l : ℕ). Reads sum (line_value cap i.levels n sum t ls) (line_value cap' l n sum t ls)) h.levels (line_values i.levels n sum t ls)

    keys : (n sum : ℕ) (t : List ℕ) → Reads₂ sum (block_key cap i.levels n sum t) (block_key cap' j.levels n sum t)
    keys n sum t = subst (λ (l : ℕ). Reads₂ sum (block_key cap i.levels n sum t) (block_key cap' l n sum t)) h.levels (block_keys i.levels n sum t)

    behinds : (n d sum : ℕ) (t : List ℕ) (ls : List Line) → Reads sum (value_behind cap i n d sum t ls) (value_behind cap' j n d sum t ls)
    unfolding value_behind
    behinds n d sum t ls = ifs (empty t) (children d sum ls)
        (ifs (same t (bytes "|")) (literals false d sum ls)
        (ifs (same t (bytes "|-")) (literals true d sum ls) (inners n sum t ls)))

    entry_ats : (n d : ℕ) (t : List ℕ) (split sum : ℕ) (ls : List Line) → Reads sum (entry_at cap i n d t split sum ls) (entry_at cap' j n d t split sum ls)
    unfolding entry_at
    entry_ats n d t split sum ls = binds (keys n sum (trim (take split t)))
        λ k. binds (behinds n d k.1 (trim (drop (suc split) t)) ls) λ v. kept (omega arith)

    map_turns : (d : ℕ) (more more' : Entries → ℕ → List Line → Read Entries) → Fillers more more' → Fillers (map_turn cap i d more) (map_turn cap' j d more')
    unfolding map_turn fresh
    map_turns d more more' k got sum [] = kept (omega arith)
    map_turns d more more' k got sum (m ∷ ls) = maybes (key_at d m) (kept (omega arith))
        λ split. binds (entry_ats m.number d m.text split sum ls)
        λ x. next _ (k (add got x.0.0 x.0.1) x.1 x.2)

    map_lineses : (d t : ℕ) → Fillers (map_lines cap i d t) (map_lines cap' j d t)
    unfolding map_lines
    map_lineses d zero got sum ls = kept (omega arith)
    map_lineses d (suc t) got sum ls = map_turns d _ _ (map_lineses d t) got sum ls

    entries_ofs : (d sum : ℕ) (ls : List Line) → Reads sum (entries_of cap i d sum ls) (entries_of cap' j d sum ls)
    unfolding entries_of
    entries_ofs d sum ls = map_lineses d (length ls) done sum ls

    block_maps : (d sum : ℕ) (ls : List Line) → Reads sum (block_map cap i d sum ls) (block_map cap' j d sum ls)
    unfolding block_map
    block_maps d sum ls = binds (charges sum 6) λ s. binds (entries_ofs d s ls) λ x. kept (omega arith)

    inline_maps : (n d : ℕ) (t : List ℕ) (split sum : ℕ) (ls : List Line) → Reads sum (inline_map cap i n d t split sum ls) (inline_map cap' j n d t split sum ls)
    unfolding inline_map fresh
    inline_maps n d t split sum ls = binds (charges sum 6)
        λ s. binds (entry_ats n d t split s ls)
        λ x. binds (entries_ofs d x.1 x.2)
        λ y. next _ (kept (omega arith))

    item_behinds : (m : Line) (sum : ℕ) (t : List ℕ) (ls : List Line) → Reads sum (item_behind cap i m sum t ls) (item_behind cap' j m sum t ls)
    unfolding item_behind
    item_behinds m sum t ls = ifs (empty t) (children m.indent sum ls)
        (maybes (key_end t) (inners m.number sum t ls) λ split. h.inline m.number _ t split sum ls)

    seq_turns : (d : ℕ) (more more' : Items → ℕ → List Line → Read Items) → Fillers more more' → Fillers (seq_turn cap i d more) (seq_turn cap' j d more')
    unfolding seq_turn
    seq_turns d more more' k got sum [] = kept (omega arith)
    seq_turns d more more' k got sum (m ∷ ls) = ifs (not (eqb m.indent d && dashed m.text)) (kept (omega arith))
        (binds (item_behinds m sum (trim_start (drop 1 m.text)) ls) λ x. k (got ◂ x.0) x.1 x.2)

    seq_lineses : (d t : ℕ) → Fillers (seq_lines cap i d t) (seq_lines cap' j d t)
    unfolding seq_lines
    seq_lineses d zero got sum ls = kept (omega arith)
    seq_lineses d (suc t) got sum ls = seq_turns d _ _ (seq_lineses d t) got sum ls

    block_seqs : (d sum : ℕ) (ls : List Line) → Reads sum (block_seq cap i d sum ls) (block_seq cap' j d sum ls)
    unfolding block_seq items_of
    block_seqs d sum ls = binds (charges sum 6) λ s. binds (seq_lineses d (length ls) end s ls) λ x. kept (omega arith)

  abbrev Lower : Option Inside → Option Inside → Type 0
  Lower none none = Unit {0}
  Lower none (some j) = ⊥
  Lower (some i) none = ⊥
  Lower (some i) (some j) = Insides i j

  opens : (o p : Option Inside) → Lower o p → (n from : ℕ) (f g : Inside → Read Yaml) → ((i j : Inside) → Insides i j → Reads from (f i) (g j)) → Reads from (given o 20 n 0 >>= f) (given p 20 n 0 >>= g)
  unfolding given ◌>>=◌
  opens none none h n from f g k = stopped
  opens none (some j) h n from f g k = absurd h
  opens (some i) none h n from f g k = absurd h
  opens (some i) (some j) h n from f g k = k i j h

  block_ofs : (l : ℕ) (o p : Option Inside) → Lower o p → (sum : ℕ) (ls : List Line) → Reads sum (block_of cap l o sum ls) (block_of cap' l p sum ls)
  unfolding block_of
  block_ofs l o p h sum [] = leaves sum null []
  block_ofs l o p h sum (m ∷ ls) = ifs (dashed m.text) (opens o p h m.number sum _ _ λ i j k. block_seqs i j k m.indent sum (m ∷ ls))
      (maybes (key_end m.text) (line_values l m.number sum m.text ls)
      λ _. opens o p h m.number sum _ _ λ i j k. block_maps i j k m.indent sum (m ∷ ls))

  inline_ofs : (o p : Option Inside) → Lower o p → (n d : ℕ) (t : List ℕ) (split sum : ℕ) (ls : List Line) → Reads sum (inline_of cap o n d t split sum ls) (inline_of cap' p n d t split sum ls)
  unfolding inline_of
  inline_ofs o p h n d t split sum ls = opens o p h n sum _ _ λ i j k. inline_maps i j k n d t split sum ls

  inside_ofs : (l : ℕ) (o p : Option Inside) → Lower o p → Insides (inside_of cap l o) (inside_of cap' l p)
  unfolding inside_of
  inside_ofs l o p h = record { levels = refl; block = block_ofs l o p h; inline = inline_ofs o p h }

  withins : (l : ℕ) → Insides (within cap l) (within cap' l)
  unfolding within
  withins zero = inside_ofs 0 none none tt
  withins (suc l) = inside_ofs (suc l) (some (within cap l)) (some (within cap' l)) (withins l)

  -- ---- the tree of all lines

  pub trees : (ls : List Line) → Less cap (λ (y : Yaml). length (encode y)) (tree_of cap ls) (tree_of cap' ls)
  unfolding tree_of block ◌>>=◌ ◌>>◌
  trees ls = go ((withins 32).block 0 ls).less
    where
      rest : Yaml × ℕ × List Line → Answer Yaml
      rest x = nothing_left x.2 >> good x.0

      go : Less cap (λ (g : Yaml × ℕ × List Line). g.1) ((within cap 32).block 0 ls) ((within cap' 32).block 0 ls)
          → Less cap (λ (y : Yaml). length (encode y)) ((within cap 32).block 0 ls >>= rest) ((within cap' 32).block 0 ls >>= rest)
      go (alike e) = alike (ap (λ (b : Read Yaml). b >>= rest) e)
      go (short e s) = short (ap (λ (b : Read Yaml). b >>= rest) e)
          (λ y p. bound ((within cap' 32).block 0 ls) rest y p
          λ x q r. bound' (nothing_left x.2) (good x.0) y r
          λ t. omega (arith, s x q, block-length cap' x.0 x.1 ls x.2 q, ap (λ (z : Yaml). length (encode z)) (good-inj x.0 y t)))
