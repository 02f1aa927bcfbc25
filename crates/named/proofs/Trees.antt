-- Where the reading of a tree names a line, it counts from 1, and its numbers are document 01's: line by line, and so of the whole text. Assumes nothing.
use Rattle.std.specs.Prelude.{if◌then◌else◌}
use Rattle.std.proofs.Common.{◌≡◌, refl, sym, ◌∙◌, subst, ℕ, zero, suc, ◌≤◌, ◌<◌, min, ◌^◌, arith, List, [], ◌∷◌, Bool, true, false, ◌&&◌, ◌||◌, not, eqb, ltb, leb, length, take, drop}
use Rattle.std.proofs.lemmas.Bool.{false≢true, or_parts, cond_both}
use Rattle.std.specs.List.{AllByRecursion as All}
use Rattle.std.proofs.Math.Option.{Option, none, some}
use Rattle.refusal.specs.Base.{Answer, good, refused, ◌>>=◌, ◌>>◌, maybe, given, bytes, same, empty, ch}
use Rattle.refusal.proofs.Tools.{good-inj, refused≢good, bound}
use Rattle.utf8.specs.White.{trim, trim_start, all_white}
use Rattle.utf8.specs.Utf8.{is_utf8}
use Rattle.item.specs.Tree.{Yaml, null, str, Items, end, ◌◂◌, no_item, Entries, done, add, no_entry, has_key}
use Rattle.lines.specs.declared.Literal.{Literal}
use Rattle.lines.specs.declared.Literal.TheVariants.{Closed, Under}
use Rattle.lines.specs.Lines.{Line, line, Event, entry, bad, tabbed, significant, is_marker, indent_of, events_of, literal_after, blanks_before, body_of, scan, collect, split_lines, significant_lines}
use Rattle.lines.specs.Dash.{dashed}
use Rattle.scalar.specs.declared.Role.{Role}
use Rattle.scalar.specs.declared.Role.TheVariants.{AsValue, AsKey}
use Rattle.scalar.specs.Scalars.{key_text}
use Rattle.scalar.specs.Key.{key_end}
use Rattle.scalar.specs.Read.{Got, Reader, cost, stop, scalar, skip_spaces, escape, onto_good, onto_escape, double_quoted, single_quoted, plain, string}
use Rattle.flow.specs.Flow.{stuck, item_turn, items, behind_colon, fresh, entry_value, entry_turn, entries, flow_seq, flow_map, node, value, flow}
use Rattle.literal.specs.Literal.{Read, leaf, literal_lines, literal_under, literal}
use Rattle.block.specs.Block.{Inside, starts_complex, line_value, child, block_key, value_behind, entry_at, key_at, map_turn, map_lines, entries_of, block_map, inline_map, item_behind, seq_turn, seq_lines, items_of, block_seq, block_of, inline_of, inside_of, within, block}
use Rattle.tree.specs.Tree.{admitted, nothing_left, tree_of, tree, size_of}
use Rattle.tree.proofs.Parts.{all-append}
use Rattle.named.specs.Named.{lined, stepped}
use Rattle.named.proofs.Counted.{Counts, never, refuses, plainly, binds, next, ifs, givens, ensures, charges}

-- ---- one line

module _ (cap n : ℕ) (counts : 1 ≤ n) where
  stops : {A : Type 0} {k : ℕ} → stepped k || leb 55 k ≡ false → Counts {A = A} (refused k n 0)
  stops {k = k} q =
      let (q, o) = or_parts (stepped k) (leb 55 k) q in
      refuses k n 0 (record { own = o; line = λ _. counts; step = λ e. absurd (false≢true (sym q ∙ e)) })

  scalars : (role : Role) (sum : ℕ) (y : Yaml) (rest : List ℕ) → Counts (scalar cap n role sum y rest)
  unfolding scalar
  scalars role sum y rest = binds (charges cap sum (cost role y)) λ s. never

  ontos : (b : ℕ) (a : Answer (List ℕ × List ℕ)) → Counts a → Counts (onto_good cap n b a)
  ontos b (good x) h = never
  ontos b (refused k i j) h = refuses k i j (h k i j refl)

  escapes : (o : Option ℕ) (a : Answer (List ℕ × List ℕ)) → Counts a → Counts (onto_escape cap n o a)
  unfolding stop stepped
  escapes none a h = stops refl
  escapes (some b) a h = ontos b a h

  doubles : (bs : List ℕ) (hid : Bool) → Counts (double_quoted cap n hid bs)
  unfolding double_quoted stop stepped
  doubles [] true = stops refl
  doubles [] false = stops refl
  doubles (b ∷ bs) true = escapes (escape b) _ (doubles bs false)
  doubles (b ∷ bs) false = ifs (eqb b (ch "\"")) never (ifs (eqb b (ch "\\")) (doubles bs true) (ontos b _ (doubles bs false)))

  singles : (bs : List ℕ) (shut : Bool) → Counts (single_quoted cap n shut bs)
  unfolding single_quoted stop stepped
  singles [] true = never
  singles [] false = stops refl
  singles (b ∷ bs) true = ifs (eqb b (ch "'")) (ontos b _ (singles bs false)) never
  singles (b ∷ bs) false = ifs (eqb b (ch "'")) (singles bs true) (ontos b _ (singles bs false))

  strings : (role : Role) (sum : ℕ) (a : Answer (List ℕ × List ℕ)) → Counts a → Counts (string cap n role sum a)
  unfolding string
  strings role sum a h = binds h λ x. scalars role sum (str x.0) x.1

  abbrev Readers : Reader → Type 0
  Readers f = (role : Role) (sum : ℕ) (bs : List ℕ) → Counts (f role sum bs)

  abbrev Adders : {C : Type 0} → (C → ℕ → List ℕ → Answer (Got C)) → Type 0
  Adders {C} f = (got : C) (sum : ℕ) (bs : List ℕ) → Counts (f got sum bs)

  module _ (f : Reader) (h : Readers f) where
    item_turns : (more : Items → ℕ → List ℕ → Answer (Got Items)) → Adders more → Adders (item_turn cap n f more)
    unfolding item_turn stop stepped
    item_turns more k got sum [] = stops refl
    item_turns more k got sum (b ∷ bs) = ifs (eqb b (ch "]")) never
        (ifs (eqb b (ch ",") && not (no_item got)) (k got sum bs)
        (ifs (stuck b bs) (stops refl)
        (binds (h AsValue sum (b ∷ bs)) λ x. k (got ◂ x.0) x.1 x.2)))

    itemses : (t : ℕ) → Adders (items cap n f t)
    unfolding items stop stepped
    itemses zero got sum bs = stops refl
    itemses (suc t) got sum bs = item_turns _ (itemses t) got sum (skip_spaces bs)

    colons : (bs : List ℕ) → Counts (behind_colon cap n bs)
    unfolding behind_colon stop stepped
    colons [] = stops refl
    colons (b ∷ bs) = ifs (eqb b (ch ":")) never (stops refl)

    entry_values : (sum : ℕ) (bs : List ℕ) → Counts (entry_value cap n f sum bs)
    unfolding entry_value
    entry_values sum [] = h AsValue sum []
    entry_values sum (b ∷ bs) = ifs (eqb b (ch ",") || eqb b (ch "}")) (scalars AsValue sum null (b ∷ bs)) (h AsValue sum (b ∷ bs))

    entry_turns : (more : Entries → ℕ → List ℕ → Answer (Got Entries)) → Adders more → Adders (entry_turn cap n f more)
    unfolding entry_turn stop fresh stepped
    entry_turns more k got sum [] = stops refl
    entry_turns more k got sum (b ∷ bs) = ifs (eqb b (ch "}")) never
        (ifs (eqb b (ch ",") && not (no_entry got)) (k got sum bs)
        (binds (h AsKey sum (b ∷ bs))
        λ x. binds (givens (key_text x.0) (stops refl))
        λ key. binds (colons (skip_spaces x.2))
        λ r. binds (entry_values x.1 (skip_spaces r))
        λ v. next (ensures (not (has_key key got)) (stops refl)) (k (add got key v.0) v.1 v.2)))

    entrieses : (t : ℕ) → Adders (entries cap n f t)
    unfolding entries stop stepped
    entrieses zero got sum bs = stops refl
    entrieses (suc t) got sum bs = entry_turns _ (entrieses t) got sum (skip_spaces bs)

  abbrev Deeper : Option Reader → Type 0
  Deeper none = Unit {0}
  Deeper (some f) = Readers f

  flow_seqs : (o : Option Reader) → Deeper o → (sum : ℕ) (bs : List ℕ) → Counts (flow_seq cap n o sum bs)
  unfolding flow_seq stop stepped
  flow_seqs none h sum bs = stops refl
  flow_seqs (some f) h sum bs = binds (charges cap sum 6) λ s. binds (itemses f h (suc (length bs)) end s bs) λ x. never

  flow_maps : (o : Option Reader) → Deeper o → (sum : ℕ) (bs : List ℕ) → Counts (flow_map cap n o sum bs)
  unfolding flow_map stop stepped
  flow_maps none h sum bs = stops refl
  flow_maps (some f) h sum bs = binds (charges cap sum 6) λ s. binds (entrieses f h (suc (length bs)) done s bs) λ x. never

  nodes : (o : Option Reader) → Deeper o → (in_flow : Bool) → Readers (node cap n o in_flow)
  unfolding node plain stop stepped
  nodes o h in_flow role sum [] = scalars role sum null []
  nodes o h in_flow role sum (b ∷ bs) = ifs (eqb b (ch "{")) (flow_maps o h sum bs)
      (ifs (eqb b (ch "[")) (flow_seqs o h sum bs)
      (ifs (eqb b (ch "\"")) (strings role sum _ (doubles bs false))
      (ifs (eqb b (ch "'")) (strings role sum _ (singles bs false))
      (ifs (eqb b (ch "&") || eqb b (ch "*") || eqb b (ch "!")) (stops refl)
      (scalars role sum _ _)))))

  values : (l : ℕ) (in_flow : Bool) → Readers (value cap n l in_flow)
  unfolding value
  values zero in_flow role sum bs = nodes none tt in_flow role sum bs
  values (suc l) in_flow role sum bs = nodes (some (λ r s b. value cap n l true r s b)) (values l true) in_flow role sum bs

  flows : (l : ℕ) (role : Role) (sum : ℕ) (t : List ℕ) → Counts (flow cap n l role sum t)
  unfolding flow stepped
  flows l role sum t = binds (values l false role sum (skip_spaces t)) λ x. next (ensures (empty (skip_spaces x.2)) (stops refl)) never

-- ---- blocks: the lines that are left count from 1 too

abbrev pub Numbered : List Line → Type 0
Numbered ls = All (λ l. 1 ≤ l.number) ls

record Reads {A : Type 0} (a : Read A) : Type 0 where
  refusals : Counts a
  left : (x : A × ℕ × List Line) → a ≡ good x → Numbered x.2

kept : {A : Type 0} {x : A × ℕ × List Line} → Numbered x.2 → Reads (good x)
kept {x = x} h = record { refusals = never; left = λ y e. subst (λ (z : _ × ℕ × List Line). Numbered z.2) (good-inj x y e) h }

-- what leaves no lines goes before
after : {A B : Type 0} {a : Answer A} {f : A → Read B} → Counts a → ((x : A) → Reads (f x)) → Reads (a >>= f)
after {a = a} {f} h k = record { refusals = binds h (λ x. (k x).refusals); left = λ y e. bound a f y e λ x p q. (k x).left y q }

then-reads : {A B : Type 0} {a : Answer A} {b : Read B} → Counts a → Reads b → Reads (a >> b)
unfolding ◌>>◌
then-reads h k = after h (λ _. k)

reads : {A B : Type 0} {a : Read A} {f : A × ℕ × List Line → Read B} → Reads a → ((x : A × ℕ × List Line) → Numbered x.2 → Reads (f x)) → Reads (a >>= f)
unfolding ◌>>=◌
reads {a = a} {f} h k = go a h
  where
    go : (a : Read _) → Reads a → Reads (a >>= f)
    go (good x) h = k x (h.left x refl)
    go (refused n i j) h = record { refusals = refuses n i j (h.refusals n i j refl); left = λ y e. refused≢good y n i j e }

if-reads : {A : Type 0} (t : Bool) {a b : Read A} → Reads a → Reads b → Reads (if t then a else b)
if-reads true h k = h
if-reads false h k = k

maybe-reads : {A B : Type 0} (o : Option A) {b : Read B} {f : A → Read B} → Reads b → ((x : A) → Reads (f x)) → Reads (maybe o b f)
unfolding maybe
maybe-reads none h k = h
maybe-reads (some x) h k = k x

module _ (cap : ℕ) where
  leaves : (sum : ℕ) (y : Yaml) (ls : List Line) → Numbered ls → Reads (leaf cap sum y ls)
  unfolding leaf
  leaves sum y ls h = after (charges cap sum (cost AsValue y)) λ s. kept h

  bodies : (d : ℕ) (ls : List Line) → Numbered ls → Numbered (literal_lines d ls).1
  unfolding literal_lines
  bodies d [] h = tt
  bodies d (l ∷ ls) h = cond_both (leb d l.indent) _ _ (λ (x : List ℕ × List Line). Numbered x.1) (λ _. bodies d ls h.1) (λ _. h)

  unders : (d : ℕ) (ls : List Line) → Numbered ls → Numbered (literal_under d ls).1
  unfolding literal_under
  unders d [] h = tt
  unders d (l ∷ ls) h = cond_both (ltb d l.indent) _ _ (λ (x : List ℕ × List Line). Numbered x.1) (λ _. bodies l.indent (l ∷ ls) h) (λ _. h)

  literals : (strip : Bool) (under sum : ℕ) (ls : List Line) → Numbered ls → Reads (literal cap strip under sum ls)
  unfolding literal
  literals strip under sum ls h = leaves sum _ _ (unders under ls h)

  line_values : (l n sum : ℕ) (t : List ℕ) (ls : List Line) → 1 ≤ n → Numbered ls → Reads (line_value cap l n sum t ls)
  unfolding line_value
  line_values l n sum t ls c h = after (flows cap n c l AsValue sum t) λ x. kept h

  block_keys : (l n sum : ℕ) (t : List ℕ) → 1 ≤ n → Counts (block_key cap l n sum t)
  unfolding block_key stepped
  block_keys l n sum t c = next (ensures (not (empty t)) (stops cap n c refl)) (next (ensures (not (starts_complex t)) (stops cap n c refl))
      (binds (flows cap n c l AsKey sum t) λ x. binds (givens (key_text x.0) (stops cap n c refl)) λ key. never))

  abbrev Fillers : {C : Type 0} → (C → ℕ → List Line → Read C) → Type 0
  Fillers {C} f = (got : C) (sum : ℕ) (ls : List Line) → Numbered ls → Reads (f got sum ls)

  record Insides (i : Inside) : Type 0 where
    block : (sum : ℕ) (ls : List Line) → Numbered ls → Reads (i.block sum ls)
    inline : (n d : ℕ) (t : List ℕ) (k sum : ℕ) (ls : List Line) → 1 ≤ n → Numbered ls → Reads (i.inline n d t k sum ls)

  module _ (i : Inside) (h : Insides i) where
    children : (d sum : ℕ) (ls : List Line) → Numbered ls → Reads (child cap i d sum ls)
    unfolding child
    children d sum [] c = leaves sum null [] c
    children d sum (m ∷ ls) c = if-reads (ltb d m.indent) (h.block sum (m ∷ ls) c) (leaves sum null (m ∷ ls) c)

    behinds : (n d sum : ℕ) (t : List ℕ) (ls : List Line) → 1 ≤ n → Numbered ls → Reads (value_behind cap i n d sum t ls)
    unfolding value_behind
    behinds n d sum t ls b c = if-reads (empty t) (children d sum ls c)
        (if-reads (same t (bytes "|")) (literals false d sum ls c)
        (if-reads (same t (bytes "|-")) (literals true d sum ls c) (line_values i.levels n sum t ls b c)))

    entry_ats : (n d : ℕ) (t : List ℕ) (split sum : ℕ) (ls : List Line) → 1 ≤ n → Numbered ls → Reads (entry_at cap i n d t split sum ls)
    unfolding entry_at
    entry_ats n d t split sum ls b c = after (block_keys i.levels n sum (trim (take split t)) b)
        λ k. reads (behinds n d k.1 (trim (drop (suc split) t)) ls b c) λ v l. kept l

    map_turns : (d : ℕ) (more : Entries → ℕ → List Line → Read Entries) → Fillers more → Fillers (map_turn cap i d more)
    unfolding map_turn fresh stepped
    map_turns d more k got sum [] c = kept c
    map_turns d more k got sum (m ∷ ls) c = maybe-reads (key_at d m) (kept c)
        λ split. reads (entry_ats m.number d m.text split sum ls c.0 c.1)
        λ x l. then-reads (ensures (not (has_key x.0.0 got)) (stops cap m.number c.0 refl)) (k (add got x.0.0 x.0.1) x.1 x.2 l)

    map_lineses : (d t : ℕ) → Fillers (map_lines cap i d t)
    unfolding map_lines
    map_lineses d zero got sum ls c = kept c
    map_lineses d (suc t) got sum ls c = map_turns d _ (map_lineses d t) got sum ls c

    entries_ofs : (d sum : ℕ) (ls : List Line) → Numbered ls → Reads (entries_of cap i d sum ls)
    unfolding entries_of
    entries_ofs d sum ls c = map_lineses d (length ls) done sum ls c

    block_maps : (d sum : ℕ) (ls : List Line) → Numbered ls → Reads (block_map cap i d sum ls)
    unfolding block_map
    block_maps d sum ls c = after (charges cap sum 6) λ s. reads (entries_ofs d s ls c) λ x l. kept l

    inline_maps : (n d : ℕ) (t : List ℕ) (split sum : ℕ) (ls : List Line) → 1 ≤ n → Numbered ls → Reads (inline_map cap i n d t split sum ls)
    unfolding inline_map fresh stepped
    inline_maps n d t split sum ls b c = after (charges cap sum 6)
        λ s. reads (entry_ats n d t split s ls b c)
        λ x l. reads (entries_ofs d x.1 x.2 l)
        λ y k. then-reads (ensures (not (has_key x.0.0 y.0)) (stops cap n b refl)) (kept k)

    item_behinds : (m : Line) (sum : ℕ) (t : List ℕ) (ls : List Line) → 1 ≤ m.number → Numbered ls → Reads (item_behind cap i m sum t ls)
    unfolding item_behind
    item_behinds m sum t ls b c = if-reads (empty t) (children m.indent sum ls c)
        (maybe-reads (key_end t) (line_values i.levels m.number sum t ls b c) λ split. h.inline m.number _ t split sum ls b c)

    seq_turns : (d : ℕ) (more : Items → ℕ → List Line → Read Items) → Fillers more → Fillers (seq_turn cap i d more)
    unfolding seq_turn
    seq_turns d more k got sum [] c = kept c
    seq_turns d more k got sum (m ∷ ls) c = if-reads (not (eqb m.indent d && dashed m.text)) (kept c)
        (reads (item_behinds m sum (trim_start (drop 1 m.text)) ls c.0 c.1) λ x l. k (got ◂ x.0) x.1 x.2 l)

    seq_lineses : (d t : ℕ) → Fillers (seq_lines cap i d t)
    unfolding seq_lines
    seq_lineses d zero got sum ls c = kept c
    seq_lineses d (suc t) got sum ls c = seq_turns d _ (seq_lineses d t) got sum ls c

    block_seqs : (d sum : ℕ) (ls : List Line) → Numbered ls → Reads (block_seq cap i d sum ls)
    unfolding block_seq items_of
    block_seqs d sum ls c = after (charges cap sum 6) λ s. reads (seq_lineses d (length ls) end s ls c) λ x l. kept l

  abbrev Lower : Option Inside → Type 0
  Lower none = Unit {0}
  Lower (some i) = Insides i

  opens : (o : Option Inside) → Lower o → (n : ℕ) → 1 ≤ n → (f : Inside → Read Yaml) → ((i : Inside) → Insides i → Reads (f i)) → Reads (given o 20 n 0 >>= f)
  unfolding given ◌>>=◌ stepped
  opens none h n b f k = record { refusals = stops cap n b refl; left = λ y e. refused≢good y 20 n 0 e }
  opens (some i) h n b f k = k i h

  block_ofs : (l : ℕ) (o : Option Inside) → Lower o → (sum : ℕ) (ls : List Line) → Numbered ls → Reads (block_of cap l o sum ls)
  unfolding block_of
  block_ofs l o h sum [] c = leaves sum null [] c
  block_ofs l o h sum (m ∷ ls) c = if-reads (dashed m.text) (opens o h m.number c.0 _ λ i k. block_seqs i k m.indent sum (m ∷ ls) c)
      (maybe-reads (key_end m.text) (line_values l m.number sum m.text ls c.0 c.1)
      λ _. opens o h m.number c.0 _ λ i k. block_maps i k m.indent sum (m ∷ ls) c)

  inline_ofs : (o : Option Inside) → Lower o → (n d : ℕ) (t : List ℕ) (split sum : ℕ) (ls : List Line) → 1 ≤ n → Numbered ls → Reads (inline_of cap o n d t split sum ls)
  unfolding inline_of
  inline_ofs o h n d t split sum ls b c = opens o h n b _ λ i k. inline_maps i k n d t split sum ls b c

  inside_ofs : (l : ℕ) (o : Option Inside) → Lower o → Insides (inside_of cap l o)
  unfolding inside_of
  inside_ofs l o h = record { block = block_ofs l o h; inline = inline_ofs o h }

  withins : (l : ℕ) → Insides (within cap l)
  unfolding within
  withins zero = inside_ofs 0 none tt
  withins (suc l) = inside_ofs (suc l) (some (within cap l)) (withins l)

  leftovers : (ls : List Line) → Numbered ls → Counts (nothing_left ls)
  unfolding nothing_left stepped
  leftovers [] c = never
  leftovers (l ∷ ls) c = stops cap l.number c.0 refl

  pub tree_ofs : (ls : List Line) → Numbered ls → Counts (tree_of cap ls)
  unfolding tree_of block ◌>>=◌
  tree_ofs ls c = go ((within cap 32).block 0 ls) ((withins 32).block 0 ls c)
    where
      go : (a : Read Yaml) → Reads a → Counts (a >>= λ x. nothing_left x.2 >> good x.0)
      go (good x) h = next (leftovers x.2 (h.left x refl)) never
      go (refused n i j) h = refuses n i j (h.refusals n i j refl)

-- ---- lines

abbrev EventOk : Event → Type 0
EventOk (entry l) = 1 ≤ l.number
EventOk (bad k n) = (1 ≤ n) × (stepped k || leb 55 k ≡ false)

abbrev Events : List Event → Type 0
Events es = All EventOk es

events : (n : ℕ) (raw : List ℕ) → 1 ≤ n → Events (events_of n raw)
unfolding events_of stepped
events n raw h =
    cond_both (tabbed raw) _ _ Events (λ _. ((h, refl), tt))
    λ _. cond_both (empty (significant raw)) _ _ Events (λ _. tt)
    λ _. cond_both (is_marker (significant raw)) _ _ Events (λ _. ((h, refl), tt))
    λ _. (h, tt)

blanks : (w n i : ℕ) → w < n → Events (blanks_before w n i)
unfolding blanks_before
blanks zero n i h = tt
blanks (suc w) n i h = (omega arith, blanks w n i (omega arith))

bodies-ok : (w n : ℕ) (raw : List ℕ) → w < n → Events (body_of w n raw)
unfolding body_of stepped
bodies-ok w n raw h = cond_both (tabbed raw) _ _ Events (λ _. ((omega arith, refl), tt))
    λ _. all-append EventOk (blanks_before w n (indent_of raw)) _ (blanks w n (indent_of raw) h) (omega arith, tt)

scans : (raws : List (List ℕ)) (lit : Literal) (w n : ℕ) → w < n → Events (scan lit w n raws)
unfolding scan
scans [] lit w n h = tt
scans (raw ∷ raws) Closed w n h = all-append EventOk (events_of n raw) (scan (literal_after raw) 0 (suc n) raws) (events n raw (omega arith)) (scans raws (literal_after raw) 0 (suc n) (omega arith))
scans (raw ∷ raws) (Under at) w n h =
    cond_both (all_white raw) _ _ Events (λ _. scans raws (Under at) (suc w) (suc n) (omega arith))
    λ _. cond_both (ltb at (indent_of raw)) _ _ Events (λ _. all-append EventOk (body_of w n raw) (scan (Under at) 0 (suc n) raws) (bodies-ok w n raw h) (scans raws (Under at) 0 (suc n) (omega arith)))
    λ _. all-append EventOk (events_of n raw) (scan (literal_after raw) 0 (suc n) raws) (events n raw (omega arith)) (scans raws (literal_after raw) 0 (suc n) (omega arith))

record Lists (a : Answer (List Line)) : Type 0 where
  refusals : Counts a
  numbered : (ls : List Line) → a ≡ good ls → Numbered ls

listed : {ls : List Line} → Numbered ls → Lists (good ls)
listed {ls} h = record { refusals = never; numbered = λ k e. subst Numbered (good-inj ls k e) h }

unlisted : {k n : ℕ} → 1 ≤ n → stepped k || leb 55 k ≡ false → Lists (refused k n 0)
unlisted {k} {n} h q = record { refusals = stops 0 n h q; numbered = λ ls e. refused≢good ls k n 0 e }

collects : (room : ℕ) (es : List Event) → Events es → Lists (collect room es)
unfolding collect ◌>>=◌ stepped
collects zero [] h = listed tt
collects (suc room) [] h = listed tt
collects zero (bad k n ∷ es) h = unlisted h.0.0 h.0.1
collects (suc room) (bad k n ∷ es) h = unlisted h.0.0 h.0.1
collects zero (entry l ∷ es) h = unlisted h.0 refl
collects (suc room) (entry l ∷ es) h = go (collect room es) (collects room es h.1)
  where
    go : (a : Answer (List Line)) → Lists a → Lists (a >>= λ ls. good (l ∷ ls))
    go (good ls) k = listed (h.0, k.numbered ls refl)
    go (refused n i j) k = record { refusals = refuses n i j (k.refusals n i j refl); numbered = λ ls e. refused≢good ls n i j e }

lists : (text : List ℕ) → Lists (significant_lines text)
unfolding significant_lines
lists text = collects 2048 _ (scans (split_lines text) Closed 0 1 (omega arith))

-- ---- trees

pub admits : (text : List ℕ) → Counts (admitted text)
unfolding admitted lined stepped
admits text = next (ensures (leb (length text) 65535) (plainly refl refl)) (ensures (is_utf8 text) (plainly refl refl))

-- with the lines of a text
pub lines_then : {A : Type 0} (text : List ℕ) {f : List Line → Answer A} → ((ls : List Line) → Numbered ls → Counts (f ls)) → Counts (significant_lines text >>= f)
unfolding ◌>>=◌
lines_then text {f} k = go (significant_lines text) (lists text)
  where
    go : (a : Answer (List Line)) → Lists a → Counts (a >>= f)
    go (good ls) h = k ls (h.numbered ls refl)
    go (refused n i j) h = refuses n i j (h.refusals n i j refl)

sizes : (a : Answer Yaml) → Counts a → Counts (size_of a)
unfolding size_of
sizes (good y) h = never
sizes (refused n i j) h = refuses n i j (h n i j refl)

pub tree-counted : (work : ℕ) (text : List ℕ) → Counts (size_of (tree work text))
unfolding tree
tree-counted work text = sizes (tree work text) (next (admits text) (lines_then text λ ls c. tree_ofs (min work (2 ^ 20)) ls c))
