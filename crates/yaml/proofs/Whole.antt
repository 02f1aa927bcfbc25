-- The whole: a text that is YAML, that document 01 keeps, and that is within the limits is read as YAML reads it (`Reads`). What it says of
-- the job, and that no text has two trees. Assumes nothing.
use Rattle.std.proofs.Common.{◌≡◌, refl, sym, ap, ◌∙◌, subst, ℕ, zero, suc, ◌+◌, ◌≤◌, min, ◌^◌, arith, List, [], ◌∷◌, ◌++◌, append-nil, true, T, leb, length, take, drop, take_at, leb-true, le-leb}
use Rattle.std.proofs.Math.Facts.{and_yes}
use Rattle.std.proofs.lemmas.Bool.{false≢true, and_parts}
use Rattle.std.proofs.Math.Option.{Option, some}
use Rattle.refusal.specs.Base.{Answer, good, ◌>>=◌, ◌>>◌, ensure}
use Rattle.refusal.proofs.Tools.{good-inj}
use Rattle.utf8.specs.Utf8.{Range, ◌‥◌, within, is_utf8}
use Rattle.utf8.proofs.Ranges.{if-one, inside, above}
use Rattle.utf8.specs.Points.{in_any, scalar}
use Rattle.utf8.proofs.Utf8Laws.{utf8_nil}
use Rattle.utf8.proofs.Utf8Points.{utf8_encode}
use Rattle.item.specs.Tree.{Yaml, levels}
use Rattle.item.specs.Tree as Tree
use Rattle.item.specs.Encode.{encode}
use Rattle.item.proofs.Size.{size, encode-size}
use Rattle.lines.specs.Lines.{Line, Event, entry, bad, collect, scan, split_lines, significant_lines}
use Rattle.lines.specs.declared.Literal.TheVariants.{Closed}
use Rattle.scalar.specs.Read.{cost, charge}
use Rattle.literal.specs.Literal.{leaf}
use Rattle.block.specs.Block.{block_of, inside_of, block}
use Rattle.block.specs.Block as Bl
use Rattle.tree.specs.Tree.{admitted, nothing_left, tree, answer_of, size_of, left}
use Rattle.tree.specs.Tree as Whole
use Rattle.tree.specs.declared.TreeAnswer.{TreeAnswer}
use Rattle.tree.proofs.ReadTree.{Promised}
use Rattle.yaml.specs.Characters.{printable, utf8_of, all_printable}
use Rattle.yaml.specs.Represent.{Rep, tree_of}
use Rattle.yaml.specs.Rows.{Row, node, note, body, blank, Comments, c_end, c_more}
use Rattle.yaml.specs.Block.{Document, d_none, d_one, Stream}
use Rattle.yaml.specs.Kept.{Kept, KeptDocument}
use Rattle.yaml.specs.Reads.{Reads, entries, Limits}
use Rattle.yaml.proofs.Parts.{lines_of, as_events, Below, Splits, Scans, ReadsBlock}
use Rattle.yaml.proofs.Tests.{is_true}
use Rattle.yaml.proofs.Trees.{some-eq}
use Rattle.yaml.proofs.SplitReads.{splits}
use Rattle.yaml.proofs.ScanReads.{scans}
use Rattle.yaml.proofs.BlockReads.{reads-block}

-- ---- a printable text is UTF-8

low : (r : Range) (c : ℕ) → r.high ≤ 0xd7ff → within r c ≡ true → scalar c ≡ true
unfolding scalar in_any within
low r c h e =
    let u : c ≤ r.high = leb-true c r.high (and_parts (leb r.low c) (leb c r.high) e).1 in
    rw (inside (0x0 ‥ 0xd7ff) c (omega arith) (omega arith))

high : (r : Range) (c : ℕ) → 0xe000 ≤ r.low → r.high ≤ 0x10ffff → within r c ≡ true → scalar c ≡ true
unfolding scalar in_any within
high r c g h e =
    let w = and_parts (leb r.low c) (leb c r.high) e in
    let u : r.low ≤ c = leb-true r.low c w.0 in
    let v : c ≤ r.high = leb-true c r.high w.1 in
    rw (above (0x0 ‥ 0xd7ff) c (omega arith), inside (0xe000 ‥ 0x10ffff) c (omega arith) (omega arith))

printable-scalar : (c : ℕ) → printable c ≡ true → scalar c ≡ true
unfolding printable in_any
printable-scalar c e =
    if-one _ _ e (low (0x9 ‥ 0xa) c (omega arith))
    λ e. if-one _ _ e (low (0xd ‥ 0xd) c (omega arith))
    λ e. if-one _ _ e (low (0x20 ‥ 0x7e) c (omega arith))
    λ e. if-one _ _ e (low (0x85 ‥ 0x85) c (omega arith))
    λ e. if-one _ _ e (low (0xa0 ‥ 0xd7ff) c (omega arith))
    λ e. if-one _ _ e (high (0xe000 ‥ 0xfefe) c (omega arith) (omega arith))
    λ e. if-one _ _ e (high (0xff00 ‥ 0xfffd) c (omega arith) (omega arith))
    λ e. if-one _ _ e (high (0x10000 ‥ 0x10ffff) c (omega arith) (omega arith))
    λ e. absurd (false≢true e)

printed : (cs : List ℕ) → T (all_printable cs) → is_utf8 (utf8_of cs) ≡ true
unfolding utf8_of all_printable
printed [] h = utf8_nil
printed (c ∷ cs) h =
    let k = and_yes (printable c) (all_printable cs) h in
    utf8_encode c (utf8_of cs) ∙ rw (printable-scalar c (is_true (printable c) k.0)) (printed cs k.1)

-- ---- the entries within their limit

lines-length : (n : ℕ) (rs : List Row) → length (lines_of n rs) ≡ entries rs
unfolding lines_of entries
lines-length n [] = refl
lines-length n (node i t w b ∷ rs) = ap suc (lines-length (suc n) rs)
lines-length n (note s b ∷ rs) = lines-length (suc n) rs
lines-length n (body m t b ∷ rs) = ap suc (lines-length (suc n) rs)
lines-length n (blank k b ∷ rs) = ap suc (lines-length (suc n) rs)

collected : (room : ℕ) (ls : List Line) → length ls ≤ room → collect room (as_events ls) ≡ good ls
unfolding collect as_events ◌>>=◌
collected room [] h = refl
collected zero (l ∷ ls) h = absurd (omega arith)
collected (suc room) (l ∷ ls) h = rw (collected room ls (omega arith))

-- ---- a document, whatever the number of its first row

-- comments have no entries
behind : (P : List Line → Type 0) {cs : List Row} → Comments cs → (xs : List Row) → ((k : ℕ) → P (lines_of k xs)) → (k : ℕ) → P (lines_of k (cs ++ xs))
unfolding lines_of
behind P c_end xs f k = f k
behind P (c_more h c) xs f k = behind P c xs f (suc k)

block_none : (cap l : ℕ) → 6 ≤ cap → block cap l 0 [] ≡ good (Tree.null, 6, [])
unfolding leaf charge cost ◌>>=◌ block_of inside_of Bl.within block
block_none cap zero h = rw (le-leb 6 cap h)
block_none cap (suc l) h = rw (le-leb 6 cap h)

module _ (cap l : ℕ) where
  document : (y : Yaml) → levels y ≤ l → size y ≤ cap → {rs : List Row} {r : Option Rep} (d : Document rs r) → KeptDocument d → tree_of r ≡ some y → (k : ℕ) → block cap l 0 (lines_of k rs) ≡ good (y, size y, [])
  unfolding tree_of KeptDocument ReadsBlock Below lines_of
  document y h g (d_none {rs = rs} c) q e k =
      subst (λ (x : Yaml). block cap l 0 (lines_of k rs) ≡ good (x, size x, [])) (some-eq e)
      (subst (λ (x : List Row). block cap l 0 (lines_of k x) ≡ good (Tree.null, 6, [])) (append-nil rs)
      (behind (λ ls. block cap l 0 ls ≡ good (Tree.null, 6, [])) c [] (λ n. block_none cap l (omega (arith, ap size (some-eq e)))) k))
  document y h g (d_one {cs = cs} {xs = xs} {m = m} {r = r} c d p) q e k =
      subst (λ (rs : List Row). block cap l 0 (lines_of k rs) ≡ good (y, size y, [])) (sym p)
      (behind (λ ls. block cap l 0 ls ≡ good (y, size y, [])) c xs (λ n.
      ap (block cap l 0) (sym (append-nil (lines_of n xs))) ∙ reads-block cap l 0 n m xs r y d q e [] tt h (omega arith)
      ∙ ap (λ (s : ℕ). good (y, s, [])) (omega arith)) k)

-- ---- the whole

-- what the reader makes of a kept text before it reads blocks
module _ (t : List ℕ) (r : Option Rep) (d : Stream t r) (k : Kept d) where
  events : scan Closed 0 1 (split_lines t) ≡ as_events (lines_of 1 d.rows)
  unfolding Splits Scans
  events = ap (scan Closed 0 1) (splits t r d) ∙ scans t r d k

  pub found : entries d.rows ≤ 2048 → significant_lines t ≡ good (lines_of 1 d.rows)
  unfolding significant_lines
  found h = ap (collect 2048) events ∙ collected 2048 (lines_of 1 d.rows) (omega (arith, lines-length 1 d.rows))

  pub admits : length t ≤ 65535 → admitted t ≡ good tt
  unfolding admitted ensure ◌>>◌ ◌>>=◌
  admits h = rw (le-leb (length t) 65535 h, ap is_utf8 d.printable.is ∙ printed d.printable.points d.printable.are)

-- all its lines are one block
whole-document : {t : List ℕ} {r : Option Rep} {work : ℕ} (y : Yaml) (d : Stream t r) → Kept d → tree_of r ≡ some y → Limits d y work
    → block (min work (2 ^ 20)) 32 0 (lines_of 1 d.rows) ≡ good (y, size y, [])
whole-document {work = work} y d k e h = document (min work (2 ^ 20)) 32 y h.shallow (omega (arith, encode-size y, h.small)) d.document k.document e 1

pub whole-tree : {t : List ℕ} {r : Option Rep} {work : ℕ} (y : Yaml) (d : Stream t r) → Kept d → tree_of r ≡ some y → Limits d y work
    → Whole.tree_of (min work (2 ^ 20)) (lines_of 1 d.rows) ≡ good y
unfolding Whole.tree_of nothing_left ◌>>◌ ◌>>=◌
whole-tree {work = work} y d k e h = rw (whole-document {work = work} y d k e h)

pub reads : Reads
unfolding Reads tree ◌>>◌ ◌>>=◌
reads work t r y d k e h = rw (admits t r d k h.short, found t r d k h.few, whole-tree {work = work} y d k e h)

-- ---- no text has two trees: whatever its length, two kept derivations of it that have trees have one

lines_of_events : List Event → List Line
lines_of_events [] = []
lines_of_events (entry l ∷ es) = l ∷ lines_of_events es
lines_of_events (bad k n ∷ es) = lines_of_events es

of-events : (ls : List Line) → lines_of_events (as_events ls) ≡ ls
unfolding lines_of_events as_events
of-events [] = refl
of-events (l ∷ ls) = ap (λ (x : List Line). l ∷ x) (of-events ls)

pub unique : (t : List ℕ) (r r' : Option Rep) (y y' : Yaml) (d : Stream t r) (d' : Stream t r') → Kept d → Kept d' → tree_of r ≡ some y → tree_of r' ≡ some y' → y ≡ y'
unique t r r' y y' d d' k k' e e' =
    let same : lines_of 1 d.rows ≡ lines_of 1 d'.rows = sym (of-events _) ∙ ap lines_of_events (sym (events t r d k) ∙ events t r' d' k') ∙ of-events _ in
    let cap = size y + size y' in
    let l = levels y + levels y' in
    let a : block cap l 0 (lines_of 1 d.rows) ≡ good (y, size y, []) = document cap l y (omega arith) (omega arith) d.document k.document e 1 in
    let b : block cap l 0 (lines_of 1 d'.rows) ≡ good (y', size y', []) = document cap l y' (omega arith) (omega arith) d'.document k'.document e' 1 in
    let p = good-inj _ _ (sym a ∙ ap (block cap l 0) same ∙ b) in
    ap (λ (x : Yaml × ℕ × List Line). x.0) p

-- ---- what the contract of `read_tree` says of such a text: the answer is the tree's size, and the tree stands at the front of the work

pub record Answered (old new : List ℕ) (a : TreeAnswer) (y : Yaml) : Type 0 where
  pub answer : answer_of a ≡ good (length (encode y))
  pub bytes : new ≡ encode y ++ drop (length (encode y)) old
  pub written : take (length (encode y)) new ≡ encode y

pub answered : (t old new : List ℕ) (a : TreeAnswer) → Promised t old new a → (r : Option Rep) (y : Yaml) (d : Stream t r) → Kept d → tree_of r ≡ some y → Limits d y (length old) → Answered old new a y
unfolding Reads size_of left
answered t old new a p r y d k e h =
    let q : tree (length old) t ≡ good y = reads (length old) t r y d k e h in
    let b : new ≡ encode y ++ drop (length (encode y)) old = p.bytes ∙ ap (λ (x : Answer Yaml). left x old) q in
    record {
      answer = p.answer ∙ ap size_of q;
      bytes = b;
      written = ap (take (length (encode y))) b ∙ take_at (encode y) (drop (length (encode y)) old) (length (encode y)) refl;
    }
