-- What each step of reading a tree comes to. Assumes nothing.
use Rattle.std.proofs.Common.{◌≡◌, sym, ap, ◌∙◌, ℕ, ◌+◌, ◌≤◌, ◌<◌, min, ◌^◌, arith, List, [], ◌∷◌, ◌++◌, append_assoc, Result, Ok, Err, true, false, length, take, drop, replicate, length-append, length-drop, take-append-drop, length-take-le, le-leb}
use Rattle.std.proofs.lemmas.List.Edits.{sets, sets-eq}
use Rattle.std.proofs.lemmas.List.{drop-append-le}
use Rattle.std.proofs.lemmas.Bool.{lt-leb}
use Rattle.refusal.specs.Base.{Answer, good, refused, ◌>>=◌, ◌>>◌, ensure}
use Rattle.refusal.specs.Told.{refusal}
use Rattle.refusal.specs.declared.Refusal.{Refusal}
use Rattle.utf8.specs.Utf8.{is_utf8}
use Rattle.item.specs.Tree.{Yaml}
use Rattle.item.specs.Encode.{encode}
use Rattle.writer.specs.declared.Writer.{Writer}
use Rattle.writer.specs.Writing.{cap_of}
use Rattle.writer.proofs.Laws.{len_appended}
use Rattle.lines.specs.Lines.{Line, significant_lines}
use Rattle.lines.specs.declared.Row.{Row}
use Rattle.lines.specs.Table.{table_lines}
use Rattle.lines.proofs.Rows.{lines_end, lines_next}
use Rattle.lines.specs.Ready.{Filled}
use Rattle.literal.specs.Contract.{WroteBlock}
use Rattle.block.specs.Block.{block}
use Rattle.tree.specs.Tree.{admitted, nothing_left, tree_of, tree, size_of, left}
use Rattle.tree.specs.Contract.{WroteTree, AgreesTree, AgreesRead}

-- ---- the lines' value

module _ (ls : List Line) (old : List ℕ) where
  pub tree-stops : (z : Refusal) → block (length old) 32 0 ls ≡ refusal z → tree_of (length old) ls ≡ refusal z
  unfolding tree_of ◌>>=◌
  tree-stops z e = rw e

  -- a writer that was made of the output
  module _ (a b : Writer) (k : a.out.now ≡ old) (z : a.used ≡ 0) (next : ℕ) (w : WroteBlock (block (cap_of a) 32 a.used ls) ls 0 a b next) where
    read-is : block (length old) 32 0 ls ≡ good (w.tree, b.used, drop next ls)
    read-is = sym (ap (λ (l : List ℕ). block (length l) 32 a.used ls) k ∙ ap (λ (n : ℕ). block (length old) 32 n ls) z) ∙ w.is

    pub tree-whole : drop next ls ≡ [] → (new : List ℕ) → new ≡ b.out.now → WroteTree (tree_of (length old) ls) old new b.used
    unfolding tree_of ◌>>=◌ ◌>>◌ nothing_left
    tree-whole e new g = record {
      tree = w.tree;
      is = rw (read-is, e);
      stored = g ∙ w.appends.out ∙ ap (λ (l : List ℕ). sets l a.used (encode w.tree)) k ∙ ap (λ (n : ℕ). sets old n (encode w.tree)) z;
      size = omega (arith, w.appends.used, z);
      fits = omega (arith, b.within, len_appended w.appends, ap length k);
    }

    pub tree-rest : (l : Line) (rest : List Line) → drop next ls ≡ l ∷ rest → tree_of (length old) ls ≡ refused 6 l.number 0
    unfolding tree_of ◌>>=◌ ◌>>◌ nothing_left
    tree-rest l rest e = rw (read-is, e)

-- ---- the text

module _ (work : ℕ) (text : List ℕ) where
  pub tree_long : 65535 < length text → tree work text ≡ refused 1 0 0
  unfolding tree admitted ◌>>=◌ ◌>>◌ ensure
  tree_long h = rw (lt-leb (length text) 65535 h)

  module _ (h : length text ≤ 65535) where
    pub tree_bytes : is_utf8 text ≡ false → tree work text ≡ refused 2 0 0
    unfolding tree admitted ◌>>=◌ ◌>>◌ ensure
    tree_bytes u = rw (le-leb (length text) 65535 h, u)

    module _ (u : is_utf8 text ≡ true) where
      pub tree-unlined : (z : Refusal) → significant_lines text ≡ refusal z → tree work text ≡ refusal z
      unfolding tree admitted ◌>>=◌ ◌>>◌ ensure
      tree-unlined z e = rw (le-leb (length text) 65535 h, u, e)

      pub tree-lined : (ls : List Line) → significant_lines text ≡ good ls → work ≤ 2 ^ 20 → tree work text ≡ tree_of work ls
      unfolding tree admitted ◌>>=◌ ◌>>◌ ensure
      tree-lined ls e k = let m : min work (2 ^ 20) ≡ work = omega arith in rw (le-leb (length text) 65535 h, u, e, m)

  pub tree-counted : tree (min work (2 ^ 20)) text ≡ tree work text
  unfolding tree
  tree-counted = let m : min (min work (2 ^ 20)) (2 ^ 20) ≡ min work (2 ^ 20) = omega arith in rw m

pub read-lined : (text : List ℕ) (rows : List Row) (old new : List ℕ) (r : Result ℕ Refusal) → length text ≤ 65535 → is_utf8 text ≡ true → length old ≤ 2 ^ 20 → Filled text rows
    → AgreesTree (tree_of (length old) (table_lines text rows)) old new r → AgreesRead (tree (length old) text) text rows old new r
read-lined text rows old new (Err z) h u m f w = tree-lined (length old) text h u (table_lines text rows) f.lines m ∙ w
read-lined text rows old new (Ok n) h u m f w =
    let e : tree (length old) text ≡ tree_of (length old) (table_lines text rows) = tree-lined (length old) text h u (table_lines text rows) f.lines m in
    record {
      wrote = record { tree = w.tree; is = e ∙ w.is; stored = w.stored; size = w.size; fits = w.fits };
      ready = f.ready;
      lined = f.lines;
      is_tree = e;
    }

-- ---- the work bytes, of which the first `n` were lent: as many as count

module _ (text old new : List ℕ) (n : ℕ) (e : n ≡ min (length old) (2 ^ 20)) where
  abbrev x : Answer Yaml
  x = tree (length old) text

  lent : length (take n old) ≡ n
  lent = length-take-le n old (omega arith)

  -- the tree of as many of them as count is the tree
  same-work : tree (length (take n old)) text ≡ x
  same-work = ap (λ (m : ℕ). tree m text) (lent ∙ e) ∙ tree-counted (length old) text

  module _ (b : ℕ) (w : WroteTree (tree (length (take n old)) text) (take n old) new b) where
    is : x ≡ good w.tree
    is = sym same-work ∙ w.is

    pub told-size : good b ≡ size_of x
    unfolding size_of
    told-size = rw (is, w.size)

    pub told-bytes : new ++ drop n old ≡ left x old
    unfolding left
    told-bytes =
        let t : List ℕ = encode w.tree in
        let fits : length t ≤ n = omega (arith, lent, w.size, w.fits) in
        let zero : 0 + length t ≡ length t = omega arith in
        let one : sets (take n old) 0 t ≡ t ++ drop (length t) (take n old) = sets-eq t (take n old) 0 (omega (arith, lent)) ∙ ap (λ (k : ℕ). t ++ drop k (take n old)) zero in
        let two : drop (length t) (take n old) ++ drop n old ≡ drop (length t) old = rest (length t) fits in
        rw is (ap (λ (l : List ℕ). l ++ drop n old) (w.stored ∙ one) ∙ append_assoc t (drop (length t) (take n old)) (drop n old) ∙ ap (λ (l : List ℕ). t ++ l) two)
      where
        rest : (k : ℕ) → k ≤ n → drop k (take n old) ++ drop n old ≡ drop k old
        rest k g = sym (drop-append-le k (take n old) (drop n old) (omega (arith, lent))) ∙ ap (drop k) (take-append-drop n old)

  module _ (z : Refusal) (w : tree (length (take n old)) text ≡ refusal z) where
    pub told-refusal : refusal z ≡ size_of x
    unfolding size_of
    told-refusal = rw (sym same-work ∙ w)

    pub told-zeros : length new ≡ length (take n old) → replicate (length (new ++ drop n old)) 0 ≡ left x old
    unfolding left
    told-zeros k =
        let m : length (new ++ drop n old) ≡ length old = length-append new (drop n old) ∙ omega (arith, lent, length-drop n old) in
        rw (sym same-work ∙ w, m)

-- what the search tries
pub ruleset lines_read = (tree-stops, tree-whole, tree-rest, lines_end, lines_next)

pub ruleset texts_read = (tree_long, tree_bytes, tree-unlined, tree-lined, read-lined)

pub ruleset told = (told-refusal, told-zeros)
