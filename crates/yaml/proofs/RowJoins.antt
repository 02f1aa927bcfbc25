-- The entries of rows that follow one another, and the first entry of a block node. Assumes nothing.
use Rattle.std.proofs.Common.{◌≡◌, refl, sym, ap, ◌∙◌, subst, ℕ, suc, ◌+◌, List, [], ◌∷◌, ◌++◌, append_assoc, append-nil}
use Rattle.refusal.specs.Base.{ch}
use Rattle.item.specs.Tree.{many, keyed}
use Rattle.lines.specs.Lines.{Line, line}
use Rattle.yaml.specs.Characters.{spaces}
use Rattle.yaml.specs.Represent.{Graph, Rep}
use Rattle.yaml.specs.Rows.{Break, Row, node, note, body, blank, Comments, c_end, c_more}
use Rattle.yaml.specs.Block.{Chomp, mark, Blanks, l_none, l_empty, Lines, l_text, l_last, l_next, Trail, t_none, t_blank, t_comment, Literal, l_lines}
use Rattle.yaml.specs.Block.{l_nothing, Block, b_flow, b_seq, b_map, Items, i_last, i_more, Item, i_flow, i_null, i_block, i_map, Pairs, Entry, e_flow}
use Rattle.yaml.specs.Block.{e_null, e_block, e_literal}
use Rattle.yaml.specs.Block as B
use Rattle.yaml.proofs.Parts.{edge, next_body, lines_of}
use Rattle.yaml.proofs.LiteralReads.{next_body_lem}

-- ---- rows that do not end in blank ones: what follows does not change their entries

pub record Joins (xs : List Row) : Type 0 where
  pub place : ℕ → ℕ  -- the number of the row behind them
  pub is : (k : ℕ) (ys : List Row) → lines_of k (xs ++ ys) ≡ lines_of k xs ++ lines_of (place k) ys

joins-nil : Joins []
unfolding lines_of
joins-nil = record { place = λ k. k; is = λ k ys. refl }

joins-node : (n : ℕ) (t w : List ℕ) (b : Break) {xs : List Row} → Joins xs → Joins (node n t w b ∷ xs)
unfolding lines_of
joins-node n t w b j = record { place = λ k. j.place (suc k); is = λ k ys. ap (λ (l : List Line). line n t k ∷ l) (j.is (suc k) ys) }

joins-note : (s : List ℕ) (b : Break) {xs : List Row} → Joins xs → Joins (note s b ∷ xs)
unfolding lines_of
joins-note s b j = record { place = λ k. j.place (suc k); is = λ k ys. j.is (suc k) ys }

joins-body : (m : ℕ) (t : List ℕ) (b : Break) → Joins (body m t b ∷ [])
unfolding lines_of
joins-body m t b = record { place = λ k. suc k; is = λ k ys. refl }

joins-append : {xs zs : List Row} → Joins xs → Joins zs → Joins (xs ++ zs)
joins-append {xs = xs} {zs = zs} i j = record {
  place = λ k. j.place (i.place k);
  is = λ k ys.
      ap (lines_of k) (append_assoc xs zs ys) ∙ i.is k (zs ++ ys) ∙ ap (λ (l : List Line). lines_of k xs ++ l) (j.is (i.place k) ys)
      ∙ sym (append_assoc (lines_of k xs) (lines_of (i.place k) zs) (lines_of (j.place (i.place k)) ys))
      ∙ ap (λ (l : List Line). l ++ lines_of (j.place (i.place k)) ys) (sym (i.is k zs));
}

pub joins-comments : {xs : List Row} → Comments xs → Joins xs
joins-comments c_end = joins-nil
joins-comments (c_more {s = s} {b = b} h c) = joins-note s b (joins-comments c)

joins-trail : {m j : ℕ} {xs : List Row} → Trail m j xs → Joins xs
joins-trail t_none = joins-nil
joins-trail (t_blank {s = s} {b = b} i h t e) = joins-note s b (joins-trail t)
joins-trail (t_comment {s = s} {b = b} i u h g c e) = joins-note s b (joins-comments c)

joins-blank : (m i : ℕ) (c : Break) {xs : List Row} → ((ys : List Row) → next_body (xs ++ ys) ≡ m) → Joins xs → Joins (blank i c ∷ xs)
unfolding lines_of
joins-blank m i c {xs = xs} h j = record {
  place = λ k. j.place (suc k);
  is = λ k ys.
      rw (h ys, sym (ap next_body (append-nil xs)) ∙ h []) (ap (λ (l : List Line). line m [] k ∷ l) (j.is (suc k) ys));
}

-- blank rows before one of the literal
joins-blanks : {m : ℕ} {bs : List Row} {v : List ℕ} → Blanks m bs v → (t : List ℕ) (b : Break) → Joins (bs ++ (body m t b ∷ []))
joins-blanks {m = m} l_none t b = joins-body m t b
joins-blanks {m = m} (l_empty {k = i} {b = c} {rs = bs} h d) t b = joins-blank (m + edge t) i c (λ ys. next_body_lem d t b ys) (joins-blanks d t b)

joins-line : {m : ℕ} {xs : List Row} {v : List ℕ} {b : Break} → B.Line m xs v b → Joins xs
joins-line (l_text {b = b} t d h g e f) = subst Joins (sym e) (joins-blanks d t b)

joins-lines : {m : ℕ} {xs : List Row} {v : List ℕ} {b : Break} → Lines m xs v b → Joins xs
joins-lines (l_last d) = joins-line d
joins-lines (l_next d ds e f) = subst Joins (sym e) (joins-append (joins-line d) (joins-lines ds))

joins-literal : {n : ℕ} {c : Chomp} {xs : List Row} {v : List ℕ} → Literal n c xs v → Joins xs
joins-literal (l_lines h d s t e f) = subst Joins (sym e) (joins-append (joins-lines d) (joins-trail t))
joins-literal (l_nothing m t) = joins-trail t

-- ---- block nodes join, and their first entry is at their indentation

pub record Shape (m : ℕ) (xs : List Row) : Type 0 where
  pub joins : Joins xs
  pub text : List ℕ
  pub more : ℕ → List Line
  pub is : (k : ℕ) → lines_of k xs ≡ line m text k ∷ more k

shape-node : (m : ℕ) (t w : List ℕ) (b : Break) (xs : List Row) → Joins xs → Shape m (node m t w b ∷ xs)
shape-node m t w b xs j = record { joins = joins-node m t w b j; text = t; more = λ k. lines_of (suc k) xs; is = λ k. unfold lines_of in refl }

shape-append : {m : ℕ} {xs ys : List Row} → Shape m xs → Joins ys → Shape m (xs ++ ys)
shape-append {ys = ys} s j = record {
  joins = joins-append s.joins j;
  text = s.text;
  more = λ k. s.more k ++ lines_of (s.joins.place k) ys;
  is = λ k. s.joins.is k ys ∙ ap (λ (l : List Line). l ++ lines_of (s.joins.place k) ys) (s.is k);
}

-- rows behind a first row, whatever that is
lines_tail : List Line → List Line
lines_tail [] = []
lines_tail (l ∷ ls) = ls

joins-tail : (m n : ℕ) (t u w : List ℕ) (b : Break) (xs : List Row) → Joins (node n t w b ∷ xs) → Joins (node m u w b ∷ xs)
unfolding lines_of lines_tail
joins-tail m n t u w b xs j = record { place = j.place; is = λ k ys. ap (λ (l : List Line). line m u k ∷ lines_tail l) (j.is k ys) }

shape-tail : (m n : ℕ) (t u w : List ℕ) (b : Break) (xs : List Row) → Joins (node n t w b ∷ xs) → Shape m (node m u w b ∷ xs)
shape-tail m n t u w b xs j = record { joins = joins-tail m n t u w b xs j; text = u; more = λ k. lines_of (suc k) xs; is = λ k. unfold lines_of in refl }

mutual
  pub shape-block : {m : ℕ} {xs : List Row} {r : Rep} → Block m xs r → Shape m xs
  shape-block (b_flow {m = m} {cs = cs} {t = t} {w = w} {b = b} d h c e) = subst (Shape m) (sym e) (shape-node m t w b cs (joins-comments c))
  shape-block (b_seq d) = shape-items d
  shape-block (b_map d) = shape-pairs d

  pub shape-items : {m : ℕ} {rs : List Row} {xs : Graph many} → Items m rs xs → Shape m rs
  shape-items (i_last d) = shape-item d
  shape-items (i_more {m = m} d ds e) = subst (Shape m) (sym e) (shape-append (shape-item d) (shape-items ds).joins)

  pub shape-item : {m : ℕ} {rs : List Row} {r : Rep} → Item m rs r → Shape m rs
  shape-item (i_flow {m = m} {cs = cs} {t = t} {w = w} {b = b} x v d h c e) = subst (Shape m) (sym e) (shape-node m (ch "-" ∷ ch " " ∷ x ++ t) w b cs (joins-comments c))
  shape-item (i_null {m = m} {cs = cs} {w = w} {b = b} h c e) = subst (Shape m) (sym e) (shape-node m (ch "-" ∷ []) w b cs (joins-comments c))
  shape-item (i_block {m = m} {cs = cs} {xs = xs} {w = w} {b = b} h c l d e) =
      subst (Shape m) (sym e) (shape-node m (ch "-" ∷ []) w b (cs ++ xs) (joins-append (joins-comments c) (shape-block d).joins))
  shape-item (i_map {m = m} {k = n} {xs = xs} {t = t} {w = w} {b = b} j h d e) = subst (Shape m) (sym e) (shape-tail m n t (ch "-" ∷ spaces (suc j) ++ t) w b xs (shape-pairs d).joins)

  pub shape-pairs : {n : ℕ} {rs : List Row} {ps : Graph keyed} → Pairs n rs ps → Shape n rs
  shape-pairs (B.m_last d) = shape-entry d
  shape-pairs (B.m_more {n = n} d ds e) = subst (Shape n) (sym e) (shape-append (shape-entry d) (shape-pairs ds).joins)

  pub shape-entry : {n : ℕ} {rs : List Row} {k v : Rep} → Entry n rs k v → Shape n rs
  shape-entry (e_flow {n = n} {cs = cs} {s = s} {t = t} {w = w} {b = b} x k v d h c e) =
      subst (Shape n) (sym e) (shape-node n (s ++ (ch ":" ∷ ch " " ∷ x ++ t)) w b cs (joins-comments c))
  shape-entry (e_null {n = n} {cs = cs} {s = s} {w = w} {b = b} k h c e) = subst (Shape n) (sym e) (shape-node n (s ++ (ch ":" ∷ [])) w b cs (joins-comments c))
  shape-entry (e_block {n = n} {cs = cs} {xs = xs} {s = s} {w = w} {b = b} k h c l d e) =
      subst (Shape n) (sym e) (shape-node n (s ++ (ch ":" ∷ [])) w b (cs ++ xs) (joins-append (joins-comments c) (shape-block d).joins))
  shape-entry (e_literal {n = n} {xs = xs} {s = s} {w = w} {b = b} x c k v h d e) =
      subst (Shape n) (sym e) (shape-node n (s ++ (ch ":" ∷ ch " " ∷ x ++ (ch "|" ∷ mark c))) w b xs (joins-literal d))
