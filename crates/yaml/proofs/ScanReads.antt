-- Section 1 of document 01 finds the entries of the rows (`Scans`). Assumes nothing.
use Rattle.std.specs.Prelude.{if◌then◌else◌}
use Rattle.std.proofs.Common.{◌≡◌, refl, sym, ap, ◌∙◌, ⊎_elim, ℕ, zero, suc, ◌+◌, ◌-◌, ◌≤◌, ◌<◌, arith, List, [], ◌∷◌, ◌++◌, append_assoc, append-nil, Bool, true, false, ◌&&◌, not, true≢false, T, eqb, ltb, length, drop, length-drop, eqb-true, lt-ltb, le-ltb}
use Rattle.std.proofs.Math.Facts.{and_yes, or_yes}
use Rattle.std.proofs.lemmas.Bool.{or_parts}
use Rattle.std.proofs.Math.Bool.{and-false}
use Rattle.std.proofs.Math.Option.{Option, none, some, none-ne-some}
use Rattle.refusal.specs.Base.{maybe, ch, bytes, same, empty, ends_with}
use Rattle.item.specs.Tree.{many, keyed}
use Rattle.utf8.specs.Utf8.{within}
use Rattle.utf8.specs.White.{white1, white_at, white_len, leading_from, leading, trim_start, all_white, trim_end, trim}
use Rattle.utf8.proofs.Laws.{leading_le, end-le, end_empty, first-none, white-apart}
use Rattle.lines.specs.Lines.{line, Event, entry, indent_of, tabbed, starts_comment, uncommented, strip_comment, significant, is_marker, opens_literal, events_of, literal_of, literal_after, blanks_before, body_of, scan}
use Rattle.lines.proofs.Laws.{tab-none, tab-here, tab-on, space-white, space-all}
use Rattle.lines.specs.declared.Literal.TheVariants.{Closed, Under}
use Rattle.yaml.specs.Characters.{among, white, whites, nb_chars, spaces}
use Rattle.yaml.specs.Scalars.{Context, Plain, plain}
use Rattle.yaml.proofs.Tests.{is_true, is_false}
use Rattle.yaml.proofs.Whites.{white-low, white-one}
use Rattle.yaml.specs.Represent.{Graph, Rep}
use Rattle.yaml.specs.Flow.{Quoted, q_double, q_single, Flow, f_plain, f_quoted, f_seq, f_map}
use Rattle.yaml.specs.Rows.{Break, Row, node, note, body, blank, raw, comment_line, tail, Comments, c_end, c_more}
use Rattle.yaml.specs.Block.{Chomp, mark, Blanks, l_none, l_empty, Lines, l_text, l_last, l_next, Trail, t_none, t_blank, t_comment, Literal, l_lines}
use Rattle.yaml.specs.Block.{l_nothing, Key, key, Block, b_flow, b_seq, b_map, Items, i_last, i_more, Item, i_flow, i_null, i_block, i_map, Pairs, Entry}
use Rattle.yaml.specs.Block.{e_flow, e_null, e_block, e_literal, Document, d_none, d_one}
use Rattle.yaml.specs.Block as B
use Rattle.yaml.specs.Kept.{KeptFlow, KeptKey, KeptBlock, KeptSeq, KeptItem, KeptMap, KeptEntry, KeptDocument, closed, under, gap, opened, Cut, Trimmed, inner, KeptRows}
use Rattle.yaml.proofs.Parts.{edge, next_body, lines_of, raws, as_events, Scans}
use Rattle.yaml.proofs.LiteralReads.{indent-back, edge-all}

-- ---- texts that begin with no white space

pub data Solid : List ℕ → Type 0 where
  solid : {b : ℕ} {s : List ℕ} → white_at b s ≡ none → Solid (b ∷ s)

-- white space goes on with bytes from 80 on
pub data Low : List ℕ → Type 0 where
  low_end : Low []
  low_byte : {b : ℕ} {s : List ℕ} → b < 0x80 → Low (b ∷ s)

white_low : (a : ℕ) (s : List ℕ) {u : List ℕ} → Low u → white_at a (s ++ u) ≡ white_at a s
white_low a s low_end = ap (white_at a) (append-nil s)
white_low a s (low_byte {b = b} {s = u} h) = white-apart b (λ l _. omega arith) a s u

solid-on : {t u : List ℕ} → Solid t → Low u → Solid (t ++ u)
solid-on (solid {b = b} {s = s} e) l = solid (white_low b s l ∙ e)

low-whites : (x : List ℕ) → T (whites x) → Low x
unfolding whites
low-whites [] h = low_end
low-whites (b ∷ x) h = low_byte (white-low b (and_yes (white b) (whites x) h).0)

low-tail : (w : List ℕ) → T (tail w) → Low w
unfolding tail
low-tail [] h = low_end
low-tail (b ∷ w) h = low_byte (white-low b (and_yes (white b) (comment_line w) h).0)

-- a text that is trimmed at its start begins with none
trim-solid : (b : ℕ) (s : List ℕ) → trim (b ∷ s) ≡ b ∷ s → Solid (b ∷ s)
trim-solid b s e = solid (at (white_at b s) refl (leads (white_at b s) refl))
  where
    short : leading (b ∷ s) ≡ 0
    short = unfold trim trim_start in omega (arith, leading_le (b ∷ s), length-drop (leading (b ∷ s)) (b ∷ s), end-le (drop (leading (b ∷ s)) (b ∷ s)), ap length e)

    leads : (o : Option ℕ) → white_at b s ≡ o → maybe o 0 (λ k. suc (leading_from k s)) ≡ 0
    leads o q = unfold leading leading_from in (ap (λ (o : Option ℕ). maybe o 0 (λ k. suc (leading_from k s))) (sym q) ∙ short)

    at : (o : Option ℕ) → white_at b s ≡ o → maybe o 0 (λ k. suc (leading_from k s)) ≡ 0 → white_at b s ≡ none
    at none q h = q
    at (some k) q h = absurd (unfold maybe in omega arith)

-- ---- what the functions of section 1 make of a solid text, and of spaces before a text

solid-indent : {t : List ℕ} → Solid t → indent_of t ≡ 0
unfolding indent_of
solid-indent (solid {b = b} {s = s} e) = go (eqb b 32) refl
  where
    go : (x : Bool) → eqb b 32 ≡ x → (if x then suc (indent_of s) else 0) ≡ 0
    go true q = absurd (none-ne-some 0 (sym e ∙ ap (λ (c : ℕ). white_at c s) (eqb-true b 32 q) ∙ white-one 32 s tt))
    go false q = refl

solid-tab : {t : List ℕ} → Solid t → tabbed t ≡ false
solid-tab (solid {b = b} {s = s} e) = tab-none (b ∷ s) (unfold white_len maybe in rw e)

solid-white : {t : List ℕ} → Solid t → all_white t ≡ false
unfolding all_white trim_start leading leading_from maybe empty
solid-white (solid e) = rw e

solid-empty : {t : List ℕ} → Solid t → empty t ≡ false
unfolding empty
solid-empty (solid e) = refl

space-tab : (s : List ℕ) → tabbed (ch " " ∷ s) ≡ tabbed s
space-tab s = tab-on (32 ∷ s) 1 (space-white s) (λ e. omega arith) (λ e. omega arith)

module _ (t : List ℕ) where
  indent-spaces : (n : ℕ) → indent_of (spaces n ++ t) ≡ n + indent_of t
  unfolding indent_of
  indent-spaces zero = omega arith
  indent-spaces (suc n) = omega (arith, indent-spaces n)

  drop-spaces : (n : ℕ) → inner (spaces n ++ t) ≡ inner t
  unfolding indent_of
  drop-spaces zero = refl
  drop-spaces (suc n) = drop-spaces n

  tab-spaces : (n : ℕ) → tabbed (spaces n ++ t) ≡ tabbed t
  tab-spaces zero = refl
  tab-spaces (suc n) = space-tab (spaces n ++ t) ∙ tab-spaces n

  white-spaces : (n : ℕ) → all_white (spaces n ++ t) ≡ all_white t
  white-spaces zero = refl
  white-spaces (suc n) = space-all (spaces n ++ t) ∙ white-spaces n

spaces-white : (n : ℕ) → all_white (spaces n) ≡ true
spaces-white zero = unfold all_white trim_start leading leading_from empty in refl
spaces-white (suc n) = space-all (spaces n) ∙ spaces-white n

tab-white : (s : List ℕ) → white_len (ch "\t" ∷ s) ≡ 1
unfolding white_len white_at maybe white1 within
tab-white [] = refl
tab-white (b ∷ []) = refl
tab-white (b ∷ c ∷ s) = refl

-- a comment, or nothing, is left of a note without its spaces
note-strips : (s : List ℕ) → T (comment_line s) → tabbed s ≡ false → strip_comment (inner s) ≡ []
unfolding comment_line indent_of strip_comment uncommented starts_comment
note-strips [] h g = refl
note-strips (b ∷ s) h g = go (eqb b 32) (eqb b 35) refl refl h (note-strips s)
  where
    tab : b ≡ 9 → ⊥
    tab e = true≢false (sym (tab-here (b ∷ s) (λ q. omega (arith, ap (λ (c : ℕ). white_len (c ∷ s)) (sym e) ∙ q, tab-white s)) e) ∙ g)

    go : (x y : Bool) → eqb b 32 ≡ x → eqb b 35 ≡ y → T (if y then nb_chars s else white b && comment_line s)
        → (T (comment_line s) → tabbed s ≡ false → strip_comment (inner s) ≡ []) → strip_comment (drop (if x then suc (indent_of s) else 0) (b ∷ s)) ≡ []
    go true true e f k ih = absurd (let p : b ≡ 32 = eqb-true b 32 e in let q : b ≡ 35 = eqb-true b 35 f in omega arith)
    go true false e f k ih = ih (and_yes (white b) (comment_line s) k).1 (sym (space-tab s) ∙ ap (λ (c : ℕ). tabbed (c ∷ s)) (sym (eqb-true b 32 e)) ∙ g)
    go false true e f k ih = rw f
    go false false e f k ih = absurd (⊎_elim (λ q. true≢false (sym (is_true (eqb b 32) q) ∙ e)) (λ q. tab (eqb-true b 9 (is_true (eqb b 9) q))) (or_yes (eqb b 32) (eqb b 9) (and_yes (white b) (comment_line s) k).0))

note-none : (s : List ℕ) → T (comment_line s) → tabbed s ≡ false → significant s ≡ []
unfolding significant trim_end
note-none s h g = rw (note-strips s h g)

-- the rest of a text with nothing to trim at its end
end-cons : (b : ℕ) (s : List ℕ) → trim_end (b ∷ s) ≡ b ∷ s → trim_end s ≡ s
unfolding trim_end
end-cons b s e = go (all_white (b ∷ s)) e
  where
    go : (x : Bool) → (if x then [] else b ∷ trim_end s) ≡ b ∷ s → trim_end s ≡ s
    go true e = absurd (let z : ◌≡◌ {A = ℕ} 0 1 = cc in omega arith)
    go false e = cc

end-drop : (n : ℕ) (s : List ℕ) → trim_end s ≡ s → trim_end (drop n s) ≡ drop n s
end-drop zero s e = e
end-drop (suc n) [] e = e
end-drop (suc n) (b ∷ s) e = end-drop n s (end-cons b s e)

-- ---- the order of rows

-- what stands before a row: a node or a literal's line, a note (or nothing), a literal's blank line
pub data After : Type 0 where
  free notes blanks : After

abbrev pub NotBlanks : After → Type 0
NotBlanks free = Unit {0}
NotBlanks notes = Unit {0}
NotBlanks blanks = ⊥

abbrev pub NotNotes : After → Type 0
NotNotes free = Unit {0}
NotNotes notes = ⊥
NotNotes blanks = Unit {0}

abbrev pub NotFree : After → Type 0
NotFree free = ⊥
NotFree notes = Unit {0}
NotFree blanks = Unit {0}

-- behind a literal's blank line comes another line of the literal, behind a note none; a node has a text that is no white space and no mark
pub data Orderly : After → List Row → Type 0 where
  o_end : {a : After} → NotBlanks a → Orderly a []
  o_node : {a : After} {n : ℕ} {t w : List ℕ} {b : Break} {rs : List Row} → NotBlanks a → Solid t → is_marker t ≡ false → T (tail w) → Orderly free rs → Orderly a (node n t w b ∷ rs)
  o_note : {a : After} {s : List ℕ} {b : Break} {rs : List Row} → NotBlanks a → T (comment_line s) → Orderly notes rs → Orderly a (note s b ∷ rs)
  o_body : {a : After} {m : ℕ} {t : List ℕ} {b : Break} {rs : List Row} → NotNotes a → T (not (empty t)) → Orderly free rs → Orderly a (body m t b ∷ rs)
  o_blank : {a : After} {k : ℕ} {b : Break} {rs : List Row} → NotNotes a → Orderly blanks rs → Orderly a (blank k b ∷ rs)

freely : {a : After} {rs : List Row} → Orderly a rs → NotBlanks a → Orderly free rs
freely (o_end h) g = o_end tt
freely (o_node h s m t d) g = o_node tt s m t d
freely (o_note h s d) g = o_note tt s d
freely (o_body h s d) g = o_body tt s d
freely (o_blank h d) g = o_blank tt d

-- rows behind rows, from a note or a node on
joined : {a : After} {xs ys : List Row} → Orderly a xs → Orderly notes ys → Orderly a (xs ++ ys)
joined {a = free} (o_end h) e = freely e tt
joined {a = notes} (o_end h) e = e
joined {a = blanks} (o_end h) e = absurd h
joined (o_node h s m t d) e = o_node h s m t (joined d e)
joined (o_note h s d) e = o_note h s (joined d e)
joined (o_body h s d) e = o_body h s (joined d e)
joined (o_blank h d) e = o_blank h (joined d e)

-- a node behind its dash
dashed : {a : After} {k : ℕ} {t w : List ℕ} {b : Break} {rs : List Row} → Orderly a (node k t w b ∷ rs) → T (tail w) × Orderly free rs
dashed (o_node h s m t d) = (t, d)

-- ---- no node is a mark of documents

same-without : (c : ℕ) (s u p : List ℕ) → among c p ≡ false → same (s ++ (c ∷ u)) p ≡ false
unfolding among same
same-without c [] u [] h = refl
same-without c [] u (b ∷ p) h = rw (or_parts (eqb c b) (among c p) h).0
same-without c (a ∷ s) u [] h = refl
same-without c (a ∷ s) u (b ∷ p) h = rw (same-without c s u p (or_parts (eqb c b) (among c p) h).1, and-false (eqb a b))

colon-mark : (s u : List ℕ) → is_marker (s ++ (ch ":" ∷ u)) ≡ false
unfolding is_marker among bytes
colon-mark s u = rw (same-without 58 s u (bytes "---") refl, same-without 58 s u (bytes "...") refl)

dash-mark : (t : List ℕ) → is_marker (ch "-" ∷ ch " " ∷ t) ≡ false
unfolding is_marker same bytes
dash-mark t = refl

dash-only : is_marker (ch "-" ∷ []) ≡ false
unfolding is_marker same bytes
dash-only = refl

-- ---- nodes begin with no white space

dash-solid : (t : List ℕ) → Solid (ch "-" ∷ t)
dash-solid t = solid (first-none 45 t (omega arith) (omega arith))

quoted-solid : {s v : List ℕ} → Quoted s v → Solid s
quoted-solid (q_double {t = t} d e) = rw e (solid (first-none 34 (t ++ (34 ∷ [])) (omega arith) (omega arith)))
quoted-solid (q_single {t = t} d e) = rw e (solid (first-none 39 (t ++ (39 ∷ [])) (omega arith) (omega arith)))

plain-solid : {c : Context} {t : List ℕ} → Plain c t → trim t ≡ t → Solid t
plain-solid (plain {b = b} {t = t} h p) e = trim-solid b t e

flow-solid : {c : Context} {t : List ℕ} {r : Rep} (d : Flow c t r) → KeptFlow d → Solid t
unfolding KeptFlow
flow-solid (f_plain p s) k = plain-solid p k.0
flow-solid (f_quoted q) k = quoted-solid q
flow-solid (f_seq {t = t} n d e) k = rw e (solid (first-none 91 (spaces n ++ t) (omega arith) (omega arith)))
flow-solid (f_map {t = t} n d e) k = rw e (solid (first-none 123 (spaces n ++ t) (omega arith) (omega arith)))

key-solid : {s : List ℕ} {r : Rep} (d : Key s r) → KeptKey d → (u : List ℕ) → Solid (s ++ (ch ":" ∷ u))
unfolding KeptKey
key-solid {s = s} (key x d w e h) k u = solid-on {t = s} (rw e (solid-on (flow-solid d k.0) (low-whites x w))) (low_byte {b = 58} (omega arith))

-- ---- the rows of a derivation are orderly

comments-orderly : {rs : List Row} → Comments rs → Orderly notes rs
comments-orderly c_end = o_end tt
comments-orderly (c_more h c) = o_note tt h (comments-orderly c)

spaces-line : (n : ℕ) → T (comment_line (spaces n))
unfolding comment_line
spaces-line zero = tt
spaces-line (suc n) = spaces-line n

comment_line_lem : (n : ℕ) (t : List ℕ) → T (nb_chars t) → T (comment_line (spaces n ++ (ch "#" ∷ t)))
unfolding comment_line
comment_line_lem zero t h = h
comment_line_lem (suc n) t h = comment_line_lem n t h

trail-orderly : {m j : ℕ} {rs : List Row} → Trail m j rs → Orderly notes rs
trail-orderly t_none = o_end tt
trail-orderly (t_blank {s = s} k h t e) = o_note {s = s} tt (rw e (spaces-line k)) (trail-orderly t)
trail-orderly (t_comment {s = s} k t h g c e) = o_note {s = s} tt (rw e (comment_line_lem k t g)) (comments-orderly c)

blanks-orderly : {m : ℕ} {bs : List Row} {v : List ℕ} → Blanks m bs v → (t : List ℕ) → T (not (empty t)) → (b : Break) {ys : List Row} → Orderly free ys
    → {a : After} → NotNotes a → Orderly a ((bs ++ (body m t b ∷ [])) ++ ys)
blanks-orderly l_none t h b d g = o_body g h d
blanks-orderly (l_empty k e) t h b d g = o_blank g (blanks-orderly e t h b d tt)

line-orderly : {m : ℕ} {xs ys : List Row} {v : List ℕ} {b : Break} → B.Line m xs v b → Orderly free ys → Orderly free (xs ++ ys)
line-orderly (l_text {b = b} {bs = bs} t d h g e f) k = rw e (blanks-orderly d t g b k tt)

lines-orderly : {m : ℕ} {xs ys : List Row} {v : List ℕ} {b : Break} → Lines m xs v b → Orderly free ys → Orderly free (xs ++ ys)
lines-orderly (l_last d) k = line-orderly d k
lines-orderly {ys = zs} (l_next {xs = xs} {ys = ys} d ds e f) k = rw (e, append_assoc xs ys zs) (line-orderly d (lines-orderly ds k))

literal-orderly : {n : ℕ} {c : Chomp} {rs : List Row} {v : List ℕ} → Literal n c rs v → Orderly free rs
literal-orderly (l_lines h d s t e f) = rw e (lines-orderly d (freely (trail-orderly t) tt))
literal-orderly (l_nothing m t) = freely (trail-orderly t) tt

mutual
  unfolding KeptBlock KeptSeq KeptItem KeptMap KeptEntry

  block-orderly : {m : ℕ} {rs : List Row} {r : Rep} (d : Block m rs r) → KeptBlock d → Orderly notes rs
  block-orderly (b_flow d h c e) k = rw e (o_node tt (flow-solid d k.0) k.2 h (freely (comments-orderly c) tt))
  block-orderly (b_seq d) k = seq-orderly d k
  block-orderly (b_map d) k = map-orderly d k

  seq-orderly : {m : ℕ} {rs : List Row} {xs : Graph many} (d : Items m rs xs) → KeptSeq d → Orderly notes rs
  seq-orderly (i_last d) k = item-orderly d k
  seq-orderly (i_more d ds e) k = rw e (joined (item-orderly d k.0) (seq-orderly ds k.1))

  item-orderly : {m : ℕ} {rs : List Row} {r : Rep} (d : Item m rs r) → KeptItem d → Orderly notes rs
  item-orderly (i_flow {t = t} x v d h c e) k = rw e (o_node tt (dash-solid (32 ∷ x ++ t)) (dash-mark (x ++ t)) h (freely (comments-orderly c) tt))
  item-orderly (i_null h c e) k = rw e (o_node tt (dash-solid []) dash-only h (freely (comments-orderly c) tt))
  item-orderly (i_block h c g d e) k = rw e (o_node tt (dash-solid []) dash-only h (freely (joined (comments-orderly c) (block-orderly d k)) tt))
  item-orderly (i_map {t = t} j h d e) k =
      let f = dashed (map-orderly d k) in
      rw e (o_node tt (dash-solid (spaces (suc j) ++ t)) (dash-mark (spaces j ++ t)) f.0 f.1)

  map-orderly : {n : ℕ} {rs : List Row} {ps : Graph keyed} (d : Pairs n rs ps) → KeptMap d → Orderly notes rs
  map-orderly (B.m_last d) k = entry-orderly d k
  map-orderly (B.m_more d ds e) k = rw e (joined (entry-orderly d k.0) (map-orderly ds k.1))

  entry-orderly : {n : ℕ} {rs : List Row} {a v : Rep} (d : Entry n rs a v) → KeptEntry d → Orderly notes rs
  entry-orderly (e_flow {s = s} {t = t} x a v d h c e) k =
      let u : List ℕ = ch " " ∷ x ++ t in
      rw e (o_node tt (key-solid a k.0 u) (colon-mark s u) h (freely (comments-orderly c) tt))
  entry-orderly (e_null {s = s} a h c e) k = rw e (o_node tt (key-solid a k.0 []) (colon-mark s []) h (freely (comments-orderly c) tt))
  entry-orderly (e_block {s = s} a h c g d e) k =
      rw e (o_node tt (key-solid a k.0 []) (colon-mark s []) h (freely (joined (comments-orderly c) (block-orderly d k.2)) tt))
  entry-orderly (e_literal {s = s} x c a v h d e) k =
      let u : List ℕ = ch " " ∷ x ++ (ch "|" ∷ mark c) in
      rw e (o_node tt (key-solid a k.0 u) (colon-mark s u) h (literal-orderly d))

document-orderly : {rs : List Row} {r : Option Rep} (d : Document rs r) → KeptDocument d → Orderly notes rs
unfolding KeptDocument
document-orderly (d_none c) k = comments-orderly c
document-orderly (d_one c d e) k = rw e (joined (comments-orderly c) (block-orderly d k))

-- ---- one row

-- a node
module _ (n : ℕ) (t w : List ℕ) (s : Solid t) (h : T (tail w)) where
  behind-solid : Solid (t ++ w)
  behind-solid = solid-on s (low-tail w h)

  node-indent : indent_of (spaces n ++ (t ++ w)) ≡ n
  node-indent = omega (arith, indent-spaces (t ++ w) n, solid-indent behind-solid)

  node-drop : inner (spaces n ++ (t ++ w)) ≡ t ++ w
  node-drop = drop-spaces (t ++ w) n ∙ ap (λ (i : ℕ). drop i (t ++ w)) (solid-indent behind-solid)

  node-tab : tabbed (spaces n ++ (t ++ w)) ≡ false
  node-tab = tab-spaces (t ++ w) n ∙ solid-tab behind-solid

  node-white : all_white (spaces n ++ (t ++ w)) ≡ false
  node-white = white-spaces (t ++ w) n ∙ solid-white behind-solid

  node-significant : Cut t w → significant (spaces n ++ (t ++ w)) ≡ t
  unfolding significant Cut
  node-significant c = ap (λ (x : List ℕ). trim_end (strip_comment x)) node-drop ∙ c

  node-events : is_marker t ≡ false → Cut t w → (k : ℕ) → events_of k (spaces n ++ (t ++ w)) ≡ entry (line n t k) ∷ []
  unfolding events_of
  node-events m c k = rw (node-tab, node-significant c, solid-empty s, m, node-indent)

  node-after : Cut t w → literal_after (spaces n ++ (t ++ w)) ≡ literal_of t n
  unfolding literal_after
  node-after c = rw (node-significant c, node-indent)

  -- a node that a literal goes on over
  node-body : trim_end (t ++ w) ≡ t → (k : ℕ) → body_of 0 k (spaces n ++ (t ++ w)) ≡ entry (line n t k) ∷ []
  unfolding body_of blanks_before
  node-body c k = rw (node-tab, node-drop, c, node-indent)

-- a note
note-events : (s : List ℕ) → T (comment_line s) → tabbed s ≡ false → (k : ℕ) → events_of k s ≡ []
unfolding events_of empty
note-events s h g k = rw (g, note-none s h g)

note-after : (s : List ℕ) → T (comment_line s) → tabbed s ≡ false → literal_after s ≡ Closed
unfolding literal_after literal_of opens_literal ends_with same bytes
note-after s h g = rw (note-none s h g)

-- a literal's line
module _ (m : ℕ) (t : List ℕ) (h : T (not (empty t))) (g : Trimmed t) where
  text-white : all_white t ≡ false
  unfolding Trimmed
  text-white = sym (end_empty t) ∙ ap empty g.0 ∙ is_false (empty t) h

  body-white : all_white (spaces m ++ t) ≡ false
  body-white = white-spaces t m ∙ text-white

  inner-end : trim_end (inner t) ≡ inner t
  unfolding Trimmed
  inner-end = end-drop (indent_of t) t g.0

  body-events : (w k : ℕ) → body_of w k (spaces m ++ t) ≡ blanks_before w k (m + indent_of t) ++ (entry (line (m + indent_of t) (inner t) k) ∷ [])
  unfolding body_of Trimmed
  body-events w k = rw (tab-spaces t m, g.1, drop-spaces t m, inner-end, indent-spaces t m)

  -- outside a literal
  inner-empty : empty (inner t) ≡ false
  inner-empty = ap empty (sym inner-end) ∙ end_empty (inner t) ∙ sym (white-spaces (inner t) (indent_of t)) ∙ ap all_white (indent-back t) ∙ text-white

  module _ (c : strip_comment (inner t) ≡ inner t) where
    body-significant : significant (spaces m ++ t) ≡ inner t
    unfolding significant
    body-significant = rw (drop-spaces t m, c) inner-end

    body_entry : is_marker (inner t) ≡ false → (k : ℕ) → events_of k (spaces m ++ t) ≡ entry (line (m + indent_of t) (inner t) k) ∷ []
    unfolding events_of Trimmed
    body_entry n k = rw (tab-spaces t m, g.1, body-significant, inner-empty, n, indent-spaces t m)

    body-after : literal_after (spaces m ++ t) ≡ literal_of (inner t) (m + indent_of t)
    unfolding literal_after
    body-after = rw (body-significant, indent-spaces t m)

-- one more blank line waits
blanks-more : (w k i : ℕ) → blanks_before (suc w) (suc k) i ≡ blanks_before w k i ++ (entry (line i [] k) ∷ [])
unfolding blanks_before
blanks-more zero k i = let e : suc k - 1 ≡ k = omega arith in rw e
blanks-more (suc w) k i =
    let e : suc k - suc (suc w) ≡ k - suc w = omega arith in
    ap (λ (x : ℕ). entry (line i [] x) ∷ blanks_before (suc w) (suc k) i) e ∙ ap (λ (es : List Event). entry (line i [] (k - suc w)) ∷ es) (blanks-more w k i)

-- ---- rows

-- the entries of the lines that wait
unfoldable pub waiting : After → ℕ → ℕ → ℕ → List Event
waiting free w k i = []
waiting notes w k i = []
waiting blanks w k i = blanks_before w k i

none-waits : (a : After) → NotBlanks a → (w k i : ℕ) → waiting a w k i ≡ []
unfolding waiting
none-waits free h w k i = refl
none-waits notes h w k i = refl
none-waits blanks h w k i = absurd h

waits : (a : After) → NotNotes a → NotFree a → (w k i : ℕ) → waiting a w k i ≡ blanks_before w k i
unfolding waiting
waits free h g w k i = absurd g
waits notes h g w k i = absurd h
waits blanks h g w k i = refl

pub record Found (a : After) (rs : List Row) : Type 0 where
  pub at_closed : (k : ℕ) → KeptRows rs closed → scan Closed 0 k (raws rs) ≡ as_events (lines_of k rs)
  pub at_under : (d k : ℕ) → KeptRows rs (under d) → scan (Under d) 0 k (raws rs) ≡ as_events (lines_of k rs)
  pub at_gap : NotFree a → (d w k : ℕ) → KeptRows rs (gap d) → scan (Under d) w k (raws rs) ≡ waiting a w k (next_body rs) ++ as_events (lines_of k rs)

-- behind a node
found-opened : (n k : ℕ) (t : List ℕ) {rs : List Row} → Found free rs → KeptRows rs (opened n t) → scan (literal_of t n) 0 k (raws rs) ≡ as_events (lines_of k rs)
unfolding opened literal_of
found-opened n k t {rs} f = go (opens_literal t)
  where
    go : (x : Bool) → KeptRows rs (if x then under n else closed) → scan (if x then Under n else Closed) 0 k (raws rs) ≡ as_events (lines_of k rs)
    go true c = f.at_under n k c
    go false c = f.at_closed k c

node-found : {a : After} {n : ℕ} {t w : List ℕ} {b : Break} {rs : List Row} → NotBlanks a → Solid t → is_marker t ≡ false → T (tail w) → Found free rs → Found a (node n t w b ∷ rs)
unfolding KeptRows scan raws raw lines_of as_events
node-found {a = a} {n = n} {t = t} {w = w} {b = b} {rs = rs} na s m h f = record {
  at_closed = λ k c. normal k c.0 c.1;
  at_under = λ d k c. rw (node-white n t w s h, node-indent n t w s h) (inside d k (ltb d n) c);
  at_gap = λ g d v k c. rw (node-white n t w s h, node-indent n t w s h, le-ltb d n c.0, none-waits a na v k (next_body (node n t w b ∷ rs))) (normal k c.1 c.2);
}
  where
    line-text : List ℕ
    line-text = spaces n ++ (t ++ w)

    normal : (k : ℕ) → Cut t w → KeptRows rs (opened n t) → events_of k line-text ++ scan (literal_after line-text) 0 (suc k) (raws rs) ≡ entry (line n t k) ∷ as_events (lines_of (suc k) rs)
    normal k c e = rw (node-events n t w s h m c k, node-after n t w s h c) (ap (λ (es : List Event). entry (line n t k) ∷ es) (found-opened n (suc k) t f e))

    inside : (d k : ℕ) (x : Bool) → (elim x as (λ _. Type 0) [ true ↦ ((trim_end (t ++ w) ≡ t) × KeptRows rs (under d)) | false ↦ (Cut t w × KeptRows rs (opened n t)) ])
        → (if x then body_of 0 k line-text ++ scan (Under d) 0 (suc k) (raws rs) else (events_of k line-text ++ scan (literal_after line-text) 0 (suc k) (raws rs)))
        ≡ entry (line n t k) ∷ as_events (lines_of (suc k) rs)
    inside d k true c = rw (node-body n t w s h c.0 k) (ap (λ (es : List Event). entry (line n t k) ∷ es) (f.at_under d (suc k) c.1))
    inside d k false c = normal k c.0 c.1

note-found : {a : After} {s : List ℕ} {b : Break} {rs : List Row} → NotBlanks a → T (comment_line s) → Found notes rs → Found a (note s b ∷ rs)
unfolding KeptRows scan raws raw lines_of as_events waiting
note-found {a = a} {s = s} {b = b} {rs = rs} na h f = record {
  at_closed = λ k c. normal k c.0 c.1;
  at_under = λ d k c. inside d 0 k (all_white s) c;
  at_gap = λ g d v k c. rw (none-waits a na v k (next_body (note s b ∷ rs))) (inside d v k (all_white s) c);
}
  where
    normal : (k : ℕ) → tabbed s ≡ false → KeptRows rs closed → events_of k s ++ scan (literal_after s) 0 (suc k) (raws rs) ≡ as_events (lines_of (suc k) rs)
    normal k g c = rw (note-events s h g k, note-after s h g) (f.at_closed (suc k) c)

    inside : (d v k : ℕ) (x : Bool) → (elim x as (λ _. Type 0) [ true ↦ KeptRows rs (gap d) | false ↦ ((indent_of s ≤ d) × (tabbed s ≡ false) × KeptRows rs closed) ])
        → (if x then scan (Under d) (suc v) (suc k) (raws rs) else (if ltb d (indent_of s) then body_of v k s ++ scan (Under d) 0 (suc k) (raws rs) else (events_of k s ++ scan (literal_after s) 0 (suc k) (raws rs))))
        ≡ as_events (lines_of (suc k) rs)
    inside d v k true c = f.at_gap tt d (suc v) (suc k) c
    inside d v k false c = rw (le-ltb d (indent_of s) c.0) (normal k c.1 c.2)

body-found : {a : After} {m : ℕ} {t : List ℕ} {b : Break} {rs : List Row} → NotNotes a → T (not (empty t)) → Found free rs → Found a (body m t b ∷ rs)
unfolding KeptRows scan raws raw lines_of as_events blanks_before next_body
body-found {a = a} {m = m} {t = t} {b = b} {rs = rs} na h f = record {
  at_closed = λ k c.
      rw (edge-is c.0, body_entry m t h c.0 c.1 c.2 k, body-after m t h c.0 c.1)
      (ap (λ (es : List Event). entry (line (m + indent_of t) (inner t) k) ∷ es) (found-opened (m + indent_of t) (suc k) (inner t) f c.3));
  at_under = λ d k c. rw (edge-is c.1) (inside d 0 k c.0 c.1 c.2);
  at_gap = λ g d v k c. rw (edge-is c.1, waits a na g v k (m + indent_of t)) (inside d v k c.0 c.1 c.2);
}
  where
    edge-is : Trimmed t → edge t ≡ indent_of t
    edge-is g = edge-all t (inner-empty m t h g)

    lines : ℕ → List Event
    lines k = entry (line (m + indent_of t) (inner t) k) ∷ as_events (lines_of (suc k) rs)

    inside : (d v k : ℕ) → d < m → Trimmed t → KeptRows rs (under d)
        → (if all_white (spaces m ++ t) then scan (Under d) (suc v) (suc k) (raws rs) else (if ltb d (indent_of (spaces m ++ t)) then body_of v k (spaces m ++ t) ++ scan (Under d) 0 (suc k) (raws rs) else (events_of k (spaces m ++ t) ++ scan (literal_after (spaces m ++ t)) 0 (suc k) (raws rs))))
        ≡ blanks_before v k (m + indent_of t) ++ lines k
    inside d v k l g c = rw (body-white m t h g, body-events m t h g v k, indent-spaces t m, lt-ltb d (m + indent_of t) (omega arith), append_assoc (blanks_before v k (m + indent_of t)) (entry (line (m + indent_of t) (inner t) k) ∷ []) (scan (Under d) 0 (suc k) (raws rs)))
        (ap (λ (es : List Event). blanks_before v k (m + indent_of t) ++ (entry (line (m + indent_of t) (inner t) k) ∷ es)) (f.at_under d (suc k) c))

blank-found : {a : After} {i : ℕ} {b : Break} {rs : List Row} → NotNotes a → Found blanks rs → Found a (blank i b ∷ rs)
unfolding KeptRows scan raws raw lines_of as_events blanks_before next_body waiting
blank-found {a = a} {i = i} {b = b} {rs = rs} na f = record {
  at_closed = λ k c. absurd c;
  at_under = λ d k c. rw (spaces-white i) (inside d 0 k c);
  at_gap = λ g d v k c. rw (spaces-white i, waits a na g v k (next_body rs)) (inside d v k c);
}
  where
    inside : (d v k : ℕ) → KeptRows rs (gap d) → scan (Under d) (suc v) (suc k) (raws rs) ≡ blanks_before v k (next_body rs) ++ (entry (line (next_body rs) [] k) ∷ as_events (lines_of (suc k) rs))
    inside d v k c =
        f.at_gap tt d (suc v) (suc k) c
        ∙ ap (λ (es : List Event). es ++ as_events (lines_of (suc k) rs)) (blanks-more v k (next_body rs))
        ∙ append_assoc (blanks_before v k (next_body rs)) (entry (line (next_body rs) [] k) ∷ []) (as_events (lines_of (suc k) rs))

end-found : (a : After) → NotBlanks a → Found a []
unfolding scan raws lines_of as_events
end-found a h = record { at_closed = λ k c. refl; at_under = λ d k c. refl; at_gap = λ g d v k c. rw (none-waits a h v k (next_body [])) }

rows-found : {a : After} {rs : List Row} → Orderly a rs → Found a rs
rows-found {a = a} (o_end h) = end-found a h
rows-found (o_node h s m t d) = node-found h s m t (rows-found d)
rows-found (o_note h s d) = note-found h s (rows-found d)
rows-found (o_body h s d) = body-found h s (rows-found d)
rows-found (o_blank h d) = blank-found h (rows-found d)

pub scans : Scans
unfolding Scans
scans t r d k = (rows-found (document-orderly d.document k.document)).at_closed 1 k.lines
