-- The lines of a text are the rows of its derivation (`Splits`). Assumes nothing.
use Rattle.std.specs.Prelude.{if◌then◌else◌}
use Rattle.std.proofs.Common.{◌≡◌, refl, sym, ap, ◌∙◌, subst, ⊎_elim, ℕ, zero, suc, ◌<◌, arith, List, [], ◌∷◌, ◌++◌, append-nil, Bool, true, false, ◌&&◌, ◌||◌, not, T, eqb, leb, ltb, eqb→eq, ltb→lt, eqb-true, le-leb}
use Rattle.std.proofs.Math.Facts.{and_yes, or_yes}
use Rattle.std.proofs.Math.Option.{Option}
use Rattle.refusal.specs.Base.{ch, bytes, empty}
use Rattle.item.specs.Tree.{many, keyed}
use Rattle.lines.specs.Lines.{begins_newline, prepend, split_lines}
use Rattle.yaml.specs.Characters.{ns_char, nb_char, among, white, whites, nb_chars, spaces}
use Rattle.yaml.specs.Scalars.{Context, flow_out, flow_in, plain_safe, safe_next, plain_first, plain_char, PlainRest, p_end, p_char, p_space, p_tab, Plain}
use Rattle.yaml.specs.Scalars.{plain, Escape, esc_n, esc_t, esc_r, esc_0, esc_quote, esc_back, esc_slash, DoubleText, d_end, d_char, d_escaped}
use Rattle.yaml.specs.Scalars.{SingleText, s_end, s_char, s_twice}
use Rattle.yaml.proofs.Tests.{differs}
use Rattle.yaml.proofs.PlainReads.{by_first}
use Rattle.yaml.proofs.Whites.{white-byte}
use Rattle.yaml.specs.Represent.{Graph, Rep}
use Rattle.yaml.specs.Flow.{Quoted, q_double, q_single, Flow, f_plain, f_quoted, f_seq, f_map, FlowItems, s_close, s_last, s_more, FlowPairs, FlowPair, p_value, p_adjacent, p_null}
use Rattle.yaml.specs.Flow as F
use Rattle.yaml.specs.Rows.{Break, lf, crlf, eof, Row, node, raw, break_of, break_text, text_of, is_eof, ends_last, comment_line, tail, Comments, c_end, c_more}
use Rattle.yaml.specs.Block.{Chomp, strip, clip, mark, Blanks, l_none, l_empty, Lines, l_text, l_last, l_next, Trail, t_none, t_blank, t_comment, Literal}
use Rattle.yaml.specs.Block.{l_lines, l_nothing, Key, key, Block, b_flow, b_seq, b_map, Items, i_last, i_more, Item, i_flow, i_null, i_block, i_map}
use Rattle.yaml.specs.Block.{Pairs, Entry, e_flow, e_null, e_block, e_literal, Document, d_none, d_one}
use Rattle.yaml.specs.Block as B
use Rattle.yaml.proofs.Parts.{raws, Splits}

-- ---- texts without breaks

pub data Nb : List ℕ → Type 0 where
  n_end : Nb []
  n_char : {b : ℕ} {t : List ℕ} → T (nb_char b) → Nb t → Nb (b ∷ t)

nb-of : (t : List ℕ) → T (nb_chars t) → Nb t
unfolding nb_chars
nb-of [] h = n_end
nb-of (b ∷ t) h = let k = and_yes (nb_char b) (nb_chars t) h in n_char k.0 (nb-of t k.1)

nb-join : {a b : List ℕ} → Nb a → Nb b → Nb (a ++ b)
nb-join n_end g = g
nb-join (n_char h d) g = n_char h (nb-join d g)

nb-spaces : (n : ℕ) → Nb (spaces n)
nb-spaces zero = n_end
nb-spaces (suc n) = n_char tt (nb-spaces n)

nb-white : (b : ℕ) → T (white b) → T (nb_char b)
nb-white = white-byte (λ b. T (nb_char b)) tt tt

nb-whites : (x : List ℕ) → T (whites x) → Nb x
unfolding whites
nb-whites [] h = n_end
nb-whites (b ∷ x) h = let k = and_yes (white b) (whites x) h in n_char (nb-white b k.0) (nb-whites x k.1)

nb-comment : (s : List ℕ) → T (comment_line s) → Nb s
unfolding comment_line
nb-comment [] h = n_end
nb-comment (b ∷ s) h = go (eqb b 35) refl h (nb-comment s)
  where
    go : (x : Bool) → eqb b 35 ≡ x → T (if x then nb_chars s else white b && comment_line s) → (T (comment_line s) → Nb s) → Nb (b ∷ s)
    go true e h ih = n_char (subst (λ (x : ℕ). T (nb_char x)) (sym (eqb-true b 35 e)) tt) (nb-of s h)
    go false e h ih = let k = and_yes (white b) (comment_line s) h in n_char (nb-white b k.0) (ih k.1)

nb-tail : (w : List ℕ) → T (tail w) → Nb w
unfolding tail
nb-tail [] h = n_end
nb-tail (b ∷ w) h = let k = and_yes (white b) (comment_line w) h in n_char (nb-white b k.0) (nb-comment w k.1)

-- ---- flow nodes

ns-nb : (b : ℕ) → T (ns_char b) → T (nb_char b)
ns-nb b h =
    let k : 32 < b = ltb→lt _ _ (and_yes (ltb 0x20 b) _ h).0 in
    right (eqb b 9) (leb 32 b) (le-leb 32 b (omega arith))
  where
    right : (x y : Bool) → y ≡ true → T (x || y)
    right true y e = tt
    right false y e = subst T (sym e) tt

of-byte : (x b : ℕ) → T (eqb b x) → T (nb_char x) → T (nb_char b)
of-byte x b h g = subst (λ (c : ℕ). T (nb_char c)) (sym (eqb→eq b x h)) g

safe-nb : (c : Context) (b : ℕ) → T (plain_safe c b) → T (nb_char b)
unfolding plain_safe
safe-nb flow_out b h = ns-nb b h
safe-nb flow_in b h = ns-nb b (and_yes (ns_char b) _ h).0

char-nb : (c : Context) (a b : ℕ) (t : List ℕ) → T (plain_char c a b t) → T (nb_char b)
unfolding plain_char
char-nb c a b t h = ⊎_elim
    (λ h. ⊎_elim (λ h. safe-nb c b (and_yes (plain_safe c b) _ h).0) (λ h. of-byte 35 b (and_yes (eqb b 35) _ h).0 tt)
    (or_yes (plain_safe c b && not (among b (bytes ":#"))) (eqb b 35 && ns_char a) h))
    (λ h. of-byte 58 b (and_yes (eqb b 58) _ h).0 tt)
    (or_yes ((plain_safe c b && not (among b (bytes ":#"))) || (eqb b 35 && ns_char a)) (eqb b 58 && safe_next c t) h)

first-nb : (c : Context) (b : ℕ) (t : List ℕ) → T (plain_first c b t) → T (nb_char b)
unfolding bytes
first-nb c b t h = by_first (λ x. T (nb_char x)) c b t h (λ k out. ns-nb b k) (λ s. (tt, (tt, (tt, tt))))

rest-nb : {c : Context} {a : ℕ} {t : List ℕ} → PlainRest c a t → Nb t
rest-nb p_end = n_end
rest-nb {c = c} (p_char {a = a} {b = b} {t = t} h p) = n_char (char-nb c a b t h) (rest-nb p)
rest-nb (p_space p) = n_char tt (rest-nb p)
rest-nb (p_tab p) = n_char tt (rest-nb p)

plain-nb : {c : Context} {t : List ℕ} → Plain c t → Nb t
plain-nb {c = c} (plain {b = b} {t = t} h p) = n_char (first-nb c b t h) (rest-nb p)

escape-nb : {b e : ℕ} → Escape b e → T (nb_char b)
escape-nb esc_n = tt
escape-nb esc_t = tt
escape-nb esc_r = tt
escape-nb esc_0 = tt
escape-nb esc_quote = tt
escape-nb esc_back = tt
escape-nb esc_slash = tt

double-nb : {t v : List ℕ} → DoubleText t v → Nb t
double-nb d_end = n_end
double-nb (d_char {b = b} h d) = n_char (and_yes (nb_char b) _ (and_yes (nb_char b && not (eqb b 34)) _ h).0).0 (double-nb d)
double-nb (d_escaped {b = b} e d) = n_char tt (n_char (escape-nb e) (double-nb d))

single-nb : {t v : List ℕ} → SingleText t v → Nb t
single-nb s_end = n_end
single-nb (s_char {b = b} h d) = n_char (and_yes (nb_char b) (not (eqb b 39)) h).0 (single-nb d)
single-nb (s_twice d) = n_char tt (n_char tt (single-nb d))

quoted-nb : {s v : List ℕ} → Quoted s v → Nb s
quoted-nb (q_double {t = t} d e) = rw e (n_char tt (nb-join (double-nb d) (n_char tt n_end)))
quoted-nb (q_single {t = t} d e) = rw e (n_char tt (nb-join (single-nb d) (n_char tt n_end)))

-- spaces and more
gap-nb : (n : ℕ) {u : List ℕ} → Nb u → Nb (spaces n ++ u)
gap-nb n d = nb-join (nb-spaces n) d

mutual
  flow-nb : {c : Context} {t : List ℕ} {r : Rep} → Flow c t r → Nb t
  flow-nb (f_plain p s) = plain-nb p
  flow-nb (f_quoted q) = quoted-nb q
  flow-nb (f_seq n d e) = rw e (n_char tt (nb-join (nb-spaces n) (items-nb d)))
  flow-nb (f_map n d e) = rw e (n_char tt (nb-join (nb-spaces n) (pairs-nb d)))

  items-nb : {t : List ℕ} {rs : Graph many} → FlowItems t rs → Nb t
  items-nb (s_close e) = rw e (n_char tt n_end)
  items-nb (s_last {t = t} n d e) = rw e (nb-join (flow-nb d) (gap-nb n (n_char tt n_end)))
  items-nb (s_more {t = t} n m d ds e) = rw e (nb-join (flow-nb d) (gap-nb n (n_char tt (nb-join (nb-spaces m) (items-nb ds)))))

  pairs-nb : {t : List ℕ} {ps : Graph keyed} → FlowPairs t ps → Nb t
  pairs-nb (F.m_close e) = rw e (n_char tt n_end)
  pairs-nb (F.m_last {t = t} n d e) = rw e (nb-join (pair-nb d) (gap-nb n (n_char tt n_end)))
  pairs-nb (F.m_more {t = t} n m d ds e) = rw e (nb-join (pair-nb d) (gap-nb n (n_char tt (nb-join (nb-spaces m) (pairs-nb ds)))))

  pair-nb : {t : List ℕ} {k v : Rep} → FlowPair t k v → Nb t
  pair-nb (p_value {t = t} n m d f e) = rw e (nb-join (flow-nb d) (gap-nb n (n_char tt (nb-join (nb-spaces (suc m)) (flow-nb f)))))
  pair-nb (p_adjacent {t = t} n d j f e) = rw e (nb-join (flow-nb d) (gap-nb n (n_char tt (flow-nb f))))
  pair-nb (p_null {t = t} n d e) = rw e (nb-join (flow-nb d) (gap-nb n (n_char tt n_end)))

-- ---- rows

pub data Clean : List Row → Type 0 where
  k_end : Clean []
  k_row : {r : Row} {rs : List Row} → Nb (raw r) → Clean rs → Clean (r ∷ rs)

clean-join : {xs ys : List Row} → Clean xs → Clean ys → Clean (xs ++ ys)
clean-join k_end g = g
clean-join (k_row h d) g = k_row h (clean-join d g)

row-nb : (m : ℕ) (t w : List ℕ) (b : Break) → Nb t → T (tail w) → Nb (raw (node m t w b))
unfolding raw
row-nb m t w b h g = nb-join (nb-spaces m) (nb-join h (nb-tail w g))

comments-nb : {rs : List Row} → Comments rs → Clean rs
unfolding raw
comments-nb c_end = k_end
comments-nb (c_more {s = s} h c) = k_row (nb-comment s h) (comments-nb c)

trail-nb : {m j : ℕ} {rs : List Row} → Trail m j rs → Clean rs
unfolding raw
trail-nb t_none = k_end
trail-nb (t_blank k h t e) = k_row (subst Nb (sym e) (nb-spaces k)) (trail-nb t)
trail-nb (t_comment k t h g c e) = k_row (subst Nb (sym e) (gap-nb k (n_char tt (nb-of t g)))) (comments-nb c)

blanks-nb : {m : ℕ} {rs : List Row} {v : List ℕ} → Blanks m rs v → Clean rs
unfolding raw
blanks-nb l_none = k_end
blanks-nb (l_empty {k = k} h d) = k_row (nb-spaces k) (blanks-nb d)

line-nb : {m : ℕ} {rs : List Row} {v : List ℕ} {b : Break} → B.Line m rs v b → Clean rs
unfolding raw
line-nb {m = m} (l_text {bs = bs} t d h g e f) = rw e (clean-join (blanks-nb d) (k_row (nb-join (nb-spaces m) (nb-of t h)) k_end))

lines-nb : {m : ℕ} {rs : List Row} {v : List ℕ} {b : Break} → Lines m rs v b → Clean rs
lines-nb (l_last d) = line-nb d
lines-nb (l_next {xs = xs} d ds e f) = rw e (clean-join (line-nb d) (lines-nb ds))

literal-nb : {n : ℕ} {c : Chomp} {rs : List Row} {v : List ℕ} → Literal n c rs v → Clean rs
literal-nb (l_lines {xs = xs} h d s t e f) = rw e (clean-join (lines-nb d) (trail-nb t))
literal-nb (l_nothing m t) = trail-nb t

key-nb : {s : List ℕ} {r : Rep} → Key s r → Nb s
key-nb (key x d w e h) = rw e (nb-join (flow-nb d) (nb-whites x w))

mark-nb : (c : Chomp) → Nb (mark c)
unfolding mark
mark-nb strip = n_char tt n_end
mark-nb clip = n_end

-- the first row of a compact mapping stands behind a dash
dash-nb : (m k j : ℕ) (t w : List ℕ) (b : Break) → Nb (raw (node k t w b)) → Nb (raw (node m (ch "-" ∷ spaces (suc j) ++ t) w b))
unfolding raw
dash-nb m k j t w b h = nb-join (nb-spaces m) (nb-join (n_char tt (nb-join (nb-spaces (suc j)) (left t (behind k h)))) (right t (behind k h)))
  where
    behind : (k : ℕ) → Nb (spaces k ++ (t ++ w)) → Nb (t ++ w)
    behind zero h = h
    behind (suc k) (n_char h d) = behind k d

    left : (t : List ℕ) → Nb (t ++ w) → Nb t
    left [] h = n_end
    left (x ∷ t) (n_char h d) = n_char h (left t d)

    right : (t : List ℕ) → Nb (t ++ w) → Nb w
    right [] h = h
    right (x ∷ t) (n_char h d) = right t d

behind-dash : (m k j : ℕ) (t w : List ℕ) (b : Break) (rs : List Row) → Clean (node k t w b ∷ rs) → Clean (node m (ch "-" ∷ spaces (suc j) ++ t) w b ∷ rs)
behind-dash m k j t w b rs (k_row h d) = k_row (dash-nb m k j t w b h) d

mutual
  block-nb : {m : ℕ} {rs : List Row} {r : Rep} → Block m rs r → Clean rs
  block-nb {m = m} (b_flow {t = t} {w = w} {b = b} d h c e) = rw e (k_row (row-nb m t w b (flow-nb d) h) (comments-nb c))
  block-nb (b_seq d) = seq-nb d
  block-nb (b_map d) = map-nb d

  seq-nb : {m : ℕ} {rs : List Row} {xs : Graph many} → Items m rs xs → Clean rs
  seq-nb (i_last d) = item-nb d
  seq-nb (i_more d ds e) = rw e (clean-join (item-nb d) (seq-nb ds))

  item-nb : {m : ℕ} {rs : List Row} {r : Rep} → Item m rs r → Clean rs
  item-nb {m = m} (i_flow {t = t} {w = w} {b = b} x v d h c e) =
      rw e (k_row (row-nb m (45 ∷ 32 ∷ x ++ t) w b (n_char tt (n_char tt (nb-join (nb-whites x v) (flow-nb d)))) h) (comments-nb c))
  item-nb {m = m} (i_null {w = w} {b = b} h c e) = rw e (k_row (row-nb m (45 ∷ []) w b (n_char tt n_end) h) (comments-nb c))
  item-nb {m = m} (i_block {w = w} {b = b} h c g d e) = rw e (k_row (row-nb m (45 ∷ []) w b (n_char tt n_end) h) (clean-join (comments-nb c) (block-nb d)))
  item-nb {m = m} (i_map {k = k} {t = t} {w = w} {b = b} j h d e) = rw e (behind-dash m k j t w b _ (map-nb d))

  map-nb : {n : ℕ} {rs : List Row} {ps : Graph keyed} → Pairs n rs ps → Clean rs
  map-nb (B.m_last d) = entry-nb d
  map-nb (B.m_more d ds e) = rw e (clean-join (entry-nb d) (map-nb ds))

  entry-nb : {n : ℕ} {rs : List Row} {k v : Rep} → Entry n rs k v → Clean rs
  entry-nb {n = n} (e_flow {s = s} {t = t} {w = w} {b = b} x k v d h c e) =
      rw e (k_row (row-nb n (s ++ (58 ∷ 32 ∷ x ++ t)) w b (nb-join (key-nb k) (n_char tt (n_char tt (nb-join (nb-whites x v) (flow-nb d))))) h) (comments-nb c))
  entry-nb {n = n} (e_null {s = s} {w = w} {b = b} k h c e) = rw e (k_row (row-nb n (s ++ (58 ∷ [])) w b (nb-join (key-nb k) (n_char tt n_end)) h) (comments-nb c))
  entry-nb {n = n} (e_block {s = s} {w = w} {b = b} k h c g d e) =
      rw e (k_row (row-nb n (s ++ (58 ∷ [])) w b (nb-join (key-nb k) (n_char tt n_end)) h) (clean-join (comments-nb c) (block-nb d)))
  entry-nb {n = n} (e_literal {s = s} {w = w} {b = b} x c k v h d e) =
      rw e (k_row (row-nb n (s ++ (58 ∷ 32 ∷ x ++ (124 ∷ mark c))) w b (nb-join (key-nb k) (n_char tt (n_char tt (nb-join (nb-whites x v) (n_char tt (mark-nb c)))))) h) (literal-nb d))

document-nb : {rs : List Row} {r : Option Rep} → Document rs r → Clean rs
document-nb (d_none c) = comments-nb c
document-nb (d_one c d e) = rw e (clean-join (comments-nb c) (block-nb d))

-- ---- the lines of a text

no-break : (b x : ℕ) → T (nb_char b) → nb_char x ≡ false → eqb b x ≡ false
no-break b x h g = differs (λ c. nb_char c) b x h g

split-row : {s : List ℕ} (u : List ℕ) (rest : List (List ℕ)) → Nb s → split_lines u ≡ [] ∷ rest → split_lines (s ++ u) ≡ s ∷ rest
unfolding split_lines prepend
split-row u rest n_end e = e
split-row u rest (n_char {b = b} h d) e = rw (no-break b 10 h refl, no-break b 13 h refl, split-row u rest d e)

split-last : {s : List ℕ} → Nb s → T (not (empty s)) → split_lines s ≡ s ∷ []
unfolding split_lines prepend empty
split-last n_end g = absurd g
split-last (n_char {b = b} h n_end) g = rw (no-break b 10 h refl, no-break b 13 h refl)
split-last (n_char {b = b} h (n_char {b = c} {t = t} k d)) g = rw (no-break b 10 h refl, no-break b 13 h refl, split-last {s = c ∷ t} (n_char k d) tt)

split-lf : (t : List ℕ) → split_lines (ch "\n" ∷ t) ≡ [] ∷ split_lines t
unfolding split_lines
split-lf t = refl

split-crlf : (t : List ℕ) → split_lines (ch "\r" ∷ ch "\n" ∷ t) ≡ [] ∷ split_lines t
unfolding split_lines begins_newline
split-crlf t = refl

rows_split : (rs : List Row) → Clean rs → T (ends_last rs) → split_lines (text_of rs) ≡ raws rs
unfolding text_of raws ends_last split_lines break_text is_eof
rows_split [] h g = refl
rows_split (r ∷ []) (k_row h d) g = go (break_of r) g
  where
    go : (b : Break) → T (not (is_eof b && empty (raw r))) → split_lines (raw r ++ (break_text b ++ [])) ≡ raw r ∷ []
    go lf g = split-row (10 ∷ []) [] h (split-lf [])
    go crlf g = split-row (13 ∷ 10 ∷ []) [] h (split-crlf [])
    go eof g = rw (append-nil (raw r)) (split-last h g)
rows_split (r ∷ s ∷ rs) (k_row h d) g =
    let k = and_yes (not (is_eof (break_of r))) (ends_last (s ∷ rs)) g in go (break_of r) k.0 (rows_split (s ∷ rs) d k.1)
  where
    go : (b : Break) → T (not (is_eof b)) → split_lines (text_of (s ∷ rs)) ≡ raws (s ∷ rs) → split_lines (raw r ++ (break_text b ++ text_of (s ∷ rs))) ≡ raw r ∷ raws (s ∷ rs)
    go lf n ih = split-row (10 ∷ text_of (s ∷ rs)) (raws (s ∷ rs)) h (split-lf (text_of (s ∷ rs)) ∙ ap (λ (x : List (List ℕ)). [] ∷ x) ih)
    go crlf n ih = split-row (13 ∷ 10 ∷ text_of (s ∷ rs)) (raws (s ∷ rs)) h (split-crlf (text_of (s ∷ rs)) ∙ ap (λ (x : List (List ℕ)). [] ∷ x) ih)
    go eof n ih = absurd n

pub splits : Splits
unfolding Splits
splits t r d = ap split_lines d.is ∙ rows_split d.rows (document-nb d.document) d.ends
