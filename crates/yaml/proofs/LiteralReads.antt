-- Literals of the grammar are read as YAML reads them (`ReadsLiteral`). Assumes nothing.
use Rattle.std.specs.Prelude.{if◌then◌else◌}
use Rattle.std.proofs.Common.{◌≡◌, refl, sym, ap, ◌∙◌, subst, ℕ, suc, ◌+◌, ◌-◌, ◌≤◌, ◌<◌, arith, List, [], ◌∷◌, ◌++◌, append_assoc, append-nil, Bool, true, false, ◌&&◌, not, T, eqb, ltb, length, drop, eqb-true, le-leb, lt-ltb, le-ltb}
use Rattle.std.proofs.Math.Facts.{and_yes}
use Rattle.std.proofs.lemmas.Bool.{lt-leb}
use Rattle.refusal.specs.Base.{good, ◌>>=◌, ch, empty}
use Rattle.item.specs.Tree as Tree
use Rattle.scalar.specs.Read.{cost, charge}
use Rattle.lines.specs.Lines.{Line, line, indent_of}
use Rattle.literal.specs.Literal.{leaf, before_deeper, literal_line, literal_lines, literal_under, all_newlines, drop_newlines, literal}
use Rattle.literal.proofs.Blanks.{blank-bare, line-full}
use Rattle.yaml.specs.Characters.{spaces, nb_char, nb_chars}
use Rattle.yaml.specs.Rows.{Break, lf, crlf, eof, Row, body, Comments, c_end, c_more}
use Rattle.yaml.specs.Block.{Chomp, strip, clip, chomped, Blanks, l_none, l_empty, Lines, l_text, l_last, l_next, shown, Trail, t_none, t_blank, t_comment, l_lines, l_nothing}
use Rattle.yaml.specs.Block as B
use Rattle.yaml.specs.Kept.{inner, KeptLast, KeptLiteral}
use Rattle.yaml.proofs.Parts.{edge, next_body, lines_of, Below, strips, ReadsLiteral}
use Rattle.yaml.proofs.Tests.{is_false, differs}

-- ---- comments have no entries

pub comments-none : {rs : List Row} → Comments rs → (k : ℕ) → lines_of k rs ≡ []
unfolding lines_of
comments-none c_end k = refl
comments-none (c_more h c) k = comments-none c (suc k)

pub trail-none : {m j : ℕ} {rs : List Row} → Trail m j rs → (k : ℕ) → lines_of k rs ≡ []
unfolding lines_of
trail-none t_none k = refl
trail-none (t_blank i h t e) k = trail-none t (suc k)
trail-none (t_comment i s h g c e) k = comments-none c (suc k)

-- ---- one row

-- a text is its leading spaces and what follows them
pub indent-back : (t : List ℕ) → spaces (indent_of t) ++ inner t ≡ t
unfolding indent_of
indent-back [] = refl
indent-back (b ∷ t) = go (eqb b 32) refl (indent-back t)
  where
    go : (x : Bool) → eqb b 32 ≡ x → spaces (indent_of t) ++ inner t ≡ t
        → spaces (if x then suc (indent_of t) else 0) ++ drop (if x then suc (indent_of t) else 0) (b ∷ t) ≡ b ∷ t
    go true e ih = rw (eqb-true b 32 e) (ap (λ (s : List ℕ). 32 ∷ s) ih)
    go false e ih = refl

-- and so of its edge
edge-back : (t : List ℕ) → spaces (edge t) ++ drop (edge t) t ≡ t
unfolding edge
edge-back t = go (empty (inner t))
  where
    go : (x : Bool) → spaces (if x then 0 else indent_of t) ++ drop (if x then 0 else indent_of t) t ≡ t
    go true = refl
    go false = indent-back t

edge-some : (t : List ℕ) → T (not (empty t)) → empty (drop (edge t) t) ≡ false
unfolding edge
edge-some t h = go (empty (inner t)) refl
  where
    go : (x : Bool) → empty (inner t) ≡ x → empty (drop (if x then 0 else indent_of t) t) ≡ false
    go true e = is_false (empty t) h
    go false e = e

edge_none : (t : List ℕ) → indent_of t ≡ 0 → edge t ≡ 0
unfolding edge
edge_none t h = go (empty (inner t))
  where
    go : (x : Bool) → (if x then 0 else indent_of t) ≡ 0
    go true = refl
    go false = h

pub edge-all : (t : List ℕ) → empty (inner t) ≡ false → edge t ≡ indent_of t
unfolding edge
edge-all t e = rw e

row-text : (m k : ℕ) (t : List ℕ) → T (not (empty t)) → (ls : List Line) → literal_line m (line (m + edge t) (drop (edge t) t) k) ls ≡ t ++ (ch "\n" ∷ [])
row-text m k t h ls =
    let e : (m + edge t) - m ≡ edge t = omega arith in
    line-full m (line (m + edge t) (drop (edge t) t) k) ls (edge-some t h) ∙ rw (e, edge-back t)

-- rows at or beyond m are taken
take_row : (m : ℕ) (l : Line) (ls : List Line) (u v : List ℕ) (rest : List Line) → m ≤ l.indent → literal_line m l ls ≡ u → literal_lines m ls ≡ (v, rest) → literal_lines m (l ∷ ls) ≡ (u ++ v, rest)
unfolding literal_lines
take_row m l ls u v rest h e f = rw (le-leb m l.indent h, e, f)

-- ---- rows of a literal

pub next_body_lem : {m : ℕ} {bs : List Row} {v : List ℕ} → Blanks m bs v → (t : List ℕ) (b : Break) (ys : List Row) → next_body ((bs ++ (body m t b ∷ [])) ++ ys) ≡ m + edge t
unfolding next_body
next_body_lem l_none t b ys = refl
next_body_lem (l_empty h d) t b ys = next_body_lem d t b ys

module _ (m : ℕ) (rest : List Line) where
  -- blank rows stand before a row that is deeper than the first by its edge
  deeper : {bs : List Row} {v : List ℕ} → Blanks m bs v → (t : List ℕ) → T (not (empty t)) → (b : Break) (ys : List Row) (k : ℕ)
      → before_deeper m (lines_of k ((bs ++ (body m t b ∷ [])) ++ ys) ++ rest) ≡ ltb m (m + edge t)
  unfolding lines_of before_deeper empty
  deeper l_none t h b ys k = rw (edge-some t h)
  deeper (l_empty g d) t h b ys k = deeper d t h b ys (suc k)

  -- what the rows behind give, whatever their numbers
  abbrev Gives : List Row → List ℕ → Type 0
  Gives ys v = (k : ℕ) → literal_lines m (lines_of k ys ++ rest) ≡ (v, rest)

  blanks-read : {bs : List Row} {v : List ℕ} → Blanks m bs v → (t u : List ℕ) → T (not (empty t)) → (b : Break) (ys : List Row) → Gives ys u → Gives ((bs ++ (body m t b ∷ [])) ++ ys) (v ++ (t ++ (ch "\n" ∷ u)))
  unfolding lines_of
  blanks-read l_none t u h b ys g k =
      let ls = lines_of (suc k) ys ++ rest in
      take_row m (line (m + edge t) (drop (edge t) t) k) ls (t ++ (10 ∷ [])) u rest (omega arith) (row-text m k t h ls) (g (suc k))
      ∙ ap (λ (s : List ℕ). (s, rest)) (append_assoc t (10 ∷ []) u)
  blanks-read (l_empty {k = i} {b = c} {rs = bs} {v = v} n d) t u h b ys g k =
      let ls = lines_of (suc k) ((bs ++ (body m t b ∷ [])) ++ ys) ++ rest in
      let l = line (m + edge t) [] k in
      rw (next_body_lem d t b ys)
      (take_row m l ls (10 ∷ []) (v ++ (t ++ (10 ∷ u))) rest (omega arith) (blank-bare m l ls refl (deeper d t h b ys (suc k))) (blanks-read d t u h b ys g (suc k)))

  line_read : {xs : List Row} {v : List ℕ} {b : Break} → B.Line m xs v b → (u : List ℕ) (ys : List Row) → Gives ys u → Gives (xs ++ ys) (v ++ (ch "\n" ∷ u))
  line_read (l_text {v = v} {b = b} {bs = bs} t d h g e f) u ys w =
      rw (e, f, append_assoc v t (10 ∷ u)) (blanks-read d t u g b ys w)

  lines-read : {xs : List Row} {v : List ℕ} {b : Break} → Lines m xs v b → (ys : List Row) → Gives ys [] → Gives (xs ++ ys) (v ++ (ch "\n" ∷ []))
  lines-read (l_last d) ys g = line_read d [] ys g
  lines-read (l_next {xs = xs} {ys = zs} {v = v} {u = u} d ds e f) ys g =
      rw (e, f, append_assoc xs zs ys, append_assoc v (10 ∷ u) (10 ∷ [])) (line_read d (u ++ (10 ∷ [])) (zs ++ ys) (lines-read ds ys g))

-- ---- the first row shows the indentation

pub record Opens (m : ℕ) (ls : List Line) : Type 0 where
  pub first : Line
  pub more : List Line
  pub is : ls ≡ first ∷ more
  pub at : first.indent ≡ m

no-indent : (t : List ℕ) → T (not (empty t)) → (b : Break) (m : ℕ) (rs : List Row) → T (shown (body m t b ∷ rs)) → indent_of t ≡ 0
unfolding empty shown indent_of
no-indent [] h b m rs g = absurd h
no-indent (c ∷ t) h b m rs g = go (eqb c 32) refl g
  where
    go : (x : Bool) → eqb c 32 ≡ x → T (not x) → (if x then suc (indent_of t) else 0) ≡ 0
    go true e g = absurd g
    go false e g = refl

shown-row : {m : ℕ} {bs : List Row} {v : List ℕ} → Blanks m bs v → (t : List ℕ) → T (not (empty t)) → (b : Break) (ys : List Row)
    → T (shown ((bs ++ (body m t b ∷ [])) ++ ys)) → indent_of t ≡ 0
unfolding shown
shown-row {m = m} l_none t h b ys g = no-indent t h b m ys g
shown-row (l_empty h d) t g b ys s = shown-row d t g b ys s

opens-blanks : {m : ℕ} {bs : List Row} {v : List ℕ} → Blanks m bs v → (t : List ℕ) → indent_of t ≡ 0 → (b : Break) (ys : List Row) (k : ℕ) (rest : List Line)
    → Opens m (lines_of k ((bs ++ (body m t b ∷ [])) ++ ys) ++ rest)
unfolding lines_of
opens-blanks {m = m} l_none t e b ys k rest =
    record { first = line (m + edge t) (drop (edge t) t) k; more = lines_of (suc k) ys ++ rest; is = refl; at = omega (arith, edge_none t e) }
opens-blanks {m = m} (l_empty {rs = bs} h d) t e b ys k rest = record {
  first = line (next_body ((bs ++ (body m t b ∷ [])) ++ ys)) [] k;
  more = lines_of (suc k) ((bs ++ (body m t b ∷ [])) ++ ys) ++ rest;
  is = refl;
  at = omega (arith, next_body_lem d t b ys, edge_none t e);
}

opens-lines : {m : ℕ} {xs : List Row} {v : List ℕ} {b : Break} → Lines m xs v b → (ys : List Row) (k : ℕ) (rest : List Line) → T (shown xs) → Opens m (lines_of k (xs ++ ys) ++ rest)
opens-lines {m = m} (l_last (l_text {b = b} {bs = bs} t d h g e f)) ys k rest s =
    subst (λ (z : List Row). Opens m (lines_of k (z ++ ys) ++ rest)) (sym e)
    (opens-blanks d t (shown-row d t g b [] (subst (λ (z : List Row). T (shown z)) (e ∙ sym (append-nil (bs ++ (body m t b ∷ [])))) s)) b ys k rest)
opens-lines {m = m} (l_next {ys = zs} (l_text {b = b} {bs = bs} t d h g e f) ds q r) ys k rest s =
    subst (λ (z : List Row). Opens m (lines_of k z ++ rest))
    (sym (ap (λ (z : List Row). z ++ ys) (q ∙ ap (λ (z : List Row). z ++ zs) e) ∙ append_assoc (bs ++ (body m t b ∷ [])) zs ys))
    (opens-blanks d t (shown-row d t g b zs (subst (λ (z : List Row). T (shown z)) (q ∙ ap (λ (z : List Row). z ++ zs) e) s)) b (zs ++ ys) k rest)

-- ---- the last line feed

-- a text that ends in a row that is not empty
pub data Ended : List ℕ → Type 0 where
  e_one : (b : ℕ) → eqb b 10 ≡ false → Ended (b ∷ [])
  e_more : (b : ℕ) {t : List ℕ} → Ended t → Ended (b ∷ t)

ended-not : {t : List ℕ} → Ended t → (u : List ℕ) → all_newlines (t ++ u) ≡ false
unfolding all_newlines
ended-not (e_one b h) u = rw h
ended-not (e_more b d) u = go (eqb b 10) (ended-not d u)
  where
    go : (x : Bool) {y : Bool} → y ≡ false → x && y ≡ false
    go true e = e
    go false e = refl

ended-drops : {t : List ℕ} → Ended t → drop_newlines (t ++ (ch "\n" ∷ [])) ≡ t
unfolding drop_newlines
ended-drops (e_one b h) = rw (ended-not (e_one b h) (10 ∷ [])) (unfold all_newlines in refl)
ended-drops (e_more b {t = t} d) = rw (ended-not (e_more b d) (10 ∷ [])) (ap (λ (s : List ℕ). b ∷ s) (ended-drops d))

ended-front : (v : List ℕ) {t : List ℕ} → Ended t → Ended (v ++ t)
ended-front [] d = d
ended-front (b ∷ v) d = e_more b (ended-front v d)

ended-row : (t : List ℕ) → T (nb_chars t) → T (not (empty t)) → Ended t
unfolding nb_chars empty
ended-row [] h g = absurd g
ended-row (b ∷ []) h g = e_one b (differs (λ c. nb_char c) b 10 (and_yes (nb_char b) true h).0 refl)
ended-row (b ∷ c ∷ t) h g = e_more b (ended-row (c ∷ t) (and_yes (nb_char b) (nb_chars (c ∷ t)) h).1 tt)

ended-lines : {m : ℕ} {xs : List Row} {v : List ℕ} {b : Break} → Lines m xs v b → Ended v
ended-lines (l_last (l_text {v = v} t d h g e f)) = subst Ended (sym f) (ended-front v (ended-row t h g))
ended-lines (l_next {v = v} d ds q r) = subst Ended (sym r) (ended-front v (e_more 10 (ended-lines ds)))

-- ---- the whole

module _ (cap : ℕ) where
  leaf-good : (sum : ℕ) (v : List ℕ) (rest : List Line) → sum + (6 + length v) ≤ cap → leaf cap sum (Tree.str v) rest ≡ good (Tree.str v, sum + (6 + length v), rest)
  unfolding leaf charge cost ◌>>=◌
  leaf-good sum v rest h = rw (le-leb (sum + (6 + length v)) cap h)

  from-under : (c : Bool) (n sum : ℕ) (v w : List ℕ) (ls rest : List Line) → literal_under n ls ≡ (w, rest) → (if c then drop_newlines w else w) ≡ v → sum + (6 + length v) ≤ cap
      → literal cap c n sum ls ≡ good (Tree.str v, sum + (6 + length v), rest)
  unfolding literal
  from-under c n sum v w ls rest e f h = rw (e, f) (leaf-good sum v rest h)

under_none : (n : ℕ) (rest : List Line) → Below (suc n) rest → literal_under n rest ≡ ([], rest)
unfolding Below literal_under
under_none n [] h = refl
under_none n (l ∷ ls) h = rw (le-ltb n l.indent (omega arith))

lines_none : (n m : ℕ) (rest : List Line) → n < m → Below (suc n) rest → literal_lines m rest ≡ ([], rest)
unfolding Below literal_lines
lines_none n m [] g h = refl
lines_none n m (l ∷ ls) g h = rw (lt-leb m l.indent (omega arith))

under-opens : (n m : ℕ) (ls rest : List Line) (w : List ℕ) → n < m → Opens m ls → literal_lines m ls ≡ (w, rest) → literal_under n ls ≡ (w, rest)
under-opens n m ls rest w h o e = rw o.is (at o.first o.more o.at (subst (λ (z : List Line). literal_lines m z ≡ (w, rest)) o.is e))
  where
    at : (l : Line) (more : List Line) → l.indent ≡ m → literal_lines m (l ∷ more) ≡ (w, rest) → literal_under n (l ∷ more) ≡ (w, rest)
    at l more q e = unfold literal_under in (rw (lt-ltb n l.indent (omega arith)) (subst (λ (i : ℕ). literal_lines i (l ∷ more) ≡ (w, rest)) (sym q) e))

chop : (c : Chomp) (b : Break) (v : List ℕ) → KeptLast c b → Ended v → (if strips c then drop_newlines (v ++ (ch "\n" ∷ [])) else v ++ (ch "\n" ∷ [])) ≡ v ++ chomped c b
unfolding KeptLast strips chomped
chop strip b v k d = ended-drops d ∙ sym (append-nil v)
chop clip lf v k d = refl
chop clip crlf v k d = refl
chop clip eof v k d = absurd k

pub reads-literal : ReadsLiteral
unfolding ReadsLiteral KeptLiteral lines_of
reads-literal cap n sum k c rs v (l_nothing m t) kept rest h g =
    rw (trail-none t k) (from-under cap (strips c) n sum [] [] rest rest (under_none n rest h) (nothing (strips c)) g)
  where
    nothing : (x : Bool) → (if x then drop_newlines [] else []) ≡ []
    nothing true = unfold drop_newlines in refl
    nothing false = refl
reads-literal cap n sum k c rs x (l_lines {xs = xs} {ys = ys} {v = v} {m = m} {b = b} lt d s t e f) kept rest h g =
    rw e (from-under cap (strips c) n sum x (v ++ (10 ∷ [])) (lines_of k (xs ++ ys) ++ rest) rest
    (under-opens n m _ rest _ lt (opens-lines d ys k rest s) (lines-read m rest d ys (λ j. rw (trail-none t j) (lines_none n m rest lt h)) k))
    (chop c b v kept (ended-lines d) ∙ sym f) g)
