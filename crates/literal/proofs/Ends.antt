-- A literal ends in one newline behind another byte, as its lines do, and `|-` drops just that one. Assumes nothing.
use Rattle.std.proofs.Common.{if◌then◌else◌, ◌≡◌, refl, sym, ap, ◌∙◌, subst, ℕ, ◌-◌, ◌≤◌, ◌<◌, arith, List, [], ◌∷◌, ◌++◌, append_assoc, append-nil, Bool, true, false, eqb, leb, length, take, replicate, length-append, take_at, ne_eqb, leb-true, leb-false}
use Rattle.std.proofs.Math.Bool.{and-false}
use Rattle.std.proofs.Math.Seq.{take-length}
use Rattle.refusal.specs.Base.{ch}
use Rattle.lines.specs.Lines.{Line}
use Rattle.lines.specs.Ready.{Closed, Ended, none, blank, full}
use Rattle.lines.proofs.Ends.{closed-append}
use Rattle.literal.specs.Literal.{literal_line, literal_lines, all_newlines, drop_newlines}
use Rattle.literal.proofs.Blanks.{closed_some, line-full, line-some}
use Rattle.literal.proofs.Laws.{lines-stop, lines_more}

-- ---- literals

-- a text, and a newline behind it
record Tail (b : List ℕ) : Type 0 where
  kept : List ℕ
  is : b ≡ kept ++ ch "\n" ∷ []
  closed : Closed kept

tail-append : (a b : List ℕ) → Tail b → Tail (a ++ b)
tail-append a b t = record {
  kept = a ++ t.kept;
  is = ap (λ (l : List ℕ). a ++ l) t.is ∙ sym (append_assoc a t.kept (ch "\n" ∷ []));
  closed = closed-append a t.kept t.closed;
}

module _ (indent : ℕ) where
  abbrev body : List Line → List ℕ
  body ls = (literal_lines indent ls).0

  body-stop : (l : Line) (ls : List Line) → l.indent < indent → body (l ∷ ls) ≡ []
  body-stop l ls h = ap (λ (b : List ℕ × List Line). b.0) (lines-stop indent l ls h)

  body_more : (l : Line) (ls : List Line) → indent ≤ l.indent → body (l ∷ ls) ≡ literal_line indent l ls ++ body ls
  body_more l ls h = ap (λ (b : List ℕ × List Line). b.0) (lines_more indent l ls h)

  body-some : (l : Line) (ls : List Line) → indent ≤ l.indent → 0 < length (body (l ∷ ls))
  body-some l ls h = omega (arith, ap length (body_more l ls h), length-append (literal_line indent l ls) (body ls), line-some indent l ls)

  line-tail : (l : Line) (ls : List Line) → Closed l.text → Tail (literal_line indent l ls)
  line-tail l ls c =
      let front : List ℕ = replicate (l.indent - indent) (ch " ") in
      rw (line-full indent l ls (closed_some l.text c))
      (record { kept = front ++ l.text; is = refl; closed = closed-append front l.text c })

  full-tail : (l : Line) (ls : List Line) (b : List ℕ) → Closed l.text → (0 < length b → Tail b) → Tail (literal_line indent l ls ++ b)
  full-tail l ls [] c h = rw (append-nil (literal_line indent l ls)) (line-tail l ls c)
  full-tail l ls (x ∷ b) c h = tail-append (literal_line indent l ls) (x ∷ b) (h (omega arith))

  -- a line, and then the lines behind it
  tail_more : (l : Line) (ls : List Line) → 0 < length (body (l ∷ ls)) → (indent ≤ l.indent → Tail (literal_line indent l ls ++ body ls)) → Tail (body (l ∷ ls))
  tail_more l ls h k = go (leb indent l.indent) refl
    where
      go : (t : Bool) → leb indent l.indent ≡ t → Tail (body (l ∷ ls))
      go true q = let m : indent ≤ l.indent = leb-true indent l.indent q in subst Tail (sym (body_more l ls m)) (k m)
      go false q = absurd (omega (arith, ap length (body-stop l ls (leb-false indent l.indent q))))

  body-tail : {ls : List Line} → Ended ls → 0 < length (body ls) → Tail (body ls)
  unfolding literal_lines
  body-tail none h = absurd (omega arith)
  body-tail (full l ls c e) h = tail_more l ls h λ k. full-tail l ls (body ls) c (body-tail e)
  body-tail (blank l m ls t i e) h = tail_more l (m ∷ ls) h λ k. tail-append (literal_line indent l (m ∷ ls)) (body (m ∷ ls)) (body-tail e (body-some m ls (omega arith)))

-- ---- what `|-` keeps

module _ (last : ℕ) (other : last ≡ ch "\n" → ⊥) where
  some-other : (front : List ℕ) → all_newlines (front ++ last ∷ ch "\n" ∷ []) ≡ false
  unfolding all_newlines
  some-other [] = rw (ne_eqb last (ch "\n") other)
  some-other (b ∷ front) = rw (some-other front, and-false (eqb b (ch "\n")))

  drop-one : (front : List ℕ) → drop_newlines (front ++ last ∷ ch "\n" ∷ []) ≡ front ++ last ∷ []
  unfolding drop_newlines all_newlines
  drop-one [] = rw (ne_eqb last (ch "\n") other)
  drop-one (b ∷ front) = rw (some-other front, and-false (eqb b (ch "\n")), drop-one front)

tail-drop : (b : List ℕ) → Tail b → drop_newlines b ≡ take (length b - 1) b
tail-drop b t =
    let c = t.closed in
    let e : b ≡ t.kept ++ ch "\n" ∷ [] = t.is in
    ap drop_newlines e
    ∙ ap (λ (k : List ℕ). drop_newlines (k ++ ch "\n" ∷ [])) c.is
    ∙ ap drop_newlines (append_assoc c.front (c.last ∷ []) (ch "\n" ∷ []))
    ∙ drop-one c.last c.other c.front
    ∙ sym c.is
    ∙ sym (take_at t.kept (ch "\n" ∷ []) (length b - 1) (omega (arith, ap length e, length-append t.kept (ch "\n" ∷ []))))
    ∙ ap (take (length b - 1)) (sym e)

-- of lines that end so, `|-` drops the newline behind the last one
pub strip-one : (indent : ℕ) (ls : List Line) → Ended ls → 0 < length (literal_lines indent ls).0 → drop_newlines (literal_lines indent ls).0 ≡ take (length (literal_lines indent ls).0 - 1) (literal_lines indent ls).0
strip-one indent ls e h = tail-drop (literal_lines indent ls).0 (body-tail indent e h)

-- what is kept of a literal
pub kept-front : (strip : Bool) (indent : ℕ) (ls : List Line) → Ended ls → 0 < length (literal_lines indent ls).0
    → (if strip then drop_newlines (literal_lines indent ls).0 else (literal_lines indent ls).0) ≡ take (if strip then length (literal_lines indent ls).0 - 1 else length (literal_lines indent ls).0) (literal_lines indent ls).0
kept-front true indent ls e h = strip-one indent ls e h
kept-front false indent ls e h = sym (take-length (literal_lines indent ls).0)
