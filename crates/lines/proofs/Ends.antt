-- How the lines of a text end: a blank one stands before one of its indentation, and any other one ends in a byte other than a
-- newline. So the rows of a text's lines are ready to be read. Assumes nothing.
use Rattle.std.specs.Prelude.{if◌then◌else◌}
use Rattle.std.proofs.Common.{◌≡◌, refl, sym, ap, ◌∙◌, subst, ℕ, zero, suc, ◌-◌, ◌≤◌, List, [], ◌∷◌, ◌++◌, append_assoc, Bool, true, false, ltb, length, drop, arith}
use Rattle.std.proofs.Math.Bool.{false≢true}
use Rattle.refusal.specs.Base.{good, maybe, empty, ch}
use Rattle.refusal.proofs.Tools.{good-inj, refused≢good, bound}
use Rattle.utf8.specs.Utf8.{within}
use Rattle.utf8.specs.White.{white1, white_at, leading_from, leading, trim_start, all_white, trim_end}
use Rattle.utf8.proofs.Laws.{end_empty, end-all}
use Rattle.lines.specs.declared.Literal.{Literal}
use Rattle.lines.specs.declared.Literal.TheVariants.{Closed as Shut, Under}
use Rattle.lines.specs.Lines.{Line, line, Event, entry, bad, split_lines, indent_of, strip_comment, tabbed, significant, is_marker, literal_after, events_of, blanks_before, body_of, scan, collect, significant_lines}
use Rattle.lines.specs.declared.Row.{Row}
use Rattle.lines.specs.Table.{table_lines, AllLieIn}
use Rattle.lines.specs.Ready.{Closed, Ended, none, blank, full, Filled}
use Rattle.lines.proofs.Laws.{indent-white}

-- ---- texts

pub closed-append : (s t : List ℕ) → Closed t → Closed (s ++ t)
closed-append s t c = record {
  front = s ++ c.front;
  last = c.last;
  is = ap (λ (l : List ℕ). s ++ l) c.is ∙ sym (append_assoc s c.front (c.last ∷ []));
  other = c.other;
}

newline-white : (s : List ℕ) → all_white (ch "\n" ∷ s) ≡ all_white s
unfolding all_white trim_start leading leading_from white_at maybe white1 within
newline-white [] = refl
newline-white (b ∷ []) = refl
newline-white (b ∷ c ∷ s) = refl

-- what is trimmed ends in no newline
end-closed : (s : List ℕ) → all_white s ≡ false → Closed (trim_end s)
unfolding trim_end all_white trim_start leading leading_from empty
end-closed [] e = absurd (false≢true (sym e))
end-closed (b ∷ s) e = rw e (go (all_white s) refl (end-closed s))
  where
    go : (t : Bool) → all_white s ≡ t → (all_white s ≡ false → Closed (trim_end s)) → Closed (b ∷ trim_end s)
    go true q r =
        rw (end-all s q) (record { front = []; last = b; is = refl; other = λ n. false≢true (sym e ∙ ap (λ (x : ℕ). all_white (x ∷ s)) n ∙ newline-white s ∙ q) })
    go false q r = closed-append (b ∷ []) (trim_end s) (r q)

-- ---- events

-- the lines that these events give end so
abbrev Ends : List Event → Type 0
Ends es = (room : ℕ) (ls : List Line) → collect room es ≡ good ls → Ended ls

-- and the first of them is indented so
record Headed (i : ℕ) (ls : List Line) : Type 0 where
  first : Line
  rest : List Line
  is : ls ≡ first ∷ rest
  same : first.indent ≡ i
  ended : Ended ls

abbrev Begins : ℕ → List Event → Type 0
Begins i es = (room : ℕ) (ls : List Line) → collect room es ≡ good ls → Headed i ls

ends-nil : Ends []
unfolding collect
ends-nil zero ls e = subst Ended (good-inj [] ls e) none
ends-nil (suc room) ls e = subst Ended (good-inj [] ls e) none

ends-bad : (k n : ℕ) (es : List Event) → Ends (bad k n ∷ es)
unfolding collect
ends-bad k n es zero ls e = refused≢good ls k n 0 e
ends-bad k n es (suc room) ls e = refused≢good ls k n 0 e

begins-entry : (i : ℕ) (t : List ℕ) (n : ℕ) (es : List Event) → Closed t → Ends es → Begins i (entry (line i t n) ∷ es)
unfolding collect
begins-entry i t n es c h zero ls e = refused≢good ls 3 n 0 e
begins-entry i t n es c h (suc room) ls e =
    bound (collect room es) (λ ls. good (line i t n ∷ ls)) ls e
    λ x p q. subst (Headed i) (good-inj (line i t n ∷ x) ls q) (record { first = line i t n; rest = x; is = refl; same = refl; ended = full (line i t n) x c (h room x p) })

begins-blanks : (i w n : ℕ) (es : List Event) → Begins i es → Begins i (blanks_before w n i ++ es)
unfolding blanks_before collect
begins-blanks i zero n es h room ls e = h room ls e
begins-blanks i (suc w) n es h zero ls e = refused≢good ls 3 (n - suc w) 0 e
begins-blanks i (suc w) n es h (suc room) ls e =
    let l = line i [] (n - suc w) in
    bound (collect room (blanks_before w n i ++ es)) (λ ls. good (l ∷ ls)) ls e
    λ x p q.
    let b = begins-blanks i w n es h room x p in
    subst (Headed i) (good-inj (l ∷ x) ls q)
    (record {
      first = l;
      rest = x;
      is = refl;
      same = refl;
      ended = subst (λ (z : List Line). Ended (l ∷ z)) (sym b.is) (blank l b.first b.rest refl b.same (subst Ended b.is b.ended));
    })

-- ---- the scan

ends-events : (n : ℕ) (raw : List ℕ) (es : List Event) → Ends es → Ends (events_of n raw ++ es)
unfolding events_of significant
ends-events n raw es h = go (tabbed raw) (empty (significant raw)) (is_marker (significant raw)) refl
  where
    go : (x y z : Bool) → empty (significant raw) ≡ y
        → Ends ((if x then bad 4 n ∷ [] else if y then [] else if z then bad 5 n ∷ [] else entry (line (indent_of raw) (significant raw) n) ∷ []) ++ es)
    go true y z e = ends-bad 4 n es
    go false true z e = h
    go false false true e = ends-bad 5 n es
    go false false false e = λ room ls q.
        (begins-entry (indent_of raw) (significant raw) n es (end-closed (strip_comment (drop (indent_of raw) raw)) (sym (end_empty (strip_comment (drop (indent_of raw) raw))) ∙ e)) h room ls q).ended

ends-body : (w n : ℕ) (raw : List ℕ) (es : List Event) → all_white raw ≡ false → Ends es → Ends (body_of w n raw ++ es)
unfolding body_of
ends-body w n raw es e h = go (tabbed raw)
  where
    i : ℕ
    i = indent_of raw

    last : Line
    last = line i (trim_end (drop i raw)) n

    go : (x : Bool) → Ends ((if x then bad 4 n ∷ [] else blanks_before w n i ++ entry last ∷ []) ++ es)
    go true = ends-bad 4 n es
    go false =
        rw (append_assoc (blanks_before w n i) (entry last ∷ []) es)
        λ room ls q. (begins-blanks i w n (entry last ∷ es) (begins-entry i (trim_end (drop i raw)) n es (end-closed (drop i raw) (indent-white raw ∙ e)) h) room ls q).ended

ends-scan : (lit : Literal) (w n : ℕ) (raws : List (List ℕ)) → Ends (scan lit w n raws)
unfolding scan
ends-scan Shut w n [] = ends-nil
ends-scan (Under at) w n [] = ends-nil
ends-scan Shut w n (raw ∷ raws) = ends-events n raw (scan (literal_after raw) 0 (suc n) raws) (ends-scan (literal_after raw) 0 (suc n) raws)
ends-scan (Under at) w n (raw ∷ raws) = go (all_white raw) (ltb at (indent_of raw)) refl (λ lit v. ends-scan lit v (suc n) raws)
  where
    go : (x y : Bool) → all_white raw ≡ x → ((lit : Literal) (v : ℕ) → Ends (scan lit v (suc n) raws))
        → Ends (if x then scan (Under at) (suc w) (suc n) raws else if y then body_of w n raw ++ scan (Under at) 0 (suc n) raws else events_of n raw ++ scan (literal_after raw) 0 (suc n) raws)
    go true y e h = h (Under at) (suc w)
    go false true e h = ends-body w n raw (scan (Under at) 0 (suc n) raws) e (h (Under at) 0)
    go false false e h = ends-events n raw (scan (literal_after raw) 0 (suc n) raws) (h (literal_after raw) 0)

pub lines_end : (text : List ℕ) (ls : List Line) → significant_lines text ≡ good ls → Ended ls
unfolding significant_lines
lines_end text ls e = ends-scan Shut 0 1 (split_lines text) 2048 ls e

pub ended-drop : (i : ℕ) {ls : List Line} → Ended ls → Ended (drop i ls)
ended-drop zero e = e
ended-drop (suc i) none = none
ended-drop (suc i) (blank l m ls t j e) = ended-drop i e
ended-drop (suc i) (full l ls c e) = ended-drop i e

-- there are no more than the room
collects-few : (room : ℕ) (es : List Event) (ls : List Line) → collect room es ≡ good ls → length ls ≤ room
unfolding collect
collects-few zero [] ls e = omega (arith, ap length (good-inj [] ls e))
collects-few (suc room) [] ls e = omega (arith, ap length (good-inj [] ls e))
collects-few zero (bad k n ∷ es) ls e = refused≢good ls k n 0 e
collects-few (suc room) (bad k n ∷ es) ls e = refused≢good ls k n 0 e
collects-few zero (entry l ∷ es) ls e = refused≢good ls 3 l.number 0 e
collects-few (suc room) (entry l ∷ es) ls e =
    bound (collect room es) (λ rest. good (l ∷ rest)) ls e λ x p q. omega (arith, collects-few room es x p, ap length (good-inj (l ∷ x) ls q))

lines_few : (text : List ℕ) (ls : List Line) → significant_lines text ≡ good ls → length ls ≤ 2048
unfolding significant_lines
lines_few text ls e = collects-few 2048 (scan Shut 0 1 (split_lines text)) ls e

-- rows that were filled from their text
pub filled : (text : List ℕ) (rows : List Row) → length text ≤ 65535 → significant_lines text ≡ good (table_lines text rows) → AllLieIn text rows → Filled text rows
filled text rows h e p = record {
  lines = e;
  ready = record {
    short = h;
    placed = p;
    lines = record { few = lines_few text (table_lines text rows) e; ended = lines_end text (table_lines text rows) e };
  };
}
