-- What the definitions cut from a text that is UTF-8 is UTF-8. Assumes nothing.
use Rattle.std.proofs.Common.{◌≡◌, refl, sym, ap, ◌∙◌, ℕ, zero, suc, ◌-◌, ◌<◌, arith, List, [], ◌∷◌, ◌++◌, append_assoc, append-nil, Bool, true, false, ◌&&◌, ◌||◌, eqb, leb, ltb, length, take, drop, replicate, length-append, take_at, drop_at, eqb-true}
use Rattle.std.proofs.lemmas.Bool.{false≢true, and_parts, cond_both}
use Rattle.std.specs.List.{AllByRecursion as All}
use Rattle.std.proofs.Math.Option.{Option, none, some, some-injective, none-ne-some}
use Rattle.refusal.specs.Base.{Answer, good, refused, ch, empty}
use Rattle.refusal.proofs.Tools.{good-inj, refused≢good, bound, chosen}
use Rattle.utf8.proofs.Ranges.{if-one}
use Rattle.utf8.specs.White.{all_white}
use Rattle.utf8.proofs.Utf8Laws.{utf8_append, utf8_nil, utf8-trim_end}
use Rattle.scalar.specs.Key.{qualifies, last_or_space, quote_after, depth_after, key_end_from, key_end}
use Rattle.scalar.specs.Read.{skip_spaces, ends_item, ends_colon, stops_plain, plain_text, escape, stop, onto_good, onto_escape, double_quoted, single_quoted}
use Rattle.lines.specs.declared.Place.{Place}
use Rattle.lines.specs.declared.Place.TheVariants.{Fresh, Plain, Single, Double, Hidden}
use Rattle.lines.specs.declared.Literal.{Literal}
use Rattle.lines.specs.declared.Literal.TheVariants.{Closed, Under}
use Rattle.lines.specs.Lines.{Line, begins_newline, prepend, split_lines, indent_of, tabbed, starts_comment, place_after, uncommented, strip_comment, significant, is_marker, Event, entry, bad, events_of, literal_after, blanks_before, body_of, scan, collect, significant_lines}
use Rattle.literal.specs.Literal.{is_blank, before_deeper, literal_line, literal_lines, literal_under, all_newlines, drop_newlines}
use Rattle.utf8.specs.Utf8.{Utf8}
use Rattle.tree.proofs.Strings.{joined, put, cut}

-- a byte that was found to be one of ASCII
pub known : (b c : ℕ) → c < 0x80 → eqb b c ≡ true → b < 0x80
known b c h e = omega (arith, eqb-true b c e)

-- a byte more before the rest; `pre` is what stands before since the last cut
on : (pre : List ℕ) (b : ℕ) (s : List ℕ) → Utf8 (pre ++ b ∷ s) → Utf8 ((pre ++ (b ∷ [])) ++ s)
on pre b s u = rw append_assoc u

off : (pre : List ℕ) (b : ℕ) (s : List ℕ) → Utf8 ((pre ++ (b ∷ [])) ++ s) → Utf8 (pre ++ b ∷ s)
off pre b s u = rw append_assoc at u

last : (pre : List ℕ) → Utf8 pre → Utf8 (pre ++ [])
last pre u = rw append-nil u

-- ---- of a line

pub skip-utf8 : (s : List ℕ) → Utf8 s → Utf8 (skip_spaces s)
unfolding skip_spaces
skip-utf8 [] u = u
skip-utf8 (b ∷ s) u = cond_both (eqb b (ch " ")) _ _ Utf8 (λ e. skip-utf8 s (cut [] b s (known b (ch " ") (omega arith) e) u).1) (λ _. u)

item-ascii : (b : ℕ) → ends_item b ≡ true → b < 0x80
unfolding ends_item
item-ascii b e = if-one (eqb b (ch ",") || eqb b (ch "}")) (eqb b (ch "]")) e
    (λ e. if-one (eqb b (ch ",")) (eqb b (ch "}")) e (known b (ch ",") (omega arith)) (known b (ch "}") (omega arith)))
    (known b (ch "]") (omega arith))

stops-ascii : (b : ℕ) (s : List ℕ) → stops_plain b s ≡ true → b < 0x80
unfolding stops_plain
stops-ascii b s e = if-one (ends_item b) (eqb b (ch ":") && ends_colon s) e (item-ascii b)
    (λ e. known b (ch ":") (omega arith) (and_parts (eqb b (ch ":")) (ends_colon s) e).0)

plain-from : (f : Bool) (pre s : List ℕ) → Utf8 (pre ++ s) → Utf8 (pre ++ (plain_text f s).0) × Utf8 (plain_text f s).1
unfolding plain_text
plain-from f pre [] u = (u, utf8_nil)
plain-from f pre (b ∷ s) u = cond_both (f && stops_plain b s) _ _ (λ (g : List ℕ × List ℕ). Utf8 (pre ++ g.0) × Utf8 g.1)
    (λ e.
    let h : b < 0x80 = stops-ascii b s (and_parts f (stops_plain b s) e).1 in
    let p = cut pre b s h u in
    (last pre p.0, put b s h p.1))
    (λ _. let p = plain-from f (pre ++ (b ∷ [])) s (on pre b s u) in (off pre b _ p.0, p.1))

pub plain-utf8 : (f : Bool) (s : List ℕ) → Utf8 s → Utf8 (plain_text f s).0 × Utf8 (plain_text f s).1
plain-utf8 f s u = plain-from f [] s u

escape_ascii : (b c : ℕ) → escape b ≡ some c → (b < 0x80) × (c < 0x80)
unfolding escape
escape_ascii b c e =
    chosen (eqb b (ch "n")) _ _ e (is (ch "n") (ch "\n") (omega arith) (omega arith))
    λ _ e. chosen (eqb b (ch "t")) _ _ e (is (ch "t") (ch "\t") (omega arith) (omega arith))
    λ _ e. chosen (eqb b (ch "r")) _ _ e (is (ch "r") (ch "\r") (omega arith) (omega arith))
    λ _ e. chosen (eqb b (ch "0")) _ _ e (is (ch "0") 0 (omega arith) (omega arith))
    λ _ e. chosen (eqb b (ch "\"") || eqb b (ch "\\") || eqb b (ch "/")) _ _ e itself (λ _ e. absurd (none-ne-some c e))
  where
    is : (k m : ℕ) → k < 0x80 → m < 0x80 → eqb b k ≡ true → some m ≡ some c → (b < 0x80) × (c < 0x80)
    is k m h l e p = (known b k h e, let z : m ≡ c = some-injective _ _ p in omega arith)

    one : eqb b (ch "\"") || eqb b (ch "\\") || eqb b (ch "/") ≡ true → b < 0x80
    one e = if-one (eqb b (ch "\"") || eqb b (ch "\\")) (eqb b (ch "/")) e
        (λ e. if-one (eqb b (ch "\"")) (eqb b (ch "\\")) e (known b (ch "\"") (omega arith)) (known b (ch "\\") (omega arith)))
        (known b (ch "/") (omega arith))

    itself : eqb b (ch "\"") || eqb b (ch "\\") || eqb b (ch "/") ≡ true → some b ≡ some c → (b < 0x80) × (c < 0x80)
    itself e p = (one e, let z : b ≡ c = some-injective _ _ p in let h : b < 0x80 = one e in omega arith)

module _ (cap n : ℕ) where
  -- a string and what is left behind it, of which `pre` was read before
  abbrev Both : List ℕ → List ℕ × List ℕ → Type 0
  Both pre g = Utf8 (pre ++ g.0) × Utf8 g.1

  onto-both : (b : ℕ) (a : Answer (List ℕ × List ℕ)) (g : List ℕ × List ℕ) (pre : List ℕ) → onto_good cap n b a ≡ good g
      → ((g : List ℕ × List ℕ) → a ≡ good g → Both (pre ++ (b ∷ [])) g) → Both pre g
  onto-both b (good (t, r)) g pre e h = rw (← good-inj _ _ e) (let p = h (t, r) refl in (off pre b t p.0, p.1))
  onto-both b (refused x y z) g pre e h = refused≢good g x y z e

  double-from : (hid : Bool) (pre s : List ℕ) (g : List ℕ × List ℕ) → Utf8 (pre ++ s) → double_quoted cap n hid s ≡ good g → Both pre g
  unfolding double_quoted stop
  double-from true pre [] g u e = refused≢good g 11 n 0 e
  double-from false pre [] g u e = refused≢good g 13 n 0 e
  double-from true pre (b ∷ s) g u e = escaped (escape b) refl e (λ pre g u. double-from false pre s g u)
    where
      escaped : (o : Option ℕ) → escape b ≡ o → onto_escape cap n o (double_quoted cap n false s) ≡ good g
          → ((pre : List ℕ) (g : List ℕ × List ℕ) → Utf8 (pre ++ s) → double_quoted cap n false s ≡ good g → Both pre g) → Both pre g
      escaped none q e h = refused≢good g 12 n 0 e
      escaped (some c) q e h =
          let a = escape_ascii b c q in
          let p = cut pre b s a.0 u in
          let v : Utf8 (pre ++ (c ∷ [])) = joined pre (c ∷ []) p.0 (put c [] a.1 utf8_nil) in
          onto-both c (double_quoted cap n false s) g pre e (λ g h'. h (pre ++ (c ∷ [])) g (joined _ s v p.1) h')
  double-from false pre (b ∷ s) g u e =
      chosen (eqb b (ch "\"")) _ _ e (λ k p. rw (← good-inj _ _ p) (let c = cut pre b s (known b (ch "\"") (omega arith) k) u in (last pre c.0, c.1)))
      λ _ p. chosen (eqb b (ch "\\")) _ _ p (λ k q. let c = cut pre b s (known b (ch "\\") (omega arith) k) u in double-from true pre s g (joined pre s c.0 c.1) q)
      λ _ q. onto-both b _ g pre q (λ g h. double-from false (pre ++ (b ∷ [])) s g (on pre b s u) h)

  pub double-utf8 : (s : List ℕ) (g : List ℕ × List ℕ) → Utf8 s → double_quoted cap n false s ≡ good g → Utf8 g.0 × Utf8 g.1
  double-utf8 s g u e = double-from false [] s g u e

  -- behind a quote that may close, what was read is UTF-8 by itself
  single-from : (shut : Bool) (pre s : List ℕ) (g : List ℕ × List ℕ) → (shut ≡ true → Utf8 pre) → Utf8 (pre ++ s) → single_quoted cap n shut s ≡ good g → Both pre g
  unfolding single_quoted stop
  single-from true pre [] g w u e = rw (← good-inj _ _ e) (u, utf8_nil)
  single-from false pre [] g w u e = refused≢good g 13 n 0 e
  single-from true pre (b ∷ s) g w u e =
      chosen (eqb b (ch "'")) _ _ e (λ _ q. onto-both b _ g pre q (λ g h. single-from false (pre ++ (b ∷ [])) s g (λ z. absurd (false≢true z)) (on pre b s u) h))
      (λ _ p. rw (← good-inj _ _ p) (last pre (w refl), sym (utf8_append pre (b ∷ s) (w refl)) ∙ u))
  single-from false pre (b ∷ s) g w u e =
      chosen (eqb b (ch "'")) _ _ e (λ k q. let c = cut pre b s (known b (ch "'") (omega arith) k) u in single-from true pre s g (λ _. c.0) (joined pre s c.0 c.1) q)
      (λ _ q. onto-both b _ g pre q (λ g h. single-from false (pre ++ (b ∷ [])) s g (λ z. absurd (false≢true z)) (on pre b s u) h))

  pub single-utf8 : (s : List ℕ) (g : List ℕ × List ℕ) → Utf8 s → single_quoted cap n false s ≡ good g → Utf8 g.0 × Utf8 g.1
  single-utf8 s g u e = single-from false [] s g (λ z. absurd (false≢true z)) u e

-- ---- of a line with a key: the text before its end and the text behind

abbrev pub Parted : List ℕ → ℕ → Type 0
Parted t split = Utf8 (take split t) × Utf8 (drop (suc split) t)

qualified : (q d b : ℕ) (s : List ℕ) → qualifies q d (b ∷ s) ≡ true → b < 0x80
unfolding qualifies
qualified q d b s k =
    let p = (and_parts (eqb q 0 && eqb b (ch ":") && eqb d 0) (last_or_space s) k).0 in
    let r = (and_parts (eqb q 0 && eqb b (ch ":")) (eqb d 0) p).0 in
    known b (ch ":") (omega arith) (and_parts (eqb q 0) (eqb b (ch ":")) r).1

key-from : (q d : ℕ) (pre s : List ℕ) (split : ℕ) → Utf8 (pre ++ s) → key_end_from q d (length pre) s ≡ some split → Parted (pre ++ s) split
unfolding key_end_from
key-from q d pre [] split u e = absurd (none-ne-some split e)
key-from q d pre (b ∷ s) split u e = chosen (qualifies q d (b ∷ s)) _ _ e
    (λ k p. let c = cut pre b s (qualified q d b s k) u in
    rw (← some-injective _ _ p) (rw (take_at pre (b ∷ s) (length pre) refl) c.0, rw behind c.1))
    (λ _ p. rw append_assoc at (key-from (quote_after q b) (depth_after q d b) (pre ++ (b ∷ [])) s split (on pre b s u) (rw longer p)))
  where
    longer : length (pre ++ (b ∷ [])) ≡ suc (length pre)
    longer = rw length-append (omega arith)

    behind : drop (suc (length pre)) (pre ++ b ∷ s) ≡ s
    behind = ap (drop (suc (length pre))) (sym (append_assoc pre (b ∷ []) s)) ∙ drop_at (pre ++ (b ∷ [])) s (suc (length pre)) longer

pub key-parted : (t : List ℕ) (split : ℕ) → Utf8 t → key_end t ≡ some split → Parted t split
unfolding key_end
key-parted t split u e = key-from 0 0 [] t split u e

-- ---- of a text: its lines, and the entries that they give

-- with `pre` before the first
abbrev EachFrom : List ℕ → List (List ℕ) → Type 0
EachFrom pre [] = Utf8 pre
EachFrom pre (t ∷ ts) = Utf8 (pre ++ t) × All Utf8 ts

each : (ts : List (List ℕ)) → EachFrom [] ts → All Utf8 ts
each [] h = tt
each (t ∷ ts) h = h

prepend-each : (pre : List ℕ) (b : ℕ) (ts : List (List ℕ)) → EachFrom (pre ++ (b ∷ [])) ts → EachFrom pre (prepend b ts)
unfolding prepend
prepend-each pre b [] h = (h, tt)
prepend-each pre b (t ∷ ts) h = (off pre b t h.0, h.1)

split_from : (pre s : List ℕ) → Utf8 (pre ++ s) → EachFrom pre (split_lines s)
unfolding split_lines
split_from pre [] u = rw append-nil at u
split_from pre (b ∷ s) u = cond_both (eqb b (ch "\n")) _ _ (EachFrom pre)
    (λ k. let c = cut pre b s (known b (ch "\n") (omega arith) k) u in (last pre c.0, each (split_lines s) (split_from [] s c.1)))
    λ _. cond_both (eqb b (ch "\r") && begins_newline s) _ _ (EachFrom pre)
    (λ k. let c = cut pre b s (known b (ch "\r") (omega arith) (and_parts (eqb b (ch "\r")) (begins_newline s) k).0) u in split_from pre s (joined pre s c.0 c.1))
    λ _. prepend-each pre b (split_lines s) (split_from (pre ++ (b ∷ [])) s (on pre b s u))

indented-utf8 : (s : List ℕ) → Utf8 s → Utf8 (drop (indent_of s) s)
unfolding indent_of
indented-utf8 [] u = u
indented-utf8 (b ∷ s) u = cond_both (eqb b (ch " ")) _ _ (λ (k : ℕ). Utf8 (drop k (b ∷ s)))
    (λ k. indented-utf8 s (cut [] b s (known b (ch " ") (omega arith) k) u).1) (λ _. u)

hash : (p : Place) (b : ℕ) → starts_comment p b ≡ true → b < 0x80
unfolding starts_comment
hash Fresh b e = known b (ch "#") (omega arith) e
hash Plain b e = absurd (false≢true e)
hash Single b e = absurd (false≢true e)
hash Double b e = absurd (false≢true e)
hash Hidden b e = absurd (false≢true e)

uncommented-from : (p : Place) (pre s : List ℕ) → Utf8 (pre ++ s) → Utf8 (pre ++ uncommented p s)
unfolding uncommented
uncommented-from p pre [] u = u
uncommented-from p pre (b ∷ s) u = cond_both (starts_comment p b) _ _ (λ (t : List ℕ). Utf8 (pre ++ t))
    (λ k. last pre (cut pre b s (hash p b k) u).0)
    (λ _. off pre b _ (uncommented-from (place_after p b) (pre ++ (b ∷ [])) s (on pre b s u)))

significant-utf8 : (s : List ℕ) → Utf8 s → Utf8 (significant s)
unfolding significant strip_comment
significant-utf8 s u = utf8-trim_end _ (uncommented-from Fresh [] _ (indented-utf8 s u))

abbrev pub Lines : List Line → Type 0
Lines ls = All (λ l. Utf8 l.text) ls

abbrev OfUtf8 : Event → Type 0
OfUtf8 (entry l) = Utf8 l.text
OfUtf8 (bad k n) = Unit {0}

abbrev Events : List Event → Type 0
Events es = All OfUtf8 es

-- some behind others
pub all-append : {A : Type 0} (P : A → Type 0) (xs ys : List A) → All P xs → All P ys → All P (xs ++ ys)
all-append P [] ys h k = k
all-append P (x ∷ xs) ys h k = (h.0, all-append P xs ys h.1 k)

events_of_lem : (n : ℕ) (raw : List ℕ) → Utf8 raw → Events (events_of n raw)
unfolding events_of
events_of_lem n raw u =
    cond_both (tabbed raw) _ _ Events (λ _. (tt, tt))
    λ _. cond_both (empty (significant raw)) _ _ Events (λ _. tt)
    λ _. cond_both (is_marker (significant raw)) _ _ Events (λ _. (tt, tt))
    λ _. (significant-utf8 raw u, tt)

blanks : (waiting n i : ℕ) → Events (blanks_before waiting n i)
unfolding blanks_before
blanks zero n i = tt
blanks (suc waiting) n i = (utf8_nil, blanks waiting n i)

body_of_lem : (waiting n : ℕ) (raw : List ℕ) → Utf8 raw → Events (body_of waiting n raw)
unfolding body_of
body_of_lem waiting n raw u = cond_both (tabbed raw) _ _ Events (λ _. (tt, tt))
    λ _. all-append OfUtf8 (blanks_before waiting n (indent_of raw)) _ (blanks waiting n (indent_of raw)) (utf8-trim_end _ (indented-utf8 raw u), tt)

scan-events : (lit : Literal) (waiting n : ℕ) (raws : List (List ℕ)) → All Utf8 raws → Events (scan lit waiting n raws)
unfolding scan
scan-events Closed waiting n [] h = tt
scan-events (Under at) waiting n [] h = tt
scan-events Closed waiting n (raw ∷ raws) h = all-append OfUtf8 (events_of n raw) _ (events_of_lem n raw h.0) (scan-events (literal_after raw) 0 (suc n) raws h.1)
scan-events (Under at) waiting n (raw ∷ raws) h =
    cond_both (all_white raw) _ _ Events (λ _. scan-events (Under at) (suc waiting) (suc n) raws h.1)
    λ _. cond_both (ltb at (indent_of raw)) _ _ Events (λ _. all-append OfUtf8 (body_of waiting n raw) _ (body_of_lem waiting n raw h.0) (scan-events (Under at) 0 (suc n) raws h.1))
    λ _. all-append OfUtf8 (events_of n raw) _ (events_of_lem n raw h.0) (scan-events (literal_after raw) 0 (suc n) raws h.1)

collect-lines : (room : ℕ) (es : List Event) (ls : List Line) → Events es → collect room es ≡ good ls → Lines ls
unfolding collect
collect-lines zero [] ls h e = rw (← good-inj _ _ e) tt
collect-lines (suc room) [] ls h e = rw (← good-inj _ _ e) tt
collect-lines zero (bad k n ∷ es) ls h e = refused≢good ls k n 0 e
collect-lines (suc room) (bad k n ∷ es) ls h e = refused≢good ls k n 0 e
collect-lines zero (entry l ∷ es) ls h e = refused≢good ls 3 l.number 0 e
collect-lines (suc room) (entry l ∷ es) ls h e = bound (collect room es) _ ls e
    λ x p q. rw (← good-inj _ _ q) (h.0, collect-lines room es x h.1 p)

pub lines-utf8 : (text : List ℕ) (ls : List Line) → Utf8 text → significant_lines text ≡ good ls → Lines ls
unfolding significant_lines
lines-utf8 text ls u e = collect-lines 2048 _ ls (scan-events Closed 0 1 (split_lines text) (each (split_lines text) (split_from [] text u))) e

-- ---- of lines: a literal and what is left

spaces-utf8 : (k : ℕ) → Utf8 (replicate k (ch " "))
spaces-utf8 zero = utf8_nil
spaces-utf8 (suc k) = put (ch " ") _ (omega arith) (spaces-utf8 k)

line-utf8 : (indent : ℕ) (l : Line) (ls : List Line) → Utf8 l.text → Utf8 (literal_line indent l ls)
unfolding literal_line
line-utf8 indent l ls u = cond_both (is_blank l && before_deeper indent ls) _ _ Utf8 (λ _. newline)
    (λ _. joined (replicate (l.indent - indent) (ch " ") ++ l.text) _
    (joined (replicate (l.indent - indent) (ch " ")) l.text (spaces-utf8 (l.indent - indent)) u) newline)
  where
    newline : Utf8 (ch "\n" ∷ [])
    newline = put (ch "\n") [] (omega arith) utf8_nil

-- a literal's text and the lines that are left
abbrev pub Body : List ℕ × List Line → Type 0
Body g = Utf8 g.0 × Lines g.1

lines-body : (indent : ℕ) (ls : List Line) → Lines ls → Body (literal_lines indent ls)
unfolding literal_lines
lines-body indent [] h = (utf8_nil, tt)
lines-body indent (l ∷ ls) h = cond_both (leb indent l.indent) _ _ Body
    (λ _. let p = lines-body indent ls h.1 in (joined (literal_line indent l ls) _ (line-utf8 indent l ls h.0) p.0, p.1))
    (λ _. (utf8_nil, h))

pub under-body : (under : ℕ) (ls : List Line) → Lines ls → Body (literal_under under ls)
unfolding literal_under
under-body under [] h = (utf8_nil, tt)
under-body under (l ∷ ls) h = cond_both (ltb under l.indent) _ _ Body (λ _. lines-body l.indent (l ∷ ls) h) (λ _. (utf8_nil, h))

drop-from : (pre s : List ℕ) → Utf8 (pre ++ s) → Utf8 (pre ++ drop_newlines s)
unfolding drop_newlines all_newlines
drop-from pre [] u = u
drop-from pre (b ∷ s) u = cond_both (all_newlines (b ∷ s)) _ _ (λ (t : List ℕ). Utf8 (pre ++ t))
    (λ k. last pre (cut pre b s (known b (ch "\n") (omega arith) (and_parts (eqb b (ch "\n")) (all_newlines s) k).0) u).0)
    (λ _. off pre b _ (drop-from (pre ++ (b ∷ [])) s (on pre b s u)))

pub drop-utf8 : (s : List ℕ) → Utf8 s → Utf8 (drop_newlines s)
drop-utf8 s u = drop-from [] s u
