-- What one row more makes of the lines that the rows stand for. Assumes nothing.
use Rattle.std.specs.Prelude.{Result, Ok, Err, IsOk, OnOk, OnErr, ◌↔◌}
use Rattle.std.specs.Result.{result_or}
use Rattle.refusal.specs.declared.Refusal.TheVariants.{TooManyLines}
use Rattle.refusal.specs.declared.Refusal.{Refusal}
use Rattle.std.proofs.lemmas.List.{map-append}
use Rattle.std.proofs.lemmas.List.Elements.{All-append}
use Rattle.std.proofs.Common.{◌≡◌, refl, sym, ap, ◌∙◌, ℕ, zero, suc, ◌+◌, ◌-◌, ◌<◌, arith, List, [], ◌∷◌, ◌++◌, append_assoc, length, length-append}
use Rattle.refusal.specs.Base.{Answer, good, refused, ◌>>=◌}
use Rattle.lines.specs.declared.Row.{Row}
use Rattle.lines.specs.Lines.{Line, line, Event, entry, bad, collect, blanks_before}
use Rattle.lines.specs.Table.{row_of, line_of, table_lines, LiesIn, AllLieIn, behind}
use Rattle.lines.specs.Filling.{reading, Took, Takes}

-- ---- one entry more

collect-entry : (room : ℕ) (l : Line) (es : List Event) → 0 < room → collect room (entry l ∷ es) ≡ (collect (room - 1) es >>= λ ls. good (l ∷ ls))
unfolding collect
collect-entry zero l es h = absurd (omega arith)
collect-entry (suc room) l es h = let e : suc room - 1 ≡ room = omega arith in rw e

behind_more : (ls : List Line) (l : Line) (a : Answer (List Line)) → behind ls (a >>= λ rest. good (l ∷ rest)) ≡ behind (ls ++ l ∷ []) a
unfolding behind ◌>>=◌
behind_more ls l (good rest) = ap good (sym (append_assoc ls (l ∷ []) rest))
behind_more ls l (refused n i s) = refl

all-one : (text : List ℕ) (r : Row) → LiesIn text r → AllLieIn text (r ∷ [])
all-one text r h zero d k = h
all-one text r h (suc i) d k = absurd (omega arith)

-- a row behind those that are there
pub took_row : (text : List ℕ) (old new : List Row) (r : Row) → length old < 2048 → new ≡ old ++ r ∷ [] → LiesIn text r → (es : List Event)
    → Took text old new (entry (line_of text r) ∷ es) es
took_row text old new r h e w es =
    let n : length (old ++ r ∷ []) ≡ length old + 1 = length-append old (r ∷ []) in
    let q : 2048 - length old - 1 ≡ 2048 - length (old ++ r ∷ []) = omega (arith, n) in
    rw e (record {
      reads = ap (behind (table_lines text old)) (collect-entry (2048 - length old) (line_of text r) es (omega arith))
          ∙ behind_more (table_lines text old) (line_of text r) (collect (2048 - length old - 1) es)
          ∙ rw (map-append (line_of text) old (r ∷ []), q);
      placed = λ p. All-append (λ (row : Row). LiesIn text row) old (r ∷ []) p (all-one text r w);
    })

-- ---- events taken

pub took_none : (text : List ℕ) (t : List Row) (es : List Event) → Took text t t es es
took_none text t es = record { reads = refl; placed = λ p. p }

pub took-both : {text : List ℕ} {t u v : List Row} {es fs gs : List Event} → Took text t u es fs → Took text u v fs gs → Took text t v es gs
took-both a b = record { reads = a.reads ∙ b.reads; placed = λ p. b.placed (a.placed p) }

-- the same events before, written in another way
pub took_of : {text : List ℕ} {t u : List Row} {es fs gs : List Event} → es ≡ fs → Took text t u fs gs → Took text t u es gs
took_of {text} {t} p k = record { reads = ap (reading text t) p ∙ k.reads; placed = k.placed }

pub takes-both : {A : Type 0} (text : List ℕ) (t u v : List Row) (es fs : List Event) (after : A → List Event) (r : Result A Refusal)
    → Took text t u es fs → Takes text u v fs after r → Takes text t v es after r
takes-both text t u v es fs after (Ok a) p q = took-both p q
takes-both text t u v es fs after (Err e) p q = p.reads ∙ q

pub reading-stops : (text : List ℕ) (t : List Row) (es : List Event) (k l s : ℕ) → collect (2048 - length t) es ≡ refused k l s → reading text t es ≡ refused k l s
unfolding behind ◌>>=◌
reading-stops text t es k l s e = rw e

-- ---- where they stop

pub collect-bad : (room k n : ℕ) (es : List Event) → collect room (bad k n ∷ es) ≡ refused k n 0
unfolding collect
collect-bad zero k n es = refl
collect-bad (suc room) k n es = refl

pub collect-full : (room : ℕ) (l : Line) (es : List Event) → room ≡ 0 → collect room (entry l ∷ es) ≡ refused 3 l.number 0
unfolding collect
collect-full zero l es e = refl
collect-full (suc room) l es e = absurd (omega arith)

-- a row that was pushed, or that did not fit
pub pushed : {E : Type 0} (text : List ℕ) (old new : List Row) (r : Row) (n : ℕ) (z : Result (Unit {0}) E) → (IsOk z ↔ (length old < 2048))
    → OnOk z (new ≡ old ++ r ∷ []) → OnErr z (length old ≡ 2048) → n ≡ r.number → LiesIn text r → (es : List Event)
    → Takes text old new (entry (line_of text r) ∷ es) (λ x. es) (result_or z (Err (TooManyLines n)))
pushed text old new r n (Ok u) v e f k w es = took_row text old new r (v.0 refl) e w es
pushed text old new r n (Err x) v e f k w es =
    rw k (reading-stops text old (entry (line_of text r) ∷ es) 3 r.number 0 (collect-full (2048 - length old) (line_of text r) es (omega (arith, f))))

-- ---- blank lines that wait

blanks-more : (n i w : ℕ) → 0 < w → (es : List Event) → blanks_before w n i ++ es ≡ entry (line i [] (n - w)) ∷ blanks_before (w - 1) n i ++ es
unfolding blanks_before
blanks-more n i zero l es = absurd (omega arith)
blanks-more n i (suc w) l es = let e : suc w - 1 ≡ w = omega arith in rw e

-- those before `k` are taken, and the row of this one is pushed
pub takes-blank : (text : List ℕ) (t u v : List Row) (w n i k : ℕ) (r : Result (Unit {0}) Refusal) → k < n
    → ((es : List Event) → Took text t u (blanks_before w n i ++ es) (blanks_before (n - k) n i ++ es))
    → ((text : List ℕ) (es : List Event) → LiesIn text (row_of i 0 0 k) → Takes text u v (entry (line_of text (row_of i 0 0 k)) ∷ es) (λ x. es) r)
    → (es : List Event) → Takes text t v (blanks_before w n i ++ es) (λ x. blanks_before (n - (k + 1)) n i ++ es) r
takes-blank text t u v w n i k r h f g es =
    let left : List Event = blanks_before (n - (k + 1)) n i ++ es in
    let z : n - (n - k) ≡ k = omega arith in
    let y : n - k - 1 ≡ n - (k + 1) = omega arith in
    let first : blanks_before (n - k) n i ++ es ≡ entry (line i [] k) ∷ left = blanks-more n i (n - k) (omega arith) es ∙ rw (z, y) in
    takes-both text t u v (blanks_before w n i ++ es) (entry (line i [] k) ∷ left) (λ x. left) r (rw first at (f es)) (g text left (record { ordered = omega arith; inside = omega arith }))
