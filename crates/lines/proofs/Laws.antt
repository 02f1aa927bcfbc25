-- What one byte more tells of the definitions, for the scanners; and what holds of the lines that they cut out. Assumes nothing.
use Rattle.std.specs.Prelude.{if◌then◌else◌}
use Rattle.std.proofs.Common.{◌≡◌, refl, sym, ap, ◌∙◌, ℕ, zero, suc, ◌+◌, ◌-◌, ◌≤◌, ◌<◌, add-one, arith, List, [], ◌∷◌, ◌++◌, Bool, true, false, ◌&&◌, ◌||◌, eqb, leb, ltb, length, take, drop, get_or, drop_of_length-le, drop-cons, take-add, get_or-drop, eq-eqb, ne_eqb, eqb-true, leb-true, leb-false, ltb-true, ltb-false, lt-ltb, le-ltb}
use Rattle.std.proofs.Math.Bool.{false≢true, and-false, or_assoc, or-false}
use Rattle.std.proofs.Math.Option.{some, none}
use Rattle.std.specs.Cmp.Lexicographic.{pointwise}
use Rattle.refusal.specs.Base.{maybe, ch, bytes, same, ends_with}
use Rattle.item.proofs.Same.{same-ne, same_length}
use Rattle.utf8.specs.Utf8.{within}
use Rattle.utf8.specs.Part.{part}
use Rattle.utf8.specs.White.{white1, white2, in2000, white3, white_at, white_len, leading, leading_from, trim_start, all_white}
use Rattle.utf8.specs.Places.{First}
use Rattle.utf8.proofs.Places.{counts, found_or, kept_to}
use Rattle.utf8.proofs.Laws.{part-cons, part-empty, leading-none, leading-on}
use Rattle.lines.specs.declared.Place.{Place}
use Rattle.lines.specs.declared.Place.TheVariants.{Fresh, Plain, Single, Double, Hidden}
use Rattle.lines.specs.Lines.{indent_of, has_tab, tabbed, starts_comment, place_after, uncommented, strip_comment, is_marker, opens_literal}
use Rattle.lines.specs.Dash.{dashed}
use Rattle.lines.specs.Places.{Lacks, until_newline}

-- ---- parts without a byte

pub lacks-both : (s : List ℕ) (b i j m : ℕ) → Lacks s i j b → Lacks s j m b → Lacks s i m b
lacks-both s b i j m f g k l h = go (ltb k j) refl
  where
    go : (x : Bool) → ltb k j ≡ x → get_or s k 0 ≡ b → ⊥
    go true e = f k l (ltb-true k j e)
    go false e = g k (ltb-false k j e) h

-- ---- newlines

module _ (s : List ℕ) (i : ℕ) where
  pub newline-none : length s ≤ i → until_newline (drop i s) ≡ 0
  unfolding until_newline
  newline-none h = rw (drop_of_length-le s {i = i} h)

  pub newline-here : i < length s → get_or s i 0 ≡ ch "\n" → until_newline (drop i s) ≡ 0
  unfolding until_newline
  newline-here h e = rw (drop-cons s i 0 h, eq-eqb (get_or s i 0) (ch "\n") e)

  pub newline-on : i < length s → (get_or s i 0 ≡ ch "\n" → ⊥) → until_newline (drop i s) ≡ suc (until_newline (drop (i + 1) s))
  unfolding until_newline
  newline-on h n = rw (add-one, drop-cons s i 0 h, ne_eqb (get_or s i 0) (ch "\n") n)

-- the place that a search for a newline finds
pub newline-found : (s : List ℕ) (at r : ℕ) → at ≤ r → r ≤ length s → Lacks s at r (ch "\n") → (r < length s → get_or s r 0 ≡ ch "\n") → r ≡ at + until_newline (drop at s)
newline-found s at r l h f g =
    counts (λ k. until_newline (drop k s)) (record { low = l; high = h; before = f; here = g }) (λ k h n. newline-on s k h n) (λ k h e. newline-here s k h e)
    (newline-none s (length s) (omega arith))

-- ---- indentation and comments

module _ (s : List ℕ) (e : ℕ) where
  pub indent-none : indent_of (part s e e) ≡ 0
  unfolding indent_of
  indent-none = rw (part-empty s e)

  pub comment-none : (p : Place) → length (uncommented p (part s e e)) ≡ 0
  unfolding uncommented
  comment-none p = rw (part-empty s e)

  module _ (i : ℕ) (h : i < e) (k : e ≤ length s) where
    pub indent-here : (get_or s i 0 ≡ ch " " → ⊥) → indent_of (part s i e) ≡ 0
    unfolding indent_of
    indent-here n = rw (part-cons s i e h k, ne_eqb (get_or s i 0) (ch " ") n)

    pub indent-on : get_or s i 0 ≡ ch " " → indent_of (part s i e) ≡ suc (indent_of (part s (i + 1) e))
    unfolding indent_of
    indent-on n = rw (part-cons s i e h k, eq-eqb (get_or s i 0) (ch " ") n)

    module _ (p : Place) where
      pub comment-here : starts_comment p (get_or s i 0) ≡ true → length (uncommented p (part s i e)) ≡ 0
      unfolding uncommented
      comment-here t = rw (part-cons s i e h k, t)

      pub comment-on : starts_comment p (get_or s i 0) ≡ false
          → length (uncommented p (part s i e)) ≡ suc (length (uncommented (place_after p (get_or s i 0)) (part s (i + 1) e)))
      unfolding uncommented
      comment-on t = rw (part-cons s i e h k, t)

-- the place that a search for another byte than a space finds
pub indent-found : (s : List ℕ) (from to r : ℕ) → First (λ k. get_or s k 0 ≡ 32 → ⊥) (λ k. get_or s k 0 ≡ 32) from to r → to ≤ length s
    → r ≡ from + indent_of (part s from to)
indent-found s from to r f h =
    counts (λ k. indent_of (part s k to)) f (λ k l e. indent-on s to k l h e) (λ k l e. indent-here s to k l h e) (indent-none s to)

-- a part without `#` has no comment
starts_other : (p : Place) (b : ℕ) → (b ≡ ch "#" → ⊥) → starts_comment p b ≡ false
unfolding starts_comment
starts_other Fresh b n = ne_eqb b (ch "#") n
starts_other Plain b n = refl
starts_other Single b n = refl
starts_other Double b n = refl
starts_other Hidden b n = refl

uncommented-all : (s : List ℕ) (e : ℕ) → e ≤ length s → (n i : ℕ) (p : Place) → i + n ≡ e → Lacks s i e (ch "#") → length (uncommented p (part s i e)) ≡ n
uncommented-all s e h zero i p q f = let z : i ≡ e = omega arith in rw z (comment-none s e p)
uncommented-all s e h (suc n) i p q f =
    comment-on s e i (omega arith) h p (starts_other p (get_or s i 0) (f i (omega arith) (omega arith)))
    ∙ ap suc (uncommented-all s e h n (i + 1) (place_after p (get_or s i 0)) (omega arith) (λ k l. f k (omega arith)))

pub strip-none : (s : List ℕ) (i e : ℕ) → i ≤ e → e ≤ length s → Lacks s i e (ch "#") → e ≡ i + length (strip_comment (part s i e))
unfolding strip_comment
strip-none s i e l h f = omega (arith, uncommented-all s e h (e - i) i Fresh (omega arith) f)

-- what is left of a text before its comment is a front of it
uncommented-take : (p : Place) (s : List ℕ) → uncommented p s ≡ take (length (uncommented p s)) s
unfolding uncommented
uncommented-take p [] = refl
uncommented-take p (b ∷ s) = go (starts_comment p b) (uncommented-take (place_after p b) s)
  where
    rest : List ℕ
    rest = uncommented (place_after p b) s

    go : (t : Bool) → rest ≡ take (length rest) s → (if t then [] else b ∷ rest) ≡ take (length (if t then [] else b ∷ rest)) (b ∷ s)
    go true e = refl
    go false e = ap (λ (l : List ℕ). b ∷ l) e

pub strip-take : (s : List ℕ) → strip_comment s ≡ take (length (strip_comment s)) s
unfolding strip_comment
strip-take s = uncommented-take Fresh s

-- ---- tabs in the leading white space

no-tab2 : (a b : ℕ) → white2 a b ≡ true → eqb b 9 ≡ false
unfolding white2
no-tab2 a b e = ne_eqb b 9 λ q. false≢true (sym (and-false (eqb a 0xc2)) ∙ ap (λ (x : ℕ). eqb a 0xc2 && (eqb x 0x85 || eqb x 0xa0)) (sym q) ∙ e)

no-tab3 : (a b c : ℕ) → white3 a b c ≡ true → (eqb b 9 ≡ false) × (eqb c 9 ≡ false)
unfolding white3 in2000 within
no-tab3 a b c e = (ne_eqb b 9 (λ q. false≢true (sym (second a c) ∙ ap (λ (x : ℕ). white3 a x c) (sym q) ∙ e)), ne_eqb c 9 (λ q. false≢true (sym (third a b) ∙ ap (λ (x : ℕ). white3 a b x) (sym q) ∙ e)))
  where
    second : (a c : ℕ) → white3 a 9 c ≡ false
    second a c = rw (and-false (eqb a 0xe1), and-false (eqb a 0xe2), and-false (eqb a 0xe3))

    third : (a b : ℕ) → white3 a b 9 ≡ false
    third a b = rw (and-false (eqb a 0xe1 && eqb b 0x9a), and-false (eqb a 0xe2 && eqb b 0x80), and-false (eqb a 0xe2 && eqb b 0x81), and-false (eqb a 0xe3 && eqb b 0x80))

has-append : (a b : List ℕ) → has_tab (a ++ b) ≡ has_tab a || has_tab b
unfolding has_tab
has-append [] b = refl
has-append (x ∷ a) b = rw (has-append a b, or_assoc (eqb x 9) (has_tab a) (has_tab b))

pub tab-none : (s : List ℕ) → white_len s ≡ 0 → tabbed s ≡ false
unfolding tabbed has_tab
tab-none s e = rw (leading-none s e)

pub tab-here : (s : List ℕ) → (white_len s ≡ 0 → ⊥) → get_or s 0 0 ≡ ch "\t" → tabbed s ≡ true
unfolding tabbed has_tab
tab-here [] n e = absurd (n (unfold white_len in refl))
tab-here (b ∷ s) n e =
    let p : 0 < white_len (b ∷ s) = omega (arith, n) in
    go (leading (b ∷ s)) (omega (arith, leading-on (b ∷ s) (white_len (b ∷ s)) refl p))
  where
    go : (l : ℕ) → 0 < l → has_tab (take l (b ∷ s)) ≡ true
    go zero h = absurd (omega arith)
    go (suc l) h = rw (eq-eqb b (ch "\t") e)

-- what a search for a tab finds
pub tab-search : (s : List ℕ) (a e r : ℕ) → a ≤ r → r ≤ e → e ≤ length s → Lacks s a r (ch "\t") → (r < e → get_or s r 0 ≡ ch "\t") → ltb r e ≡ has_tab (part s a e)
unfolding has_tab
tab-search s a e r l h m f g =
    let p : First (λ k. get_or s k 0 ≡ ch "\t") (λ k. get_or s k 0 ≡ ch "\t" → ⊥) a e r = record { low = l; high = h; before = f; here = g } in
    found_or (λ k. ltb k e ≡ has_tab (part s k e)) p
    (λ k i y. lt-ltb k e i ∙ sym (rw (part-cons s k e i m, eq-eqb (get_or s k 0) (ch "\t") y)))
    (le-ltb e e (omega arith) ∙ sym (rw (part-empty s e)))
    ∙ sym (kept_to (λ k. has_tab (part s k e)) p (λ k i n. rw (part-cons s k e i m, ne_eqb (get_or s k 0) (ch "\t") n)))

-- no byte of a white space character is a tab if its first is none
front-no-tab : (s : List ℕ) → (get_or s 0 0 ≡ ch "\t" → ⊥) → has_tab (take (white_len s) s) ≡ false
unfolding has_tab white_len white_at maybe
front-no-tab [] h = refl
front-no-tab (a ∷ []) h = go (white1 a)
  where
    go : (x : Bool) → has_tab (take (maybe (if x then some 0 else none) 0 suc) (a ∷ [])) ≡ false
    go true = rw (ne_eqb a 9 h)
    go false = refl
front-no-tab (a ∷ b ∷ []) h = go (white1 a) (white2 a b) refl
  where
    go : (x y : Bool) → white2 a b ≡ y → has_tab (take (maybe (if x then some 0 else if y then some 1 else none) 0 suc) (a ∷ b ∷ [])) ≡ false
    go true y p = rw (ne_eqb a 9 h)
    go false true p = rw (ne_eqb a 9 h, no-tab2 a b p)
    go false false p = refl
front-no-tab (a ∷ b ∷ c ∷ s) h = go (white1 a) (white2 a b) (white3 a b c) refl refl
  where
    go : (x y z : Bool) → white2 a b ≡ y → white3 a b c ≡ z
        → has_tab (take (maybe (if x then some 0 else if y then some 1 else if z then some 2 else none) 0 suc) (a ∷ b ∷ c ∷ s)) ≡ false
    go true y z p q = rw (ne_eqb a 9 h)
    go false true z p q = rw (ne_eqb a 9 h, no-tab2 a b p)
    go false false true p q = rw (ne_eqb a 9 h, (no-tab3 a b c q).0, (no-tab3 a b c q).1)
    go false false false p q = refl

pub tab-on : (s : List ℕ) (n : ℕ) → white_len s ≡ n → (n ≡ 0 → ⊥) → (get_or s 0 0 ≡ ch "\t" → ⊥) → tabbed s ≡ tabbed (drop n s)
unfolding tabbed
tab-on s n e z h =
    let f : has_tab (take n s) ≡ false = ap (λ (k : ℕ). has_tab (take k s)) (sym e) ∙ front-no-tab s h in
    rw (leading-on s n e (omega (arith, z)), take-add n (leading (drop n s)) s, has-append (take n s) (take (leading (drop n s)) (drop n s)), f)

-- ---- the indentation, which is white space

pub space-white : (s : List ℕ) → white_len (ch " " ∷ s) ≡ 1
unfolding white_len white_at maybe white1 within
space-white [] = refl
space-white (b ∷ []) = refl
space-white (b ∷ c ∷ s) = refl

pub space-all : (s : List ℕ) → all_white (ch " " ∷ s) ≡ all_white s
unfolding all_white trim_start leading leading_from white_at maybe white1 within
space-all [] = refl
space-all (b ∷ []) = refl
space-all (b ∷ c ∷ s) = refl

pub indent-tab : (s : List ℕ) → tabbed (drop (indent_of s) s) ≡ tabbed s
unfolding indent_of
indent-tab [] = refl
indent-tab (b ∷ s) = go (eqb b (ch " ")) refl (indent-tab s)
  where
    go : (t : Bool) → eqb b (ch " ") ≡ t → tabbed (drop (indent_of s) s) ≡ tabbed s → tabbed (drop (if t then suc (indent_of s) else 0) (b ∷ s)) ≡ tabbed (b ∷ s)
    go true e h = let q : b ≡ ch " " = eqb-true b (ch " ") e in h ∙ rw q (sym (tab-on (ch " " ∷ s) 1 (space-white s) (λ e. omega arith) (λ e. omega arith)))
    go false e h = refl

pub indent-white : (s : List ℕ) → all_white (drop (indent_of s) s) ≡ all_white s
unfolding indent_of
indent-white [] = refl
indent-white (b ∷ s) = go (eqb b (ch " ")) refl (indent-white s)
  where
    go : (t : Bool) → eqb b (ch " ") ≡ t → all_white (drop (indent_of s) s) ≡ all_white s → all_white (drop (if t then suc (indent_of s) else 0) (b ∷ s)) ≡ all_white (b ∷ s)
    go true e h = let q : b ≡ ch " " = eqb-true b (ch " ") e in h ∙ rw q (sym (space-all s))
    go false e h = refl

-- ---- ends of a text

pub ends-short : (p t : List ℕ) → length t < length p → ends_with p t ≡ false
unfolding ends_with
ends-short p [] h = same_length p [] (λ e. omega arith)
ends-short p (b ∷ t) h = rw (same_length p (b ∷ t) (λ e. omega arith), ends-short p t (omega arith))

pub ends_at : (p t : List ℕ) → length p ≤ length t → ends_with p t ≡ same p (drop (length t - length p) t)
unfolding ends_with
ends_at p [] h = let z : length p ≡ 0 = omega arith in rw z
ends_at p (b ∷ t) h = go (leb (length p) (length t)) refl (ends_at p t)
  where
    go : (x : Bool) → leb (length p) (length t) ≡ x → (length p ≤ length t → ends_with p t ≡ same p (drop (length t - length p) t))
        → same p (b ∷ t) || ends_with p t ≡ same p (drop (suc (length t) - length p) (b ∷ t))
    go true e r =
        let m : length p ≤ length t = leb-true (length p) (length t) e in
        let d : suc (length t) - length p ≡ suc (length t - length p) = omega arith in
        rw (d, same_length p (b ∷ t) (λ q. omega arith)) (r m)
    go false e r =
        let m : length t < length p = leb-false (length p) (length t) e in
        let d : suc (length t) - length p ≡ 0 = omega arith in
        rw (d, ends-short p t m) (or-false (same p (b ∷ t)))

-- a marker has three bytes
pub marker_length : (t : List ℕ) → (length t ≡ 3 → ⊥) → false ≡ is_marker t
unfolding is_marker bytes
marker_length t n = rw (same_length t (bytes "---") n, same_length t (bytes "...") n)

-- std's test of two slices, and its test of an end
pointwise_same : (p t : List ℕ) → pointwise eqb p t ≡ same p t
unfolding same
pointwise_same [] [] = refl
pointwise_same [] (b ∷ t) = refl
pointwise_same (a ∷ p) [] = refl
pointwise_same (a ∷ p) (b ∷ t) = ap (λ (x : Bool). eqb a b && x) (pointwise_same p t)

pub ends_text : (p t : List ℕ) → pointwise eqb p (drop (length t - length p) t) ≡ ends_with p t
ends_text p t = pointwise_same p (drop (length t - length p) t) ∙ go (leb (length p) (length t)) refl
  where
    go : (x : Bool) → leb (length p) (length t) ≡ x → same p (drop (length t - length p) t) ≡ ends_with p t
    go true e = sym (ends_at p t (leb-true (length p) (length t) e))
    go false e =
        let m : length t < length p = leb-false (length p) (length t) e in
        let d : length t - length p ≡ 0 = omega arith in
        rw (d, ends-short p t m) (same_length p t (λ q. omega arith))

-- a text ends in `q` only where it has the last byte of `q`
ends_last : (q t : List ℕ) → 0 < length q → (get_or t (length t - 1) 0 ≡ get_or q (length q - 1) 0 → ⊥) → ends_with q t ≡ false
ends_last q t h n = go (leb (length q) (length t)) refl
  where
    go : (x : Bool) → leb (length q) (length t) ≡ x → ends_with q t ≡ false
    go true e =
        let m : length q ≤ length t = leb-true (length q) (length t) e in
        let k : ℕ = length t - length q in
        let z : k + (length q - 1) ≡ length t - 1 = omega arith in
        ends_at q t m
        ∙ same-ne q (drop k t) (λ d. n (ap (λ i. get_or t i 0) (sym z) ∙ sym (get_or-drop k t (length q - 1) 0) ∙ ap (λ (l : List ℕ). get_or l (length q - 1) 0) (sym d)))
    go false e = ends-short q t (leb-false (length q) (length t) e)

-- what opens a literal, by the last byte
module _ (t : List ℕ) where
  pub opens_bar : get_or t (length t - 1) 0 ≡ 124 → pointwise eqb (bytes ": |") (drop (length t - 3) t) ≡ opens_literal t
  unfolding opens_literal bytes
  opens_bar e = ends_text (bytes ": |") t ∙ sym (rw (ends_last (bytes ": |-") t (omega arith) (λ q. omega (arith, e, q))) (or-false (ends_with (bytes ": |") t)))

  pub opens_dash : get_or t (length t - 1) 0 ≡ 45 → pointwise eqb (bytes ": |-") (drop (length t - 4) t) ≡ opens_literal t
  unfolding opens_literal bytes
  opens_dash e = ends_text (bytes ": |-") t ∙ sym (rw (ends_last (bytes ": |") t (omega arith) (λ q. omega (arith, e, q))) refl)

  pub opens_none : (get_or t (length t - 1) 0 ≡ 124 → ⊥) → (get_or t (length t - 1) 0 ≡ 45 → ⊥) → false ≡ opens_literal t
  unfolding opens_literal bytes
  opens_none a b = sym (rw (ends_last (bytes ": |") t (omega arith) a, ends_last (bytes ": |-") t (omega arith) b) refl)

-- ---- dashes

pub dashed-filled : (t : List ℕ) → dashed t ≡ true → 0 < length t
unfolding dashed same bytes
dashed-filled [] e = absurd (false≢true e)
dashed-filled (b ∷ t) e = omega arith
