-- Laws of parts and of white space, for proofs of code that trims. They hold of every list of bytes. Assumes nothing.
use Rattle.std.specs.Prelude.{if◌then◌else◌}
use Rattle.std.proofs.Common.{◌≡◌, refl, sym, ap, ◌∙◌, ⊎_elim, List, [], ◌∷◌, ◌++◌, Bool, true, false, ℕ, zero, suc, ◌+◌, ◌-◌, ◌≤◌, ◌<◌, arith, eqb, ltb, length, get_or, take, drop, length-drop, take-take, take-add, drop-drop, length-take-le, get_or-take, get_or-drop, ltb-true, ltb-false, ne_eqb}
use Rattle.std.proofs.lemmas.Bool.{cases_lt}
use Rattle.std.proofs.lemmas.List.{drop_more}
use Rattle.std.proofs.Math.Bool.{false≢true, and-false}
use Rattle.std.proofs.Math.Option.{Option, none, some}
use Rattle.std.proofs.Math.Seq.{take-nil, take-length, drop-length}
use Rattle.refusal.specs.Base.{maybe, empty}
use Rattle.utf8.specs.Utf8.{Range, ◌‥◌, within}
use Rattle.utf8.proofs.Ranges.{below, above}
use Rattle.utf8.specs.White.{white1, white2, in2000, white3, white_at, white_len, leading_from, leading, trim_start, all_white, trim_end, trim}
use Rattle.utf8.specs.Part.{part}

-- parts

drop-take : (k n : ℕ) (s : List ℕ) → drop k (take n s) ≡ take (n - k) (drop k s)
drop-take zero n s = let z : n - 0 ≡ n = omega arith in rw z
drop-take (suc k) zero s = let z : 0 - suc k ≡ 0 = omega arith in rw z
drop-take (suc k) (suc n) [] = sym (take-nil (suc n - suc k))
drop-take (suc k) (suc n) (b ∷ s) = let z : suc n - suc k ≡ n - k = omega arith in rw z (drop-take k n s)

module _ (s : List ℕ) where
  pub part-empty : (a : ℕ) → part s a a ≡ []
  part-empty a = let z : a - a ≡ 0 = omega arith in rw z

  pub part-all : part s 0 (length s) ≡ s
  part-all = let z : length s - 0 ≡ length s = omega arith in rw z (take-length s)

  pub part_length : (a e : ℕ) → a ≤ e → e ≤ length s → length (part s a e) ≡ e - a
  part_length a e h k = length-take-le (e - a) (drop a s) (omega (arith, length-drop a s))

  pub part-cons : (a e : ℕ) → a < e → e ≤ length s → part s a e ≡ get_or s a 0 ∷ part s (a + 1) e
  part-cons a e h k =
      let z : e - a ≡ suc (e - (a + 1)) = omega arith in
      rw (z, drop_more s a 0 (omega arith))

  pub part-get_or : (a e k : ℕ) → a + k < e → get_or (part s a e) k 0 ≡ get_or s (a + k) 0
  part-get_or a e k h = get_or-take (e - a) (drop a s) k 0 (omega arith) ∙ get_or-drop a s k 0

  pub part-drop : (a e k : ℕ) → drop k (part s a e) ≡ part s (a + k) e
  part-drop a e k = let z : e - a - k ≡ e - (a + k) = omega arith in drop-take k (e - a) (drop a s) ∙ rw (z, drop-drop k a s)

  pub part-take : (a e k : ℕ) → a + k ≤ e → take k (part s a e) ≡ part s a (a + k)
  part-take a e k h = let z : a + k - a ≡ k = omega arith in rw z (take-take k (e - a) (drop a s) (omega arith))

  pub part-append : (a m e : ℕ) → a ≤ m → m ≤ e → part s a e ≡ part s a m ++ part s m e
  part-append a m e h k =
      let z : e - a ≡ m - a + (e - m) = omega arith in
      let y : a + (m - a) ≡ m = omega arith in
      rw (z, take-add (m - a) (e - m) (drop a s), drop-drop (m - a) a s, y)

-- leading white space

-- a white space character lies in its text
pub white-fits : (a : ℕ) (s : List ℕ) (k : ℕ) → white_at a s ≡ some k → k ≤ length s
unfolding white_at
white-fits a [] k e = go (white1 a) e
  where
    go : (x : Bool) → (if x then some 0 else none) ≡ some k → k ≤ 0
    go true p = let z : 0 ≡ k = cc in omega arith
    go false p = let z : ◌≡◌ {A = ℕ} 0 1 = cc in omega arith
white-fits a (b ∷ []) k e = go (white1 a) (white2 a b) e
  where
    go : (x y : Bool) → (if x then some 0 else if y then some 1 else none) ≡ some k → k ≤ 1
    go true y p = let z : 0 ≡ k = cc in omega arith
    go false true p = let z : 1 ≡ k = cc in omega arith
    go false false p = let z : ◌≡◌ {A = ℕ} 0 1 = cc in omega arith
white-fits a (b ∷ c ∷ s) k e = go (white1 a) (white2 a b) (white3 a b c) e
  where
    go : (x y z : Bool) → (if x then some 0 else if y then some 1 else if z then some 2 else none) ≡ some k → k ≤ suc (suc (length s))
    go true y z p = let q : 0 ≡ k = cc in omega arith
    go false true z p = let q : 1 ≡ k = cc in omega arith
    go false false true p = let q : 2 ≡ k = cc in omega arith
    go false false false p = let q : ◌≡◌ {A = ℕ} 0 1 = cc in omega arith

-- a white space character has at most three bytes
pub white-most : (s : List ℕ) → white_len s ≤ 3
unfolding white_len white_at maybe
white-most [] = omega arith
white-most (a ∷ []) = go (white1 a)
  where
    go : (x : Bool) → maybe (if x then some 0 else none) 0 suc ≤ 3
    go true = omega arith
    go false = omega arith
white-most (a ∷ b ∷ []) = go (white1 a) (white2 a b)
  where
    go : (x y : Bool) → maybe (if x then some 0 else if y then some 1 else none) 0 suc ≤ 3
    go true y = omega arith
    go false true = omega arith
    go false false = omega arith
white-most (a ∷ b ∷ c ∷ s) = go (white1 a) (white2 a b) (white3 a b c)
  where
    go : (x y z : Bool) → maybe (if x then some 0 else if y then some 1 else if z then some 2 else none) 0 suc ≤ 3
    go true y z = omega arith
    go false true z = omega arith
    go false false true = omega arith
    go false false false = omega arith

from-add : (k : ℕ) (s : List ℕ) → k ≤ length s → leading_from k s ≡ k + leading (drop k s)
unfolding leading leading_from
from-add zero s h = omega arith
from-add (suc k) [] h = omega arith
from-add (suc k) (b ∷ s) h = omega (arith, from-add k s (omega arith))

pub leading-none : (s : List ℕ) → white_len s ≡ 0 → leading s ≡ 0
unfolding white_len leading leading_from maybe
leading-none [] e = refl
leading-none (b ∷ s) e = go (white_at b s) e
  where
    go : (o : Option ℕ) → maybe o 0 suc ≡ 0 → maybe o 0 (λ k. suc (leading_from k s)) ≡ 0
    go none p = refl
    go (some k) p = absurd (omega arith)

pub leading-on : (s : List ℕ) (n : ℕ) → white_len s ≡ n → 0 < n → leading s ≡ n + leading (drop n s)
unfolding white_len leading leading_from maybe
leading-on [] n e h = absurd (omega arith)
leading-on (b ∷ s) n e h = go (white_at b s) refl e
  where
    go : (o : Option ℕ) → white_at b s ≡ o → maybe o 0 suc ≡ n → maybe o 0 (λ k. suc (leading_from k s)) ≡ n + leading_from 0 (drop n (b ∷ s))
    go none q p = absurd (omega arith)
    go (some k) q p = rw (sym p) (omega (arith, from-add k s (white-fits b s k q)))

from_le : (k : ℕ) (s : List ℕ) → leading_from k s ≤ length s
unfolding leading_from maybe
from_le k [] = omega arith
from_le (suc k) (b ∷ s) = omega (arith, from_le k s)
from_le zero (b ∷ s) = go (white_at b s) (λ k. from_le k s)
  where
    go : (o : Option ℕ) → ((k : ℕ) → leading_from k s ≤ length s) → maybe o 0 (λ k. suc (leading_from k s)) ≤ suc (length s)
    go none h = omega arith
    go (some k) h = omega (arith, h k)

pub leading_le : (s : List ℕ) → leading s ≤ length s
unfolding leading
leading_le s = from_le 0 s

-- white space at the end

-- whether all is white, of a text whose first `k` bytes are known to be
abbrev pub white_from : ℕ → List ℕ → Bool
white_from k s = empty (drop (leading_from k s) s)

-- what begins no white space character of one byte, of two and of three
module _ (a : ℕ) where
  pub not-one : 0x20 < a → white1 a ≡ false
  unfolding white1
  not-one h = rw (above (0x09 ‥ 0x0d) a (omega arith), ne_eqb a 0x20 (λ e. omega arith))

  pub not-two : (a ≡ 0xc2 → ⊥) → (b : ℕ) → white2 a b ≡ false
  unfolding white2
  not-two n b = rw (ne_eqb a 0xc2 n)

  pub not_three : (a ≡ 0xe1 → ⊥) → (a ≡ 0xe2 → ⊥) → (a ≡ 0xe3 → ⊥) → (b c : ℕ) → white3 a b c ≡ false
  unfolding white3
  not_three n m k b c = rw (ne_eqb a 0xe1 n, ne_eqb a 0xe2 m, ne_eqb a 0xe3 k)

-- a visible byte, or one that can only stand behind another, begins none
pub first-none : (a : ℕ) (s : List ℕ) → 0x20 < a → a < 0xc0 → white_at a s ≡ none
unfolding white_at
first-none a [] h k = rw (not-one a h)
first-none a (b ∷ []) h k = rw (not-one a h, not-two a (λ e. omega arith) b)
first-none a (b ∷ c ∷ s) h k = rw (not-one a h, not-two a (λ e. omega arith) b, not_three a (λ e. omega arith) (λ e. omega arith) (λ e. omega arith) b c)

-- every byte of a white space character behind the first can only stand there: none other goes on with one
module _ (w : ℕ) (first : 0x80 ≤ w → w < 0xc0 → ⊥) where
  other : (n : ℕ) → 0x80 ≤ n → n < 0xc0 → eqb w n ≡ false
  other n h l = ne_eqb w n (λ q. first (omega arith) (omega arith))

  off : (r : Range) → 0x80 ≤ r.low → r.high < 0xc0 → within r w ≡ false
  off r h l = ⊎_elim (λ m. below r w m) (λ m. above r w (omega (arith, first (omega arith)))) (cases_lt w r.low)

  pub no_second : (a : ℕ) → white2 a w ≡ false
  unfolding white2
  no_second a = simp (other 0x85 (omega arith) (omega arith), other 0xa0 (omega arith) (omega arith), and-false)

  no_middle : (a c : ℕ) → white3 a w c ≡ false
  unfolding white3
  no_middle a c = simp (other 0x9a (omega arith) (omega arith), other 0x80 (omega arith) (omega arith), other 0x81 (omega arith) (omega arith), and-false)

  pub no_third : (a b : ℕ) → white3 a b w ≡ false
  unfolding white3 in2000
  no_third a b =
      simp (
        other 0x80 (omega arith) (omega arith),
        off (0x80 ‥ 0x8a) (omega arith) (omega arith),
        off (0xa8 ‥ 0xa9) (omega arith) (omega arith),
        other 0xaf (omega arith) (omega arith),
        other 0x9f (omega arith) (omega arith),
        and-false,
      )

  -- so what begins with it, behind a text, takes no part in the characters before it
  pub white-apart : (a : ℕ) (s t : List ℕ) → white_at a (s ++ w ∷ t) ≡ white_at a s
  unfolding white_at
  white-apart a [] [] = rw (no_second a)
  white-apart a [] (c ∷ t) = rw (no_second a, no_middle a c)
  white-apart a (b ∷ []) t = rw (no_third a b)
  white-apart a (b ∷ c ∷ s) t = refl

-- and no byte of a white space character behind the first begins another
pub white-first : (w : ℕ) (ws : List ℕ) (k : ℕ) → white_at w ws ≡ some k → 0x80 ≤ w → w < 0xc0 → ⊥
white-first w ws k e h l = let z : none ≡ some k = sym (first-none w ws (omega arith) l) ∙ e in let q : ◌≡◌ {A = ℕ} 0 1 = cc in omega arith

pub from-full : (s : List ℕ) → leading_from (length s) s ≡ length s
unfolding leading_from
from-full [] = refl
from-full (b ∷ s) = ap suc (from-full s)

module _ (w : ℕ) (ws : List ℕ) (e : white_at w ws ≡ some (length ws)) where
  from-apart : (k : ℕ) (s : List ℕ) → k ≤ length s → white_from k (s ++ w ∷ ws) ≡ white_from k s
  unfolding leading_from maybe empty
  from-apart zero [] h = rw (e, from-full ws, drop-length ws)
  from-apart (suc k) [] h = absurd (omega arith)
  from-apart (suc k) (b ∷ s) h = from-apart k s (omega arith)
  from-apart zero (b ∷ s) h = rw (white-apart w (white-first w ws (length ws) e) b s ws) (go (white_at b s) refl (λ k. from-apart k s))
    where
      go : (o : Option ℕ) → white_at b s ≡ o → ((k : ℕ) → k ≤ length s → white_from k (s ++ w ∷ ws) ≡ white_from k s)
          → empty (drop (maybe o 0 (λ k. suc (leading_from k (s ++ w ∷ ws)))) (b ∷ s ++ w ∷ ws)) ≡ empty (drop (maybe o 0 (λ k. suc (leading_from k s))) (b ∷ s))
      go none q r = refl
      go (some k) q r = r k (white-fits b s k q)

  all_apart : (s : List ℕ) → all_white (s ++ w ∷ ws) ≡ all_white s
  unfolding all_white trim_start leading
  all_apart s = from-apart 0 s (omega arith)

  pub end-apart : (s : List ℕ) → trim_end (s ++ w ∷ ws) ≡ trim_end s
  unfolding trim_end all_white trim_start leading leading_from empty
  end-apart [] = rw (all_apart [])
  end-apart (b ∷ s) = rw (all_apart (b ∷ s), end-apart s)

pub is_white : (b : ℕ) (w : List ℕ) → white_len (b ∷ w) ≡ suc (length w) → white_at b w ≡ some (length w)
unfolding white_len maybe
is_white b w e = go (white_at b w) e
  where
    go : (o : Option ℕ) → maybe o 0 suc ≡ suc (length w) → o ≡ some (length w)
    go none p = absurd (omega arith)
    go (some k) p = let z : k ≡ length w = omega arith in ap some z

-- a white space character at the end of a text is trimmed
pub end-white : (s w : List ℕ) → 0 < length w → white_len w ≡ length w → trim_end (s ++ w) ≡ trim_end s
end-white s [] h e = absurd (omega arith)
end-white s (b ∷ w) h e = end-apart b w (is_white b w e) s

-- no part of a text that runs to its end is one white space character
abbrev pub NoneEnds : List ℕ → Type 0
NoneEnds s = (k : ℕ) → k < length s → white_len (drop k s) ≡ length s - k → ⊥

len-some : (b : ℕ) (s : List ℕ) (k : ℕ) → white_at b s ≡ some k → white_len (b ∷ s) ≡ suc k
unfolding white_len maybe
len-some b s k e = rw e

none-cons : (b : ℕ) (s : List ℕ) → NoneEnds (b ∷ s) → NoneEnds s
none-cons b s n k h e = n (suc k) (omega arith) (omega arith)

none_from : (k : ℕ) (s : List ℕ) → NoneEnds s → k < length s → white_from k s ≡ false
unfolding leading_from maybe empty
none_from k [] n h = absurd (omega arith)
none_from (suc k) (b ∷ s) n h = none_from k s (none-cons b s n) (omega arith)
none_from zero (b ∷ s) n h = go (white_at b s) refl (λ k. none_from k s (none-cons b s n))
  where
    go : (o : Option ℕ) → white_at b s ≡ o → ((k : ℕ) → k < length s → white_from k s ≡ false) → empty (drop (maybe o 0 (λ k. suc (leading_from k s))) (b ∷ s)) ≡ false
    go none q r = refl
    go (some k) q r = at (ltb k (length s)) refl
      where
        at : (t : Bool) → ltb k (length s) ≡ t → white_from k s ≡ false
        at true p = r k (ltb-true k (length s) p)
        at false p = absurd (n 0 h (omega (arith, len-some b s k q, white-fits b s k q, ltb-false k (length s) p)))

none-all : (s : List ℕ) → NoneEnds s → 0 < length s → all_white s ≡ false
unfolding all_white trim_start leading
none-all s n h = none_from 0 s n h

-- a text that ends with no white space character is not trimmed
pub end_none : (s : List ℕ) → NoneEnds s → trim_end s ≡ s
unfolding trim_end
end_none [] n = refl
end_none (b ∷ s) n = rw (none-all (b ∷ s) n (omega arith), end_none s (none-cons b s n))

-- what is trimmed

pub end-le : (s : List ℕ) → length (trim_end s) ≤ length s
unfolding trim_end
end-le [] = omega arith
end-le (b ∷ s) = go (all_white (b ∷ s)) (end-le s)
  where
    go : (t : Bool) → length (trim_end s) ≤ length s → length (if t then [] else b ∷ trim_end s) ≤ suc (length s)
    go true h = omega arith
    go false h = omega arith

-- the end is cut off, and nothing else
pub end_take : (s : List ℕ) → trim_end s ≡ take (length (trim_end s)) s
unfolding trim_end
end_take [] = refl
end_take (b ∷ s) = go (all_white (b ∷ s)) (end_take s)
  where
    go : (t : Bool) → trim_end s ≡ take (length (trim_end s)) s → (if t then [] else b ∷ trim_end s) ≡ take (length (if t then [] else b ∷ trim_end s)) (b ∷ s)
    go true h = refl
    go false h = ap (λ (r : List ℕ). b ∷ r) h

-- nothing is left just where all is white
pub end_empty : (s : List ℕ) → empty (trim_end s) ≡ all_white s
unfolding trim_end all_white trim_start leading leading_from empty
end_empty [] = refl
end_empty (b ∷ s) = go (all_white (b ∷ s))
  where
    go : (t : Bool) → empty (if t then [] else b ∷ trim_end s) ≡ t
    go true = refl
    go false = refl

pub empty-nil : (s : List ℕ) → empty s ≡ true → s ≡ []
unfolding empty
empty-nil [] e = refl
empty-nil (b ∷ s) e = absurd (false≢true e)

pub end-all : (s : List ℕ) → all_white s ≡ true → trim_end s ≡ []
end-all s e = empty-nil (trim_end s) (end_empty s ∙ e)

-- all is white just where the leading white space is the whole
pub leading-all : (s : List ℕ) → leading s ≡ length s → all_white s ≡ true
unfolding all_white trim_start empty
leading-all s e = rw (e, drop-length s)

pub all-leading : (s : List ℕ) → all_white s ≡ true → leading s ≡ length s
unfolding all_white trim_start
all-leading s e = omega (arith, leading_le s, length-drop (leading s) s, ap length (empty-nil (drop (leading s) s) e))

pub trim-nil : trim [] ≡ []
unfolding trim trim_start trim_end leading leading_from
trim-nil = refl

-- what is trimmed of a part is a part
module _ (s : List ℕ) (from to : ℕ) (h : from ≤ to) (k : to ≤ length s) where
  pub start-le : from + leading (part s from to) ≤ to
  start-le = omega (arith, leading_le (part s from to), part_length s from to h k)

  -- the code's test for a part that is all white
  pub part-white : from + leading (part s from to) ≡ to → all_white (part s from to) ≡ true
  part-white e = leading-all (part s from to) (omega (arith, part_length s from to h k))

  pub part-not-white : (from + leading (part s from to) ≡ to → ⊥) → all_white (part s from to) ≡ false
  part-not-white n = go (all_white (part s from to)) refl
    where
      go : (x : Bool) → all_white (part s from to) ≡ x → x ≡ false
      go true e = absurd (n (omega (arith, all-leading (part s from to) e, part_length s from to h k)))
      go false e = refl

  pub start-part : trim_start (part s from to) ≡ part s (from + leading (part s from to)) to
  unfolding trim_start
  start-part = part-drop s from to (leading (part s from to))

  pub end-at-most : from + length (trim_end (part s from to)) ≤ to
  end-at-most = omega (arith, end-le (part s from to), part_length s from to h k)

  pub end-part : trim_end (part s from to) ≡ part s from (from + length (trim_end (part s from to)))
  end-part = end_take (part s from to) ∙ part-take s from to (length (trim_end (part s from to))) end-at-most

-- first the start, and then the end of what is left
pub trim-part : (s : List ℕ) (from to a e : ℕ) → from ≤ to → to ≤ length s → a ≡ from + leading (part s from to) → e ≡ a + length (trim_end (part s a to)) → trim (part s from to) ≡ part s a e
unfolding trim
trim-part s from to a e h k p q =
    let b : a ≤ to = omega (arith, start-le s from to h k) in
    ap trim_end (start-part s from to h k ∙ ap (λ (n : ℕ). part s n to) (sym p)) ∙ end-part s a to b k ∙ ap (part s a) (sym q)
