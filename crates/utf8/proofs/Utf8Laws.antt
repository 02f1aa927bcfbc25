-- Where UTF-8 can be cut and joined: laws for proofs of code that takes parts of a text. Assumes nothing.
use Rattle.std.specs.Str.{IsAscii}
use Rattle.std.specs.Prelude.{if◌then◌else◌}
use Rattle.std.proofs.Common.{◌≡◌, refl, sym, ap, ◌∙◌, List, [], ◌∷◌, ◌++◌, Bool, true, false, ◌&&◌, ◌||◌, ℕ, zero, suc, ◌+◌, ◌-◌, ◌≤◌, ◌<◌, arith, leb, ltb, eqb, length, get_or, take, drop, replicate, length-drop, drop_of_length-le, drop-cons, get_or-drop, take_all, leb-true, ltb-true, ltb-false, eqb-true}
use Rattle.std.proofs.lemmas.Bool.{false≢true, and_parts}
use Rattle.std.proofs.Math.Option.{Option, none, some}
use Rattle.std.proofs.Math.Seq.{split_at}
use Rattle.refusal.specs.Base.{maybe, empty}
use Rattle.utf8.specs.Utf8.{Range, Row, ◌‥◌, within, tail, table, behind_in, tails_of, utf8_from, is_utf8}
use Rattle.utf8.proofs.Ranges.{if-one, inside}
use Rattle.utf8.specs.White.{white1, white2, in2000, white3, white_at, leading_from, leading, trim_start, all_white, trim_end, trim}
use Rattle.utf8.specs.Part.{part}
use Rattle.utf8.proofs.Laws.{white-first, end-le, end_take}

-- joined

from-append : (due : List Range) (s t : List ℕ) → utf8_from due s ≡ true → utf8_from due (s ++ t) ≡ utf8_from [] t
unfolding utf8_from maybe
from-append [] [] t e = refl
from-append (r ∷ due) [] t e = absurd (false≢true e)
from-append [] (b ∷ s) t e = go (tails_of b) e (λ due. from-append due s t)
  where
    go : (o : Option (List Range)) → maybe o false (λ due. utf8_from due s) ≡ true → ((due : List Range) → utf8_from due s ≡ true → utf8_from due (s ++ t) ≡ utf8_from [] t)
        → maybe o false (λ due. utf8_from due (s ++ t)) ≡ utf8_from [] t
    go none p r = absurd (false≢true p)
    go (some due) p r = r due p
from-append (r ∷ due) (b ∷ s) t e = rw (and_parts (within r b) (utf8_from due s) e).0 (from-append due s t (and_parts (within r b) (utf8_from due s) e).1)

pub utf8_append : (s t : List ℕ) → is_utf8 s ≡ true → is_utf8 (s ++ t) ≡ is_utf8 t
unfolding is_utf8
utf8_append s t e = from-append [] s t e

pub utf8_nil : is_utf8 [] ≡ true
unfolding is_utf8 utf8_from
utf8_nil = refl

-- ASCII
pub utf8-ascii : (b : ℕ) (s : List ℕ) → b < 0x80 → is_utf8 (b ∷ s) ≡ is_utf8 s
unfolding is_utf8 utf8_from maybe tails_of table behind_in
utf8-ascii b s h = rw (inside (0x00 ‥ 0x7f) b (omega arith) (omega arith))

pub all_ascii : (s : List ℕ) → IsAscii s → is_utf8 s ≡ true
all_ascii [] h = utf8_nil
all_ascii (b ∷ s) h = utf8-ascii b s (h 0) ∙ all_ascii s (λ i. h (suc i))

-- cut

-- a byte that may stand first in a character: none from 80 to BF
abbrev pub Starts : ℕ → Type 0
Starts b = 0x80 ≤ b → b < 0xc0 → ⊥

-- every range behind a first byte lies from 80 to BF
abbrev tails : List Range → Bool
tails [] = true
tails (r ∷ due) = leb 0x80 r.low && leb r.high 0xbf && tails due

abbrev all_tails : List Row → Bool
all_tails [] = true
all_tails (r ∷ rows) = tails r.behind && all_tails rows

tails-in : (rows : List Row) (b : ℕ) (due : List Range) → all_tails rows ≡ true → behind_in rows b ≡ some due → tails due ≡ true
unfolding behind_in
tails-in [] b due t e = let z : ◌≡◌ {A = ℕ} 0 1 = cc in absurd (omega arith)
tails-in (r ∷ rows) b due t e = go (within r.first b) e (tails-in rows b due (and_parts (tails r.behind) (all_tails rows) t).1)
  where
    go : (x : Bool) → (if x then some r.behind else behind_in rows b) ≡ some due → (behind_in rows b ≡ some due → tails due ≡ true) → tails due ≡ true
    go true p f = let z : r.behind ≡ due = cc in sym (ap tails z) ∙ (and_parts (tails r.behind) (all_tails rows) t).0
    go false p f = f p

tails_of_lem : (b : ℕ) (due : List Range) → tails_of b ≡ some due → tails due ≡ true
unfolding tails_of table
tails_of_lem b due e = tails-in table b due refl e

not-due : (r : Range) (due : List Range) (b : ℕ) → tails (r ∷ due) ≡ true → Starts b → within r b ≡ true → ⊥
unfolding within
not-due r due b t n e =
    let p = (and_parts (leb 0x80 r.low && leb r.high 0xbf) (tails due) t).0 in
    let q = and_parts (leb 0x80 r.low) (leb r.high 0xbf) p in
    let w = and_parts (leb r.low b) (leb b r.high) e in
    n (omega (arith, leb-true 0x80 r.low q.0, leb-true r.low b w.0)) (omega (arith, leb-true r.high 0xbf q.1, leb-true b r.high w.1))

from_cut : (due : List Range) (s : List ℕ) (b : ℕ) (t : List ℕ) → tails due ≡ true → Starts b → utf8_from due (s ++ b ∷ t) ≡ true → utf8_from due s ≡ true
unfolding utf8_from maybe
from_cut [] [] b t d n e = refl
from_cut (r ∷ due) [] b t d n e = absurd (not-due r due b d n (and_parts (within r b) (utf8_from due t) e).0)
from_cut [] (x ∷ s) b t d n e = go (tails_of x) refl e (λ due k. from_cut due s b t k n)
  where
    go : (o : Option (List Range)) → tails_of x ≡ o → maybe o false (λ due. utf8_from due (s ++ b ∷ t)) ≡ true
        → ((due : List Range) → tails due ≡ true → utf8_from due (s ++ b ∷ t) ≡ true → utf8_from due s ≡ true) → maybe o false (λ due. utf8_from due s) ≡ true
    go none q p r = absurd (false≢true p)
    go (some due) q p r = r due (tails_of_lem x due q) p
from_cut (r ∷ due) (x ∷ s) b t d n e =
    let w = and_parts (within r x) (utf8_from due (s ++ b ∷ t)) e in
    rw w.0 (from_cut due s b t (and_parts (leb 0x80 r.low && leb r.high 0xbf) (tails due) d).1 n w.1)

pub utf8-cut : (s : List ℕ) (b : ℕ) (t : List ℕ) → Starts b → is_utf8 (s ++ b ∷ t) ≡ true → (is_utf8 s ≡ true) × (is_utf8 (b ∷ t) ≡ true)
unfolding is_utf8
utf8-cut s b t n e =
    let p : utf8_from [] s ≡ true = from_cut [] s b t refl n e in
    (p, sym (from-append [] s (b ∷ t) p) ∙ e)

-- a text is cut at its end, or before a byte that may stand first
pub utf8-split : (s : List ℕ) (k : ℕ) → k ≤ length s → (k < length s → Starts (get_or s k 0)) → is_utf8 s ≡ true → (is_utf8 (take k s) ≡ true) × (is_utf8 (drop k s) ≡ true)
utf8-split s k h n e = go (ltb k (length s)) refl
  where
    go : (x : Bool) → ltb k (length s) ≡ x → (is_utf8 (take k s) ≡ true) × (is_utf8 (drop k s) ≡ true)
    go true p =
        let l : k < length s = ltb-true k (length s) p in
        let c = utf8-cut (take k s) (get_or s k 0) (drop (suc k) s) (n l) (sym (ap is_utf8 (split_at s k 0 l)) ∙ e) in
        (c.0, ap is_utf8 (drop-cons s k 0 l) ∙ c.1)
    go false p =
        let l : length s ≤ k = ltb-false k (length s) p in
        (ap is_utf8 (take_all k s l) ∙ e, ap is_utf8 (drop_of_length-le s l) ∙ utf8_nil)

-- a part is UTF-8 that begins and ends where a character does
pub utf8-part : (s : List ℕ) (a e : ℕ) → a ≤ e → e ≤ length s → (a < length s → Starts (get_or s a 0)) → (e < length s → Starts (get_or s e 0)) → is_utf8 s ≡ true → is_utf8 (part s a e) ≡ true
utf8-part s a e h k n m u =
    let l : length (drop a s) ≡ length s - a = length-drop a s in
    let z : a + (e - a) ≡ e = omega arith in
    (utf8-split (drop a s) (e - a) (omega arith) (λ p. rw (get_or-drop a s (e - a) 0, z) (m (omega arith))) (utf8-split s a (omega arith) n u).1).0

-- trimmed

all_first : (b : ℕ) (s : List ℕ) → all_white (b ∷ s) ≡ true → Starts b
unfolding all_white trim_start leading leading_from maybe empty
all_first b s e = go (white_at b s) refl e
  where
    go : (o : Option ℕ) → white_at b s ≡ o → empty (drop (maybe o 0 (λ k. suc (leading_from k s))) (b ∷ s)) ≡ true → Starts b
    go none q p = absurd (false≢true p)
    go (some k) q p = white-first b s k q

end-starts : (s : List ℕ) → length (trim_end s) < length s → Starts (get_or s (length (trim_end s)) 0)
unfolding trim_end
end-starts [] h = absurd (omega arith)
end-starts (b ∷ s) h = go (all_white (b ∷ s)) refl h (end-starts s)
  where
    go : (x : Bool) → all_white (b ∷ s) ≡ x → length (if x then [] else b ∷ trim_end s) < suc (length s)
        → (length (trim_end s) < length s → Starts (get_or s (length (trim_end s)) 0)) → Starts (get_or (b ∷ s) (length (if x then [] else b ∷ trim_end s)) 0)
    go true q l f = all_first b s q
    go false q l f = f (omega arith)

pub utf8-trim_end : (s : List ℕ) → is_utf8 s ≡ true → is_utf8 (trim_end s) ≡ true
utf8-trim_end s e = ap is_utf8 (end_take s) ∙ (utf8-split s (length (trim_end s)) (end-le s) (end-starts s) e).0

-- behind the first byte of a white space character any tails may come, as many as it has
module _ (b : ℕ) where
  due1 : white1 b ≡ true → tails_of b ≡ some []
  unfolding white1 within tails_of table behind_in
  due1 e = rw (inside (0x00 ‥ 0x7f) b (omega arith) (if-one (within (0x09 ‥ 0x0d) b) (eqb b 0x20) e
      (λ p. omega (arith, leb-true b 0x0d (and_parts (leb 0x09 b) (leb b 0x0d) p).1))
      (λ p. omega (arith, eqb-true b 0x20 p))))

  due2 : (c : ℕ) → white2 b c ≡ true → tails_of b ≡ some (tail ∷ [])
  unfolding white2 within tails_of table behind_in
  due2 c e = rw (eqb-true b 0xc2 (and_parts (eqb b 0xc2) (eqb c 0x85 || eqb c 0xa0) e).0)

  first-is : (n : ℕ) (p q : Bool) → eqb b n && p && q ≡ true → b ≡ n
  first-is n p q e = eqb-true b n (and_parts (eqb b n) p (and_parts (eqb b n && p) q e).0).0

  due3 : (c d : ℕ) → white3 b c d ≡ true → tails_of b ≡ some (tail ∷ tail ∷ [])
  unfolding white3 within tails_of table behind_in
  due3 c d e = if-one (e1 || e2 || f2) e3 e
      (λ p. if-one (e1 || e2) f2 p
      (λ q. if-one e1 e2 q (λ r. rw (first-is 0xe1 (eqb c 0x9a) (eqb d 0x80) r)) (λ r. rw (first-is 0xe2 (eqb c 0x80) (in2000 d) r)))
      (λ r. rw (first-is 0xe2 (eqb c 0x81) (eqb d 0x9f) r))) (λ r. rw (first-is 0xe3 (eqb c 0x80) (eqb d 0x80) r))
    where
      e1 : Bool
      e1 = eqb b 0xe1 && eqb c 0x9a && eqb d 0x80

      e2 : Bool
      e2 = eqb b 0xe2 && eqb c 0x80 && in2000 d

      f2 : Bool
      f2 = eqb b 0xe2 && eqb c 0x81 && eqb d 0x9f

      e3 : Bool
      e3 = eqb b 0xe3 && eqb c 0x80 && eqb d 0x80

  white-due : (s : List ℕ) (k : ℕ) → white_at b s ≡ some k → tails_of b ≡ some (replicate k tail)
  unfolding white_at
  white-due [] k e = go (white1 b) refl e
    where
      go : (x : Bool) → white1 b ≡ x → (if x then some 0 else none) ≡ some k → tails_of b ≡ some (replicate k tail)
      go true p q = let z : 0 ≡ k = cc in due1 p ∙ ap (λ (n : ℕ). some (replicate n tail)) z
      go false p q = let z : ◌≡◌ {A = ℕ} 0 1 = cc in absurd (omega arith)
  white-due (c ∷ []) k e = go (white1 b) (white2 b c) refl refl e
    where
      go : (x y : Bool) → white1 b ≡ x → white2 b c ≡ y → (if x then some 0 else if y then some 1 else none) ≡ some k → tails_of b ≡ some (replicate k tail)
      go true y p r q = let z : 0 ≡ k = cc in due1 p ∙ ap (λ (n : ℕ). some (replicate n tail)) z
      go false true p r q = let z : 1 ≡ k = cc in due2 c r ∙ ap (λ (n : ℕ). some (replicate n tail)) z
      go false false p r q = let z : ◌≡◌ {A = ℕ} 0 1 = cc in absurd (omega arith)
  white-due (c ∷ d ∷ s) k e = go (white1 b) (white2 b c) (white3 b c d) refl refl refl e
    where
      go : (x y w : Bool) → white1 b ≡ x → white2 b c ≡ y → white3 b c d ≡ w → (if x then some 0 else if y then some 1 else if w then some 2 else none) ≡ some k → tails_of b ≡ some (replicate k tail)
      go true y w p r t q = let z : 0 ≡ k = cc in due1 p ∙ ap (λ (n : ℕ). some (replicate n tail)) z
      go false true w p r t q = let z : 1 ≡ k = cc in due2 c r ∙ ap (λ (n : ℕ). some (replicate n tail)) z
      go false false true p r t q = let z : 2 ≡ k = cc in due3 c d t ∙ ap (λ (n : ℕ). some (replicate n tail)) z
      go false false false p r t q = let z : ◌≡◌ {A = ℕ} 0 1 = cc in absurd (omega arith)

from_start : (k : ℕ) (s : List ℕ) → utf8_from (replicate k tail) s ≡ true → utf8_from [] (drop (leading_from k s) s) ≡ true
unfolding utf8_from leading_from maybe
from_start zero [] e = refl
from_start (suc k) [] e = absurd (false≢true e)
from_start (suc k) (b ∷ s) e = from_start k s (and_parts (within tail b) (utf8_from (replicate k tail) s) e).1
from_start zero (b ∷ s) e = go (white_at b s) refl (λ k. from_start k s)
  where
    go : (o : Option ℕ) → white_at b s ≡ o → ((k : ℕ) → utf8_from (replicate k tail) s ≡ true → utf8_from [] (drop (leading_from k s) s) ≡ true)
        → utf8_from [] (drop (maybe o 0 (λ k. suc (leading_from k s))) (b ∷ s)) ≡ true
    go none q f = e
    go (some k) q f = f k (sym (ap (λ (o : Option (List Range)). maybe o false (λ due. utf8_from due s)) (white-due b s k q)) ∙ e)

pub utf8-trim_start : (s : List ℕ) → is_utf8 s ≡ true → is_utf8 (trim_start s) ≡ true
unfolding is_utf8 trim_start leading
utf8-trim_start s e = from_start 0 s e

pub utf8-trim : (s : List ℕ) → is_utf8 s ≡ true → is_utf8 (trim s) ≡ true
unfolding trim
utf8-trim s e = utf8-trim_end (trim_start s) (utf8-trim_start s e)
