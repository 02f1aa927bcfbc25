-- The table of RFC 3629, section 4, says what the bit layout of its section 3 says: a text is UTF-8 just where it is encoded code
-- points, one behind the other, each of those that UTF-8 has. Assumes nothing.
use Rattle.std.proofs.Common.{◌≡◌, refl, sym, ap, subst, ◌∙◌, List, [], ◌∷◌, ◌++◌, Bool, true, false, ◌&&◌, ℕ, zero, suc, ◌+◌, ◌-◌, ◌*◌, ◌/◌, ◌%◌, ◌≤◌, ◌<◌, ◌^◌, arith, leb, length, leb-true, leb-false, le-leb}
use Rattle.std.proofs.Math.Bool.{false≢true}
use Rattle.std.proofs.Math.Option.{Option, none, some}
use Rattle.std.proofs.lemmas.Bool.{lt-leb, and_parts}
use Rattle.refusal.specs.Base.{maybe}
use Rattle.utf8.specs.Utf8.{Range, ◌‥◌, within, tail, table, tails_of, utf8_from, is_utf8}
use Rattle.utf8.proofs.Ranges.{in-range, inside, below, above}
use Rattle.utf8.proofs.TableLaws.{in_row, no_row, past-rows}
use Rattle.utf8.specs.Points.{six_of, encode, in_any, scalar}
use Rattle.utf8.proofs.Utf8Laws.{utf8-ascii}

module _ (c : ℕ) where
  low_scalar : c < 0xd800 → scalar c ≡ true
  unfolding scalar in_any
  low_scalar h = rw (inside (0x0 ‥ 0xd7ff) c (omega arith) (omega arith))

  high_scalar : 0xe000 ≤ c → c < 0x110000 → scalar c ≡ true
  unfolding scalar in_any
  high_scalar h k = rw (above (0x0 ‥ 0xd7ff) c (omega arith), inside (0xe000 ‥ 0x10ffff) c (omega arith) (omega arith))

  surrogate : 0xd800 ≤ c → c < 0xe000 → scalar c ≡ false
  unfolding scalar in_any
  surrogate h k = rw (above (0x0 ‥ 0xd7ff) c (omega arith), below (0xe000 ‥ 0x10ffff) c (omega arith))

  beyond : 0x10ffff < c → scalar c ≡ false
  unfolding scalar in_any
  beyond h = rw (above (0x0 ‥ 0xd7ff) c (omega arith), above (0xe000 ‥ 0x10ffff) c (omega arith))

  six-tail : within tail (six_of c) ≡ true
  unfolding six_of
  six-tail = inside tail (six_of c) (omega arith) (omega arith)

-- a character by its row: the second byte decides
module _ (a : ℕ) (r : Range) (b : ℕ) (x : Bool) (e : within r b ≡ x) (s : List ℕ) where
  of_two : tails_of a ≡ some (r ∷ []) → is_utf8 (a ∷ b ∷ s) ≡ x && is_utf8 s
  unfolding is_utf8 utf8_from maybe
  of_two t = rw (t, e)

  of_three : (d : ℕ) → tails_of a ≡ some (r ∷ tail ∷ []) → is_utf8 (a ∷ b ∷ six_of d ∷ s) ≡ x && is_utf8 s
  unfolding is_utf8 utf8_from maybe
  of_three d t = rw (t, e, six-tail d)

  of_four : (d f : ℕ) → tails_of a ≡ some (r ∷ tail ∷ tail ∷ []) → is_utf8 (a ∷ b ∷ six_of d ∷ six_of f ∷ s) ≡ x && is_utf8 s
  unfolding is_utf8 utf8_from maybe
  of_four d f t = rw (t, e, six-tail d, six-tail f)

of_none : (a : ℕ) (s : List ℕ) → tails_of a ≡ none → is_utf8 (a ∷ s) ≡ false
unfolding is_utf8 utf8_from maybe
of_none a s t = rw t

module _ (c : ℕ) (s : List ℕ) where
  two_bytes : 0x80 ≤ c → c < 0x800 → is_utf8 ((0xc0 + c / 64) ∷ six_of c ∷ s) ≡ scalar c && is_utf8 s
  unfolding table
  two_bytes h k =
      rw (low_scalar c (omega arith))
      (of_two (0xc0 + c / 64) tail (six_of c) true (six-tail c) s (in_row 1 _ _ (0xc0 + c / 64) refl refl (omega arith) (omega arith)))

  three-bytes : 0x800 ≤ c → c < 0x10000 → is_utf8 ((0xe0 + c / 4096) ∷ six_of (c / 64) ∷ six_of c ∷ s) ≡ scalar c && is_utf8 s
  unfolding table six_of
  three-bytes h k = go (leb c 0xfff) (leb c 0xcfff) (leb c 0xd7ff) (leb c 0xdfff) refl refl refl refl
    where
      a : ℕ
      a = 0xe0 + c / 4096

      b : ℕ
      b = six_of (c / 64)

      go : (x y z w : Bool) → leb c 0xfff ≡ x → leb c 0xcfff ≡ y → leb c 0xd7ff ≡ z → leb c 0xdfff ≡ w → is_utf8 (a ∷ b ∷ six_of c ∷ s) ≡ scalar c && is_utf8 s
      go true y z w p q r t =
          let u : c ≤ 0xfff = leb-true c 0xfff p in
          rw (low_scalar c (omega arith))
          (of_three a (0xa0 ‥ 0xbf) b true (inside (0xa0 ‥ 0xbf) b (omega arith) (omega arith)) s c (in_row 2 _ _ a refl refl (omega arith) (omega arith)))
      go false true z w p q r t =
          let l : 0xfff < c = leb-false c 0xfff p in
          let u : c ≤ 0xcfff = leb-true c 0xcfff q in
          rw (low_scalar c (omega arith))
          (of_three a tail b true (six-tail (c / 64)) s c (in_row 3 _ _ a refl refl (omega arith) (omega arith)))
      go false false true w p q r t =
          let l : 0xcfff < c = leb-false c 0xcfff q in
          let u : c ≤ 0xd7ff = leb-true c 0xd7ff r in
          rw (low_scalar c (omega arith))
          (of_three a (0x80 ‥ 0x9f) b true (inside (0x80 ‥ 0x9f) b (omega arith) (omega arith)) s c (in_row 4 _ _ a refl refl (omega arith) (omega arith)))
      go false false false true p q r t =
          let l : 0xd7ff < c = leb-false c 0xd7ff r in
          let u : c ≤ 0xdfff = leb-true c 0xdfff t in
          rw (surrogate c (omega arith) (omega arith))
          (of_three a (0x80 ‥ 0x9f) b false (above (0x80 ‥ 0x9f) b (omega arith)) s c (in_row 4 _ _ a refl refl (omega arith) (omega arith)))
      go false false false false p q r t =
          let l : 0xdfff < c = leb-false c 0xdfff t in
          rw (high_scalar c (omega arith) (omega arith))
          (of_three a tail b true (six-tail (c / 64)) s c (in_row 5 _ _ a refl refl (omega arith) (omega arith)))

  four_bytes : 0x10000 ≤ c → is_utf8 ((0xf0 + c / (2 ^ 18)) ∷ six_of (c / 4096) ∷ six_of (c / 64) ∷ six_of c ∷ s) ≡ scalar c && is_utf8 s
  unfolding table six_of
  four_bytes h = go (leb c 0x3ffff) (leb c 0xfffff) (leb c 0x10ffff) (leb c 0x13ffff) refl refl refl refl
    where
      a : ℕ
      a = 0xf0 + c / (2 ^ 18)

      b : ℕ
      b = six_of (c / 4096)

      go : (x y z w : Bool) → leb c 0x3ffff ≡ x → leb c 0xfffff ≡ y → leb c 0x10ffff ≡ z → leb c 0x13ffff ≡ w → is_utf8 (a ∷ b ∷ six_of (c / 64) ∷ six_of c ∷ s) ≡ scalar c && is_utf8 s
      go true y z w p q r t =
          let u : c ≤ 0x3ffff = leb-true c 0x3ffff p in
          rw (high_scalar c (omega arith) (omega arith))
          (of_four a (0x90 ‥ 0xbf) b true (inside (0x90 ‥ 0xbf) b (omega arith) (omega arith)) s (c / 64) c (in_row 6 _ _ a refl refl (omega arith) (omega arith)))
      go false true z w p q r t =
          let l : 0x3ffff < c = leb-false c 0x3ffff p in
          let u : c ≤ 0xfffff = leb-true c 0xfffff q in
          rw (high_scalar c (omega arith) (omega arith))
          (of_four a tail b true (six-tail (c / 4096)) s (c / 64) c (in_row 7 _ _ a refl refl (omega arith) (omega arith)))
      go false false true w p q r t =
          let l : 0xfffff < c = leb-false c 0xfffff q in
          let u : c ≤ 0x10ffff = leb-true c 0x10ffff r in
          rw (high_scalar c (omega arith) (omega arith))
          (of_four a (0x80 ‥ 0x8f) b true (inside (0x80 ‥ 0x8f) b (omega arith) (omega arith)) s (c / 64) c (in_row 8 _ _ a refl refl (omega arith) (omega arith)))
      go false false false true p q r t =
          let l : 0x10ffff < c = leb-false c 0x10ffff r in
          let u : c ≤ 0x13ffff = leb-true c 0x13ffff t in
          rw (beyond c (omega arith))
          (of_four a (0x80 ‥ 0x8f) b false (above (0x80 ‥ 0x8f) b (omega arith)) s (c / 64) c (in_row 8 _ _ a refl refl (omega arith) (omega arith)))
      go false false false false p q r t =
          let l : 0x13ffff < c = leb-false c 0x13ffff t in
          rw (beyond c (omega arith)) (of_none a (b ∷ six_of (c / 64) ∷ six_of c ∷ s) (past-rows a (omega arith)))

pub utf8_encode : (c : ℕ) (s : List ℕ) → is_utf8 (encode c ++ s) ≡ scalar c && is_utf8 s
unfolding encode
utf8_encode c s = go (leb c 0x7f) (leb c 0x7ff) (leb c 0xffff) refl refl refl
  where
    go : (x y z : Bool) → leb c 0x7f ≡ x → leb c 0x7ff ≡ y → leb c 0xffff ≡ z → is_utf8 (encode c ++ s) ≡ scalar c && is_utf8 s
    go true y z p q r = let h : c ≤ 0x7f = leb-true c 0x7f p in rw (p, low_scalar c (omega arith)) (utf8-ascii c s (omega arith))
    go false true z p q r =
        let h : 0x7f < c = leb-false c 0x7f p in
        let k : c ≤ 0x7ff = leb-true c 0x7ff q in
        rw (p, q) (two_bytes c s (omega arith) (omega arith))
    go false false true p q r =
        let h : 0x7ff < c = leb-false c 0x7ff q in
        let k : c ≤ 0xffff = leb-true c 0xffff r in
        rw (p, q, r) (three-bytes c s (omega arith) (omega arith))
    go false false false p q r = let h : 0xffff < c = leb-false c 0xffff r in rw (p, q, r) (four_bytes c s (omega arith))

-- code points, encoded one behind the other
pub data Coded : List ℕ → Type 0 where
  done : Coded []
  point : (c : ℕ) (s : List ℕ) → scalar c ≡ true → Coded s → Coded (encode c ++ s)

pub coded-utf8 : {s : List ℕ} → Coded s → is_utf8 s ≡ true
unfolding is_utf8 utf8_from
coded-utf8 done = refl
coded-utf8 (point c s e r) = utf8_encode c s ∙ rw e (coded-utf8 r)

-- the code point of two, three and four bytes
encode-two : (b d c : ℕ) (s : List ℕ) → c + 12416 ≡ b * 64 + d → 0xc2 ≤ b → b ≤ 0xdf → 0x80 ≤ d → d ≤ 0xbf → encode c ++ s ≡ b ∷ d ∷ s
unfolding encode six_of
encode-two b d c s e h k l m =
    let x : 0xc0 + c / 64 ≡ b = omega arith in
    let y : 0x80 + c % 64 ≡ d = omega arith in
    rw (lt-leb c 0x7f (omega arith), le-leb c 0x7ff (omega arith), x, y)

encode-three : (b d f c : ℕ) (s : List ℕ) → c + 925824 ≡ b * 4096 + d * 64 + f → 0x800 ≤ c → b ≤ 0xef → 0x80 ≤ d → d ≤ 0xbf → 0x80 ≤ f → f ≤ 0xbf → encode c ++ s ≡ b ∷ d ∷ f ∷ s
unfolding encode six_of
encode-three b d f c s e h k l m n o =
    let x : 0xe0 + c / 4096 ≡ b = omega arith in
    let y : 0x80 + c / 64 % 64 ≡ d = omega arith in
    let z : 0x80 + c % 64 ≡ f = omega arith in
    rw (lt-leb c 0x7f (omega arith), lt-leb c 0x7ff (omega arith), le-leb c 0xffff (omega arith), x, y, z)

encode-four : (b d f g c : ℕ) (s : List ℕ) → c + 63447168 ≡ b * 2 ^ 18 + d * 4096 + f * 64 + g → 0x10000 ≤ c → 0x80 ≤ d → d ≤ 0xbf → 0x80 ≤ f → f ≤ 0xbf → 0x80 ≤ g → g ≤ 0xbf → encode c ++ s ≡ b ∷ d ∷ f ∷ g ∷ s
unfolding encode six_of
encode-four b d f g c s e h l m n o p q =
    let x : 0xf0 + c / (2 ^ 18) ≡ b = omega arith in
    let y : 0x80 + c / 4096 % 64 ≡ d = omega arith in
    let z : 0x80 + c / 64 % 64 ≡ f = omega arith in
    let w : 0x80 + c % 64 ≡ g = omega arith in
    rw (lt-leb c 0x7f (omega arith), lt-leb c 0x7ff (omega arith), lt-leb c 0xffff (omega arith), x, y, z, w)

cut : (b n : ℕ) {X : Type 0} → (b ≤ n → X) → (n < b → X) → X
cut b n {X} f g = go (leb b n) refl
  where
    go : (x : Bool) → leb b n ≡ x → X
    go true e = f (leb-true b n e)
    go false e = g (leb-false b n e)

-- a text that begins with a code point, as one does that is UTF-8
record Begins (s : List ℕ) : Type 0 where
  point : ℕ
  rest : List ℕ
  whole : encode point ++ rest ≡ s
  less : length rest < length s

module _ (b : ℕ) where
  first_one : (t : List ℕ) → b ≤ 0x7f → Begins (b ∷ t)
  unfolding encode
  first_one t h = record { point = b; rest = t; whole = rw (le-leb b 0x7f h); less = omega arith }

  first_two : (t : List ℕ) → 0xc2 ≤ b → b ≤ 0xdf → utf8_from (tail ∷ []) t ≡ true → Begins (b ∷ t)
  unfolding utf8_from
  first_two [] h l e = absurd (false≢true e)
  first_two (d ∷ t) h l e =
      let p = in-range tail d (and_parts (within tail d) (utf8_from [] t) e).0 in
      let c = b * 64 + d - 12416 in
      record { point = c; rest = t; whole = encode-two b d c t (omega arith) h l p.0 p.1; less = omega arith }

  first_three : (r : Range) (t : List ℕ) → 0xe0 ≤ b → b ≤ 0xef → 0x80 ≤ r.low → r.high ≤ 0xbf → 14368 ≤ b * 64 + (r.low - 0x80) → utf8_from (r ∷ tail ∷ []) t ≡ true → Begins (b ∷ t)
  unfolding utf8_from
  first_three r [] h l m n o e = absurd (false≢true e)
  first_three r (d ∷ []) h l m n o e = absurd (false≢true (and_parts (within r d) false e).1)
  first_three r (d ∷ f ∷ t) h l m n o e =
      let v = and_parts (within r d) (within tail f && utf8_from [] t) e in
      let p = in-range r d v.0 in
      let q = in-range tail f (and_parts (within tail f) (utf8_from [] t) v.1).0 in
      let c = b * 4096 + d * 64 + f - 925824 in
      record { point = c; rest = t; whole = encode-three b d f c t (omega arith) (omega arith) l (omega arith) (omega arith) q.0 q.1; less = omega arith }

  first-four : (r : Range) (t : List ℕ) → 0xf0 ≤ b → 0x80 ≤ r.low → r.high ≤ 0xbf → 15376 ≤ b * 64 + (r.low - 0x80) → utf8_from (r ∷ tail ∷ tail ∷ []) t ≡ true → Begins (b ∷ t)
  unfolding utf8_from
  first-four r [] h m n o e = absurd (false≢true e)
  first-four r (d ∷ []) h m n o e = absurd (false≢true (and_parts (within r d) false e).1)
  first-four r (d ∷ f ∷ []) h m n o e =
      absurd (false≢true (and_parts (within tail f) false (and_parts (within r d) (within tail f && false) e).1).1)
  first-four r (d ∷ f ∷ g ∷ t) h m n o e =
      let u = and_parts (within r d) (within tail f && (within tail g && utf8_from [] t)) e in
      let v = and_parts (within tail f) (within tail g && utf8_from [] t) u.1 in
      let p = in-range r d u.0 in
      let q = in-range tail f v.0 in
      let w = in-range tail g (and_parts (within tail g) (utf8_from [] t) v.1).0 in
      let c = b * 2 ^ 18 + d * 4096 + f * 64 + g - 63447168 in
      record { point = c; rest = t; whole = encode-four b d f g c t (omega arith) (omega arith) (omega arith) (omega arith) q.0 q.1 w.0 w.1; less = omega arith }

  -- what the row of the first byte says of the rest
  behind-first : (t : List ℕ) (due : List Range) → is_utf8 (b ∷ t) ≡ true → tails_of b ≡ some due → utf8_from due t ≡ true
  unfolding is_utf8 utf8_from maybe
  behind-first t due e p = sym (ap (λ (o : Option (List Range)). maybe o false (λ d. utf8_from d t)) p) ∙ e

  first : (t : List ℕ) → is_utf8 (b ∷ t) ≡ true → Begins (b ∷ t)
  unfolding table
  first t e =
      cut b 0x7f (λ u. first_one t u)
      λ l. cut b 0xc1 (λ u. absurd (false≢true (sym (of_none b t (no_row b (omega arith) (omega arith))) ∙ e)))
      λ l. cut b 0xdf (λ u. first_two t (omega arith) u (behind-first t _ e (in_row 1 _ _ b refl refl (omega arith) u)))
      λ l. cut b 0xe0 (λ u. first_three (0xa0 ‥ 0xbf) t (omega arith) (omega arith) (omega arith) (omega arith) (omega arith) (behind-first t _ e (in_row 2 _ _ b refl refl (omega arith) u)))
      λ l. cut b 0xec (λ u. first_three tail t (omega arith) (omega arith) (omega arith) (omega arith) (omega arith) (behind-first t _ e (in_row 3 _ _ b refl refl (omega arith) u)))
      λ l. cut b 0xed (λ u. first_three (0x80 ‥ 0x9f) t (omega arith) (omega arith) (omega arith) (omega arith) (omega arith) (behind-first t _ e (in_row 4 _ _ b refl refl (omega arith) u)))
      λ l. cut b 0xef (λ u. first_three tail t (omega arith) (omega arith) (omega arith) (omega arith) (omega arith) (behind-first t _ e (in_row 5 _ _ b refl refl (omega arith) u)))
      λ l. cut b 0xf0 (λ u. first-four (0x90 ‥ 0xbf) t (omega arith) (omega arith) (omega arith) (omega arith) (behind-first t _ e (in_row 6 _ _ b refl refl (omega arith) u)))
      λ l. cut b 0xf3 (λ u. first-four tail t (omega arith) (omega arith) (omega arith) (omega arith) (behind-first t _ e (in_row 7 _ _ b refl refl (omega arith) u)))
      λ l. cut b 0xf4 (λ u. first-four (0x80 ‥ 0x8f) t (omega arith) (omega arith) (omega arith) (omega arith) (behind-first t _ e (in_row 8 _ _ b refl refl (omega arith) u)))
      λ l. absurd (false≢true (sym (of_none b t (past-rows b l)) ∙ e))

coded-up-to : (n : ℕ) (s : List ℕ) → length s ≤ n → is_utf8 s ≡ true → Coded s
coded-up-to zero [] h e = done
coded-up-to zero (b ∷ t) h e = absurd (omega arith)
coded-up-to (suc n) [] h e = done
coded-up-to (suc n) (b ∷ t) h e =
    let f = first b t e in
    let w = and_parts (scalar f.point) (is_utf8 f.rest) (sym (utf8_encode f.point f.rest) ∙ ap is_utf8 f.whole ∙ e) in
    subst Coded f.whole (point f.point f.rest w.0 (coded-up-to n f.rest (omega arith) w.1))

pub utf8-coded : (s : List ℕ) → is_utf8 s ≡ true → Coded s
utf8-coded s e = coded-up-to (length s) s (omega arith) e
