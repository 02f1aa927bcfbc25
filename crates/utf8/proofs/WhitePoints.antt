-- The white space of a text is that of its code points: a text that begins with a code point begins with white space just where
-- document 01 counts the code point as white space, and the white space character is as long as the code point's UTF-8. Assumes nothing.
use Rattle.std.specs.Prelude.{if◌then◌else◌}
use Rattle.std.proofs.Common.{◌≡◌, refl, sym, ◌∙◌, List, [], ◌∷◌, ◌++◌, Bool, true, false, ◌&&◌, ◌||◌, ℕ, ◌+◌, ◌/◌, ◌%◌, ◌≤◌, ◌<◌, ◌^◌, arith, leb, eqb, length, drop, leb-true, leb-false, eqb-true}
use Rattle.std.proofs.lemmas.Bool.{false≢true, and_parts}
use Rattle.refusal.specs.Base.{maybe}
use Rattle.utf8.specs.Utf8.{Range, ◌‥◌, within}
use Rattle.utf8.proofs.Ranges.{inside, above, if-one}
use Rattle.utf8.specs.White.{white1, white2, in2000, white3, white_at, white_len}
use Rattle.utf8.proofs.Laws.{not-one, not-two, not_three}
use Rattle.utf8.specs.Points.{six_of, encode, white_points, in_any, white_point}

-- the length of a white space character, by the tests of its bytes
module _ (a : ℕ) where
  len-one : ((b : ℕ) → white2 a b ≡ false) → ((b c : ℕ) → white3 a b c ≡ false) → (s : List ℕ) → white_len (a ∷ s) ≡ (if white1 a then 1 else 0)
  unfolding white_len white_at maybe
  len-one n m s = go (white1 a) refl s
    where
      go : (x : Bool) → white1 a ≡ x → (t : List ℕ) → white_len (a ∷ t) ≡ (if x then 1 else 0)
      go true p [] = rw p
      go true p (b ∷ []) = rw p
      go true p (b ∷ c ∷ t) = rw p
      go false p [] = rw p
      go false p (b ∷ []) = rw (p, n b)
      go false p (b ∷ c ∷ t) = rw (p, n b, m b c)

  len-two : 0x20 < a → (b : ℕ) → ((c : ℕ) → white3 a b c ≡ false) → (s : List ℕ) → white_len (a ∷ b ∷ s) ≡ (if white2 a b then 2 else 0)
  unfolding white_len white_at maybe
  len-two h b m s = go (white2 a b) refl s
    where
      go : (x : Bool) → white2 a b ≡ x → (t : List ℕ) → white_len (a ∷ b ∷ t) ≡ (if x then 2 else 0)
      go true p [] = rw (not-one a h, p)
      go true p (c ∷ t) = rw (not-one a h, p)
      go false p [] = rw (not-one a h, p)
      go false p (c ∷ t) = rw (not-one a h, p, m c)

  len-three : 0x20 < a → (b : ℕ) → white2 a b ≡ false → (c : ℕ) (s : List ℕ) → white_len (a ∷ b ∷ c ∷ s) ≡ (if white3 a b c then 3 else 0)
  unfolding white_len white_at maybe
  len-three h b p c s = go (white3 a b c) refl
    where
      go : (x : Bool) → white3 a b c ≡ x → white_len (a ∷ b ∷ c ∷ s) ≡ (if x then 3 else 0)
      go true q = rw (not-one a h, p, q)
      go false q = rw (not-one a h, p, q)

iff : (x y : Bool) → (x ≡ true → y ≡ true) → (y ≡ true → x ≡ true) → x ≡ y
iff true y f g = sym (f refl)
iff false true f g = g refl
iff false false f g = refl

-- what lies in one of the ranges lies in the first, or in one of the others
found : (r : Range) (rs : List Range) (c : ℕ) {X : Type 0} → in_any (r ∷ rs) c ≡ true → (r.low ≤ c → c ≤ r.high → X) → (in_any rs c ≡ true → X) → X
unfolding in_any within
found r rs c e f g =
    if-one (within r c) (in_any rs c) e
    (λ p. let w = and_parts (leb r.low c) (leb c r.high) p in f (leb-true r.low c w.0) (leb-true c r.high w.1))
    g

-- all ranges begin at `bottom` or later
abbrev over : List Range → ℕ → Bool
over [] bottom = true
over (r ∷ rs) bottom = leb bottom r.low && over rs bottom

before : (rs : List Range) (bottom c : ℕ) {X : Type 0} → over rs bottom ≡ true → c < bottom → in_any rs c ≡ true → X
unfolding in_any
before [] bottom c t h e = absurd (false≢true e)
before (r ∷ rs) bottom c t h e =
    let w = and_parts (leb bottom r.low) (over rs bottom) t in
    found r rs c e (λ l u. absurd (omega (arith, leb-true bottom r.low w.0))) (before rs bottom c w.1 h)

all : (a b n m : ℕ) (q : Bool) {X : Type 0} → eqb a n && eqb b m && q ≡ true → (a ≡ n → b ≡ m → q ≡ true → X) → X
all a b n m q e f =
    let w = and_parts (eqb a n && eqb b m) q e in
    let v = and_parts (eqb a n) (eqb b m) w.0 in
    f (eqb-true a n v.0) (eqb-true b m v.1) w.1

module _ (c : ℕ) where
  one_byte : c < 0x80 → white1 c ≡ white_point c
  unfolding white1 white_point white_points in_any within
  one_byte h =
      iff (white1 c) (white_point c)
      (λ e. if-one (within (0x9 ‥ 0xd) c) (eqb c 0x20) e (λ p. rw p) (λ p. rw (eqb-true c 0x20 p)))
      (λ e. found (0x9 ‥ 0xd) (drop 1 white_points) c e
      (λ l u. rw (inside (0x9 ‥ 0xd) c l u))
      (λ e. found (0x20 ‥ 0x20) (drop 2 white_points) c e
      (λ l u. let z : c ≡ 0x20 = omega arith in rw z)
      (before (drop 2 white_points) 0x80 c refl h)))

  two_bytes : 0x80 ≤ c → c < 0x800 → white2 (0xc0 + c / 64) (six_of c) ≡ white_point c
  unfolding white2 six_of white_point white_points in_any within
  two_bytes h k =
      iff (white2 (0xc0 + c / 64) (six_of c)) (white_point c)
      (λ e. let w = and_parts (eqb (0xc0 + c / 64) 0xc2) (eqb (six_of c) 0x85 || eqb (six_of c) 0xa0) e in
      let a : 0xc0 + c / 64 ≡ 0xc2 = eqb-true (0xc0 + c / 64) 0xc2 w.0 in
      if-one (eqb (six_of c) 0x85) (eqb (six_of c) 0xa0) w.1
      (λ p. let b : 0x80 + c % 64 ≡ 0x85 = eqb-true (six_of c) 0x85 p in let z : c ≡ 0x85 = omega arith in rw z)
      (λ p. let b : 0x80 + c % 64 ≡ 0xa0 = eqb-true (six_of c) 0xa0 p in let z : c ≡ 0xa0 = omega arith in rw z))
      (λ e. found (0x9 ‥ 0xd) (drop 1 white_points) c e (λ l u. absurd (omega arith))
      (λ e. found (0x20 ‥ 0x20) (drop 2 white_points) c e (λ l u. absurd (omega arith))
      (λ e. found (0x85 ‥ 0x85) (drop 3 white_points) c e (λ l u. let z : c ≡ 0x85 = omega arith in rw z)
      (λ e. found (0xa0 ‥ 0xa0) (drop 4 white_points) c e (λ l u. let z : c ≡ 0xa0 = omega arith in rw z)
      (before (drop 4 white_points) 0x800 c refl k)))))

  -- the numbers of three bytes
  module _ (a b d : ℕ) (ea : 0xe0 + c / 4096 ≡ a) (eb : six_of (c / 64) ≡ b) (ed : six_of c ≡ d) where
    three-to : 0x800 ≤ c → white3 a b d ≡ true → white_point c ≡ true
    unfolding white3 in2000 six_of white_point white_points in_any within
    three-to h e =
        if-one (x1 || x2 || y2) x3 e
        (λ e. if-one (x1 || x2) y2 e
        (λ e. if-one x1 x2 e
        (λ e. all a b 0xe1 0x9a (eqb d 0x80) e λ p q r. let t : d ≡ 0x80 = eqb-true d 0x80 r in let z : c ≡ 0x1680 = omega arith in rw z)
        (λ e. all a b 0xe2 0x80 (in2000 d) e λ p q r. if-one (within (0x80 ‥ 0x8a) d || within (0xa8 ‥ 0xa9) d) (eqb d 0xaf) r
        (λ e. if-one (within (0x80 ‥ 0x8a) d) (within (0xa8 ‥ 0xa9) d) e
        (λ e. let w = and_parts (leb 0x80 d) (leb d 0x8a) e in
        let l : d ≤ 0x8a = leb-true d 0x8a w.1 in
        rw (above (0x9 ‥ 0xd) c (omega arith), above (0x20 ‥ 0x20) c (omega arith), above (0x85 ‥ 0x85) c (omega arith), above (0xa0 ‥ 0xa0) c (omega arith), above (0x1680 ‥ 0x1680) c (omega arith), inside (0x2000 ‥ 0x200a) c (omega arith) (omega arith)))
        (λ e. let w = and_parts (leb 0xa8 d) (leb d 0xa9) e in
        let l : 0xa8 ≤ d = leb-true 0xa8 d w.0 in
        let u : d ≤ 0xa9 = leb-true d 0xa9 w.1 in
        rw (above (0x9 ‥ 0xd) c (omega arith), above (0x20 ‥ 0x20) c (omega arith), above (0x85 ‥ 0x85) c (omega arith), above (0xa0 ‥ 0xa0) c (omega arith), above (0x1680 ‥ 0x1680) c (omega arith), above (0x2000 ‥ 0x200a) c (omega arith), inside (0x2028 ‥ 0x2029) c (omega arith) (omega arith))))
        (λ r. let t : d ≡ 0xaf = eqb-true d 0xaf r in let z : c ≡ 0x202f = omega arith in rw z)))
        (λ e. all a b 0xe2 0x81 (eqb d 0x9f) e λ p q r. let t : d ≡ 0x9f = eqb-true d 0x9f r in let z : c ≡ 0x205f = omega arith in rw z))
        (λ e. all a b 0xe3 0x80 (eqb d 0x80) e λ p q r. let t : d ≡ 0x80 = eqb-true d 0x80 r in let z : c ≡ 0x3000 = omega arith in rw z)
      where
        x1 : Bool
        x1 = eqb a 0xe1 && eqb b 0x9a && eqb d 0x80

        x2 : Bool
        x2 = eqb a 0xe2 && eqb b 0x80 && in2000 d

        y2 : Bool
        y2 = eqb a 0xe2 && eqb b 0x81 && eqb d 0x9f

        x3 : Bool
        x3 = eqb a 0xe3 && eqb b 0x80 && eqb d 0x80

    three-from : 0x800 ≤ c → c < 0x10000 → white_point c ≡ true → white3 a b d ≡ true
    unfolding white3 in2000 six_of white_point white_points in_any within
    three-from h k e =
        found (0x9 ‥ 0xd) (drop 1 white_points) c e (λ l u. absurd (omega arith))
        (λ e. found (0x20 ‥ 0x20) (drop 2 white_points) c e (λ l u. absurd (omega arith))
        (λ e. found (0x85 ‥ 0x85) (drop 3 white_points) c e (λ l u. absurd (omega arith))
        (λ e. found (0xa0 ‥ 0xa0) (drop 4 white_points) c e (λ l u. absurd (omega arith))
        (λ e. found (0x1680 ‥ 0x1680) (drop 5 white_points) c e (λ l u. is 0xe1 0x9a 0x80 (omega arith) (omega arith) (omega arith) refl)
        (λ e. found (0x2000 ‥ 0x200a) (drop 6 white_points) c e
        (λ l u. let p : a ≡ 0xe2 = omega arith in let q : b ≡ 0x80 = omega arith in rw (p, q, inside (0x80 ‥ 0x8a) d (omega arith) (omega arith)))
        (λ e. found (0x2028 ‥ 0x2029) (drop 7 white_points) c e
        (λ l u. let p : a ≡ 0xe2 = omega arith in let q : b ≡ 0x80 = omega arith in rw (p, q, above (0x80 ‥ 0x8a) d (omega arith), inside (0xa8 ‥ 0xa9) d (omega arith) (omega arith)))
        (λ e. found (0x202f ‥ 0x202f) (drop 8 white_points) c e (λ l u. is 0xe2 0x80 0xaf (omega arith) (omega arith) (omega arith) refl)
        (λ e. found (0x205f ‥ 0x205f) (drop 9 white_points) c e (λ l u. is 0xe2 0x81 0x9f (omega arith) (omega arith) (omega arith) refl)
        (λ e. found (0x3000 ‥ 0x3000) [] c e (λ l u. is 0xe3 0x80 0x80 (omega arith) (omega arith) (omega arith) refl)
        (λ e. absurd (false≢true e)))))))))))
      where
        is : (x y z : ℕ) → a ≡ x → b ≡ y → d ≡ z → white3 x y z ≡ true → white3 a b d ≡ true
        is x y z p q r t = rw (p, q, r) t

  three-bytes : 0x800 ≤ c → c < 0x10000 → white3 (0xe0 + c / 4096) (six_of (c / 64)) (six_of c) ≡ white_point c
  three-bytes h k =
      iff (white3 (0xe0 + c / 4096) (six_of (c / 64)) (six_of c)) (white_point c)
      (three-to (0xe0 + c / 4096) (six_of (c / 64)) (six_of c) refl refl refl h)
      (three-from (0xe0 + c / 4096) (six_of (c / 64)) (six_of c) refl refl refl h k)

  four_bytes : 0x10000 ≤ c → white_point c ≡ false
  unfolding white_point white_points in_any
  four_bytes h = rw (
    above (0x9 ‥ 0xd) c (omega arith),
    above (0x20 ‥ 0x20) c (omega arith),
    above (0x85 ‥ 0x85) c (omega arith),
    above (0xa0 ‥ 0xa0) c
        (omega arith),
    above (0x1680 ‥ 0x1680) c (omega arith),
    above (0x2000 ‥ 0x200a) c (omega arith),
    above (0x2028 ‥ 0x2029) c (omega arith),
    above
        (0x202f ‥ 0x202f) c (omega arith),
    above (0x205f ‥ 0x205f) c (omega arith),
    above (0x3000 ‥ 0x3000) c (omega arith),
  )

pub white-encode : (c : ℕ) (s : List ℕ) → white_len (encode c ++ s) ≡ (if white_point c then length (encode c) else 0)
unfolding encode
white-encode c s = go (leb c 0x7f) (leb c 0x7ff) (leb c 0xffff) refl refl refl
  where
    go : (x y z : Bool) → leb c 0x7f ≡ x → leb c 0x7ff ≡ y → leb c 0xffff ≡ z → white_len (encode c ++ s) ≡ (if white_point c then length (encode c) else 0)
    go true y z p q r =
        let h : c ≤ 0x7f = leb-true c 0x7f p in
        rw p (len-one c (not-two c (λ e. omega arith)) (not_three c (λ e. omega arith) (λ e. omega arith) (λ e. omega arith)) s ∙ rw (one_byte c (omega arith)))
    go false true z p q r =
        let h : 0x7f < c = leb-false c 0x7f p in
        let k : c ≤ 0x7ff = leb-true c 0x7ff q in
        let a = 0xc0 + c / 64 in
        rw (p, q) (len-two a (omega arith) (six_of c) (not_three a (λ e. omega arith) (λ e. omega arith) (λ e. omega arith) (six_of c)) s ∙ rw (two_bytes c (omega arith) (omega arith)))
    go false false true p q r =
        let h : 0x7ff < c = leb-false c 0x7ff q in
        let k : c ≤ 0xffff = leb-true c 0xffff r in
        let a = 0xe0 + c / 4096 in
        rw (p, q, r) (len-three a (omega arith) (six_of (c / 64)) (not-two a (λ e. omega arith) (six_of (c / 64))) (six_of c) s ∙ rw (three-bytes c (omega arith) (omega arith)))
    go false false false p q r =
        let h : 0xffff < c = leb-false c 0xffff r in
        let a = 0xf0 + c / (2 ^ 18) in
        rw (p, q, r, four_bytes c (omega arith)) (len-one a (not-two a (λ e. omega arith)) (not_three a (λ e. omega arith) (λ e. omega arith) (λ e. omega arith)) _ ∙ rw (not-one a (omega arith)))
