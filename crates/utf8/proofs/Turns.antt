-- What white_at, trim_start and trim_end find at a place of the text, one law for each of their answers. Assumes nothing.
use Rattle.std.specs.Prelude.{if◌then◌else◌}
use Rattle.std.specs.Prelude.{Option as Maybe, Some, None, MatchOption}
use Rattle.std.specs.Option.{unwrap_or}
use Rattle.std.proofs.Common.{◌≡◌, refl, sym, ap, ◌∙◌, List, [], ◌∷◌, Bool, true, false, ℕ, zero, suc, ◌+◌, ◌-◌, ◌≤◌, ◌<◌, arith, length, get_or}
use Rattle.std.proofs.Math.Bool.{false≢true}
use Rattle.std.proofs.Math.Option.{some, none}
use Rattle.refusal.specs.Base.{maybe}
use Rattle.utf8.specs.White.{white1, white2, white3, white_at, white_len, leading, trim_end}
use Rattle.utf8.specs.Part.{part}
use Rattle.utf8.specs.Contract.{Ends}
use Rattle.utf8.proofs.Laws.{part-empty, part-cons, part_length, part-drop, part-append, white-most, leading-none, leading-on, first-none, no_second, no_third, end-white, end_none}

module _ (s : List ℕ) (at to : ℕ) (k : to ≤ length s) where
  one_more : at < to → part s at to ≡ get_or s at 0 ∷ part s (at + 1) to
  one_more h = part-cons s at to h k

  two-more : at + 1 < to → part s at to ≡ get_or s at 0 ∷ get_or s (at + 1) 0 ∷ part s (at + 2) to
  two-more h =
      let z : at + 1 + 1 ≡ at + 2 = omega arith in
      one_more (omega arith) ∙ ap (λ (t : List ℕ). get_or s at 0 ∷ t) (part-cons s (at + 1) to h k ∙ rw z)

  three-more : at + 2 < to → part s at to ≡ get_or s at 0 ∷ get_or s (at + 1) 0 ∷ get_or s (at + 2) 0 ∷ part s (at + 3) to
  three-more h =
      let z : at + 2 + 1 ≡ at + 3 = omega arith in
      two-more (omega arith) ∙ ap (λ (t : List ℕ). get_or s at 0 ∷ get_or s (at + 1) 0 ∷ t) (part-cons s (at + 2) to h k ∙ rw z)

  pub white_nil : to ≡ at → white_len (part s at to) ≡ 0
  unfolding white_len
  white_nil e = rw (e, part-empty s at)

-- the tests of the definition, as they come out, by the first bytes of a text
pub len_none : (t : List ℕ) → length t < 1 → white_len t ≡ 0
unfolding white_len
len_none [] h = refl
len_none (a ∷ t) h = absurd (omega arith)

pub len_one : (t : List ℕ) → 1 ≤ length t → white1 (get_or t 0 0) ≡ true → white_len t ≡ 1
unfolding white_len white_at maybe
len_one [] h p = absurd (omega arith)
len_one (a ∷ []) h p = rw p
len_one (a ∷ b ∷ []) h p = rw p
len_one (a ∷ b ∷ c ∷ t) h p = rw p

pub len_short : (t : List ℕ) → length t < 2 → white1 (get_or t 0 0) ≡ false → white_len t ≡ 0
unfolding white_len white_at maybe
len_short [] h p = refl
len_short (a ∷ []) h p = rw p
len_short (a ∷ b ∷ t) h p = absurd (omega arith)

pub len_two : (t : List ℕ) → 2 ≤ length t → white1 (get_or t 0 0) ≡ false → white2 (get_or t 0 0) (get_or t 1 0) ≡ true → white_len t ≡ 2
unfolding white_len white_at maybe
len_two [] h p q = absurd (omega arith)
len_two (a ∷ []) h p q = absurd (omega arith)
len_two (a ∷ b ∷ []) h p q = rw (p, q)
len_two (a ∷ b ∷ c ∷ t) h p q = rw (p, q)

pub len_of_two : (t : List ℕ) → length t < 3 → white1 (get_or t 0 0) ≡ false → white2 (get_or t 0 0) (get_or t 1 0) ≡ false → white_len t ≡ 0
unfolding white_len white_at maybe
len_of_two [] h p q = refl
len_of_two (a ∷ []) h p q = rw p
len_of_two (a ∷ b ∷ []) h p q = rw (p, q)
len_of_two (a ∷ b ∷ c ∷ t) h p q = absurd (omega arith)

pub len_three : (t : List ℕ) (x : Bool) → 3 ≤ length t → white1 (get_or t 0 0) ≡ false → white2 (get_or t 0 0) (get_or t 1 0) ≡ false
    → white3 (get_or t 0 0) (get_or t 1 0) (get_or t 2 0) ≡ x → white_len t ≡ (if x then 3 else 0)
unfolding white_len white_at maybe
len_three [] x h p q r = absurd (omega arith)
len_three (a ∷ []) x h p q r = absurd (omega arith)
len_three (a ∷ b ∷ []) x h p q r = absurd (omega arith)
len_three (a ∷ b ∷ c ∷ t) true h p q r = rw (p, q, r)
len_three (a ∷ b ∷ c ∷ t) false h p q r = rw (p, q, r)

-- a turn of trim_start, and its end
module _ (s : List ℕ) (at to n : ℕ) (e : n ≡ white_len (part s at to)) where
  pub start_turn : 0 < n → at + leading (part s at to) ≡ at + n + leading (part s (at + n) to)
  start_turn h = omega (arith, leading-on (part s at to) n (sym e) h, ap leading (part-drop s at to n))

  pub start_end : n ≡ 0 → at + leading (part s at to) ≡ at
  start_end z = omega (arith, leading-none (part s at to) (sym e ∙ z))

-- a turn of trim_end, and its end
module _ (s : List ℕ) (from to n : ℕ) (h : from ≤ to) (k : to ≤ length s) (e : Ends s from to n) where
  pub end_turn : 0 < n → trim_end (part s from to) ≡ trim_end (part s from (to - n))
  end_turn p =
      let l : length (part s (to - n) to) ≡ n = part_length s (to - n) to (omega (arith, e.fits)) k ∙ omega (arith, e.fits) in
      ap trim_end (part-append s from (to - n) to (omega (arith, e.fits)) (omega arith))
      ∙ end-white (part s from (to - n)) (part s (to - n) to) (omega arith) (e.ends p ∙ sym l)

  pub end_end : (all : ℕ) → trim_end (part s from all) ≡ trim_end (part s from to) → n ≡ 0 → to ≡ from + length (trim_end (part s from all))
  end_end all same z =
      let l : length (part s from to) ≡ to - from = part_length s from to h k in
      let t : trim_end (part s from to) ≡ part s from to
      = end_none (part s from to) (λ i p q. e.none z (from + i) (omega arith) (omega arith) (sym (ap white_len (part-drop s from to i)) ∙ q ∙ omega arith)) in
      omega (arith, ap length (same ∙ t))

-- a white space character has at most three bytes, so that none ends a part where none of one, two or three bytes does
module _ (s : List ℕ) (from to : ℕ) where
  abbrev pub No : ℕ → Type 0
  No n = n ≤ to - from → white_len (part s (to - n) to) ≡ n → ⊥

  pub ends_none : No 1 → No 2 → No 3 → Ends s from to 0
  ends_none f g h =
      record {
        fits = omega arith;
        ends = λ p. absurd (omega arith);
        none = λ z k l m e.
            let y : to - (to - k) ≡ k = omega arith in
            go (to - k) (omega arith) (omega (arith, white-most (part s k to))) (omega arith) (ap (λ (i : ℕ). white_len (part s i to)) y ∙ e);
      }
    where
      go : (n : ℕ) → 0 < n → n ≤ 3 → No n
      go zero p q = absurd (omega arith)
      go (suc zero) p q = f
      go (suc (suc zero)) p q = g
      go (suc (suc (suc zero))) p q = h
      go (suc (suc (suc (suc n)))) p q = absurd (omega arith)

  -- by a search among the three lengths
  pub ends-searched : (r : Maybe ℕ) {n : ℕ} → MatchOption r ((k : ℕ) → 1 ≤ k → k < 4 → No k) (λ i. (1 ≤ i) × (i < 4) × ((i ≤ to - from) × (white_len (part s (to - i) to) ≡ i)) × ((k : ℕ) → 1 ≤ k → k < i → No k)) → n ≡ unwrap_or r 0 → Ends s from to n
  ends-searched (Some i) h e = let w = h.2 in rw e (record { fits = w.0; ends = λ p. w.1; none = λ z. absurd (omega (arith, h.0, z)) })
  ends-searched None h e = rw e (ends_none (h 1 (omega arith) (omega arith)) (h 2 (omega arith) (omega arith)) (h 3 (omega arith) (omega arith)))

-- a byte from 21 to 7F neither begins a white space character nor ends one
module _ (s : List ℕ) (to : ℕ) (k : to ≤ length s) where
  pub visible_first : (at : ℕ) → at < to → 0x20 < get_or s at 0 → get_or s at 0 < 0x80 → white_len (part s at to) ≡ 0
  unfolding white_len maybe
  visible_first at h l m = rw (part-cons s at to h k, first-none (get_or s at 0) (part s (at + 1) to) l (omega arith))

  visible-second : (at : ℕ) → at + 2 ≡ to → get_or s (at + 1) 0 < 0x80 → white_len (part s at to) ≡ 2 → ⊥
  unfolding white_len white_at maybe
  visible-second at h m e =
      let p : part s at to ≡ get_or s at 0 ∷ get_or s (at + 1) 0 ∷ [] = two-more s at to k (omega arith) ∙ rw h (ap (λ (t : List ℕ). get_or s at 0 ∷ get_or s (at + 1) 0 ∷ t) (part-empty s to)) in
      go (white1 (get_or s at 0)) (white2 (get_or s at 0) (get_or s (at + 1) 0)) (no_second (get_or s (at + 1) 0) (λ x y. omega arith) (get_or s at 0)) (sym (ap white_len p) ∙ e)
    where
      go : (x y : Bool) → y ≡ false → maybe (if x then some 0 else if y then some 1 else none) 0 suc ≡ 2 → ⊥
      go true y q r = omega arith
      go false true q r = false≢true (sym q)
      go false false q r = omega arith

  visible-third : (at : ℕ) → at + 3 ≡ to → get_or s (at + 2) 0 < 0x80 → white_len (part s at to) ≡ 3 → ⊥
  unfolding white_len white_at maybe
  visible-third at h m e =
      let a : ℕ = get_or s at 0 in
      let b : ℕ = get_or s (at + 1) 0 in
      let c : ℕ = get_or s (at + 2) 0 in
      go (white1 a) (white2 a b) (white3 a b c) (no_third c (λ x y. omega arith) a b) (sym (ap white_len (three-more s at to k (omega arith))) ∙ e)
    where
      go : (x y z : Bool) → z ≡ false → maybe (if x then some 0 else if y then some 1 else if z then some 2 else none) 0 suc ≡ 3 → ⊥
      go true y z q r = omega arith
      go false true z q r = omega arith
      go false false true q r = false≢true (sym q)
      go false false false q r = omega arith

  pub visible_last : (from : ℕ) → from < to → 0x20 < get_or s (to - 1) 0 → get_or s (to - 1) 0 < 0x80 → Ends s from to 0
  visible_last from h l m =
      ends_none s from to (λ p e. omega (arith, visible_first (to - 1) (omega arith) l m))
      (λ p. visible-second (to - 2) (omega arith) (let z : to - 2 + 1 ≡ to - 1 = omega arith in rw z m))
      (λ p. visible-third (to - 3) (omega arith) (let z : to - 3 + 2 ≡ to - 1 = omega arith in rw z m))

pub ruleset whites = (len_none, len_one, len_short, len_two, len_of_two, len_three)
