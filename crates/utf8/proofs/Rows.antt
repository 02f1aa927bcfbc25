-- What a byte leads to, as the code goes over a text: a first byte by its row of the table, one behind it by the range that is due. Assumes nothing.
use Rattle.std.proofs.Common.{◌≡◌, ℕ, zero, suc, ◌-◌, ◌≤◌, ◌<◌, List, [], ◌∷◌, true, false, length, drop, replicate, eqb, refl, sym, ap, arith, drop_of_length-le}
use Rattle.std.proofs.Math.Dec.{eqb-suc-zero}
use Rattle.std.proofs.Math.Option.{none}
use Rattle.refusal.specs.Base.{maybe}
use Rattle.utf8.specs.Utf8.{Range, ◌‥◌, Row, tail, table, tails_of, utf8_from}
use Rattle.utf8.specs.Contract.{due_of}
use Rattle.utf8.proofs.Ranges.{below, above, inside}
use Rattle.utf8.proofs.TableLaws.{passed, in_row, no_row, past-rows}

module _ (b : ℕ) (rest : List ℕ) where
  row_first : (n : ℕ) (r : Row) (rows : List Row) → drop n table ≡ r ∷ rows → passed n table r.first.low ≡ true → r.first.low ≤ b → b ≤ r.first.high → utf8_from [] (b ∷ rest) ≡ utf8_from r.behind rest
  unfolding utf8_from maybe
  row_first n r rows e t h k = rw (in_row n r rows b e t h k)

  none_first : tails_of b ≡ none → utf8_from [] (b ∷ rest) ≡ false
  unfolding utf8_from maybe
  none_first e = rw e

  -- the rows, from the first on, and what none of them has
  pub ascii : b ≤ 0x7f → utf8_from [] (b ∷ rest) ≡ utf8_from [] rest
  unfolding table
  ascii h = row_first 0 _ _ refl refl (omega arith) h

  pub lone : 0x80 ≤ b → b < 0xc2 → utf8_from [] (b ∷ rest) ≡ false
  lone h k = none_first (no_row b h k)

  pub two : 0xc2 ≤ b → b ≤ 0xdf → utf8_from [] (b ∷ rest) ≡ utf8_from (due_of 1 0x80 0xbf) rest
  unfolding table
  two h k = row_first 1 _ _ refl refl h k

  pub three_e0 : b ≡ 0xe0 → utf8_from [] (b ∷ rest) ≡ utf8_from (due_of 2 0xa0 0xbf) rest
  unfolding table
  three_e0 e = row_first 2 _ _ refl refl (omega arith) (omega arith)

  pub three_low : 0xe1 ≤ b → b ≤ 0xec → utf8_from [] (b ∷ rest) ≡ utf8_from (due_of 2 0x80 0xbf) rest
  unfolding table
  three_low h k = row_first 3 _ _ refl refl h k

  pub three_ed : b ≡ 0xed → utf8_from [] (b ∷ rest) ≡ utf8_from (due_of 2 0x80 0x9f) rest
  unfolding table
  three_ed e = row_first 4 _ _ refl refl (omega arith) (omega arith)

  pub three_high : 0xee ≤ b → b ≤ 0xef → utf8_from [] (b ∷ rest) ≡ utf8_from (due_of 2 0x80 0xbf) rest
  unfolding table
  three_high h k = row_first 5 _ _ refl refl h k

  pub four_f0 : b ≡ 0xf0 → utf8_from [] (b ∷ rest) ≡ utf8_from (due_of 3 0x90 0xbf) rest
  unfolding table
  four_f0 e = row_first 6 _ _ refl refl (omega arith) (omega arith)

  pub four : 0xf1 ≤ b → b ≤ 0xf3 → utf8_from [] (b ∷ rest) ≡ utf8_from (due_of 3 0x80 0xbf) rest
  unfolding table
  four h k = row_first 7 _ _ refl refl h k

  pub four_f4 : b ≡ 0xf4 → utf8_from [] (b ∷ rest) ≡ utf8_from (due_of 3 0x80 0x8f) rest
  unfolding table
  four_f4 e = row_first 8 _ _ refl refl (omega arith) (omega arith)

  pub past : 0xf4 < b → utf8_from [] (b ∷ rest) ≡ false
  past h = none_first (past-rows b h)

  -- a byte behind the first
  module _ (left low high : ℕ) where
    pub too_low : (left ≡ 0 → ⊥) → b < low → utf8_from (due_of left low high) (b ∷ rest) ≡ false
    unfolding utf8_from
    too_low n h = go left n
      where
        go : (k : ℕ) → (k ≡ 0 → ⊥) → utf8_from (due_of k low high) (b ∷ rest) ≡ false
        go zero m = absurd (m refl)
        go (suc k) m = rw (below (low ‥ high) b h)

    pub too_high : (left ≡ 0 → ⊥) → high < b → utf8_from (due_of left low high) (b ∷ rest) ≡ false
    unfolding utf8_from
    too_high n h = go left n
      where
        go : (k : ℕ) → (k ≡ 0 → ⊥) → utf8_from (due_of k low high) (b ∷ rest) ≡ false
        go zero m = absurd (m refl)
        go (suc k) m = rw (above (low ‥ high) b h)

    tails : (k : ℕ) → replicate k tail ≡ due_of k 0x80 0xbf
    tails zero = refl
    tails (suc k) = refl

    pub in_range : (left ≡ 0 → ⊥) → low ≤ b → b ≤ high → utf8_from (due_of left low high) (b ∷ rest) ≡ utf8_from (due_of (left - 1) 0x80 0xbf) rest
    unfolding utf8_from
    in_range n h k = go left n
      where
        go : (m : ℕ) → (m ≡ 0 → ⊥) → utf8_from (due_of m low high) (b ∷ rest) ≡ utf8_from (due_of (m - 1) 0x80 0xbf) rest
        go zero m = absurd (m refl)
        go (suc j) m =
            let e : suc j - 1 ≡ j = omega arith in
            rw (inside (low ‥ high) b h k, e) (ap (λ (l : List Range). utf8_from l rest) (tails j))

-- the end of the text
pub ended : (s : List ℕ) (at left low high : ℕ) → length s ≤ at → utf8_from (due_of left low high) (drop at s) ≡ eqb left 0
unfolding utf8_from
ended s at zero low high h = rw (drop_of_length-le s h)
ended s at (suc left) low high h = rw (drop_of_length-le s h) (sym (eqb-suc-zero left))

pub ruleset firsts = (ascii, lone, two, three_e0, three_low, three_ed, three_high, four_f0, four, four_f4, past)

pub ruleset nexts = (too_low, too_high, in_range)
