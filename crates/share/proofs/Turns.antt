-- A turn of each loop. Assumes nothing.
use Rattle.std.proofs.Common.{◌≡◌, ℕ, suc, ◌+◌, ◌-◌, ◌≤◌, ◌<◌, min, List, [], ◌∷◌, ◌++◌, length, get_or, take, drop, set, replicate, sym, ap, ◌∙◌, arith, add-one, append-nil, drop_of_length-le, take-suc-set, length-set, take-append-drop, drop-cons, drop-set-lt, length-take-le}
use Rattle.std.proofs.Math.Seq.{append_snoc}
use Rattle.share.specs.Share.{Drum, gots, up_to, stroke, round, eight}
use Rattle.share.proofs.Laws.{stroke_is}

module _ (ws : List ℕ) (i : ℕ) where
  pub round_next : (t left : ℕ) → i < length ws → (let d : Drum = record { wish = get_or ws i 0; got = min (get_or ws i 0) t } in
      gots (round left (up_to t (drop i ws))) ≡ (min (get_or ws i 0) t + stroke left d) ∷ gots (round (left - stroke left d) (up_to t (drop (i + 1) ws))))
  unfolding up_to gots round
  round_next t left h = rw (add-one, drop-cons ws i 0 h)

  pub round_end : (t left : ℕ) → length ws ≤ i → gots (round left (up_to t (drop i ws))) ≡ []
  unfolding up_to gots round
  round_end t left h = rw (drop_of_length-le ws {i = i} h)

-- of all numbers the first i are stored among eight, the others are left, and the places behind are still 0
pub record Stored (all out : List ℕ) (i : ℕ) (left : List ℕ) : Type 0 where
  pub front : take i out ++ left ≡ all
  pub behind : drop i out ≡ replicate (8 - i) 0
  pub long : length out ≡ 8

pub stored_more : {all out left : List ℕ} {i : ℕ} (v : ℕ) → i < 8 → Stored all out i (v ∷ left) → Stored all (set out i v) (i + 1) left
stored_more {all} {out} {left} {i} v h s =
    let inside : i < length out = omega (arith, s.long) in
    record {
      front = rw (add-one, take-suc-set out i v) (append_snoc (take i out) v left ∙ s.front);
      behind =
          let zeros : replicate {A = ℕ} (8 - i) 0 ≡ 0 ∷ replicate (8 - suc i) 0 = (let e : 8 - i ≡ suc (8 - suc i) = omega arith in rw e) in
          let there : get_or out i 0 ∷ drop (suc i) out ≡ 0 ∷ replicate (8 - suc i) 0 = sym (drop-cons out i 0 inside) ∙ s.behind ∙ zeros in
          rw (add-one, drop-set-lt (suc i) out i v (omega arith)) (cc);
      long = simp length-set s.long;
    }

pub stored_all : {all out : List ℕ} {i : ℕ} → i ≤ 8 → Stored all out i [] → out ≡ eight all
unfolding eight
stored_all {all} {out} {i} h s =
    let e : take i out ≡ all = sym (append-nil (take i out)) ∙ s.front in
    let n : length all ≡ i = ap length (sym e) ∙ length-take-le i out (omega (arith, s.long)) in
    sym (take-append-drop i out) ∙ rw (s.behind, e, n)

pub ruleset turns = (round_next, round_end, stored_more, stored_all, stroke_is)
