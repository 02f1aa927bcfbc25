-- What is promised of every beat. Assumes nothing.
use Rattle.std.proofs.Common.{◌≡◌, refl, sym, ap, subst, ◌∙◌, ℕ, zero, suc, ◌-◌, ◌≤◌, ◌<◌, min, arith, ◌⊎◌, inl, inr, ⊎_elim, List, [], ◌∷◌, ◌++◌, length, get_or, replicate, length-append}
use Rattle.std.proofs.Math.ListN.{get_or-append}
use Rattle.std.proofs.lemmas.Grind.{common_steps}
use Rattle.std.proofs.lemmas.List.{places, get_or_past, length-replicate}
use Rattle.std.proofs.lemmas.List.Recursion.{is_sum_by}
use Rattle.std.proofs.lemmas.Bool.{cases_lt}
use Rattle.refusal.specs.Base.{good}
use Rattle.refusal.proofs.Tools.{good-inj, refused≢good}
use Rattle.share.specs.Share.{Drum, gots, sum, up_to, stroke, round, shares, eight, greatest, share, Fair, Beat, AllFair}
use Rattle.share.specs.Contract.{Whole}
use Rattle.share.proofs.Laws.{stroke_is, up_to_none, up_to-wished, full-sum, round-part, greatest_bounds, full-final, first-reaches, shares-are}
use Rattle.share.proofs.Laws.{no_drum, too_many, too_much, too_little, shared}

-- ---- zeros behind

zeros-sum : (ns : List ℕ) (k : ℕ) → sum (ns ++ replicate k 0) ≡ sum ns
unfolding sum
zeros-sum ns k = grind (arith, common_steps, is_sum_by sum (λ n. n) refl (λ _ _. refl))

zeros-at : (ns : List ℕ) (k i : ℕ) → length ns ≤ i → get_or (ns ++ replicate k 0) i 0 ≡ 0
zeros-at ns k i h = grind (arith, places, get_or_past)

-- ---- a round with the rest, drum by drum

round-long : (n rest : ℕ) (ws : List ℕ) → length (gots (round rest (up_to n ws))) ≡ length ws
unfolding gots round up_to
round-long n rest [] = refl
round-long n rest (w ∷ ws) = ap suc (round-long n (rest - stroke rest (record { wish = w; got = min w n })) ws)

-- a drum has what the whole rounds give it, and one stroke more if it wants it
round-at : (n rest : ℕ) (ws : List ℕ) (i : ℕ) → i < length ws →
    (min (get_or ws i 0) n ≤ get_or (gots (round rest (up_to n ws))) i 0) × (get_or (gots (round rest (up_to n ws))) i 0 ≤ min (get_or ws i 0) (suc n))
unfolding gots round up_to
round-at n rest [] i h = absurd (omega arith)
round-at n rest (w ∷ ws) zero h = let s = stroke_is rest (record { wish = w; got = min w n }) in (omega arith, omega arith)
round-at n rest (w ∷ ws) (suc i) h = round-at n (rest - stroke rest (record { wish = w; got = min w n })) ws i (omega arith)

module _ (ws : List ℕ) (allowed : ℕ) where
  -- some number of whole rounds is all that the supply allows
  whole : {X : Type 0} → ((n : ℕ) → Whole ws allowed n (allowed - sum (gots (up_to n ws))) → X) → X
  whole {X} k = go (greatest ws) (omega arith) (inl refl)
    where
      go : (n : ℕ) → n ≤ greatest ws → (n ≡ greatest ws) ⊎ (allowed < sum (gots (up_to (suc n) ws))) → X
      go zero h l = k 0 (record { fits = omega (arith, up_to_none ws); left = refl; small = h; last = l })
      go (suc n) h l = ⊎_elim
          (λ over. go n (omega arith) (inr over))
          (λ fits. k (suc n) (record { fits = fits; left = refl; small = h; last = l }))
          (cases_lt allowed (sum (gots (up_to (suc n) ws))))

  module _ (few : length ws ≤ 8) (ok : greatest ws ≤ 255) where
    fair-round : (n : ℕ) → Whole ws allowed n (allowed - sum (gots (up_to n ws))) → Fair ws allowed (eight (gots (round (allowed - sum (gots (up_to n ws))) (up_to n ws))))
    unfolding eight
    fair-round n w = record {
      least = λ i h. rw (front i h) (omega (arith, (round-at n rest ws i h).0, first-reaches w, greatest_bounds ws i 0 h));
      most = λ i h. rw (front i h) (omega (arith, (round-at n rest ws i h).1));
      total = zeros-sum gs (8 - length gs) ∙ ⊎_elim
          (λ e. let f = ap (λ (ds : List Drum). sum (gots ds)) (full-final w e) ∙ full-sum (greatest ws) ws (omega arith) in omega (arith, f, fits e))
          (λ h. omega (arith, round-part n rest ws (omega (arith, w.fits)), w.fits, up_to-wished (suc n) ws))
          w.last;
      places = simp (length-append, length-replicate) (omega (arith, long));
      absent = λ i h. zeros-at gs (8 - length gs) i (omega (arith, long));
    }
      where
        rest : ℕ
        rest = allowed - sum (gots (up_to n ws))

        gs : List ℕ
        gs = gots (round rest (up_to n ws))

        long : length gs ≡ length ws
        long = round-long n rest ws

        front : (i : ℕ) → i < length ws → get_or (gs ++ replicate (8 - length gs) 0) i 0 ≡ get_or gs i 0
        front i h = get_or-append gs _ 0 i (omega (arith, long))

        fits : n ≡ greatest ws → sum ws ≤ allowed
        fits e = omega (arith, full-sum (greatest ws) ws (omega arith), subst (λ (m : ℕ). sum (gots (up_to m ws)) ≤ allowed) e w.fits)

    fair-shares : Fair ws allowed (eight (shares ws allowed))
    fair-shares = whole (λ n w. rw (shares-are w ok) (fair-round n w))

  pub fair : (ns : List ℕ) → share ws allowed ≡ good ns → Fair ws allowed ns
  fair ns e = ⊎_elim
      (λ none. refused≢good ns 61 0 0 (sym (no_drum ws allowed none) ∙ e))
      (λ some. ⊎_elim
      (λ many. refused≢good ns 61 0 0 (sym (too_many ws allowed some many) ∙ e))
      (λ few. ⊎_elim
      (λ much. refused≢good ns 61 0 0 (sym (too_much ws allowed some few much) ∙ e))
      (λ ok. ⊎_elim
      (λ little. refused≢good ns 62 0 0 (sym (too_little ws allowed some few ok little) ∙ e))
      (λ enough. rw (good-inj _ ns (sym (shared ws allowed some few ok enough) ∙ e)) at (fair-shares few ok))
      (cases_lt allowed (length ws)))
      (cases_lt 255 (greatest ws)))
      (cases_lt 8 (length ws)))
      (cases_lt (length ws) 1)

pub all_fair : (beats : List Beat) → AllFair beats
unfolding AllFair
all_fair [] = tt
all_fair (b ∷ bs) = (fair b.wishes b.allowed, all_fair bs)
