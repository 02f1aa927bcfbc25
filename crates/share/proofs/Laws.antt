-- Rounds of strokes: whole ones, the last one, and that the definition's are as many whole ones as the supply allows and one with the rest.
-- Assumes nothing.
use Rattle.std.specs.Prelude.{if◌then◌else◌, get_or, Option, None, Some, IfSome, Contains, All}
use Rattle.std.specs.List.{sum_by}
use Rattle.std.proofs.lemmas.List.Recursion.{is_sum_by, max_bounds, max_least}
use Rattle.std.proofs.Common.{◌≡◌, refl, sym, ap, ◌∙◌, ℕ, zero, suc, ◌+◌, ◌*◌, ◌-◌, ◌/◌, ◌≤◌, ◌<◌, min, add-zero, mul-suc, div-mul-le_self, arith, ◌⊎◌, inl, inr, ⊎_elim, List, [], ◌∷◌, Bool, true, false, ◌&&◌, ltb, length, ltb-true, ltb-false, le-leb}
use Rattle.std.proofs.lemmas.Bool.{lt-leb, cases_lt}
use Rattle.refusal.specs.Base.{good, refused, ◌>>=◌, ◌>>◌, ensure}
use Rattle.share.specs.Share.{Drum, gots, sum, up_to, first_shares, stroke, round, rounds, shares, eight, greatest, share}
use Rattle.share.specs.Contract.{Whole}

-- ---- one stroke, as arithmetic
pub stroke_is : (rest : ℕ) (d : Drum) → stroke rest d ≡ min rest (min 1 (d.wish - d.got))
unfolding stroke
stroke_is rest d = go (ltb 0 rest) refl (ltb d.got d.wish) refl
  where
    go : (x : Bool) → ltb 0 rest ≡ x → (y : Bool) → ltb d.got d.wish ≡ y → (if x && y then 1 else 0) ≡ min rest (min 1 (d.wish - d.got))
    go true p true q = omega (arith, ltb-true 0 rest p, ltb-true d.got d.wish q)
    go true p false q = omega (arith, ltb-false d.got d.wish q)
    go false p true q = omega (arith, ltb-false 0 rest p)
    go false p false q = omega (arith, ltb-false 0 rest p)

-- ---- so many whole rounds from nothing

pub sum_up_to : (n : ℕ) (ws : List ℕ) → sum (gots (up_to n ws)) ≡ sum_by (λ w. min w n) ws
unfolding up_to gots sum
sum_up_to n ws = is_sum_by (λ xs. sum (gots (up_to n xs))) (λ w. min w n) refl (λ _ _. refl) ws

pub up_to-more : (s t : ℕ) (ws : List ℕ) → s ≤ t → sum (gots (up_to s ws)) ≤ sum (gots (up_to t ws))
unfolding up_to gots sum
up_to-more s t [] h = omega arith
up_to-more s t (w ∷ ws) h = omega (arith, up_to-more s t ws h)

pub up_to_none : (ws : List ℕ) → sum (gots (up_to 0 ws)) ≡ 0
unfolding up_to gots sum
up_to_none [] = refl
up_to_none (w ∷ ws) = omega (arith, up_to_none ws)

-- they cost at most as many strokes for each drum
pub up_to-cost : (t : ℕ) (ws : List ℕ) → sum (gots (up_to t ws)) ≤ t * length ws
unfolding up_to gots sum
up_to-cost t [] = omega arith
up_to-cost t (w ∷ ws) = rw (mul-suc t (length ws)) (omega (arith, up_to-cost t ws))

-- nobody wants more than the greatest wish
pub up_to-cut : (m t : ℕ) (ws : List ℕ) → greatest ws ≤ m → up_to t ws ≡ up_to (min t m) ws
unfolding up_to greatest
up_to-cut m t [] ok = refl
up_to-cut m t (w ∷ ws) ok =
    let e : min w t ≡ min w (min t m) = omega arith in
    rw (e, up_to-cut m t ws (omega arith))

pub full-sum : (m : ℕ) (ws : List ℕ) → greatest ws ≤ m → sum (gots (up_to m ws)) ≡ sum ws
unfolding up_to greatest gots sum
full-sum m [] ok = refl
full-sum m (w ∷ ws) ok =
    omega (arith, full-sum m ws (omega arith))

pub up_to-wished : (t : ℕ) (ws : List ℕ) → sum (gots (up_to t ws)) ≤ sum ws
unfolding up_to gots sum
up_to-wished t [] = omega arith
up_to-wished t (w ∷ ws) = omega (arith, up_to-wished t ws)

-- ---- one round more

-- what a drum gets in it: all that is left, or what it wants of this round
record Served (rest s before after : ℕ) : Type 0 where
  pub within : s ≤ rest
  pub wanted : before + s ≤ after
  pub enough : (s ≡ rest) ⊎ (before + s ≡ after)

served : (rest w t : ℕ) → Served rest (stroke rest (record { wish = w; got = min w t })) (min w t) (min w (suc t))
served rest w t =
    let s = stroke_is rest (record { wish = w; got = min w t }) in
    record {
      within = omega arith;
      wanted = omega arith;
      enough = ⊎_elim (λ h. inr (omega arith)) (λ h. inl (omega arith)) (cases_lt 0 rest);
    }

-- with enough left it is whole, drum by drum
whole-turn : {rest s before after : ℕ} (have want : ℕ) → Served rest s before after → have ≤ want → after + want ≤ before + have + rest → (before + s ≡ after) × (want ≤ have + (rest - s))
whole-turn have want v m h = ⊎_elim (λ e. (omega arith, omega arith)) (λ e. (e, omega arith)) v.enough

pub round_whole : (t rest : ℕ) (ws : List ℕ) → sum (gots (up_to (suc t) ws)) ≤ sum (gots (up_to t ws)) + rest → round rest (up_to t ws) ≡ up_to (suc t) ws
unfolding round up_to gots sum
round_whole t rest [] h = refl
round_whole t rest (w ∷ ws) h =
    let turn = whole-turn _ _ (served rest w t) (up_to-more t (suc t) ws (omega arith)) h in
    rw (turn.0, round_whole t (rest - stroke rest (record { wish = w; got = min w t })) ws turn.1)

-- with no more than a whole one takes, all that is left goes out
part-turn : {rest s before after : ℕ} (have want : ℕ) → Served rest s before after → have ≤ want → before + have + rest ≤ after + want → have + (rest - s) ≤ want
part-turn have want v m h = ⊎_elim (λ e. omega arith) (λ e. omega arith) v.enough

part-sum : {rest s before after : ℕ} (have now : ℕ) → Served rest s before after → now ≡ have + (rest - s) → before + s + now ≡ before + have + rest
part-sum have now v e = omega (arith, v.within)

pub round-part : (t rest : ℕ) (ws : List ℕ) → sum (gots (up_to t ws)) + rest ≤ sum (gots (up_to (suc t) ws)) → sum (gots (round rest (up_to t ws))) ≡ sum (gots (up_to t ws)) + rest
unfolding round up_to gots sum
round-part t rest [] h = omega arith
round-part t rest (w ∷ ws) h =
    let v = served rest w t in
    part-sum _ _ v (round-part t (rest - stroke rest (record { wish = w; got = min w t })) ws (part-turn _ _ v (up_to-more t (suc t) ws (omega arith)) h))

-- with nothing left, or nobody who wants, nothing changes
pub round-none : (ds : List Drum) → round 0 ds ≡ ds
unfolding round
round-none [] = refl
round-none (d ∷ ds) =
    let s : stroke 0 d ≡ 0 = omega (arith, stroke_is 0 d) in
    rw s (rw (add-zero d.got) (ap (λ (es : List Drum). d ∷ es) (round-none ds)))

pub round-full : (rest : ℕ) (ws : List ℕ) → round rest (up_to (greatest ws) ws) ≡ up_to (greatest ws) ws
round-full rest ws =
    let m = greatest ws in
    let z : min (suc m) m ≡ m = omega arith in
    let e = rw z at (up_to-cut m (suc m) ws (omega arith)) in
    round_whole m rest ws (omega (arith, ap (λ (ds : List Drum). sum (gots ds)) e)) ∙ e

-- ---- round after round

pub rounds-same : (k allowed : ℕ) (ds : List Drum) → round (allowed - sum (gots ds)) ds ≡ ds → rounds k allowed ds ≡ ds
unfolding rounds
rounds-same zero allowed ds e = refl
rounds-same (suc k) allowed ds e = rw e (rounds-same k allowed ds e)

module _ {ws : List ℕ} {allowed n rest : ℕ} (w : Whole ws allowed n rest) where
  -- the whole rounds, and one with the rest
  abbrev final : List Drum
  final = round (allowed - sum (gots (up_to n ws))) (up_to n ws)

  pub full-final : n ≡ greatest ws → final ≡ up_to (greatest ws) ws
  full-final e = rw e (round-full _ ws)

  pub final-same : round (allowed - sum (gots final)) final ≡ final
  final-same = ⊎_elim
      (λ e. rw (full-final e) (round-full _ ws))
      (λ h. let z : allowed - sum (gots final) ≡ 0 = omega (arith, round-part n (allowed - sum (gots (up_to n ws))) ws (omega (arith, w.fits)), w.fits) in
      rw z (round-none final))
      w.last

  -- a level that fits is at most n
  reaches : (t : ℕ) → t ≤ greatest ws → sum (gots (up_to t ws)) ≤ allowed → t ≤ n
  reaches t h fits = ⊎_elim
      (λ l. ⊎_elim (λ e. omega arith) (λ k. omega (arith, up_to-more (suc n) t ws l)) w.last)
      (λ l. l)
      (cases_lt n t)

  rounds-are : (k t : ℕ) → t ≤ n → greatest ws ≤ t + k → rounds k allowed (up_to t ws) ≡ final
  unfolding rounds
  rounds-are zero t h l =
      let e : n ≡ greatest ws = omega (arith, w.small) in
      let e' : t ≡ greatest ws = omega (arith, w.small) in
      rw e' (sym (full-final e))
  rounds-are (suc k) t h l = ⊎_elim
      (λ m. rw (round_whole t (allowed - sum (gots (up_to t ws))) ws (omega (arith, up_to-more t (suc t) ws (omega arith), up_to-more (suc t) n ws m, w.fits)))
      (rounds-are k (suc t) m (omega arith)))
      (λ m. let e : t ≡ n = omega arith in rw e (rounds-same k allowed final final-same))
      (cases_lt t n)

  -- the first shares are whole rounds too
  pub first-reaches : min (allowed / length ws) (greatest ws) ≤ n
  first-reaches =
      let q = allowed / length ws in
      reaches (min q (greatest ws)) (omega arith) (omega (arith, up_to-more (min q (greatest ws)) q ws (omega arith), up_to-cost q ws, div-mul-le_self allowed (length ws)))

  module _ (ok : greatest ws ≤ 255) where
    pub shares-are : shares ws allowed ≡ gots final
    unfolding shares first_shares
    shares-are =
        let q = allowed / length ws in
        ap gots (rw (up_to-cut (greatest ws) q ws (omega arith)) (rounds-are 255 (min q (greatest ws)) first-reaches (omega arith)))

    pub dealt : eight (gots (round rest (up_to n ws))) ≡ eight (shares ws allowed)
    dealt = rw (w.left, shares-are)

-- ---- what is answered

unfoldable opened : Unit {0}
unfolding share ensure ◌>>◌ ◌>>=◌
opened = tt

module _ (ws : List ℕ) (allowed : ℕ) where
  pub no_drum : length ws < 1 → share ws allowed ≡ refused 61 0 0
  unfolding opened
  no_drum h = rw (lt-leb 1 (length ws) h)

  module _ (some : 1 ≤ length ws) where
    pub too_many : 8 < length ws → share ws allowed ≡ refused 61 0 0
    unfolding opened
    too_many h = rw (le-leb 1 (length ws) some, lt-leb (length ws) 8 h)

    module _ (few : length ws ≤ 8) where
      pub too_much : 255 < greatest ws → share ws allowed ≡ refused 61 0 0
      unfolding opened
      too_much h = rw (le-leb 1 (length ws) some, le-leb (length ws) 8 few, lt-leb (greatest ws) 255 h)

      module _ (ok : greatest ws ≤ 255) where
        pub too_little : allowed < length ws → share ws allowed ≡ refused 62 0 0
        unfolding opened
        too_little h = rw (le-leb 1 (length ws) some, le-leb (length ws) 8 few, le-leb (greatest ws) 255 ok, lt-leb (length ws) allowed h)

        pub shared : length ws ≤ allowed → share ws allowed ≡ good (eight (shares ws allowed))
        unfolding opened
        shared h = rw (le-leb 1 (length ws) some, le-leb (length ws) 8 few, le-leb (greatest ws) 255 ok, le-leb (length ws) allowed h)

-- no wish is above the greatest
pub greatest_bounds : (ws : List ℕ) (i d : ℕ) → i < length ws → get_or ws i d ≤ greatest ws
unfolding greatest
greatest_bounds ws i d h = max_bounds greatest (λ w. w) refl (λ _ _. refl) ws i d h

-- the wish that none is above
pub greatest_found : (ws : List ℕ) (r : Option ℕ) → IfSome r (Contains ws) → IfSome r (λ m. All (λ w. w ≤ m) ws) → IfSome r (λ m. m ≡ greatest ws)
unfolding greatest
greatest_found ws None c a = tt
greatest_found ws (Some m) c a =
    omega (arith, greatest_bounds ws c.0 m c.1, c.2, max_least greatest (λ w. w) refl (λ _ _. refl) ws 0 m (λ i h. a i 0 h))

pub ruleset answers = (no_drum, too_many, too_much, too_little)
