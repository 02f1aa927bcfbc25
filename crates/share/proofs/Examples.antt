-- Beats worked out by the definition. Assumes nothing.
use Rattle.std.proofs.Common.{◌≡◌, refl, [], ◌∷◌, replicate}
use Rattle.refusal.specs.Base.{good, refused}
use Rattle.refusal.proofs.Open.{Base-open}
use Rattle.share.specs.Share.{gots, sum, up_to, first_shares, stroke, round, rounds, shares, eight, greatest, share}

unfoldable opened : Unit {0}
unfolding gots sum up_to first_shares stroke round rounds shares eight greatest share Base-open
opened = tt

-- first 1, 2 and 2, then two rounds
two-rounds : share (1 ∷ 9 ∷ 9 ∷ []) 8 ≡ good (1 ∷ 4 ∷ 3 ∷ 0 ∷ 0 ∷ 0 ∷ 0 ∷ 0 ∷ [])
unfolding opened
two-rounds = refl

-- the rest stays
all-met : share (255 ∷ []) 4294967295 ≡ good (255 ∷ 0 ∷ 0 ∷ 0 ∷ 0 ∷ 0 ∷ 0 ∷ 0 ∷ [])
unfolding opened
all-met = refl

one_each : share (replicate 8 3) 8 ≡ good (replicate 8 1)
unfolding opened
one_each = refl

fewer : share (replicate 8 0) 7 ≡ refused 62 0 0
unfolding opened
fewer = refl

-- 61 before 62
above : share (256 ∷ []) 0 ≡ refused 61 0 0
unfolding opened
above = refl

nobody : share [] 8 ≡ refused 61 0 0
unfolding opened
nobody = refl

nine : share (replicate 9 0) 9 ≡ refused 61 0 0
unfolding opened
nine = refl
