-- Logs worked out by the definition. Assumes nothing.
use Rattle.std.proofs.Common.{◌≡◌, refl, ℕ, List, [], ◌∷◌, replicate}
use Rattle.refusal.specs.Base.{Answer, good, refused}
use Rattle.refusal.proofs.Open.{Base-open}
use Rattle.pair_logs.specs.PairLogs.{Pairing, near, place, all_alone, walk, pairing, never_falls, flat, listed, pair_logs}

unfoldable opened : Unit {0}
unfolding near place all_alone walk pairing never_falls flat listed pair_logs Base-open
opened = tt

-- two logs, lent so many places for pairs, lone hammers and lone sounds
abbrev of : List ℕ → List ℕ → ℕ → ℕ → ℕ → Answer Pairing
of hammers sounds p h s = pair_logs hammers sounds (replicate p 7) (replicate h 7) (replicate s 7)

-- the first that is near, though another is nearer
not-the-nearest : of (20 ∷ []) (0 ∷ 39 ∷ 60 ∷ []) 2 0 2 ≡ good (record { pairs = record { hammer = 0; sound = 0 } ∷ []; lone_hammers = []; lone_sounds = 1 ∷ 2 ∷ [] })
unfolding opened
not-the-nearest = refl

forty : of (0 ∷ []) (40 ∷ []) 2 0 0 ≡ good (record { pairs = record { hammer = 0; sound = 0 } ∷ []; lone_hammers = []; lone_sounds = [] })
unfolding opened
forty = refl

-- the sound may come first
forty-before : of (40 ∷ []) (0 ∷ []) 2 0 0 ≡ good (record { pairs = record { hammer = 0; sound = 0 } ∷ []; lone_hammers = []; lone_sounds = [] })
unfolding opened
forty-before = refl

forty-one : of (0 ∷ []) (41 ∷ []) 0 1 1 ≡ good (record { pairs = []; lone_hammers = 0 ∷ []; lone_sounds = 0 ∷ [] })
unfolding opened
forty-one = refl

-- the greatest time is not near the least
no_wrap : of (4294967295 ∷ []) (0 ∷ []) 0 1 1 ≡ good (record { pairs = []; lone_hammers = 0 ∷ []; lone_sounds = 0 ∷ [] })
unfolding opened
no_wrap = refl

equal-times : of (5 ∷ 5 ∷ []) (5 ∷ 5 ∷ 5 ∷ []) 4 0 1
    ≡ good (record { pairs = record { hammer = 0; sound = 0 } ∷ record { hammer = 1; sound = 1 } ∷ []; lone_hammers = []; lone_sounds = 2 ∷ [] })
unfolding opened
equal-times = refl

-- a pair takes two places
one_place : of (0 ∷ []) (0 ∷ []) 1 0 0 ≡ refused 65 0 0
unfolding opened
one_place = refl

-- 63 before 65
falls-first : of (1 ∷ 0 ∷ []) (0 ∷ []) 0 0 0 ≡ refused 63 0 0
unfolding opened
falls-first = refl

-- 64 before 63
too-long-first : of (1 ∷ 0 ∷ []) (replicate 4097 0) 0 0 0 ≡ refused 64 0 0
unfolding opened
too-long-first = refl
