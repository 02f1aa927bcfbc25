-- Document 02, P12: which hammer of a log makes a pair with which sound of another, and what is promised of it. Uses Base and Told of
-- `refusal`. Assumes nothing.
use Rattle.std.specs.Prelude.{◌≡◌, ℕ, suc, ◌+◌, ◌≤◌, ◌<◌, List, [], ◌∷◌, ◌++◌, map, Bool, true, ◌&&◌, leb, ltb, eqb, length, get_or, drop, replicate, if◌then◌else◌}
use Rattle.refusal.specs.Base.{Answer, good, refused, ◌>>◌, ensure}
use Rattle.refusal.specs.Told.{refusal}
use Rattle.pair_logs.specs.declared.PairAnswer.{PairAnswer}
use Rattle.pair_logs.specs.declared.PairAnswer.TheVariants.{Paired, Refused}

-- a pair: the positions, from 0, of a hammer and of its sound
pub record Pair : Type 0 where
  pub hammer : ℕ
  pub sound : ℕ

-- the pairs, and the positions of the hammers and sounds that are alone
pub record Pairing : Type 0 where
  pub pairs : List Pair
  pub lone_hammers : List ℕ
  pub lone_sounds : List ℕ

abbrev pub nothing : Pairing
nothing = record { pairs = []; lone_hammers = []; lone_sounds = [] }

abbrev pub pair : ℕ → ℕ → Pairing → Pairing
pair i j r = record { pairs = record { hammer = i; sound = j } ∷ r.pairs; lone_hammers = r.lone_hammers; lone_sounds = r.lone_sounds }

abbrev pub lone_hammer : ℕ → Pairing → Pairing
lone_hammer i r = record { pairs = r.pairs; lone_hammers = i ∷ r.lone_hammers; lone_sounds = r.lone_sounds }

abbrev pub lone_sound : ℕ → Pairing → Pairing
lone_sound j r = record { pairs = r.pairs; lone_hammers = r.lone_hammers; lone_sounds = j ∷ r.lone_sounds }

-- at most 40 ms apart
unfoldable pub near : ℕ → ℕ → Bool
near h s = leb h (s + 40) && leb s (h + 40)

-- the first unplaced of each log are a pair if they lie that near, else the earlier is alone; without a sound the hammer is. h is the first
-- unplaced hammer, at position i; `others` places those behind it; j is the position of the first unplaced sound
unfoldable pub place : ℕ → (ℕ → ℕ → List ℕ → Pairing) → ℕ → ℕ → List ℕ → Pairing
place h others i j [] = lone_hammer i (others (suc i) j [])
place h others i j (s ∷ ss) =
    if near h s then pair i j (others (suc i) (suc j) ss)
    else if ltb h s then lone_hammer i (others (suc i) j (s ∷ ss))
    else lone_sound j (place h others i (suc j) ss)

-- without a hammer the sounds are alone
unfoldable pub all_alone : ℕ → List ℕ → Pairing
all_alone j [] = nothing
all_alone j (s ∷ ss) = lone_sound j (all_alone (suc j) ss)

unfoldable pub walk : List ℕ → ℕ → ℕ → List ℕ → Pairing
walk [] i j ss = all_alone j ss
walk (h ∷ hs) i j ss = place h (walk hs) i j ss

unfoldable pub pairing : List ℕ → List ℕ → Pairing
pairing hammers sounds = walk hammers 0 0 sounds

-- no time is below the one before it; before the first stands 0
unfoldable pub never_falls : ℕ → List ℕ → Bool
never_falls last [] = true
never_falls last (t ∷ ts) = leb last t && never_falls t ts

-- a list of pairs in numbers: the hammer's position, then the sound's
unfoldable pub flat : List Pair → List ℕ
flat [] = []
flat (p ∷ ps) = p.hammer ∷ p.sound ∷ flat ps

-- 65: one of the three lent lists too short
unfoldable pub listed : List ℕ → List ℕ → List ℕ → Pairing → Answer Pairing
listed pairs hammers sounds r =
    ensure (leb (length (flat r.pairs)) (length pairs)) 65 0 0
    >> ensure (leb (length r.lone_hammers) (length hammers)) 65 0 0
    >> ensure (leb (length r.lone_sounds) (length sounds)) 65 0 0
    >> good r

-- 64: over 4,096 times in a log. 63: a time below the one before it
unfoldable pub pair_logs : List ℕ → List ℕ → List ℕ → List ℕ → List ℕ → Answer Pairing
pair_logs hammers sounds pairs lone_hammers lone_sounds =
    ensure (leb (length hammers) 4096) 64 0 0
    >> ensure (leb (length sounds) 4096) 64 0 0
    >> ensure (never_falls 0 hammers) 63 0 0
    >> ensure (never_falls 0 sounds) 63 0 0
    >> listed pairs lone_hammers lone_sounds (pairing hammers sounds)

unfoldable pub pair_numbers : Pairing → List ℕ
pair_numbers r = flat r.pairs

unfoldable pub hammer_numbers : Pairing → List ℕ
hammer_numbers r = r.lone_hammers

unfoldable pub sound_numbers : Pairing → List ℕ
sound_numbers r = r.lone_sounds

-- what is left in a lent list: what is written of a pairing, and behind it what was there; or zeros
unfoldable pub output : (Pairing → List ℕ) → Answer Pairing → List ℕ → List ℕ
output write (good r) old = write r ++ drop (length (write r)) old
output write (refused k l s) old = replicate (length old) 0

-- ---- the answer of the code

-- the counts of the three lists
abbrev pub answer_of : PairAnswer → Answer (ℕ × ℕ × ℕ)
answer_of (Paired p h s) = good (p, h, s)
answer_of (Refused e) = refusal e

unfoldable pub counts_of : Answer Pairing → Answer (ℕ × ℕ × ℕ)
counts_of (good r) = good (length r.pairs, length r.lone_hammers, length r.lone_sounds)
counts_of (refused k l s) = refused k l s

-- ---- what is promised of a pairing

unfoldable pub hammers_of : List Pair → List ℕ
hammers_of = map (λ p. p.hammer)

unfoldable pub sounds_of : List Pair → List ℕ
sounds_of = map (λ p. p.sound)

-- how often a number stands in a list
unfoldable pub times : ℕ → List ℕ → ℕ
times n [] = 0
times n (m ∷ ms) = if eqb n m then suc (times n ms) else times n ms

-- each pair is of a hammer and a sound that there are, at most 40 ms apart
unfoldable pub Near : List ℕ → List ℕ → List Pair → Type 0
Near hammers sounds [] = Unit
Near hammers sounds (p ∷ ps) =
    (p.hammer < length hammers) × (p.sound < length sounds) × (near (get_or hammers p.hammer 0) (get_or sounds p.sound 0) ≡ true) × Near hammers sounds ps

-- the two rules: at most one partner each, at most 40 ms apart
pub record Rules (hammers sounds : List ℕ) (ps : List Pair) : Type 0 where
  pub one_sound : (i : ℕ) → times i (hammers_of ps) ≤ 1
  pub one_hammer : (j : ℕ) → times j (sounds_of ps) ≤ 1
  pub all_near : Near hammers sounds ps

-- each number is above the one before it; the first is at least n
unfoldable pub RisesFrom : ℕ → List ℕ → Type 0
RisesFrom n [] = Unit
RisesFrom n (m ∷ ms) = (n ≤ m) × RisesFrom (suc m) ms

-- the positions of a log of so many times are each in one of two rising lists, once, and nothing else is
pub record Parted (count : ℕ) (paired alone : List ℕ) : Type 0 where
  pub each : (i : ℕ) → i < count → times i paired + times i alone ≡ 1
  pub no_other : (i : ℕ) → count ≤ i → times i paired + times i alone ≡ 0
  pub all : length paired + length alone ≡ count
  pub paired_rise : RisesFrom 0 paired
  pub alone_rise : RisesFrom 0 alone

pub record Best (hammers sounds : List ℕ) (r : Pairing) : Type 0 where
  pub of_hammers : Parted (length hammers) (hammers_of r.pairs) r.lone_hammers
  pub of_sounds : Parted (length sounds) (sounds_of r.pairs) r.lone_sounds
  pub keeps : Rules hammers sounds r.pairs
  -- every other pairing under the two rules has at most as many pairs
  pub most : (ps : List Pair) → Rules hammers sounds ps → length ps ≤ length r.pairs
