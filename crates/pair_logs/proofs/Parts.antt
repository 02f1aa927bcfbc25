-- Every position of a log is in a pair or alone, once. Assumes nothing.
use Rattle.std.proofs.Common.{◌≡◌, ℕ, suc, ◌+◌, ◌≤◌, ◌<◌, arith, ⊎_elim, List, [], ◌∷◌, length}
use Rattle.std.proofs.lemmas.Bool.{cases_lt}
use Rattle.pair_logs.specs.PairLogs.{Pairing, hammers_of, sounds_of, times, Near, Rules, RisesFrom, Parted}
use Rattle.pair_logs.proofs.Laws.{times_more, hit_same, hit_other}
use Rattle.pair_logs.proofs.Steps.{Placed, ended, paired, hammer_alone, sound_alone}

-- the positions from n up to `end` are in one of two rising lists, once, and nothing else is
record PartedFrom (n end : ℕ) (these those : List ℕ) : Type 0 where
  pub before : (k : ℕ) → k < n → times k these + times k those ≡ 0
  pub each : (k : ℕ) → n ≤ k → k < end → times k these + times k those ≡ 1
  pub behind : (k : ℕ) → end ≤ k → times k these + times k those ≡ 0
  pub all : n + (length these + length those) ≡ end
  pub these_rise : RisesFrom n these
  pub those_rise : RisesFrom n those

none : (n end : ℕ) → n ≡ end → PartedFrom n end [] []
unfolding times RisesFrom
none n end e = record {
  before = λ k h. omega arith;
  each = λ k h l. absurd (omega arith);
  behind = λ k h. omega arith;
  all = omega arith;
  these_rise = tt;
  those_rise = tt;
}

rises-sooner : (n : ℕ) (ms : List ℕ) → RisesFrom (suc n) ms → RisesFrom n ms
unfolding RisesFrom
rises-sooner n [] r = tt
rises-sooner n (m ∷ ms) r = (omega arith, r.1)

swapped : {n end : ℕ} {these those : List ℕ} → PartedFrom n end these those → PartedFrom n end those these
swapped p = record {
  before = λ k h. omega (arith, p.before k h);
  each = λ k h l. omega (arith, p.each k h l);
  behind = λ k h. omega (arith, p.behind k h);
  all = omega arith;
  these_rise = p.those_rise;
  those_rise = p.these_rise;
}

-- one position more, in front
with-these : {n end : ℕ} {these those : List ℕ} → PartedFrom (suc n) end these those → PartedFrom n end (n ∷ these) those
unfolding RisesFrom
with-these {n} {end} {these} {those} p = record {
  before = λ k h. omega (arith, times_more k n these, hit_other k n (omega arith), p.before k (omega arith));
  each = λ k h l. ⊎_elim
      (λ above. omega (arith, times_more k n these, hit_other k n (omega arith), p.each k above l))
      (λ at. omega (arith, times_more k n these, hit_same k n (omega arith), p.before k (omega arith)))
      (cases_lt n k);
  behind = λ k h. omega (arith, times_more k n these, hit_other k n (omega (arith, p.all)), p.behind k h);
  all = omega (arith, p.all);
  these_rise = (omega arith, p.these_rise);
  those_rise = rises-sooner n those p.those_rise;
}

with-those : {n end : ℕ} {these those : List ℕ} → PartedFrom (suc n) end these those → PartedFrom n end these (n ∷ those)
with-those p = swapped (with-these (swapped p))

whole : {count : ℕ} {these those : List ℕ} → PartedFrom 0 count these those → Parted count these those
whole p = record {
  each = λ k h. p.each k (omega arith) h;
  no_other = p.behind;
  all = omega (arith, p.all);
  paired_rise = p.these_rise;
  alone_rise = p.those_rise;
}

at-most-once : {count : ℕ} {these those : List ℕ} → Parted count these those → (k : ℕ) → times k these ≤ 1
at-most-once {count} p k = ⊎_elim (λ h. omega (arith, p.each k h)) (λ h. omega (arith, p.no_other k h)) (cases_lt k count)

module _ {hammers sounds : List ℕ} where
  hammers-from : {i j : ℕ} {r : Pairing} → Placed hammers sounds i j r → PartedFrom i (length hammers) (hammers_of r.pairs) r.lone_hammers
  unfolding hammers_of
  hammers-from (ended i j h s) = none i (length hammers) h
  hammers-from (paired i j h s n w) = with-these (hammers-from w)
  hammers-from (hammer_alone i j f w) = with-those (hammers-from w)
  hammers-from (sound_alone i j f w) = hammers-from w

  sounds-from : {i j : ℕ} {r : Pairing} → Placed hammers sounds i j r → PartedFrom j (length sounds) (sounds_of r.pairs) r.lone_sounds
  unfolding sounds_of
  sounds-from (ended i j h s) = none j (length sounds) s
  sounds-from (paired i j h s n w) = with-these (sounds-from w)
  sounds-from (hammer_alone i j f w) = sounds-from w
  sounds-from (sound_alone i j f w) = with-those (sounds-from w)

  near-from : {i j : ℕ} {r : Pairing} → Placed hammers sounds i j r → Near hammers sounds r.pairs
  unfolding Near
  near-from (ended i j h s) = tt
  near-from (paired i j h s n w) = (h, s, n, near-from w)
  near-from (hammer_alone i j f w) = near-from w
  near-from (sound_alone i j f w) = near-from w

  module _ {r : Pairing} (w : Placed hammers sounds 0 0 r) where
    pub hammers-parted : Parted (length hammers) (hammers_of r.pairs) r.lone_hammers
    hammers-parted = whole (hammers-from w)

    pub sounds-parted : Parted (length sounds) (sounds_of r.pairs) r.lone_sounds
    sounds-parted = whole (sounds-from w)

    pub kept : Rules hammers sounds r.pairs
    kept = record {
      one_sound = at-most-once hammers-parted;
      one_hammer = at-most-once sounds-parted;
      all_near = near-from w;
    }
