-- What is answered, and what is left in the lists. Assumes nothing.
use Rattle.std.proofs.Common.{◌≡◌, refl, ap, ◌∙◌, ⊎_elim, ℕ, ◌+◌, ◌*◌, ◌≤◌, ◌<◌, arith, List, [], ◌∷◌, ◌++◌, Bool, true, false, ◌&&◌, length, drop, replicate, leb, le-leb}
use Rattle.std.proofs.lemmas.List.Edits.{sets-eq}
use Rattle.std.proofs.lemmas.Bool.{lt-leb, cases_lt}
use Rattle.std.proofs.Math.Seq.{length-sets}
use Rattle.refusal.specs.Base.{Answer, refused, ◌>>=◌, ◌>>◌, ensure}
use Rattle.pair_logs.specs.PairLogs.{Pair, Pairing, pairing, never_falls, flat, listed, pair_logs, pair_numbers, hammer_numbers, sound_numbers, output, counts_of}
use Rattle.pair_logs.specs.Contract.{Written, WrittenAll, Fit, Agrees}
use Rattle.pair_logs.specs.declared.Counts.{Counts}

unfoldable opened : Unit {0}
unfolding pair_logs listed ensure ◌>>◌ ◌>>=◌
opened = tt

flat-length : (ps : List Pair) → length (flat ps) ≡ length ps + length ps
unfolding flat
flat-length [] = refl
flat-length (p ∷ ps) = omega (arith, flat-length ps)

kept : {all old new : List ℕ} {n : ℕ} → Written all old new n → length new ≡ length old
kept {all} {old} w = ap length w.is ∙ length-sets old 0 all

-- a list that fits is followed by what was there
written_out : {all old new : List ℕ} {n : ℕ} → Written all old new n → n ≤ length new → new ≡ all ++ drop (length all) old
written_out {all} {old} w h = let e : 0 + length all ≡ length all = omega arith in w.is ∙ rw e at (sets-eq all old 0 (omega (arith, w.many, kept w)))

module _ (hammers sounds pairs hs ss : List ℕ) where
  pub long_hammers : 4096 < length hammers → pair_logs hammers sounds pairs hs ss ≡ refused 64 0 0
  unfolding opened
  long_hammers h = rw (lt-leb (length hammers) 4096 h)

  module _ (few : length hammers ≤ 4096) where
    pub long_sounds : 4096 < length sounds → pair_logs hammers sounds pairs hs ss ≡ refused 64 0 0
    unfolding opened
    long_sounds h = rw (le-leb (length hammers) 4096 few, lt-leb (length sounds) 4096 h)

    module _ (few' : length sounds ≤ 4096) where
      pub falling : never_falls 0 hammers && never_falls 0 sounds ≡ false → pair_logs hammers sounds pairs hs ss ≡ refused 63 0 0
      unfolding opened
      falling f = rw (le-leb (length hammers) 4096 few, le-leb (length sounds) 4096 few') (go (never_falls 0 hammers) (never_falls 0 sounds) f)
        where
          go : (a b : Bool) → a && b ≡ false → (ensure a 63 0 0 >> ensure b 63 0 0 >> listed pairs hs ss (pairing hammers sounds)) ≡ refused 63 0 0
          go true b e = rw e
          go false b e = refl

      module _ {pairs' hs' ss' : List ℕ} {c : Counts} (w : WrittenAll hammers sounds pairs pairs' hs hs' ss ss' c) where
        asked : pair_logs hammers sounds pairs hs ss ≡ listed pairs hs ss (pairing hammers sounds)
        unfolding opened
        asked = rw (le-leb (length hammers) 4096 few, le-leb (length sounds) 4096 few', w.hammers_rise, w.sounds_rise)

        short_pairs : length pairs' < 2 * c.pairs → pair_logs hammers sounds pairs hs ss ≡ refused 65 0 0
        unfolding opened
        short_pairs l = asked ∙ rw (lt-leb (length (flat (pairing hammers sounds).pairs)) (length pairs) (omega (arith, w.of_pairs.many, kept w.of_pairs)))

        module _ (fit : 2 * c.pairs ≤ length pairs') where
          pairs-fit : leb (length (flat (pairing hammers sounds).pairs)) (length pairs) ≡ true
          pairs-fit = le-leb (length (flat (pairing hammers sounds).pairs)) (length pairs) (omega (arith, w.of_pairs.many, kept w.of_pairs))

          short_hammers : length hs' < c.lone_hammers → pair_logs hammers sounds pairs hs ss ≡ refused 65 0 0
          unfolding opened
          short_hammers l = asked ∙ rw (pairs-fit, lt-leb (length (pairing hammers sounds).lone_hammers) (length hs) (omega (arith, w.of_hammers.many, kept w.of_hammers)))

          module _ (fit' : c.lone_hammers ≤ length hs') where
            hammers-fit : leb (length (pairing hammers sounds).lone_hammers) (length hs) ≡ true
            hammers-fit = le-leb (length (pairing hammers sounds).lone_hammers) (length hs) (omega (arith, w.of_hammers.many, kept w.of_hammers))

            short_sounds : length ss' < c.lone_sounds → pair_logs hammers sounds pairs hs ss ≡ refused 65 0 0
            unfolding opened
            short_sounds l = asked ∙ rw (pairs-fit, hammers-fit, lt-leb (length (pairing hammers sounds).lone_sounds) (length ss) (omega (arith, w.of_sounds.many, kept w.of_sounds)))

            agreed : c.lone_sounds ≤ length ss' → Agrees (pair_logs hammers sounds pairs hs ss) pairs pairs' hs hs' ss ss' c
            unfolding opened counts_of output pair_numbers hammer_numbers sound_numbers
            agreed l =
                let n : c.pairs ≡ length (pairing hammers sounds).pairs = omega (arith, w.of_pairs.many, flat-length (pairing hammers sounds).pairs) in
                rw (asked, pairs-fit, hammers-fit, le-leb (length (pairing hammers sounds).lone_sounds) (length ss) (omega (arith, w.of_sounds.many, kept w.of_sounds))) (record {
                  counts = cc (n, w.of_hammers.many, w.of_sounds.many);
                  of_pairs = written_out w.of_pairs fit;
                  of_hammers = written_out w.of_hammers fit';
                  of_sounds = written_out w.of_sounds l;
                })

        pub too_short : (Fit (length pairs') (length hs') (length ss') c → ⊥) → pair_logs hammers sounds pairs hs ss ≡ refused 65 0 0
        too_short n = ⊎_elim short_pairs
            (λ f. ⊎_elim (short_hammers f)
            (λ g. ⊎_elim (short_sounds f g) (λ h. absurd (n (f, g, h)))
            (cases_lt (length ss') c.lone_sounds))
            (cases_lt (length hs') c.lone_hammers))
            (cases_lt (length pairs') (2 * c.pairs))

        pub all_agree : Fit (length pairs') (length hs') (length ss') c → Agrees (pair_logs hammers sounds pairs hs ss) pairs pairs' hs hs' ss ss' c
        all_agree (f, g, h) = agreed f g h

-- a refusal is told, and leaves zeros
module _ {x : Answer Pairing} {k l s : ℕ} (q : x ≡ refused k l s) where
  pub refused_told : refused k l s ≡ counts_of x
  unfolding counts_of
  refused_told = rw q

  pub zeros_out : (write : Pairing → List ℕ) (old new : List ℕ) → length new ≡ length old → replicate (length new) 0 ≡ output write x old
  unfolding output
  zeros_out write old new h = rw (q, h)

pub ruleset cases = (long_hammers, long_sounds, falling)

pub ruleset told = (refused_told, zeros_out)
