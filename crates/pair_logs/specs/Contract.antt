-- What the inner functions promise. Uses Base and Told of `refusal`; PairLogs of this crate. Assumes nothing.
use Rattle.std.specs.Prelude.{◌≡◌, ◌⊎◌, ℕ, zero, suc, ◌+◌, ◌-◌, ◌*◌, ◌≤◌, ◌<◌, List, [], ◌∷◌, true, false, ◌&&◌, length, drop}
use Rattle.std.proofs.lemmas.List.Edits.{sets}
use Rattle.refusal.specs.Base.{Answer, good}
use Rattle.refusal.specs.Told.{refusal}
use Rattle.refusal.specs.declared.Refusal.{Refusal}
use Rattle.refusal.specs.declared.Refusal.TheVariants.{LogFalls}
use Rattle.pair_logs.specs.declared.Turn.{Turn}
use Rattle.pair_logs.specs.declared.Turn.TheVariants.{Pair, LoneHammer, LoneSound}
use Rattle.pair_logs.specs.declared.Lists.{Lists}
use Rattle.pair_logs.specs.declared.Walked.{Walked}
use Rattle.pair_logs.specs.declared.Counts.{Counts}
use Rattle.pair_logs.specs.PairLogs.{Pairing, near, walk, pairing, never_falls, flat, pair_numbers, hammer_numbers, sound_numbers, output, counts_of}

-- what becomes of a hammer and a sound that are the first unplaced, by the times before them
abbrev pub Turns : ℕ → ℕ → ℕ → ℕ → Turn → Type 0
Turns a h b s Pair = (a ≤ h) × (b ≤ s) × (near h s ≡ true)
Turns a h b s LoneHammer = (a ≤ h) × (b ≤ s) × (near h s ≡ false) × (h < s)
Turns a h b s LoneSound = (a ≤ h) × (b ≤ s) × (near h s ≡ false) × (s ≤ h)

-- one of them is below the time before it
abbrev pub Below : ℕ → ℕ → ℕ → ℕ → Refusal → Type 0
Below a h b s e = (e ≡ LogFalls) × ((h < a) ⊎ (s < b))

-- the walk from two positions on
unfoldable pub walk_at : List ℕ → List ℕ → ℕ → ℕ → Pairing
walk_at hammers sounds i j = walk (drop i hammers) i j (drop j sounds)

-- a list that is written number by number: what is left to write makes of it what writing all makes of the old one
pub record Puts (all old new : List ℕ) (at : ℕ) (left : List ℕ) : Type 0 where
  pub rest : sets new at left ≡ sets old 0 all
  pub many : at + length left ≡ length all

-- the three lists lie where they lay
pub record Keeps (old new : Lists) : Type 0 where
  pub pairs : new.pairs.ghost_name ≡ old.pairs.ghost_name
  pub hammers : new.lone_hammers.ghost_name ≡ old.lone_hammers.ghost_name
  pub sounds : new.lone_sounds.ghost_name ≡ old.lone_sounds.ghost_name

-- how far the walk has come: the first unplaced of each log, the times before them, the pairs so far, and what is left to write
pub record Going (hammers sounds pairs₀ pairs hs₀ hs ss₀ ss : List ℕ) (i a j b p : ℕ) : Type 0 where
  pub i_inside : i ≤ length hammers
  pub j_inside : j ≤ length sounds
  pub i_least : p ≤ i
  pub j_least : p ≤ j
  pub hammers_rise : never_falls a (drop i hammers) ≡ never_falls 0 hammers
  pub sounds_rise : never_falls b (drop j sounds) ≡ never_falls 0 sounds
  pub of_pairs : Puts (flat (pairing hammers sounds).pairs) pairs₀ pairs (2 * p) (flat (walk_at hammers sounds i j).pairs)
  pub of_hammers : Puts (pairing hammers sounds).lone_hammers hs₀ hs (i - p) (walk_at hammers sounds i j).lone_hammers
  pub of_sounds : Puts (pairing hammers sounds).lone_sounds ss₀ ss (j - p) (walk_at hammers sounds i j).lone_sounds

-- to the end of one log
pub record Walks (hammers sounds : List ℕ) (old new : Lists) (w : Walked) : Type 0 where
  pub keeps : Keeps old new
  pub going : Going hammers sounds old.pairs.now new.pairs.now old.lone_hammers.now new.lone_hammers.now old.lone_sounds.now new.lone_sounds.now w.hammers.from w.hammers.before w.sounds.from w.sounds.before w.pairs
  pub ended : (length hammers ≤ w.hammers.from) ⊎ (length sounds ≤ w.sounds.from)

-- a time of a log is below the one before it
abbrev pub Falls : List ℕ → List ℕ → Refusal → Type 0
Falls hammers sounds e = (e ≡ LogFalls) × (never_falls 0 hammers && never_falls 0 sounds ≡ false)

-- so many numbers from one on
unfoldable pub range : ℕ → ℕ → List ℕ
range i zero = []
range i (suc k) = i ∷ range (suc i) k

pub record Rests (times : List ℕ) (from before paired : ℕ) (old new : List ℕ) : Type 0 where
  pub rise : never_falls before (drop from times) ≡ true
  pub written : new ≡ sets old (from - paired) (range from (length times - from))

abbrev pub FallsFrom : List ℕ → ℕ → ℕ → Refusal → Type 0
FallsFrom times from before e = (e ≡ LogFalls) × (never_falls before (drop from times) ≡ false)

-- a list is written from a lent list's front, as far as it has places, and its numbers are counted
pub record Written (all old new : List ℕ) (count : ℕ) : Type 0 where
  pub is : new ≡ sets old 0 all
  pub many : count ≡ length all

pub record WrittenAll (hammers sounds pairs pairs' hs hs' ss ss' : List ℕ) (c : Counts) : Type 0 where
  pub hammers_rise : never_falls 0 hammers ≡ true
  pub sounds_rise : never_falls 0 sounds ≡ true
  pub few : c.pairs ≤ length hammers
  pub of_pairs : Written (flat (pairing hammers sounds).pairs) pairs pairs' (2 * c.pairs)
  pub of_hammers : Written (pairing hammers sounds).lone_hammers hs hs' c.lone_hammers
  pub of_sounds : Written (pairing hammers sounds).lone_sounds ss ss' c.lone_sounds

pub record Places (hammers sounds : List ℕ) (old new : Lists) (c : Counts) : Type 0 where
  pub keeps : Keeps old new
  pub written : WrittenAll hammers sounds old.pairs.now new.pairs.now old.lone_hammers.now new.lone_hammers.now old.lone_sounds.now new.lone_sounds.now c

-- lists of so many places have room for so many; a pair takes two
abbrev pub Fit : ℕ → ℕ → ℕ → Counts → Type 0
Fit pairs hs ss c = (2 * c.pairs ≤ pairs) × (c.lone_hammers ≤ hs) × (c.lone_sounds ≤ ss)

-- an answer, and the three lists written
pub record Agrees (answer : Answer Pairing) (pairs pairs' hs hs' ss ss' : List ℕ) (c : Counts) : Type 0 where
  pub counts : good (c.pairs, c.lone_hammers, c.lone_sounds) ≡ counts_of answer
  pub of_pairs : pairs' ≡ output pair_numbers answer pairs
  pub of_hammers : hs' ≡ output hammer_numbers answer hs
  pub of_sounds : ss' ≡ output sound_numbers answer ss

pub record AgreesAll (answer : Answer Pairing) (old new : Lists) (c : Counts) : Type 0 where
  pub keeps : Keeps old new
  pub agrees : Agrees answer old.pairs.now new.pairs.now old.lone_hammers.now new.lone_hammers.now old.lone_sounds.now new.lone_sounds.now c

-- a refusal says nothing of the lists
abbrev pub Refuses : Answer Pairing → Refusal → Type 0
Refuses answer e = answer ≡ refusal e
