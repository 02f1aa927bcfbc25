-- A turn of the walk: what it places, and how the lists grow. Assumes nothing.
use Rattle.std.proofs.Common.{◌≡◌, refl, sym, ap, ◌∙◌, ◌⊎◌, inl, inr, ⊎_elim, ℕ, zero, suc, ◌+◌, ◌-◌, ◌*◌, ◌≤◌, ◌<◌, add-one, arith, List, [], ◌∷◌, true, false, ◌&&◌, leb, length, get_or, drop, set, length-drop, drop_of_length-le, drop-cons, le-leb, lt-ltb, le-ltb}
use Rattle.std.proofs.lemmas.List.Edits.{sets}
use Rattle.std.proofs.lemmas.Bool.{lt-leb, and_right}
use Rattle.pair_logs.specs.PairLogs.{nothing, pair, lone_hammer, lone_sound, near, place, all_alone, walk, pairing, never_falls, flat}
use Rattle.pair_logs.specs.Contract.{Turns, walk_at, Puts, Going, range, Rests, Written, WrittenAll}
use Rattle.pair_logs.specs.declared.Turn.TheVariants.{Pair, LoneHammer, LoneSound}

-- ---- what a turn places

hammers-alone : (hs : List ℕ) (i j : ℕ) → walk hs i j [] ≡ record { pairs = []; lone_hammers = range i (length hs); lone_sounds = [] }
unfolding walk place all_alone range
hammers-alone [] i j = refl
hammers-alone (h ∷ hs) i j = ap (lone_hammer i) (hammers-alone hs (suc i) j)

sounds-alone : (j : ℕ) (ss : List ℕ) → all_alone j ss ≡ record { pairs = []; lone_hammers = []; lone_sounds = range j (length ss) }
unfolding all_alone range
sounds-alone j [] = refl
sounds-alone j (s ∷ ss) = ap (lone_sound j) (sounds-alone (suc j) ss)

module _ (hammers sounds : List ℕ) (i j : ℕ) where
  pub at_pair : i < length hammers → j < length sounds → near (get_or hammers i 0) (get_or sounds j 0) ≡ true
      → walk_at hammers sounds i j ≡ pair i j (walk_at hammers sounds (i + 1) (j + 1))
  unfolding walk_at walk place
  at_pair h s n = rw (add-one i, add-one j, drop-cons hammers i 0 h, drop-cons sounds j 0 s, n)

  pub at-hammer : i < length hammers → j < length sounds → near (get_or hammers i 0) (get_or sounds j 0) ≡ false → get_or hammers i 0 < get_or sounds j 0
      → walk_at hammers sounds i j ≡ lone_hammer i (walk_at hammers sounds (i + 1) j)
  unfolding walk_at walk place
  at-hammer h s n o = rw (add-one, drop-cons hammers i 0 h, drop-cons sounds j 0 s, n, lt-ltb _ _ o)

  pub at-sound : i < length hammers → j < length sounds → near (get_or hammers i 0) (get_or sounds j 0) ≡ false → get_or sounds j 0 ≤ get_or hammers i 0
      → walk_at hammers sounds i j ≡ lone_sound j (walk_at hammers sounds i (j + 1))
  unfolding walk_at walk place
  at-sound h s n o = rw (add-one, drop-cons hammers i 0 h, drop-cons sounds j 0 s, n, le-ltb _ _ o)

  pub no-sound : i < length hammers → length sounds ≤ j → walk_at hammers sounds i j ≡ lone_hammer i (walk_at hammers sounds (i + 1) j)
  unfolding walk_at walk place
  no-sound h o = rw (add-one, drop-cons hammers i 0 h, drop_of_length-le sounds {i = j} o)

  pub no-hammer : length hammers ≤ i → j < length sounds → walk_at hammers sounds i j ≡ lone_sound j (walk_at hammers sounds i (j + 1))
  unfolding walk_at walk all_alone
  no-hammer o s = rw (add-one, drop-cons sounds j 0 s, drop_of_length-le hammers {i = i} o)

  pub at-end : length hammers ≤ i → length sounds ≤ j → walk_at hammers sounds i j ≡ nothing
  unfolding walk_at walk all_alone
  at-end h s = rw (drop_of_length-le hammers {i = i} h, drop_of_length-le sounds {i = j} s)

  -- behind the end of one log the rest of the other is alone
  at_rest : (length hammers ≤ i) ⊎ (length sounds ≤ j)
      → walk_at hammers sounds i j ≡ record { pairs = []; lone_hammers = range i (length hammers - i); lone_sounds = range j (length sounds - j) }
  unfolding walk_at walk range
  at_rest (inl h) =
      let e : length hammers - i ≡ 0 = omega arith in
      rw (drop_of_length-le hammers {i = i} h, e, sounds-alone j (drop j sounds), length-drop j sounds)
  at_rest (inr s) =
      let e : length sounds - j ≡ 0 = omega arith in
      rw (drop_of_length-le sounds {i = j} s, e, hammers-alone (drop i hammers) i j, length-drop i hammers)

-- ---- times that never fall

module _ (times : List ℕ) (i before : ℕ) where
  rise-next : i < length times → never_falls before (drop i times) ≡ leb before (get_or times i 0) && never_falls (get_or times i 0) (drop (i + 1) times)
  unfolding never_falls
  rise-next h = rw (add-one, drop-cons times i 0 h)

  rise-on : i < length times → before ≤ get_or times i 0 → never_falls before (drop i times) ≡ never_falls (get_or times i 0) (drop (i + 1) times)
  rise-on h o = rise-next h ∙ rw (le-leb before (get_or times i 0) o)

  rise-not : i < length times → get_or times i 0 < before → never_falls before (drop i times) ≡ false
  rise-not h o = rise-next h ∙ rw (lt-leb before (get_or times i 0) o)

  rise-end : length times ≤ i → never_falls before (drop i times) ≡ true
  unfolding never_falls
  rise-end h = rw (drop_of_length-le times {i = i} h)

-- ---- a list that is written number by number

puts-more : {all old new new' left : List ℕ} {at at' : ℕ} (v : ℕ) → Puts all old new at (v ∷ left) → new' ≡ set new at v → at' ≡ at + 1 → Puts all old new' at' left
puts-more {at = at} v p e q = record { rest = rw (e, q, add-one at) p.rest; many = omega (arith, p.many) }

puts-at : {all old new left : List ℕ} {at at' : ℕ} → at' ≡ at → Puts all old new at left → Puts all old new at' left
puts-at e p = rw e p

-- ---- the walk

pub going_start : (hammers sounds pairs hs ss : List ℕ) → Going hammers sounds pairs pairs hs hs ss ss 0 0 0 0 0
unfolding walk_at pairing
going_start hammers sounds pairs hs ss = record {
  i_inside = omega arith;
  j_inside = omega arith;
  i_least = omega arith;
  j_least = omega arith;
  hammers_rise = refl;
  sounds_rise = refl;
  of_pairs = record { rest = refl; many = omega arith };
  of_hammers = record { rest = refl; many = omega arith };
  of_sounds = record { rest = refl; many = omega arith };
}

module _ {hammers sounds pairs₀ pairs hs₀ hs ss₀ ss : List ℕ} {i a j b p : ℕ} (g : Going hammers sounds pairs₀ pairs hs₀ hs ss₀ ss i a j b p) where
  pub hammers-fall : never_falls a (drop i hammers) ≡ false → never_falls 0 hammers && never_falls 0 sounds ≡ false
  hammers-fall f = rw (sym g.hammers_rise ∙ f)

  pub sounds-fall : never_falls b (drop j sounds) ≡ false → never_falls 0 hammers && never_falls 0 sounds ≡ false
  sounds-fall f = and_right (never_falls 0 hammers) _ (sym g.sounds_rise ∙ f)

  module _ (h : i < length hammers) (s : j < length sounds) where
    pub turn_falls : (get_or hammers i 0 < a) ⊎ (get_or sounds j 0 < b) → never_falls 0 hammers && never_falls 0 sounds ≡ false
    turn_falls t = ⊎_elim (λ f. hammers-fall (rise-not hammers i a h f)) (λ f. sounds-fall (rise-not sounds j b s f)) t

    pub going_pair : {mid pairs' : List ℕ} → Turns a (get_or hammers i 0) b (get_or sounds j 0) Pair → mid ≡ set pairs (2 * p) i → pairs' ≡ set mid (2 * p + 1) j
        → Going hammers sounds pairs₀ pairs' hs₀ hs ss₀ ss (i + 1) (get_or hammers i 0) (j + 1) (get_or sounds j 0) (p + 1)
    unfolding flat
    going_pair (no_fall, no_fall', n) m q =
        let e = at_pair hammers sounds i j h s n in
        record {
          i_inside = omega arith;
          j_inside = omega arith;
          i_least = omega (arith, g.i_least);
          j_least = omega (arith, g.j_least);
          hammers_rise = sym (rise-on hammers i a h no_fall) ∙ g.hammers_rise;
          sounds_rise = sym (rise-on sounds j b s no_fall') ∙ g.sounds_rise;
          of_pairs = puts-more j (puts-more i (rw e at g.of_pairs) m refl) q (omega arith);
          of_hammers = puts-at (omega (arith, g.i_least)) (rw e at g.of_hammers);
          of_sounds = puts-at (omega (arith, g.j_least)) (rw e at g.of_sounds);
        }

    pub going_hammer : {hs' : List ℕ} → Turns a (get_or hammers i 0) b (get_or sounds j 0) LoneHammer → hs' ≡ set hs (i - p) i
        → Going hammers sounds pairs₀ pairs hs₀ hs' ss₀ ss (i + 1) (get_or hammers i 0) j b p
    going_hammer (no_fall, no_fall', n, o) q =
        let e = at-hammer hammers sounds i j h s n o in
        record {
          i_inside = omega arith;
          j_inside = g.j_inside;
          i_least = omega (arith, g.i_least);
          j_least = g.j_least;
          hammers_rise = sym (rise-on hammers i a h no_fall) ∙ g.hammers_rise;
          sounds_rise = g.sounds_rise;
          of_pairs = rw e at g.of_pairs;
          of_hammers = puts-more i (rw e at g.of_hammers) q (omega (arith, g.i_least));
          of_sounds = rw e at g.of_sounds;
        }

    pub going_sound : {ss' : List ℕ} → Turns a (get_or hammers i 0) b (get_or sounds j 0) LoneSound → ss' ≡ set ss (j - p) j
        → Going hammers sounds pairs₀ pairs hs₀ hs ss₀ ss' i a (j + 1) (get_or sounds j 0) p
    going_sound (no_fall, no_fall', n, o) q =
        let e = at-sound hammers sounds i j h s n o in
        record {
          i_inside = g.i_inside;
          j_inside = omega arith;
          i_least = g.i_least;
          j_least = omega (arith, g.j_least);
          hammers_rise = g.hammers_rise;
          sounds_rise = sym (rise-on sounds j b s no_fall') ∙ g.sounds_rise;
          of_pairs = rw e at g.of_pairs;
          of_hammers = rw e at g.of_hammers;
          of_sounds = puts-more j (rw e at g.of_sounds) q (omega (arith, g.j_least));
        }

-- ---- the rest

range_length : (i n : ℕ) → length (range i n) ≡ n
unfolding range
range_length i zero = refl
range_length i (suc n) = ap suc (range_length (suc i) n)

-- how far the rest is written
pub record Resting (times : List ℕ) (from before paired : ℕ) (list₀ list : List ℕ) (last i : ℕ) : Type 0 where
  pub low : from ≤ i
  pub high : i ≤ length times
  pub rise : never_falls last (drop i times) ≡ never_falls before (drop from times)
  pub put : sets list (i - paired) (range i (length times - i)) ≡ sets list₀ (from - paired) (range from (length times - from))

module _ {times : List ℕ} {from before paired : ℕ} {list₀ list : List ℕ} {last i : ℕ} (r : Resting times from before paired list₀ list last i) where
  pub resting_falls : i < length times → get_or times i 0 < last → never_falls before (drop from times) ≡ false
  resting_falls h f = sym r.rise ∙ rise-not times i last h f

  pub resting_on : {list' : List ℕ} → paired ≤ from → i < length times → last ≤ get_or times i 0 → list' ≡ set list (i - paired) i → Resting times from before paired list₀ list' (get_or times i 0) (i + 1)
  unfolding range
  resting_on few h o e =
      let one : length times - i ≡ suc (length times - suc i) = omega arith in
      let at : suc i - paired ≡ suc (i - paired) = omega (arith, r.low) in
      record {
        low = omega (arith, r.low);
        high = omega arith;
        rise = sym (rise-on times i last h o) ∙ r.rise;
        put = rw (e, add-one i, at) (rw one at r.put);
      }

  pub resting_end : length times ≤ i → Rests times from before paired list₀ list
  unfolding range
  resting_end h = let none : length times - i ≡ 0 = omega arith in record { rise = sym r.rise ∙ rise-end times i last h; written = rw none at r.put }

rest-written : {all old mid new left : List ℕ} {at n : ℕ} → Puts all old mid at left → new ≡ sets mid at left → n ≡ at + length left → Written all old new n
rest-written u e q = record { is = e ∙ u.rest; many = omega (arith, u.many) }

module _ {hammers sounds pairs₀ pairs hs₀ hs ss₀ ss : List ℕ} {i a j b p : ℕ} (g : Going hammers sounds pairs₀ pairs hs₀ hs ss₀ ss i a j b p) where
  pub all_placed : {hs' ss' : List ℕ} → (length hammers ≤ i) ⊎ (length sounds ≤ j) → Rests hammers i a p hs hs' → Rests sounds j b p ss ss'
      → WrittenAll hammers sounds pairs₀ pairs hs₀ hs' ss₀ ss' (record { pairs = p; lone_hammers = length hammers - p; lone_sounds = length sounds - p })
  unfolding flat
  all_placed end h s =
      let e = at_rest hammers sounds i j end in
      let u : Puts (flat (pairing hammers sounds).pairs) pairs₀ pairs (2 * p) [] = rw e at g.of_pairs in
      record {
        hammers_rise = sym g.hammers_rise ∙ h.rise;
        sounds_rise = sym g.sounds_rise ∙ s.rise;
        few = omega (arith, g.i_least, g.i_inside);
        of_pairs = record { is = u.rest; many = omega (arith, u.many) };
        of_hammers = rest-written (rw e at g.of_hammers) h.written (omega (arith, g.i_least, g.i_inside, range_length i (length hammers - i)));
        of_sounds = rest-written (rw e at g.of_sounds) s.written (omega (arith, g.j_least, g.j_inside, range_length j (length sounds - j)));
      }

pub ruleset turns = (going_start, turn_falls, going_pair, going_hammer, going_sound)

pub ruleset rests = (resting_falls, resting_on, resting_end)
