-- No pairs under the two rules are more than the walk's. Assumes nothing.
use Rattle.std.proofs.Common.{◌≡◌, refl, ℕ, suc, ◌≤◌, ◌<◌, arith, ◌⊎◌, inl, inr, ⊎_elim, List, [], ◌∷◌, map, Bool, true, false, eqb, length, get_or, eqb-true}
use Rattle.std.proofs.lemmas.Bool.{eqb-false, cases_lt}
use Rattle.pair_logs.specs.PairLogs.{Pair, Pairing, near, never_falls, times, hammers_of, sounds_of, Near, Rules}
use Rattle.pair_logs.proofs.Laws.{times_more, hit_same, hit_other, near-true, true-near, in_order}
use Rattle.pair_logs.proofs.Steps.{Placed, ended, paired, hammer_alone, sound_alone}

-- ---- numbers that stand at most once each, none of them below n

record Once (n : ℕ) (ks : List ℕ) : Type 0 where
  pub at_most : (k : ℕ) → times k ks ≤ 1
  pub none_below : (k : ℕ) → k < n → times k ks ≡ 0

reordered : {n : ℕ} {ks ls : List ℕ} → ((k : ℕ) → times k ks ≡ times k ls) → Once n ks → Once n ls
reordered e o = record { at_most = λ k. rw (← e k) (o.at_most k); none_below = λ k h. rw (← e k) (o.none_below k h) }

unused : {n : ℕ} {ks : List ℕ} → Once n ks → times n ks ≡ 0 → Once (suc n) ks
unused {n} o e = record {
  at_most = o.at_most;
  none_below = λ k h. ⊎_elim (o.none_below k) (λ m. let same : k ≡ n = omega arith in rw same e) (cases_lt k n);
}

module _ {n m : ℕ} {ks : List ℕ} (o : Once n (m ∷ ks)) where
  without : Once n ks
  without = record {
    at_most = λ k. omega (arith, times_more k m ks, o.at_most k);
    none_below = λ k h. omega (arith, times_more k m ks, o.none_below k h);
  }

  without-least : m ≡ n → Once (suc n) ks
  without-least e = unused without (omega (arith, times_more n m ks, hit_same n m (omega arith), o.at_most n))

  not-below : n ≤ m
  not-below = ⊎_elim
      (λ l. absurd (omega (arith, times_more m m ks, hit_same m m refl, o.none_below m l)))
      (λ l. l)
      (cases_lt m n)

-- ---- pairs under the rules, from position i of the hammers and j of the sounds on

record From (hammers sounds : List ℕ) (i j : ℕ) (ps : List Pair) : Type 0 where
  pub of_hammers : Once i (map (λ p. p.hammer) ps)
  pub of_sounds : Once j (map (λ p. p.sound) ps)
  pub nears : Near hammers sounds ps

-- the same pairs in another order
record Same (hammers sounds : List ℕ) (ps qs : List Pair) : Type 0 where
  pub long : length ps ≡ length qs
  pub counts : (side : Pair → ℕ) (k : ℕ) → times k (map side ps) ≡ times k (map side qs)
  pub nears : Near hammers sounds ps → Near hammers sounds qs

-- a pair with a given position, and the others
record Found (hammers sounds : List ℕ) (side : Pair → ℕ) (n : ℕ) (ps : List Pair) : Type 0 where
  pub it : Pair
  pub others : List Pair
  pub is : side it ≡ n
  pub same : Same hammers sounds ps (it ∷ others)

module _ {hammers sounds : List ℕ} where
  -- what goes in front of all goes behind the first
  second : {ps qs : List Pair} (p : Pair) {q : Pair} → Same hammers sounds ps (q ∷ qs) → Same hammers sounds (p ∷ ps) (q ∷ p ∷ qs)
  unfolding Near
  second p s = record {
    long = omega (arith, s.long);
    counts = λ f k. simp times_more (omega (arith, simp times_more at (s.counts f k)));
    nears = λ n. let m = s.nears n.3 in (m.0, m.1, m.2, (n.0, n.1, n.2, m.3));
  }

  find : (side : Pair → ℕ) (n : ℕ) (ps : List Pair) → (times n (map side ps) ≡ 0) ⊎ Found hammers sounds side n ps
  unfolding times
  find side n [] = inl refl
  find side n (p ∷ ps) = go (eqb n (side p)) refl (find side n ps)
    where
      go : (t : Bool) → eqb n (side p) ≡ t → (times n (map side ps) ≡ 0) ⊎ Found hammers sounds side n ps →
          (times n (map side (p ∷ ps)) ≡ 0) ⊎ Found hammers sounds side n (p ∷ ps)
      go true e r = inr (record { it = p; others = ps; is = omega (arith, eqb-true n (side p) e); same = record { long = refl; counts = λ f k. refl; nears = λ m. m } })
      go false e r = ⊎_elim
          (λ z. inl (omega (arith, times_more n (side p) (map side ps), hit_other n (side p) (eqb-false n (side p) e))))
          (λ f. inr (record { it = f.it; others = p ∷ f.others; is = f.is; same = second p f.same }))
          r

  reordered-from : {i j : ℕ} {ps qs : List Pair} → Same hammers sounds ps qs → From hammers sounds i j ps → From hammers sounds i j qs
  reordered-from s f = record {
    of_hammers = reordered (s.counts (λ p. p.hammer)) f.of_hammers;
    of_sounds = reordered (s.counts (λ p. p.sound)) f.of_sounds;
    nears = s.nears f.nears;
  }

  -- a position that no pair can have
  has-none : {i j : ℕ} (side : Pair → ℕ) (n : ℕ) {ps : List Pair} → From hammers sounds i j ps →
      ((p : Pair) (qs : List Pair) → side p ≡ n → From hammers sounds i j (p ∷ qs) → ⊥) → times n (map side ps) ≡ 0
  has-none side n {ps} f never = ⊎_elim
      (λ z. z)
      (λ g. absurd (never g.it g.others g.is (reordered-from g.same f)))
      (find side n ps)

  no-hammer-left : {i j : ℕ} (ps : List Pair) → i ≡ length hammers → From hammers sounds i j ps → length ps ≤ 0
  unfolding Near
  no-hammer-left [] e f = omega arith
  no-hammer-left (p ∷ ps) e f = absurd (omega (arith, not-below f.of_hammers, f.nears.0))

-- ---- on past a hammer or a sound that no pair has, or whose pair is taken out

module _ {hammers sounds : List ℕ} {i j : ℕ} where
  past-hammer : {ps : List Pair} → From hammers sounds i j ps → times i (map (λ p. p.hammer) ps) ≡ 0 → From hammers sounds (suc i) j ps
  past-hammer f z = record { of_hammers = unused f.of_hammers z; of_sounds = f.of_sounds; nears = f.nears }

  past-sound : {ps : List Pair} → From hammers sounds i j ps → times j (map (λ p. p.sound) ps) ≡ 0 → From hammers sounds i (suc j) ps
  past-sound f z = record { of_hammers = f.of_hammers; of_sounds = unused f.of_sounds z; nears = f.nears }

  without-hammer : {p : Pair} {ps : List Pair} → From hammers sounds i j (p ∷ ps) → p.hammer ≡ i → From hammers sounds (suc i) j ps
  unfolding Near
  without-hammer f e = record { of_hammers = without-least f.of_hammers e; of_sounds = without f.of_sounds; nears = f.nears.3 }

  without-sound : {p : Pair} {ps : List Pair} → From hammers sounds i j (p ∷ ps) → p.sound ≡ j → From hammers sounds i (suc j) ps
  unfolding Near
  without-sound f e = record { of_hammers = without f.of_hammers; of_sounds = without-least f.of_sounds e; nears = f.nears.3 }

-- ---- the exchange

-- pairs behind position i of the hammers and j of the sounds, at most one fewer than `count`
record Exchanged (hammers sounds : List ℕ) (i j count : ℕ) : Type 0 where
  pub left : List Pair
  pub enough : count ≤ suc (length left)
  pub from : From hammers sounds (suc i) (suc j) left

module _ {hammers sounds : List ℕ} {i j : ℕ} where
  -- hammer i is free: so is sound j, or its pair is known
  sound-too : {count : ℕ} {ps : List Pair} → From hammers sounds (suc i) j ps → count ≤ suc (length ps) →
      (Found hammers sounds (λ p. p.sound) j ps → Exchanged hammers sounds i j count) → Exchanged hammers sounds i j count
  sound-too {ps = ps} f l known = ⊎_elim (λ z. record { left = ps; enough = l; from = past-sound f z }) known (find (λ p. p.sound) j ps)

module _ {hammers sounds : List ℕ} (h_never : never_falls 0 hammers ≡ true) (s_never : never_falls 0 sounds ≡ true) where
  module _ {i j : ℕ} where
    -- of a pair with hammer i and one with sound j, the first of their logs, the other two are near too
    crossed : {p q : Pair} {qs : List Pair} → p.hammer ≡ i → q.sound ≡ j → From hammers sounds i j (q ∷ p ∷ qs) →
        near (get_or hammers q.hammer 0) (get_or sounds p.sound 0) ≡ true
    unfolding Near
    crossed {p} {q} a b f =
        let n = f.nears in
        let m = n.3 in
        let x = near-true _ _ (rw b at n.2) in
        let y = near-true _ _ (rw a at m.2) in
        true-near _ _
        (omega (arith, in_order sounds s_never j p.sound (not-below (without f.of_sounds)) m.1))
        (omega (arith, in_order hammers h_never i q.hammer (not-below f.of_hammers) n.0))

    -- hammer i and sound j go out with their pairs; if these are two, what is left of both makes a pair
    exchanged : (ps : List Pair) → From hammers sounds i j ps → Exchanged hammers sounds i j (length ps)
    unfolding Near
    exchanged ps f = ⊎_elim
        (λ z. let g = past-hammer f z in
        sound-too g (omega arith) (λ q. record { left = q.others; enough = omega (arith, q.same.long); from = without-sound (reordered-from q.same g) q.is }))
        (λ p. let g = reordered-from p.same f in
        let h = without-hammer g p.is in
        sound-too h (omega (arith, p.same.long)) (λ q.
        let k = reordered-from (second p.it q.same) g in
        record {
          left = record { hammer = q.it.hammer; sound = p.it.sound } ∷ q.others;
          enough = omega (arith, p.same.long, q.same.long);
          from = record {
            of_hammers = (reordered-from q.same h).of_hammers;
            of_sounds = (without-sound k q.is).of_sounds;
            nears = (k.nears.0, k.nears.3.1, crossed p.is q.is k, k.nears.3.3);
          };
        }))
        (find (λ p. p.hammer) i ps)

  no_more : {i j : ℕ} {r : Pairing} → Placed hammers sounds i j r → (ps : List Pair) → From hammers sounds i j ps → length ps ≤ length r.pairs
  unfolding Near
  no_more (ended i j h s) ps f = no-hammer-left ps h f
  no_more (paired i j h s n w) ps f = let x = exchanged ps f in omega (arith, no_more w x.left x.from, x.enough)
  no_more (hammer_alone i j far w) ps f = no_more w ps (past-hammer f (has-none (λ p. p.hammer) i f (λ p qs e g.
      far p.sound (not-below g.of_sounds) g.nears.1 (rw e at g.nears.2))))
  no_more (sound_alone i j far w) ps f = no_more w ps (past-sound f (has-none (λ p. p.sound) j f (λ p qs e g.
      far p.hammer (not-below g.of_hammers) g.nears.0 (rw e at g.nears.2))))

  pub at-most-these : {r : Pairing} → Placed hammers sounds 0 0 r → (ps : List Pair) → Rules hammers sounds ps → length ps ≤ length r.pairs
  unfolding hammers_of sounds_of
  at-most-these w ps k = no_more w ps (record {
    of_hammers = record { at_most = k.one_sound; none_below = λ n h. absurd (omega arith) };
    of_sounds = record { at_most = k.one_hammer; none_below = λ n h. absurd (omega arith) };
    nears = k.all_near;
  })
