-- Runs of keys in their order: the search for a key, and a key put in at its index. Assumes nothing.
use Rattle.std.proofs.lemmas.Bool.{false≢true, cases_lt}
use Rattle.std.proofs.Common.{Ordering, Less, Equal, Greater, ◌≡◌, sym, ap, ◌∙◌, subst, ⊎_elim, ℕ, ◌+◌, ◌-◌, ◌^◌, ◌≤◌, ◌<◌, arith, refl, List, length, take, drop, get_or}
use Rattle.std.specs.Ordering.{ordering_reverse, ordering_then, nat_cmp, is_eq}
use Rattle.std.specs.FinMap.{slice_cmp-IsAntisymmetric, nat_cmp-IsAntisymmetric}
use Rattle.std.specs.Cmp.{IsTotalOrder, nat_cmp_total, on_total, then_total}
use Rattle.std.specs.Cmp.Lexicographic.{slice_cmp, nat_list_cmp_total}
use Rattle.entries.specs.declared.sorted.KeyPlace.{KeyPlace}
use Rattle.entries.specs.Contract.{key_cmp, key_of, blank, key_in, Inside, InOrder, Held, Gap, Inserted}

-- ---- the order

pub key-order : IsTotalOrder key_cmp
key-order = then_total (on_total length nat_cmp_total) nat_list_cmp_total

pub below_self : (a : List ℕ) → key_cmp a a ≡ Less → ⊥
below_self a h = absurd (let z : ◌≡◌ {A = Ordering} Less Greater = sym h ∙ key-order.antisymm a a ∙ ap ordering_reverse h in let y : ◌≡◌ {A = ℕ} 0 1 = cc z in omega arith)

-- ---- a key put in

-- places moved up
pub record Moved (old new : List KeyPlace) (n index : ℕ) : Type 0 where
  pub size : length new ≡ length old
  pub before : (i : ℕ) → i < index → get_or new i blank ≡ get_or old i blank
  pub behind : (i : ℕ) → index ≤ i → i < n → get_or new (i + 1) blank ≡ get_or old i blank

pub place-key : (s : List ℕ) (place : KeyPlace) → key_of s place ≡ take (place.end - place.start) (drop place.start s)
unfolding key_of
place-key s place = refl

module _ {old new : List KeyPlace} {n index : ℕ} {place : KeyPlace} (p : Inserted old new n index place) (fits : index ≤ n) where
  -- where a place was before
  data Was (i : ℕ) : Type 0 where
    before : i < index → get_or new i blank ≡ get_or old i blank → Was i
    here : i ≡ index → get_or new i blank ≡ place → Was i
    behind : (j : ℕ) → i ≡ j + 1 → index ≤ j → j < n → get_or new i blank ≡ get_or old j blank → Was i

  was : (i : ℕ) → i < n + 1 → Was i
  was i h = ⊎_elim (λ l. before l (p.before i l))
      (λ l. ⊎_elim (λ k. let e : i ≡ i - 1 + 1 = omega arith in behind (i - 1) e (omega arith) (omega arith) (ap (λ (j : ℕ). get_or new j blank) e ∙ p.behind (i - 1) (omega arith) (omega arith)))
      (λ k. let e : i ≡ index = omega arith in here e (rw e p.here)) (cases_lt index i)) (cases_lt i index)

  pub each_on : (P : KeyPlace → Type 0) → P place → ((i : ℕ) → i < n → P (get_or old i blank)) → (i : ℕ) → i < n + 1 → P (get_or new i blank)
  each_on P w o i h = go (was i h)
    where
      go : Was i → P (get_or new i blank)
      go (before l e) = rw e (o i (omega arith))
      go (here l e) = rw e w
      go (behind j l g k e) = rw e (o j k)

  pub held-here : (s : List ℕ) → Held s new (n + 1) (key_of s place)
  held-here s = record { index = index; below = omega arith; is = ap (key_of s) p.here }

  pub held_on : {s key : List ℕ} → Held s old n key → Held s new (n + 1) key
  held_on {s} h = ⊎_elim
      (λ l. record { index = h.index; below = omega (arith, h.below); is = ap (key_of s) (p.before h.index l) ∙ h.is })
      (λ l. record { index = h.index + 1; below = omega (arith, h.below); is = ap (key_of s) (p.behind h.index l h.below) ∙ h.is })
      (cases_lt h.index index)

  pub run_on : {s : List ℕ} → InOrder s old n → Inside s place → Gap s old n (key_of s place) index → n < 2 ^ 11 → InOrder s new (n + 1)
  run_on {s} r h g m = record {
    size = p.size ∙ r.size;
    few = omega arith;
    inside = each_on (Inside s) h r.inside;
    rising = λ i j l h. go i j l (was i (omega arith)) (was j h);
  }
    where
      go : (i j : ℕ) → i < j → Was i → Was j → key_cmp (key_in s new i) (key_in s new j) ≡ Less
      go i j l (before a e) (before b f) = rw (e, f) (r.rising i j l (omega arith))
      go i j l (before a e) (here b f) = rw (e, f) (g.before i a)
      go i j l (before a e) (behind m b c d f) = rw (e, f) (r.rising i m (omega arith) d)
      go i j l (here a e) (before b f) = absurd (omega arith)
      go i j l (here a e) (here b f) = absurd (omega arith)
      go i j l (here a e) (behind m b c d f) = rw (e, f) (g.behind m c d)
      go i j l (behind k a o u e) (before b f) = absurd (omega arith)
      go i j l (behind k a o u e) (here b f) = absurd (omega arith)
      go i j l (behind k a o u e) (behind m b c d f) = rw (e, f) (r.rising k m (omega arith) d)

-- a key that has a place is none of them
pub not-held : {s : List ℕ} {run : List KeyPlace} {n : ℕ} {key : List ℕ} {index : ℕ} → Gap s run n key index → Held s run n key → ⊥
not-held {key = key} {index = index} g h = ⊎_elim (λ l. below_self key (subst (λ (k : List ℕ). key_cmp k key ≡ Less) h.is (g.before h.index l)))
    (λ l. below_self key (subst (λ (k : List ℕ). key_cmp key k ≡ Less) h.is (g.behind h.index l h.below))) (cases_lt h.index index)

-- ---- the search for a key

then-equal : (o p : Ordering) → ordering_then o p ≡ Equal → p ≡ Equal
then-equal Less p e = absurd (false≢true (ap is_eq e))
then-equal Equal p e = e
then-equal Greater p e = absurd (false≢true (ap is_eq e))

key-same : (a b : List ℕ) → key_cmp a b ≡ Equal → a ≡ b
key-same a b e = slice_cmp-IsAntisymmetric nat_cmp-IsAntisymmetric a b (then-equal (nat_cmp (length a) (length b)) (slice_cmp nat_cmp a b) e)

above : (a b : List ℕ) → key_cmp a b ≡ Greater → key_cmp b a ≡ Less
above a b e = key-order.antisymm b a ∙ ap ordering_reverse e

-- the keys before and behind those that are left
pub record Between (s : List ℕ) (run : List KeyPlace) (n : ℕ) (key : List ℕ) (low high : ℕ) : Type 0 where
  pub order : low ≤ high
  pub within : high ≤ n
  pub before : (i : ℕ) → i < low → key_cmp (key_in s run i) key ≡ Less
  pub behind : (i : ℕ) → high ≤ i → i < n → key_cmp key (key_in s run i) ≡ Less

module _ {s : List ℕ} {run : List KeyPlace} {n : ℕ} {key : List ℕ} {low high : ℕ} (b : Between s run n key low high) where
  module _ (r : InOrder s run n) (i : ℕ) (after : low ≤ i) (until : i < high) where
    pub between-same : key_cmp (key_in s run i) key ≡ Equal → Held s run n key
    between-same e = record { index = i; below = omega (arith, b.within); is = key-same _ key e }

    pub between-right : key_cmp (key_in s run i) key ≡ Less → Between s run n key (i + 1) high
    between-right l = record { order = omega arith; within = b.within; before = go; behind = b.behind }
      where
        go : (j : ℕ) → j < i + 1 → key_cmp (key_in s run j) key ≡ Less
        go j h = ⊎_elim (λ k. key-order.trans (key_in s run j) (key_in s run i) key (r.rising j i k (omega (arith, b.within))) l) (λ k. let e : j ≡ i = omega arith in rw e l) (cases_lt j i)

    pub between_left : key_cmp (key_in s run i) key ≡ Greater → Between s run n key low i
    between_left g = record { order = after; within = omega (arith, b.within); before = b.before; behind = go }
      where
        l : key_cmp key (key_in s run i) ≡ Less
        l = above _ key g

        go : (j : ℕ) → i ≤ j → j < n → key_cmp key (key_in s run j) ≡ Less
        go j h m = ⊎_elim (λ k. key-order.trans key (key_in s run i) (key_in s run j) l (r.rising i j k m)) (λ k. let e : j ≡ i = omega arith in rw e l) (cases_lt i j)
