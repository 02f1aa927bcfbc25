-- How often a number stands in a list, which times are near, and that the times of a log never fall. Assumes nothing.
use Rattle.std.specs.Prelude.{if◌then◌else◌}
use Rattle.std.proofs.Common.{◌≡◌, sym, ◌∙◌, ℕ, zero, suc, ◌+◌, ◌≤◌, ◌<◌, arith, List, [], ◌∷◌, Bool, true, false, leb, eqb, length, get_or, leb-true, le-leb, eq-eqb, ne_eqb}
use Rattle.std.proofs.lemmas.Bool.{false≢true}
use Rattle.std.proofs.Math.Bool.{and-eq-true_iff}
use Rattle.pair_logs.specs.PairLogs.{times, near, never_falls}

-- ---- how often

-- 1 if the two are the same number, else 0
pub hit : ℕ → ℕ → ℕ
hit k n = if eqb k n then 1 else 0

pub times_more : (k n : ℕ) (ns : List ℕ) → times k (n ∷ ns) ≡ hit k n + times k ns
unfolding times hit
times_more k n ns = go (eqb k n)
  where
    go : (t : Bool) → (if t then suc (times k ns) else times k ns) ≡ (if t then 1 else 0) + times k ns
    go true = omega arith
    go false = omega arith

pub hit_same : (k n : ℕ) → k ≡ n → hit k n ≡ 1
unfolding hit
hit_same k n e = rw (eq-eqb k n e)

pub hit_other : (k n : ℕ) → (k ≡ n → ⊥) → hit k n ≡ 0
unfolding hit
hit_other k n e = rw (ne_eqb k n e)

-- ---- near

pub near-true : (h s : ℕ) → near h s ≡ true → (h ≤ s + 40) × (s ≤ h + 40)
unfolding near
near-true h s e =
    let b = (and-eq-true_iff (leb h (s + 40)) (leb s (h + 40))).0 e in
    (leb-true h (s + 40) b.0, leb-true s (h + 40) b.1)

pub true-near : (h s : ℕ) → h ≤ s + 40 → s ≤ h + 40 → near h s ≡ true
unfolding near
true-near h s a b = rw (le-leb h (s + 40) a, le-leb s (h + 40) b)

pub near-false : {h s : ℕ} → near h s ≡ false → h ≤ s + 40 → s ≤ h + 40 → ⊥
near-false {h} {s} e a b = false≢true (sym e ∙ true-near h s a b)

-- ---- the times never fall

-- with the time that stands before the first
rises : (last : ℕ) (ts : List ℕ) → never_falls last ts ≡ true → (a b : ℕ) → a ≤ b → b ≤ length ts → get_or (last ∷ ts) a 0 ≤ get_or (last ∷ ts) b 0
unfolding never_falls
rises last [] e a b m l = let same : a ≡ b = omega arith in rw same (omega arith)
rises last (t ∷ ts) e zero zero m l = omega arith
rises last (t ∷ ts) e zero (suc b) m l =
    let c = (and-eq-true_iff (leb last t) (never_falls t ts)).0 e in
    omega (arith, leb-true last t c.0, rises t ts c.1 0 b (omega arith) (omega arith))
rises last (t ∷ ts) e (suc a) zero m l = absurd (omega arith)
rises last (t ∷ ts) e (suc a) (suc b) m l =
    let c = (and-eq-true_iff (leb last t) (never_falls t ts)).0 e in
    rises t ts c.1 a b (omega arith) (omega arith)

pub in_order : (log : List ℕ) → never_falls 0 log ≡ true → (a b : ℕ) → a ≤ b → b < length log → get_or log a 0 ≤ get_or log b 0
in_order log e a b m l = rises 0 log e (suc a) (suc b) (omega arith) l
