-- Where the parts stand that are one behind another, and a step by how many stand before it. Assumes nothing.
use Rattle.std.proofs.Common.{◌≡◌, refl, ap, ◌∙◌, subst, ℕ, zero, suc, ◌+◌, ◌≤◌, ◌<◌, List, [], ◌∷◌, ◌++◌, map, length, take, arith, length-append}
use Rattle.std.proofs.Math.Option.{some, some-injective}
use Rattle.item.proofs.Exact.{none≢}
use Rattle.entries.specs.Entries.{Stands}
use Rattle.entries.proofs.Standing.{stands-left, stands-right, stands-is, stands_at}
use Rattle.meaning.specs.Meaning.{Step}
use Rattle.meaning.specs.Record.{joined, step_item}
use Rattle.meaning.specs.Rules.{Each}
use Rattle.record.specs.Jobs.{part, part_at}
use Rattle.record.proofs.StepPlaces.{step-long}
use Rattle.lookups.specs.Lookups.{nth_step}

-- ---- parts one behind another

pub part-front : (at : ℕ) (p : List ℕ) (ps : List (List ℕ)) → part_at at (p ∷ ps) 0 ≡ part at (at + length p)
unfolding part_at joined
part-front at p ps =
    let a : at + 0 ≡ at = omega arith in
    let c : at + length (p ++ []) ≡ at + length p = omega (arith, length-append p []) in
    ap (λ (k : ℕ). part k (at + length (p ++ []))) a ∙ ap (part at) c

pub part-shift : (at : ℕ) (p : List ℕ) (ps : List (List ℕ)) (i : ℕ) → part_at (at + length p) ps i ≡ part_at at (p ∷ ps) (suc i)
unfolding part_at joined
part-shift at p ps i =
    let a : at + length p + length (joined (take i ps)) ≡ at + length (p ++ joined (take i ps)) = omega (arith, length-append p (joined (take i ps))) in
    let c : at + length p + length (joined (take (suc i) ps)) ≡ at + length (p ++ joined (take (suc i) ps)) = omega (arith, length-append p (joined (take (suc i) ps))) in
    ap (λ (k : ℕ). part k (at + length p + length (joined (take (suc i) ps)))) a ∙ ap (part (at + length (p ++ joined (take i ps)))) c

-- no two steps begin at one place
pub place-one : (ss : List Step) (i j : ℕ) → i < length ss → j < length ss → length (joined (take i (map step_item ss))) ≡ length (joined (take j (map step_item ss))) → i ≡ j
unfolding joined
place-one [] i j h k e = absurd (omega arith)
place-one (s ∷ ss) zero zero h k e = refl
place-one (s ∷ ss) zero (suc j) h k e = absurd (omega (arith, length-append (step_item s) (joined (take j (map step_item ss))), step-long s))
place-one (s ∷ ss) (suc i) zero h k e = absurd (omega (arith, length-append (step_item s) (joined (take i (map step_item ss))), step-long s))
place-one (s ∷ ss) (suc i) (suc j) h k e =
    ap suc (place-one ss i j (omega arith) (omega arith) (omega (arith, length-append (step_item s) (joined (take i (map step_item ss))), length-append (step_item s) (joined (take j (map step_item ss))))))

-- ---- a step by how many stand before it

-- what is known of a step from those that it stands among
pub record Nth (s : List ℕ) (at i start : ℕ) (st : Step) : Type 0 where
  pub stands : Stands s start (step_item st)
  pub beyond : at + i ≤ start

pub nth-stands : {s : List ℕ} (ss : List Step) (i at : ℕ) {start : ℕ} {st : Step} → Stands s at (joined (map step_item ss)) → nth_step at ss i ≡ some (start, st) → Nth s at i start st
unfolding nth_step joined
nth-stands [] i at h e = none≢ _ e
nth-stands {s} (x ∷ ss) zero at {start} {st} h e =
    let q = some-injective _ _ e in
    let a : at ≡ start = ap (λ (y : ℕ × Step). y.0) q in
    let b : x ≡ st = ap (λ (y : ℕ × Step). y.1) q in
    record { stands = stands_at a (stands-is (ap step_item b) (stands-left (step_item x) (joined (map step_item ss)) h)); beyond = omega arith }
nth-stands (x ∷ ss) (suc i) at h e =
    let n = nth-stands ss i (at + length (step_item x)) (stands-right (step_item x) (joined (map step_item ss)) h) e in
    record { stands = n.stands; beyond = omega (arith, n.beyond, step-long x) }

pub nth-kept : (P : Step → Type 0) (ss : List Step) (i at : ℕ) {start : ℕ} {st : Step} → Each P ss → nth_step at ss i ≡ some (start, st) → P st
unfolding nth_step
nth-kept P [] i at k e = none≢ _ e
nth-kept P (x ∷ ss) zero at k e = subst P (ap (λ (y : ℕ × Step). y.1) (some-injective _ _ e)) k.0
nth-kept P (x ∷ ss) (suc i) at k e = nth-kept P ss i (at + length (step_item x)) k.1 e
