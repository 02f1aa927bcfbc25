-- The answers of the check and of the lookups, case by case. Assumes nothing.
use Rattle.std.specs.Prelude.{Some, cond, ◌&&◌}
use Rattle.std.specs.Ordering.{nat_cmp, partial_le, partial_lt}
use Rattle.std.proofs.lemmas.Bool.Decides.{nat_tests}
use Rattle.std.proofs.Common.{Ordering, ◌≡◌, refl, sym, ap, ◌∙◌, ℕ, zero, Bool, false, suc, ◌+◌, ◌≤◌, ◌<◌, arith, List, map, length, take, get_or, Fits, w8}
use Rattle.std.proofs.Math.Option.{Option, none, some}
use Rattle.refusal.specs.Base.{Answer, good, refused, ◌>>=◌, maybe, given}
use Rattle.meaning.specs.Meaning.{Meaning}
use Rattle.meaning.specs.Record.{joined, step_item, fields}
use Rattle.record.specs.Read.{meaning_in}
use Rattle.record.specs.Jobs as job
use Rattle.record.specs.Jobs.{Found, nothing, part, opened, check_record, part_at, steps_start, answer_of}
use Rattle.record.specs.Contract.{span_of, record_steps}
use Rattle.entries.specs.Entries.{nth_item}
use Rattle.item.proofs.Exact.{bytes_of}
use Rattle.record.proofs.Lookups.{Opened, opening, field-zero, step-zero, field_is, step_is, numbered-in, numbered-out, field_found, step-found, length-steps}
use Rattle.entries.specs.declared.Span.{Span}
use Rattle.std.specs.Prelude.{Option as StdOption}

-- ---- the check

pub checked : (b : List ℕ) → given (record_steps b) 40 0 0 ≡ check_record b
unfolding check_record opened record_steps given maybe ◌>>=◌
checked b = go (meaning_in b)
  where
    go : (o : Option Meaning) → given (maybe o none (λ m. some (length m.steps))) 40 0 0 ≡ (given o 40 0 0 >>= λ m. good (length m.steps))
    go none = refl
    go (some m) = refl

pub counted : (b : List ℕ) (n : ℕ) → some n ≡ record_steps b → good n ≡ check_record b
unfolding given
counted b n e = ap (λ (o : Option ℕ). given o 40 0 0) e ∙ checked b

pub uncounted : (b : List ℕ) → none ≡ record_steps b → refused 40 0 0 ≡ check_record b
unfolding given
uncounted b e = ap (λ (o : Option ℕ). given o 40 0 0) e ∙ checked b

-- ---- the lookups

-- what is no number from one to some number
abbrev compared : ℕ → ℕ → StdOption Ordering
compared x y = Some (nat_cmp x y)

pub outside : {start end n place : ℕ} {exhausted b : Bool} → start ≡ 1 → end ≡ n → exhausted ≡ false
    → b ≡ (partial_le compared start place && cond exhausted (partial_lt compared place end) (partial_le compared place end)) → b ≡ false → (i : ℕ) → place ≡ suc i → n ≤ i
outside s e x v f i p = grind (arith, nat_tests)

pub opened_as : (b : List ℕ) {n : ℕ} → ((i : ℕ) → Fits w8 (get_or b i 0)) → good n ≡ check_record b → Opened b n
opened_as b {n} small e = opening b (bytes_of b (λ i. omega (arith, small i))) n e

-- in a good record

module _ {b : List ℕ} {n : ℕ} (w : Opened b n) where
  pub field_out : (place i : ℕ) → place ≡ suc i → 8 ≤ i → refused 53 0 0 ≡ job.field b place
  unfolding fields
  field_out place i e h = sym (field_is w place ∙ numbered-out 6 (fields w.meaning) place i e h)

  -- at a place that is none of them
  pub field_outside : (place : ℕ) → ((i : ℕ) → place ≡ suc i → 8 ≤ i) → refused 53 0 0 ≡ job.field b place
  field_outside zero h = field-zero w zero refl
  field_outside (suc i) h = field_out (suc i) i refl (h i refl)

  pub field_in : (place i : ℕ) → place ≡ suc i → i < 8 → span_of (nth_item b 6 i) ≡ job.field b place
  unfolding fields
  field_in place i e h = field_found b w.meaning w.record_is i h ∙ sym (field_is w place ∙ numbered-in 6 (fields w.meaning) place i e h)

  pub step-out : (number i : ℕ) → number ≡ suc i → n ≤ i → refused 53 0 0 ≡ job.step b number
  step-out number i e h =
      let c : length (map step_item w.meaning.steps) ≤ i = omega (arith, length-steps w.meaning.steps, w.count) in
      sym (step_is w number ∙ numbered-out (steps_start w.meaning) (map step_item w.meaning.steps) number i e c)

  pub step_outside : (number : ℕ) → ((i : ℕ) → number ≡ suc i → n ≤ i) → refused 53 0 0 ≡ job.step b number
  step_outside zero h = step-zero w zero refl
  step_outside (suc i) h = step-out (suc i) i refl (h i refl)

  -- the last field is always found
  last-is : span_of (nth_item b 6 7) ≡ good (part_at 6 (fields w.meaning) 7)
  last-is = field_found b w.meaning w.record_is 7 (omega arith)

  pub last_found : (r : StdOption Span) → r ≡ nth_item b 6 7 → {x : Answer Found} → span_of r ≡ x
      → x ≡ good (part (6 + length (joined (take 7 (fields w.meaning)))) (6 + length (joined (take 8 (fields w.meaning)))))
  unfolding part_at
  last_found r e p = sym p ∙ ap span_of e ∙ last-is

  pub step_in : (from number i : ℕ) → from ≡ steps_start w.meaning → number ≡ suc i → i < n → span_of (nth_item b from i) ≡ job.step b number
  step_in from number i at e h =
      let c : i < length w.meaning.steps = omega (arith, w.count) in
      let d : i < length (map step_item w.meaning.steps) = omega (arith, length-steps w.meaning.steps) in
      ap (λ (k : ℕ). span_of (nth_item b k i)) at
      ∙ step-found b w.meaning w.record_is i c
      ∙ sym (step_is w number ∙ numbered-in (steps_start w.meaning) (map step_item w.meaning.steps) number i e d)

pub never-nothing : {start end : ℕ} {X : Type 0} → good nothing ≡ good (part start end) → X
never-nothing e = absurd (let z : ◌≡◌ {A = ℕ} 0 1 = cc in omega arith)
