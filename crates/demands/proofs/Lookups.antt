-- What the two lookups find in a good record. Assumes nothing.
use Rattle.std.proofs.Common.{◌≡◌, refl, sym, ap, ◌∙◌, ℕ, zero, suc, ◌+◌, ◌-◌, ◌≤◌, ◌<◌, arith, List, [], Bor, Bool, true, false, leb, length, take, get_or, length-append, length-drop, leb-true, leb-false}
use Rattle.std.proofs.Math.ListN.{get_or-eq_default}
use Rattle.refusal.specs.Base.{Answer, good, refused}
use Rattle.item.proofs.Size.{item-length}
use Rattle.meaning.specs.Meaning.{Meaning}
use Rattle.meaning.specs.Record.{joined, fields, record_of}
use Rattle.record.specs.Jobs.{Found, part, field, step, steps_start, part_at, numbered, lookup_of}
use Rattle.record.specs.declared.Lookup.{Lookup}
use Rattle.record.specs.declared.Lookup.TheVariants.{Found as FoundPart, Nothing, Refused}
use Rattle.record.specs.Theorems.{Gives, shown}
use Rattle.record.proofs.Lookups.{Opened, field_is, step_is, numbered-in, numbered-out, length-steps, steps_start_lem, steps-fit}
use Rattle.record.proofs.RoundTrip.{meaning-back}
use Rattle.demands.specs.Demands.{nth, step_items, ItemShown, out_of_range}
use Rattle.demands.specs.Records.{GoodRecord}
use Rattle.demands.specs.Contract.{LooksUp, Parts}
use Rattle.demands.proofs.Records.{good-record}

-- what the code's own lookup answers
pub itself : {lookup : List ℕ → ℕ → Answer Found} → LooksUp (λ b number found. lookup_of found ≡ lookup b.now number) lookup
itself = record { is = λ _ _ _ a. a }

-- ---- what is shown

-- the item under each number, and nothing under any other
module _ (b : List ℕ) (lookup : ℕ → Answer Found) (parts : List (List ℕ)) (first : lookup 0 ≡ refused 53 0 0) (beyond : (i : ℕ) → length parts ≤ i → lookup (suc i) ≡ refused 53 0 0)
    (found : (i : ℕ) → i < length parts → Gives b (lookup (suc i)) (get_or parts i [])) where
  shows : (number : ℕ) → shown b (lookup number) ≡ nth parts number
  unfolding nth shown
  shows zero = ap (shown b) first
  shows (suc i) = go (leb (length parts) i) refl
    where
      go : (t : Bool) → leb (length parts) i ≡ t → shown b (lookup (suc i)) ≡ get_or parts i []
      go true e = ap (shown b) (beyond i (leb-true _ i e)) ∙ sym (get_or-eq_default parts [] (leb-true _ i e))
      go false e = let f = found i (leb-false _ i e) in ap (shown b) f.is ∙ f.bytes

module _ (b : List ℕ) (number : ℕ) (found : List ℕ) where
  pub field-shown : found ≡ shown b (field b number) → ItemShown field fields b number found
  unfolding fields
  field-shown e = record {
    is = e;
    item = λ m w.
        let g = good-record b m w in
        e ∙ shows b (field b) (fields g.meaning) g.no_place g.places_end g.fields_found number ∙ ap (λ (k : Meaning). nth (fields k) number) (sym (g.only m w));
  }

  pub step-shown : found ≡ shown b (step b number) → ItemShown step step_items b number found
  step-shown e = record {
    is = e;
    item = λ m w.
        let g = good-record b m w in
        let many = length-steps g.meaning.steps in
        e ∙ shows b (step b) (step_items g.meaning) g.no_number (λ i h. g.numbers_end i (omega (arith, g.steps))) (λ i h. g.steps_found i (omega (arith, g.steps))) number
        ∙ ap (λ (k : Meaning). nth (step_items k) number) (sym (g.only m w));
  }

-- ---- where what is found stands

module _ {from to : ℕ} where
  pub part-there : (found : Lookup) → lookup_of found ≡ good (part from to) → ((start end : ℕ) → found ≡ FoundPart start end → ⊥) → ⊥
  part-there (FoundPart start end) e none = none start end refl
  part-there Nothing e none = cc
  part-there (Refused r) e none = cc

  pub part-starts : {start end : ℕ} → lookup_of (FoundPart start end) ≡ good (part from to) → start ≡ from
  part-starts e = cc

  pub part-ends : {start end : ℕ} → lookup_of (FoundPart start end) ≡ good (part from to) → end ≡ to
  part-ends e = cc

module _ {b : List ℕ} {n : ℕ} (g : GoodRecord b n) where
  opened-record : Opened b n
  opened-record = record { meaning = g.meaning; is = meaning-back b g.meaning g.is; count = g.steps; record_is = g.is }

  pub field-parts : {answers : Bor (List ℕ) → ℕ → Lookup → Type 0} → LooksUp answers field → Parts answers b 8 6
  unfolding record_of fields opened-record
  field-parts k = record {
    parts = fields g.meaning;
    many = refl;
    is = λ lent e number found a. k.is lent number found a ∙ ap (λ (s : List ℕ). field s number) e ∙ field_is opened-record number;
    end = sym (item-length 16 (joined (fields g.meaning))) ∙ ap length g.is.written;
  }

  pub step-parts : {answers : Bor (List ℕ) → ℕ → Lookup → Type 0} → LooksUp answers step → (from : ℕ) → from ≡ steps_start g.meaning → Parts answers b n from
  unfolding opened-record
  step-parts k from start = record {
    parts = step_items g.meaning;
    many = g.steps ∙ sym (length-steps g.meaning.steps);
    is = λ lent e number found a. k.is lent number found a ∙ ap (λ (s : List ℕ). step s number) e ∙ rw start (step_is opened-record number);
    end =
        let left = sym (length-drop (steps_start g.meaning) b) ∙ ap length (steps_start_lem b g.meaning g.is) ∙ length-append (joined (step_items g.meaning)) [] in
        omega (arith, start, left, steps-fit b g.meaning g.is);
  }

  -- the last field
  last : (found : Lookup) → lookup_of found ≡ field b 8 → lookup_of found ≡ good (part (6 + length (joined (take 7 (fields g.meaning)))) (6 + length (joined (take 8 (fields g.meaning)))))
  unfolding part_at fields opened-record
  last found e = e ∙ field_is opened-record 8 ∙ numbered-in 6 (fields g.meaning) 8 7 refl (omega arith)

  pub last-there : (found : Lookup) → lookup_of found ≡ field b 8 → ((start end : ℕ) → found ≡ FoundPart start end → ⊥) → ⊥
  last-there found e none = part-there found (last found e) none

  -- behind whose header the steps begin
  pub steps-begin : (start end : ℕ) → lookup_of (FoundPart start end) ≡ field b 8 → start + 6 ≡ steps_start g.meaning
  unfolding steps_start
  steps-begin start end e = ap (λ (k : ℕ). k + 6) (part-starts (last (FoundPart start end) e))

  pub start_fits : (start end : ℕ) → lookup_of (FoundPart start end) ≡ field b 8 → start + 6 ≤ length b
  start_fits start end e = omega (arith, steps-begin start end e, steps-fit b g.meaning g.is)

-- ---- what a lookup finds by one number

module _ {answers : Bor (List ℕ) → ℕ → Lookup → Type 0} {count from : ℕ} {lent : Bor (List ℕ)} (w : Parts answers lent.now count from) {number : ℕ} {found : Lookup} (a : answers lent number found) where
  pub not-numbered : ((i : ℕ) → number ≡ suc i → count ≤ i) → out_of_range (lookup_of found) ≡ true
  unfolding out_of_range numbered
  not-numbered h = rw (w.is lent refl number found a) (go number h)
    where
      go : (n : ℕ) → ((i : ℕ) → n ≡ suc i → count ≤ i) → out_of_range (numbered from w.parts n) ≡ true
      go zero h = refl
      go (suc i) h = rw (numbered-out from w.parts (suc i) i refl (omega (arith, h i refl, w.many))) refl

  pub found-part : 1 ≤ number → number ≤ count
      → lookup_of found ≡ good (part (from + length (joined (take (number - 1) w.parts))) (from + length (joined (take number w.parts))))
  unfolding part_at
  found-part h k =
      let e : number ≡ suc (number - 1) = omega arith in
      w.is lent refl number found a ∙ numbered-in from w.parts number (number - 1) e (omega (arith, w.many))
      ∙ ap (λ (i : ℕ). good (part (from + length (joined (take (number - 1) w.parts))) (from + length (joined (take i w.parts))))) (sym e)
