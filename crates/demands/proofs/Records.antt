-- Of any bytes: the check is good with a count exactly if one and only one meaning has them as its record, and else 40 is answered. Assumes nothing.
use Rattle.std.proofs.Common.{◌≡◌, refl, sym, ap, ◌∙◌, ℕ, ◌<◌, Fits, w8, arith, List, [], map, length, get_or, ext_get_or}
use Rattle.std.proofs.Math.Option.{Option, none, some, some-injective}
use Rattle.refusal.specs.Base.{good, given, ◌>>=◌}
use Rattle.refusal.proofs.Tools.{refused≢good}
use Rattle.item.specs.Encode.{item, Bytes}
use Rattle.meaning.specs.Meaning.{Meaning}
use Rattle.meaning.specs.Record.{joined, step_item, steps_item, fields, record_of}
use Rattle.meaning.specs.Rules.{Rules, IsRecord}
use Rattle.item.proofs.Exact.{bytes_of}
use Rattle.record.specs.Read.{meaning_in}
use Rattle.record.specs.Jobs.{check_record, opened, field, step, answer_of}
use Rattle.record.specs.declared.RecordAnswer.{RecordAnswer}
use Rattle.record.specs.declared.RecordAnswer.TheVariants.{Good, Refused}
use Rattle.record.proofs.Answers.{field_out}
use Rattle.record.proofs.Exact.{meaning-exact}
use Rattle.record.proofs.Lookups.{Opened, length-steps, field-zero, step-zero}
use Rattle.record.proofs.RoundTrip.{meaning-back, one-to-one}
use Rattle.record.proofs.Theorems.{check-decides, field_back, step_back, step-beyond, read_back}
use Rattle.demands.specs.Records.{GoodRecord, NoRecord, RecordEnds}

-- the record of a meaning
pub good-record : (b : List ℕ) (m : Meaning) → IsRecord b m → GoodRecord b (length m.steps)
good-record b m w =
    let o : Opened b (length m.steps) = record { meaning = m; is = meaning-back b m w; count = refl; record_is = w } in
    record {
      meaning = m;
      is = w;
      only = λ k v. some-injective k m (sym (meaning-back b k v) ∙ meaning-back b m w);
      steps = refl;
      fields_found = field_back b m w;
      steps_found = step_back b m w;
      whole = read_back b m w;
      no_place = sym (field-zero o 0 refl);
      places_end = λ i h. sym (field_out o _ i refl h);
      no_number = sym (step-zero o 0 refl);
      numbers_end = step-beyond b m w;
    }

-- the check, exactly
module _ (b : List ℕ) (small : Bytes b) where
  pub good-only : (n : ℕ) → check_record b ≡ good n → GoodRecord b n
  good-only n e = let d = (check-decides b small).accepted n e in rw d.2 (good-record b d.0 d.1)

  pub good-if : (n : ℕ) → GoodRecord b n → check_record b ≡ good n
  good-if n g = (check-decides b small).accepts g.meaning g.is ∙ ap good (sym g.steps)

  -- and of bytes that no meaning has
  pub no_record : ((m : Meaning) → IsRecord b m → ⊥) → NoRecord b
  unfolding check_record field step opened given ◌>>=◌
  no_record other = record { none = other; check = rw closed; fields = λ place. rw closed; steps = λ number. rw closed }
    where
      go : (o : Option Meaning) → meaning_in b ≡ o → meaning_in b ≡ none
      go none p = p
      go (some m) p = absurd (other m (meaning-exact b m small p))

      closed : meaning_in b ≡ none
      closed = go (meaning_in b) refl

-- every check ends in one of the two
pub record_told : (b : List ℕ) → ((i : ℕ) → get_or b i 0 < 256) → (r : RecordAnswer) → answer_of r ≡ check_record b → RecordEnds b r
record_told b small (Good n) p = good-only b (bytes_of b small) n (sym p)
record_told b small (Refused e) p =
    let d = check-decides b (bytes_of b small) in
    let none : (m : Meaning) → IsRecord b m → ⊥ = λ m w. refused≢good _ _ _ _ (p ∙ d.accepts m w) in
    (p ∙ d.refuses none, no_record b (bytes_of b small) none)

pub good-as : (b : List ℕ) → ((i : ℕ) → Fits w8 (get_or b i 0)) → {r : RecordAnswer} {n : ℕ} → r ≡ Good n → answer_of r ≡ check_record b → GoodRecord b n
good-as b small {n = n} e p = good-only b (bytes_of b (λ i. omega (arith, small i))) n (sym (ap answer_of (sym e) ∙ p))

-- seven fields by place and the steps by number tell the whole meaning
module _ (m m' : Meaning) (k : Rules m) (k' : Rules m') (places : (i : ℕ) → i < 7 → get_or (fields m) i [] ≡ get_or (fields m') i [])
    (many : length m.steps ≡ length m'.steps) (numbers : (i : ℕ) → i < length m.steps → get_or (map step_item m.steps) i [] ≡ get_or (map step_item m'.steps) i []) where
  same-steps : map step_item m.steps ≡ map step_item m'.steps
  same-steps = ext_get_or [] _ _ (length-steps m.steps ∙ many ∙ sym (length-steps m'.steps)) (λ i h. numbers i (omega (arith, length-steps m.steps)))

  pub items-tell : m ≡ m'
  unfolding record_of fields steps_item
  items-tell = one-to-one m m' k k' (ap (λ (ps : List (List ℕ)). item 16 (joined ps)) all)
    where
      all : fields m ≡ fields m'
      all = rw (places 0 (omega arith), places 1 (omega arith), places 2 (omega arith), places 3 (omega arith), places 4 (omega arith), places 5 (omega arith), places 6 (omega arith), same-steps)
