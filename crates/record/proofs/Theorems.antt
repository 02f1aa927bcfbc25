-- What the jobs on a record are for: the check accepts just the records of meanings that keep the rules, and by the lookups a
-- record's whole meaning is read back. Assumes nothing.
use Rattle.std.proofs.Common.{◌≡◌, refl, sym, ap, ◌∙◌, ℕ, zero, suc, ◌+◌, ◌-◌, ◌≤◌, ◌<◌, arith, List, [], ◌∷◌, ◌++◌, append_assoc, map, length, take, drop, get_or, length-append, length-drop, take-append-drop, drop_of_length-le, take_at, drop-cons}
use Rattle.std.proofs.Math.Option.{Option, none, some}
use Rattle.refusal.specs.Base.{Answer, good, refused, ◌>>=◌, given, limit}
use Rattle.item.specs.Encode.{item, Bytes}
use Rattle.item.proofs.Size.{item-length}
use Rattle.meaning.specs.Meaning.{Meaning}
use Rattle.meaning.specs.Record.{joined, step_item, steps_item, fields, record_of}
use Rattle.meaning.specs.Rules.{IsRecord}
use Rattle.meaning.proofs.Joined.{joined-append}
use Rattle.record.specs.Read.{fields_in, meaning_in}
use Rattle.record.specs.Jobs.{Found, opened, check_record, part_at, steps_start, field, step, part_of}
use Rattle.record.proofs.Exact.{meaning-exact}
use Rattle.record.proofs.RoundTrip.{meaning-back, meaning-of-back}
use Rattle.record.proofs.Headers.{part-inside}
use Rattle.record.proofs.StepPlaces.{next-part}
use Rattle.record.proofs.Lookups.{Opened, opening, skip-parts, fields-start, steps_start_lem, header-fits, steps-fit, length-steps, field_is, step_is, numbered-in, numbered-out}
use Rattle.record.specs.Theorems.{Decides, Gives, shown, numbers, together}

pub check-decides : (b : List ℕ) → Bytes b → Decides b
unfolding check_record opened given ◌>>=◌
check-decides b h = record {
  accepted = λ n e. let o = opening b h n (sym e) in (o.meaning, o.record_is, o.count);
  accepts = λ m w. rw (meaning-back b m w);
  refuses = λ other. go (meaning_in b) refl other;
}
  where
    go : (o : Option Meaning) → meaning_in b ≡ o → ((m : Meaning) → IsRecord b m → ⊥) → (given o 40 0 0 >>= λ m. good (length m.steps)) ≡ refused 40 0 0
    go none p other = refl
    go (some m) p other = absurd (other m (meaning-exact b m h p))

-- of parts one behind another, the bytes of each
part_bytes : (s : List ℕ) (ps : List (List ℕ)) (at i : ℕ) → at ≤ length s → drop at s ≡ joined ps ++ [] → i < length ps
    → part_of s (at + length (joined (take i ps))) (at + length (joined (take (suc i) ps))) ≡ get_or ps i []
unfolding joined
part_bytes s ps at i h e n =
    let p : List ℕ = get_or ps i [] in
    let a : ℕ = length (joined (take i ps)) in
    let here : drop (at + a) s ≡ joined (drop i ps) ++ [] = skip-parts s [] ps i at e in
    let first : joined (drop i ps) ≡ p ++ joined (drop (suc i) ps) = ap joined (drop-cons ps i [] n) in
    let more : length (joined (take (suc i) ps)) ≡ a + length p = next-part ps i n in
    let size : length s - at ≡ length (joined ps) + 0 = sym (length-drop at s) ∙ ap length e ∙ length-append (joined ps) [] in
    let parts : length (joined ps) ≡ length (joined (take (suc i) ps)) + length (joined (drop (suc i) ps)) =
    ap (λ (l : List (List ℕ)). length (joined l)) (sym (take-append-drop (suc i) ps)) ∙ ap length (joined-append (take (suc i) ps) (drop (suc i) ps)) ∙ length-append (joined (take (suc i) ps)) (joined (drop (suc i) ps)) in
    let width : at + length (joined (take (suc i) ps)) - (at + a) ≡ length p = omega arith in
    part-inside s (at + a) (at + length (joined (take (suc i) ps))) (omega arith) (omega arith)
    ∙ rw (width, here, first, append_assoc p (joined (drop (suc i) ps)) []) (take_at p (joined (drop (suc i) ps) ++ []) (length p) refl)

module _ (b : List ℕ) (m : Meaning) (w : IsRecord b m) where
  open-record : Opened b (length m.steps)
  open-record = record { meaning = m; is = meaning-back b m w; count = refl; record_is = w }

  -- a place gives that field's item of the meaning
  pub field_back : (i : ℕ) → i < 8 → Gives b (field b (suc i)) (get_or (fields m) i [])
  unfolding part_at fields open-record
  field_back i h = record {
    start = 6 + length (joined (take i (fields m)));
    end = 6 + length (joined (take (suc i) (fields m)));
    is = field_is open-record (suc i) ∙ numbered-in 6 (fields m) (suc i) i refl h;
    bytes = part_bytes b (fields m) 6 i (header-fits b m w) (fields-start b m w) h;
  }

  -- a number gives that step's
  pub step_back : (i : ℕ) → i < length m.steps → Gives b (step b (suc i)) (get_or (map step_item m.steps) i [])
  unfolding part_at open-record
  step_back i h =
      let ps = map step_item m.steps in
      let n : i < length ps = omega (arith, length-steps m.steps) in
      record {
        start = steps_start m + length (joined (take i ps));
        end = steps_start m + length (joined (take (suc i) ps));
        is = step_is open-record (suc i) ∙ numbered-in (steps_start m) ps (suc i) i refl n;
        bytes = part_bytes b ps (steps_start m) i (steps-fit b m w) (steps_start_lem b m w) n;
      }

  -- and no number above the count, so that the count is told too
  pub step-beyond : (i : ℕ) → length m.steps ≤ i → step b (suc i) ≡ refused 53 0 0
  unfolding open-record
  step-beyond i h =
      step_is open-record (suc i) ∙ numbered-out (steps_start m) (map step_item m.steps) (suc i) i refl (omega (arith, length-steps m.steps))

gives-shown : {b : List ℕ} {a : Answer Found} {p : List ℕ} → Gives b a p → shown b a ≡ p
unfolding shown
gives-shown {b} g = ap (shown b) g.is ∙ g.bytes

module _ (b : List ℕ) (m : Meaning) (w : IsRecord b m) where
  place-shown : (i : ℕ) → i < 8 → shown b (field b (suc i)) ≡ get_or (fields m) i []
  place-shown i h = gives-shown (field_back b m w i h)

  steps-shown : (n k : ℕ) → k + n ≡ length m.steps → map (λ i. shown b (step b i)) (numbers (suc k) n) ≡ drop k (map step_item m.steps)
  unfolding numbers
  steps-shown zero k e = sym (drop_of_length-le (map step_item m.steps) {i = k} (omega (arith, length-steps m.steps)))
  steps-shown (suc n) k e =
      ap (λ (p : List ℕ). p ∷ map (λ i. shown b (step b i)) (numbers (suc (suc k)) n)) (gives-shown (step_back b m w k (omega arith)))
      ∙ ap (λ (l : List (List ℕ)). get_or (map step_item m.steps) k [] ∷ l) (steps-shown n (suc k) (omega arith))
      ∙ sym (drop-cons (map step_item m.steps) k [] (omega (arith, length-steps m.steps)))

  parts_are : together (λ i. shown b (field b i)) (λ i. shown b (step b i)) (length m.steps) ≡ joined (fields m)
  unfolding together fields steps_item
  parts_are =
      rw (
        place-shown 0 (omega arith),
        place-shown 1 (omega arith),
        place-shown 2 (omega arith),
        place-shown 3 (omega arith),
        place-shown 4 (omega arith),
        place-shown 5 (omega arith),
        place-shown 6 (omega arith),
        steps-shown (length m.steps) 0 (omega arith),
      )

  -- put together, what the two lookups give is read as the meaning, and is the record but for its header
  pub read_back : fields_in (together (λ i. shown b (field b i)) (λ i. shown b (step b i)) (length m.steps)) ≡ some m
  unfolding record_of
  read_back =
      let n : length (record_of m) ≡ 6 + length (joined (fields m)) = item-length 16 (joined (fields m)) in
      let s : length (record_of m) ≤ limit = w.kept.size in
      ap fields_in parts_are ∙ meaning-of-back m w.kept (omega arith)

  pub written_back : item 16 (together (λ i. shown b (field b i)) (λ i. shown b (step b i)) (length m.steps)) ≡ b
  unfolding record_of
  written_back = ap (item 16) parts_are ∙ w.written
