-- Where the steps of a record and their parts stand, for those who walk along them. Assumes nothing.
use Rattle.std.proofs.Common.{◌≡◌, refl, sym, ap, ◌∙◌, subst, ℕ, zero, suc, ◌+◌, ◌≤◌, ◌<◌, ◌^◌, arith, List, [], ◌∷◌, append-nil, map, length, take, get_or, length-append, length-drop}
use Rattle.refusal.specs.Base.{good, limit}
use Rattle.item.specs.Tree.{bool, str, Ranged}
use Rattle.item.specs.Encode.{item, encode}
use Rattle.item.specs.Places.{header_at}
use Rattle.std.specs.Prelude.{None, Some, Ok, Err}
use Rattle.item.specs.declared.Item.{Item}
use Rattle.item.specs.declared.Broken.{Broken}
use Rattle.item.proofs.Size.{item-length}
use Rattle.entries.specs.Entries.{Stands, nth_item}
use Rattle.entries.specs.declared.Span.{Span}
use Rattle.entries.proofs.Standing.{stands-left, stands-right, stands_at, item-head, item-content}
use Rattle.meaning.specs.Meaning.{Step, Meaning}
use Rattle.meaning.specs.Record.{joined, optional, expected, text_item, step_parts, step_item, steps_item, fields}
use Rattle.meaning.specs.Rules.{Each, StepRules, IsRecord}
use Rattle.value.proofs.Levels.{ranged}
use Rattle.record.specs.Jobs.{part, part_at, steps_start}
use Rattle.record.specs.declared.StepItems.{StepItems}
use Rattle.record.specs.Contract.{span_of, StepsLie, StepsOf}
use Rattle.record.proofs.Lookups.{OneItem, tree-item, nth-part, steps_start_lem, steps-fit, Opened}
use Rattle.record.proofs.Answers.{last_found, never-nothing}

-- ---- parts one behind another

parts-stand : {s : List ℕ} (ps : List (List ℕ)) (i at : ℕ) → i < length ps → Stands s at (joined ps) → Stands s (at + length (joined (take i ps))) (get_or ps i [])
unfolding joined
parts-stand [] i at n st = absurd (omega arith)
parts-stand (p ∷ ps) zero at n st = stands_at (omega arith) (stands-left p (joined ps) st)
parts-stand (p ∷ ps) (suc i) at n st =
    stands_at (omega (arith, length-append p (joined (take i ps)))) (parts-stand ps i (at + length p) (omega arith) (stands-right p (joined ps) st))

pub next-part : (ps : List (List ℕ)) (i : ℕ) → i < length ps → length (joined (take (suc i) ps)) ≡ length (joined (take i ps)) + length (get_or ps i [])
unfolding joined
next-part [] i n = absurd (omega arith)
next-part (p ∷ ps) zero n = length-append p [] ∙ omega arith
next-part (p ∷ ps) (suc i) n = omega (arith, length-append p (joined (take (suc i) ps)), length-append p (joined (take i ps)), next-part ps i (omega arith))

-- ---- the parts of a step

step-items : (x : Step) → Each OneItem (step_parts x)
unfolding step_parts text_item
step-items x =
    (tree-item (str x.name), (tree-item (str x.id), (tree-item (str x.key), (tree-item x.value, (tree-item (optional x.timeout), (tree-item (bool x.continue), (tree-item (expected x.expect), tt)))))))

-- the part with so many before it, where the walk over the headers ends; behind it the next begins
pub record StepPart (s : List ℕ) (at : ℕ) (x : Step) (i start end : ℕ) : Type 0 where
  pub begins : start ≡ at + 6 + length (joined (take i (step_parts x)))
  pub stands : Stands s start (get_or (step_parts x) i [])
  pub ends : end ≡ start + length (get_or (step_parts x) i [])
  pub next : end ≡ at + 6 + length (joined (take (suc i) (step_parts x)))

module _ {s : List ℕ} {at : ℕ} (x : Step) (st : Stands s at (step_item x)) where
  parts : Stands s (at + 6) (joined (step_parts x))
  unfolding step_item
  parts = item-content 19 (joined (step_parts x)) st

  seven : length (step_parts x) ≡ 7
  unfolding step_parts
  seven = refl

  pub value-part : Stands s (at + 6 + length (joined (take 3 (step_parts x)))) (encode x.value)
  unfolding step_parts
  value-part = parts-stand (step_parts x) 3 (at + 6) (omega arith) parts

  module _ (w : length s ≤ 2 ^ 20) (i : ℕ) (n : i < 7) where
    found_part : span_of (nth_item s (at + 6) i) ≡ good (part_at (at + 6) (step_parts x) i)
    found_part = nth-part s parts.rest (step_parts x) (step-items x) w i (at + 6) (omega (arith, parts.within)) parts.here (omega (arith, seven))

    pub step_part : {span : Span} → Some span ≡ nth_item s (at + 6) i → StepPart s at x i span.start span.end
    unfolding part_at
    step_part {span} e =
        let q : good (part span.start span.end) ≡ good (part_at (at + 6) (step_parts x) i) = ap span_of e ∙ found_part in
        let a : span.start ≡ at + 6 + length (joined (take i (step_parts x))) = cc q in
        let b : span.end ≡ at + 6 + length (joined (take (suc i) (step_parts x))) = cc q in
        record {
          begins = a;
          stands = stands_at (sym a) (parts-stand (step_parts x) i (at + 6) (omega (arith, seven)) parts);
          ends = omega (arith, a, b, next-part (step_parts x) i (omega (arith, seven)));
          next = b;
        }

    pub no_part : {X : Type 0} → None ≡ nth_item s (at + 6) i → X
    unfolding part_at
    no_part e = never-nothing (ap span_of e ∙ found_part)

-- ---- one step after another

pub step-long : (x : Step) → 6 ≤ length (step_item x)
unfolding step_item
step-long x = omega (arith, item-length 19 (joined (step_parts x)))

pub none_left : {s : List ℕ} {at to : ℕ} (xs : List Step) → to ≤ at → StepsLie s at to xs → xs ≡ []
unfolding joined
none_left [] m h = refl
none_left (x ∷ xs) m h = absurd (omega (arith, h.ends, length-append (step_item x) (joined (map step_item xs)), step-long x))

-- the first of the steps, and the others behind it
pub record FirstStep (s : List ℕ) (at to : ℕ) (xs : List Step) (next : ℕ) : Type 0 where
  pub step : Step
  pub others : List Step
  pub is : xs ≡ step ∷ others
  pub ranged : Ranged step.value
  pub stands : Stands s at (step_item step)
  pub ends : next ≡ at + length (step_item step)
  pub behind : StepsLie s next to others

module _ {s : List ℕ} {at to : ℕ} (w : length s ≤ 2 ^ 20) (m : at < to) where
  step-head : (x : Step) → Stands s at (step_item x) → header_at s at ≡ Ok (record { kind = 19; from = at + 6; to = at + length (step_item x) })
  unfolding step_item
  step-head x st =
      let c = joined (step_parts x) in
      let n : at + 6 + length c ≡ at + length (item 19 c) = omega (arith, item-length 19 c) in
      item-head 19 c (omega arith) w st ∙ ap (λ (k : ℕ). Ok (record { kind = 19; from = at + 6; to = k })) n

  pub first_step : (xs : List Step) → StepsLie s at to xs → {item : Item} → Ok item ≡ header_at s at → FirstStep s at to xs item.to
  unfolding joined
  first_step [] h e = absurd (omega (arith, h.ends))
  first_step (x ∷ xs) h {item = found} e =
      let st : Stands s at (step_item x) = stands-left (step_item x) (joined (map step_item xs)) h.stands in
      let n : at + length (step_item x) ≡ found.to = cc (e, step-head x st) in
      record {
        step = x;
        others = xs;
        is = refl;
        ranged = h.ranged.0;
        stands = st;
        ends = sym n;
        behind = record {
          ranged = h.ranged.1;
          stands = stands_at n (stands-right (step_item x) (joined (map step_item xs)) h.stands);
          ends = omega (arith, h.ends, length-append (step_item x) (joined (map step_item xs)));
        };
      }

  pub no_step : (xs : List Step) → StepsLie s at to xs → {broken : Broken} {X : Type 0} → Err broken ≡ header_at s at → X
  unfolding joined
  no_step [] h e = absurd (omega (arith, h.ends))
  no_step (x ∷ xs) h e = absurd (let z : ◌≡◌ {A = ℕ} 0 1 = cc (e, step-head x (stands-left (step_item x) (joined (map step_item xs)) h.stands)) in omega arith)

-- ---- all steps of a record

values-ranged : (xs : List Step) → Each StepRules xs → Each (λ x. Ranged x.value) xs
values-ranged [] h = tt
values-ranged (x ∷ xs) h = (ranged x.value h.0.value, values-ranged xs h.1)

module _ {b : List ℕ} {m : Meaning} (w : IsRecord b m) where
  pub record-small : length b ≤ 2 ^ 20
  record-small = subst (λ (s : List ℕ). length s ≤ limit) w.written w.kept.size

  pub steps-stand : Stands b (steps_start m) (joined (map step_item m.steps))
  steps-stand =
      let p = joined (map step_item m.steps) in
      record {
        rest = [];
        here = steps_start_lem b m w;
        within = omega (arith, steps-fit b m w, sym (length-drop (steps_start m) b) ∙ ap length (steps_start_lem b m w ∙ append-nil p));
      }

module _ {b : List ℕ} {n : ℕ} (o : Opened b n) where
  -- where the last field stands
  pub record Last (start end : ℕ) : Type 0 where
    pub begins : start + 6 ≡ steps_start o.meaning
    pub lie : StepsLie b (start + 6) end o.meaning.steps

  pub steps-lie : {span : Span} → Some span ≡ nth_item b 6 7 → Last span.start span.end
  unfolding steps_start steps_item fields
  steps-lie {span} e =
      let m = o.meaning in
      let q = last_found o (Some span) e refl in
      let a : span.start ≡ 6 + length (joined (take 7 (fields m))) = cc q in
      let z : span.end ≡ 6 + length (joined (take 8 (fields m))) = cc q in
      let k : span.start + 6 ≡ steps_start m = omega (arith, a) in
      record {
        begins = k;
        lie = record {
          ranged = values-ranged m.steps o.record_is.kept.steps;
          stands = stands_at (sym k) (steps-stand o.record_is);
          ends = omega (arith, a, z, next-part (fields m) 7 (omega arith), item-length 18 (joined (map step_item m.steps)));
        };
      }

  pub steps-there : {X : Type 0} → None ≡ nth_item b 6 7 → X
  steps-there e = never-nothing (last_found o None e refl)

abbrev pub opened_steps : {b : List ℕ} {steps : StepItems} → StepsOf b steps → Opened b steps.count
opened_steps w = record { meaning = w.meaning; is = w.is; count = w.count; record_is = w.record_is }
