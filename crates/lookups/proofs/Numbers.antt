-- The steps of a record: all of them, the one with a number, and what stands beside a key of it. Assumes nothing.
use Rattle.std.specs.Prelude.{Option as StdOption, Some, None}
use Rattle.std.proofs.Common.{◌≡◌, refl, sym, ap, ◌∙◌, subst, ℕ, zero, suc, ◌+◌, ◌≤◌, ◌<◌, Bool, true, false, ltb, List, [], ◌∷◌, map, length, get_or, arith, ltb-false, ltb-true}
use Rattle.std.proofs.Math.Option.{Option, none, some}
use Rattle.refusal.specs.Base.{Answer, good, refused, ◌>>=◌, given, maybe, bytes, limit}
use Rattle.refusal.proofs.Tools.{bound, gave, refused≢good, refused-as, bind-cong}
use Rattle.item.specs.Tree.{Yaml, Ranged}
use Rattle.item.specs.Encode.{Bytes}
use Rattle.entries.specs.declared.Span.{Span}
use Rattle.entries.specs.Entries.{Stands}
use Rattle.meaning.specs.Meaning.{Step, Meaning}
use Rattle.meaning.specs.Record.{step_item}
use Rattle.meaning.specs.Rules.{StepRules}
use Rattle.item.proofs.Exact.{bytes_of}
use Rattle.value.proofs.Levels.{ranged}
use Rattle.record.specs.Read.{meaning_in}
use Rattle.record.specs.Jobs as job
use Rattle.record.specs.Jobs.{Found, nothing, part, opened, check_record, part_at, numbered, steps_start}
use Rattle.record.specs.Contract.{span_of}
use Rattle.record.proofs.Exact.{meaning-exact}
use Rattle.record.proofs.Lookups.{Opened, length-steps, closed, step_is, numbered-in, numbered-out}
use Rattle.record.proofs.Answers.{never-nothing}
use Rattle.record.proofs.StepPlaces.{record-small, steps-stand}
use Rattle.lookups.specs.Lookups.{number_of, step_by_id, nth_step, numbered_step, value_in, item_part, value_by_key, times_in, times}
use Rattle.lookups.proofs.Places.{part-front, part-shift, nth-stands, nth-kept}
use Rattle.lookups.proofs.Ids.{first_with}
use Rattle.lookups.proofs.Values.{FoundValue, in-step-found}

-- ---- all steps

module _ {b : List ℕ} {n : ℕ} (o : Opened b n) where
  pub by-id : (id : List ℕ) {r : Answer Found} {from : ℕ} → from ≡ steps_start o.meaning → r ≡ first_with id from o.meaning.steps → r ≡ step_by_id b id
  unfolding step_by_id opened given maybe ◌>>=◌
  by-id id at e = e ∙ ap (λ (i : ℕ). first_with id i o.meaning.steps) at ∙ sym (rw o.is (go (number_of id 1 o.meaning.steps)))
    where
      go : (k : Option ℕ) → maybe k (good nothing) (job.step b) ≡ maybe k (good nothing) (numbered (steps_start o.meaning) (map step_item o.meaning.steps))
      go none = refl
      go (some k) = step_is o k

pub id_refused : (b id : List ℕ) {n l s : ℕ} → refused n l s ≡ check_record b → refused n l s ≡ step_by_id b id
unfolding step_by_id
id_refused b id e = closed b _ _ _ e _

-- ---- the step with a number

abbrev step_part : ℕ × Step → Found
step_part x = part x.0 (x.0 + length (step_item x.1))

-- the step as `step` of `record` finds it
nth_in : (ss : List Step) (i at : ℕ) → i < length ss → (x : ℕ × Step) × (nth_step at ss i ≡ some x) × (part_at at (map step_item ss) i ≡ step_part x)
unfolding nth_step
nth_in [] i at h = absurd (omega arith)
nth_in (s ∷ ss) zero at h = ((at, s), refl, part-front at (step_item s) (map step_item ss))
nth_in (s ∷ ss) (suc i) at h =
    let r = nth_in ss i (at + length (step_item s)) (omega arith) in
    (r.0, r.1, sym (part-shift at (step_item s) (map step_item ss) i) ∙ r.2)

nth-out : (ss : List Step) (i at : ℕ) → length ss ≤ i → nth_step at ss i ≡ none
unfolding nth_step
nth-out [] i at h = refl
nth-out (s ∷ ss) zero at h = absurd (omega arith)
nth-out (s ∷ ss) (suc i) at h = nth-out ss i (at + length (step_item s)) (omega arith)

numbered_is : (m : Meaning) (number : ℕ) → numbered (steps_start m) (map step_item m.steps) number ≡ (numbered_step m number >>= λ x. good (step_part x))
unfolding numbered numbered_step given ◌>>=◌
numbered_is m zero = refl
numbered_is m (suc i) = go (ltb i (length m.steps)) refl
  where
    ps : List (List ℕ)
    ps = map step_item m.steps

    go : (t : Bool) → ltb i (length m.steps) ≡ t → numbered (steps_start m) ps (suc i) ≡ (given (nth_step (steps_start m) m.steps i) 53 0 0 >>= λ x. good (step_part x))
    go true e =
        let r = nth_in m.steps i (steps_start m) (ltb-true i (length m.steps) e) in
        numbered-in (steps_start m) ps (suc i) i refl (omega (arith, length-steps m.steps, ltb-true i (length m.steps) e)) ∙ ap good r.2 ∙ sym (rw r.1)
    go false e = numbered-out (steps_start m) ps (suc i) i refl (omega (arith, length-steps m.steps, ltb-false i (length m.steps) e)) ∙ sym (rw (nth-out m.steps i (steps_start m) (ltb-false i (length m.steps) e)))

step-as : (b : List ℕ) (number : ℕ) → job.step b number ≡ (opened b >>= λ m. numbered_step m number >>= λ x. good (step_part x))
unfolding job.step
step-as b number = bind-cong (opened b) _ _ (λ m _. numbered_is m number)

-- what is known of the step of a good record
pub record Known (b : List ℕ) (number start : ℕ) (step : Step) : Type 0 where
  pub stands : Stands b start (step_item step)
  pub value : Ranged step.value
  pub size : length b ≤ limit
  pub small : number ≤ start

known : (b : List ℕ) → Bytes b → (number : ℕ) (m : Meaning) (x : ℕ × Step) → opened b ≡ good m → numbered_step m number ≡ good x → Known b number x.0 x.1
unfolding opened numbered_step
known b h zero m x p q = refused≢good _ _ _ _ q
known b h (suc i) m x p q =
    gave (meaning_in b) 40 0 0 m p λ o.
    let w = meaning-exact b m h o in
    gave (nth_step (steps_start m) m.steps i) 53 0 0 x q λ r.
    let n = nth-stands m.steps i (steps_start m) (steps-stand w) r in
    record {
      stands = n.stands;
      value = ranged x.1.value (nth-kept StepRules m.steps i (steps_start m) w.kept.steps r).value;
      size = record-small w;
      small = unfold steps_start in omega (arith, n.beyond);
    }

pub record Numbered (b : List ℕ) (number start : ℕ) : Type 0 where
  pub meaning : Meaning
  pub is : opened b ≡ good meaning
  pub step : Step
  pub found : numbered_step meaning number ≡ good (start, step)
  pub there : Known b number start step

module _ (b : List ℕ) (number : ℕ) where
  pub number-found : ((i : ℕ) → get_or b i 0 < 256) → {start end : ℕ} → good (part start end) ≡ job.step b number → Numbered b number start
  number-found small {start} {end} e =
      bound (opened b) _ (part start end) (sym (e ∙ step-as b number)) λ m p q.
      bound (numbered_step m number) _ (part start end) q λ x u v.
      subst (Numbered b number) (cc v) (record { meaning = m; is = p; step = x.1; found = u; there = known b (bytes_of b small) number m x p u })

  pub number_there : good nothing ≡ job.step b number → ⊥
  number_there e =
      bound (opened b) _ nothing (sym (e ∙ step-as b number)) λ m p q.
      bound (numbered_step m number) _ nothing q λ x u v.
      never-nothing (sym v)

  -- a refusal goes on to what would be read of the step
  refused-on : {A B : Type 0} {n l s : ℕ} (g : ℕ × Step → Answer A) (f : ℕ × Step → Answer B) → ((x : ℕ × Step) → (a : A) × (g x ≡ good a)) → refused n l s ≡ (opened b >>= λ m. numbered_step m number >>= g) → refused n l s ≡ (opened b >>= λ m. numbered_step m number >>= f)
  unfolding ◌>>=◌
  refused-on {A} {B} {n} {l} {s} g f t e = go (opened b) e
    where
      inner : (a : Answer (ℕ × Step)) → refused n l s ≡ (a >>= g) → refused n l s ≡ (a >>= f)
      inner (good x) e = refused≢good _ _ _ _ (e ∙ (t x).1)
      inner (refused i j k) e = refused-as e

      go : (o : Answer Meaning) → refused n l s ≡ (o >>= λ m. numbered_step m number >>= g) → refused n l s ≡ (o >>= λ m. numbered_step m number >>= f)
      go (good m) e = inner (numbered_step m number) e
      go (refused i j k) e = refused-as e

  pub value_refused : (key : List ℕ) {n l s : ℕ} → refused n l s ≡ job.step b number → refused n l s ≡ value_by_key b number key
  unfolding value_by_key
  value_refused key e = refused-on (λ x. good (step_part x)) _ (λ x. (step_part x, refl)) (e ∙ step-as b number)

  pub value-is : {start : ℕ} (key : List ℕ) {r : Answer Found} → (w : Numbered b number start) → r ≡ good (item_part (value_in key start w.step)) → r ≡ value_by_key b number key
  unfolding value_by_key ◌>>=◌
  value-is key w e = e ∙ sym (rw (w.is, w.found))

  -- ---- beside the key `times`

  pub times-refused : {n l s : ℕ} → refused n l s ≡ value_by_key b number (bytes "times") → refused n l s ≡ times b number
  unfolding value_by_key times
  times-refused e = refused-on (λ x. good (item_part (value_in (bytes "times") x.0 x.1))) _ (λ x. (item_part (value_in (bytes "times") x.0 x.1), refl)) e

  -- a value that was looked for
  record Sought (key : List ℕ) (f : Found) : Type 0 where
    at : ℕ
    step_is : Numbered b number at
    part_is : f ≡ item_part (value_in key at step_is.step)
    small : number ≤ limit

  sought : ((i : ℕ) → get_or b i 0 < 256) → (key : List ℕ) (f : Found) → good f ≡ value_by_key b number key → Sought key f
  unfolding value_by_key
  sought small key f e =
      bound (opened b) _ f (sym e) λ m p q.
      bound (numbered_step m number) _ f q λ x u v.
      let k = known b (bytes_of b small) number m x p u in
      record { at = x.0; step_is = record { meaning = m; is = p; step = x.1; found = u; there = k }; part_is = cc v; small = omega (arith, k.small, k.size, k.stands.within) }

  pub value-small : ((i : ℕ) → get_or b i 0 < 256) → (key : List ℕ) (r : StdOption Span) → span_of r ≡ value_by_key b number key → number ≤ limit
  value-small small key (Some x) e = (sought small key _ e).small
  value-small small key None e = (sought small key _ e).small

  pub times-missing : ((i : ℕ) → get_or b i 0 < 256) → good nothing ≡ value_by_key b number (bytes "times") → refused 38 0 number ≡ times b number
  unfolding times given ◌>>=◌ item_part maybe
  times-missing small e =
      let w = sought small (bytes "times") nothing e in
      let n = w.step_is in
      rw (n.is, n.found) (go (value_in (bytes "times") w.at n.step) w.part_is)
    where
      go : (o : Option (ℕ × Yaml)) → nothing ≡ item_part o → refused 38 0 number ≡ (given o 38 0 number >>= λ (x : ℕ × Yaml). times_in number x.1)
      go none e = refl
      go (some x) e = cc

  -- the value that was found
  pub record TimesAt (start : ℕ) : Type 0 where
    pub value : Yaml
    pub found : FoundValue b start value
    pub is : times_in number value ≡ times b number
    pub size : length b ≤ limit

  pub times-found : ((i : ℕ) → get_or b i 0 < 256) → {start end : ℕ} → good (part start end) ≡ value_by_key b number (bytes "times") → TimesAt start
  unfolding times given ◌>>=◌ item_part maybe
  times-found small {start} {end} e = go (value_in (bytes "times") w.at n.step) refl w.part_is
    where
      w : Sought (bytes "times") (part start end)
      w = sought small (bytes "times") (part start end) e

      n : Numbered b number w.at
      n = w.step_is

      go : (o : Option (ℕ × Yaml)) → value_in (bytes "times") w.at n.step ≡ o → part start end ≡ item_part o → TimesAt start
      go none p e = cc
      go (some x) p e =
          let a : x.0 ≡ start = cc in
          record {
            value = x.1;
            found = subst (λ (i : ℕ). FoundValue b i x.1) a (in-step-found (bytes "times") n.step n.there.value n.there.stands p);
            is = sym (rw (n.is, n.found, p));
            size = n.there.size;
          }
