-- What the lookups of section 6 are for: they find what the meaning has, and give items of it. Assumes nothing.
use Rattle.std.proofs.Common.{◌≡◌, refl, sym, ap, ◌∙◌, subst, ℕ, suc, ◌+◌, ◌-◌, ◌<◌, Bool, true, false, ltb, List, [], ◌∷◌, map, length, take, get_or, ◌⊎◌, inl, inr, ⊎_elim, arith, ltb-false, ltb-true}
use Rattle.std.proofs.Math.Option.{Option, none, some, some-injective}
use Rattle.refusal.specs.Base.{good, ◌>>=◌, given, maybe}
use Rattle.refusal.proofs.Tools.{refused≢good}
use Rattle.item.specs.Tree.{Yaml, Entries, dict, get, Ranged}
use Rattle.item.specs.Encode.{encode}
use Rattle.item.proofs.Exact.{none≢}
use Rattle.entries.specs.Entries.{Stands}
use Rattle.entries.proofs.Standing.{stands-part}
use Rattle.meaning.specs.Meaning.{Step, Meaning}
use Rattle.meaning.specs.Record.{joined, step_item}
use Rattle.meaning.specs.Rules.{Each, StepRules, IsRecord}
use Rattle.value.proofs.Levels.{ranged}
use Rattle.record.specs.Jobs.{Found, nothing, opened, part_at, numbered, steps_start, step, part_of}
use Rattle.record.specs.Theorems.{Gives}
use Rattle.record.proofs.Headers.{part-inside}
use Rattle.record.proofs.Lookups.{length-steps, numbered-in}
use Rattle.record.proofs.Answers.{never-nothing}
use Rattle.record.proofs.RoundTrip.{meaning-back}
use Rattle.record.proofs.StepPlaces.{steps-stand}
use Rattle.record.proofs.Theorems.{step_back, step-beyond}
use Rattle.lookups.specs.Lookups.{number_of, step_by_id, First, FindsFirst, nth_step, in_mapping, value_in, item_part, numbered_step, value_by_key}
use Rattle.lookups.proofs.Places.{place-one, nth-stands, nth-kept}
use Rattle.lookups.proofs.Ids.{Search, found, missing, searched, first_one, none-at, none_has}
use Rattle.lookups.proofs.Values.{FoundValue, beside_get, in-step-found}

stands-bytes : {b p : List ℕ} (start end : ℕ) → Stands b start p → end ≡ start + length p → part_of b start end ≡ p
stands-bytes {b} {p} start end h e =
    part-inside b start end (omega arith) (omega (arith, h.within)) ∙ stands-part h (end - start) (omega arith)

module _ (b : List ℕ) (m : Meaning) (w : IsRecord b m) where
  opened-is : opened b ≡ good m
  unfolding opened given
  opened-is = rw (meaning-back b m w)

  abbrev ps : List (List ℕ)
  ps = map step_item m.steps

  numbered-as : (number : ℕ) → step b number ≡ numbered (steps_start m) ps number
  unfolding step ◌>>=◌
  numbered-as number = rw opened-is

  id-as : (id : List ℕ) → step_by_id b id ≡ maybe (number_of id 1 m.steps) (good nothing) (step b)
  unfolding step_by_id ◌>>=◌
  id-as id = rw opened-is

  -- a number gives a part, and another number another
  step_given : (i : ℕ) → i < length m.steps → step b (suc i) ≡ good (part_at (steps_start m) ps i)
  step_given i h = numbered-as (suc i) ∙ numbered-in (steps_start m) ps (suc i) i refl (omega (arith, length-steps m.steps))

  step-within : (i : ℕ) {f : Found} → step b (suc i) ≡ good f → i < length m.steps
  step-within i {f} e = go (ltb i (length m.steps)) refl
    where
      go : (t : Bool) → ltb i (length m.steps) ≡ t → i < length m.steps
      go true t = ltb-true i (length m.steps) t
      go false t = refused≢good f 53 0 0 (sym (step-beyond b m w i (ltb-false i (length m.steps) t)) ∙ e)

  step-one : (i j : ℕ) → i < length m.steps → step b (suc i) ≡ step b (suc j) → i ≡ j
  unfolding part_at
  step-one i j h e =
      let k : j < length m.steps = step-within j (sym e ∙ step_given i h) in
      let q : good (part_at (steps_start m) ps i) ≡ good (part_at (steps_start m) ps j) = sym (step_given i h) ∙ e ∙ step_given j k in
      let a : steps_start m + length (joined (take i ps)) ≡ steps_start m + length (joined (take j ps)) = cc q in
      place-one m.steps i j h k (omega arith)

  step-some : {X : Type 0} (i : ℕ) → step b (suc i) ≡ good nothing → X
  unfolding part_at
  step-some i e = never-nothing (sym e ∙ step_given i (step-within i e))

  module _ (id : List ℕ) where
    -- what is found, by what the search comes to
    as-found : (i : ℕ) → number_of id 1 m.steps ≡ some (1 + i) → step_by_id b id ≡ step b (suc i)
    unfolding maybe
    as-found i q = let e : 1 + i ≡ suc i = omega arith in id-as id ∙ rw q (ap (step b) e)

    as-missing : number_of id 1 m.steps ≡ none → step_by_id b id ≡ good nothing
    unfolding maybe
    as-missing q = id-as id ∙ rw q

    id-first : (i : ℕ) → First id m.steps i → Search id 1 m.steps → step_by_id b id ≡ step b (suc i)
    id-first i f (found j q g) = as-found j q ∙ ap (λ (k : ℕ). step b (suc k)) (first_one g f)
    id-first i f (missing q k) = absurd (none-at id m.steps i (none_has id f.not_empty m.steps k) f.within f.has)

    id-only : (i : ℕ) → step_by_id b id ≡ step b (suc i) → Search id 1 m.steps → First id m.steps i
    id-only i e (found j q g) = subst (First id m.steps) (step-one j i g.within (sym (as-found j q) ∙ e)) g
    id-only i e (missing q k) = step-some i (sym e ∙ as-missing q)

    id-absent : (id ≡ []) ⊎ Each (λ s. s.id ≡ id → ⊥) m.steps → Search id 1 m.steps → step_by_id b id ≡ good nothing
    id-absent n (found i q f) = absurd (⊎_elim f.not_empty (λ n. none-at id m.steps i n f.within f.has) n)
    id-absent n (missing q k) = as-missing q

    id-nowhere : step_by_id b id ≡ good nothing → Search id 1 m.steps → (id ≡ []) ⊎ Each (λ s. s.id ≡ id → ⊥) m.steps
    id-nowhere e (found i q f) = step-some i (sym (as-found i q) ∙ e)
    id-nowhere e (missing q k) = go id refl
      where
        go : (t : List ℕ) → id ≡ t → (id ≡ []) ⊎ Each (λ s. s.id ≡ id → ⊥) m.steps
        go [] p = inl p
        go (x ∷ t) p = inr (none_has id (λ n. cc) m.steps k)

    -- an id gives the step with the smallest number among those that have it
    pub finds-first : FindsFirst b m id
    finds-first =
        let s = searched id 1 m.steps in
        record { first = λ i f. id-first i f s; only = λ i e. id-only i e s; absent = λ n. id-absent n s; nowhere = λ e. id-nowhere e s }

    -- and that is the step's item
    pub id-back : (i : ℕ) → First id m.steps i → Gives b (step_by_id b id) (get_or ps i [])
    id-back i f =
        let g = step_back b m w i f.within in
        record { start = g.start; end = g.end; is = finds-first.first i f ∙ g.is; bytes = g.bytes }

  module _ (i at : ℕ) (st : Step) (e : nth_step (steps_start m) m.steps i ≡ some (at, st)) (es : Entries) (d : st.value ≡ dict es) (key : List ℕ) where
    fits : Ranged st.value
    fits = ranged st.value (nth-kept StepRules m.steps i (steps_start m) w.kept.steps e).value

    value_as : value_by_key b (suc i) key ≡ good (item_part (value_in key at st))
    unfolding value_by_key numbered_step given ◌>>=◌
    value_as = rw (opened-is, e)

    value-cases : (o : Option (ℕ × Yaml)) → value_in key at st ≡ o → maybe o none (λ (x : ℕ × Yaml). some x.1) ≡ get key es
    unfolding value_in in_mapping
    value-cases o p = ap (λ (o : Option (ℕ × Yaml)). maybe o none (λ (x : ℕ × Yaml). some x.1)) (sym p ∙ ap (in_mapping key _) d) ∙ beside_get key _ es

    -- the part that a key gives is the item of the value beside it
    pub value-back : {v : Yaml} → get key es ≡ some v → Gives b (value_by_key b (suc i) key) (encode v)
    unfolding item_part maybe
    value-back {v} g = go (value_in key at st) refl
      where
        go : (o : Option (ℕ × Yaml)) → value_in key at st ≡ o → Gives b (value_by_key b (suc i) key) (encode v)
        go none p = none≢ v (value-cases none p ∙ g)
        go (some x) p =
            let same_value : x.1 ≡ v = some-injective _ _ (value-cases (some x) p ∙ g) in
            let f : FoundValue b x.0 x.1 = in-step-found key st fits (nth-stands m.steps i (steps_start m) (steps-stand w) e).stands p in
            record {
              start = x.0;
              end = x.0 + length (encode x.1);
              is = value_as ∙ rw p;
              bytes = stands-bytes x.0 _ f.stands refl ∙ ap (λ (y : Yaml). encode y) same_value;
            }

    -- and nothing where there is none
    pub value_none : get key es ≡ none → value_by_key b (suc i) key ≡ good nothing
    unfolding item_part maybe
    value_none g = go (value_in key at st) refl
      where
        go : (o : Option (ℕ × Yaml)) → value_in key at st ≡ o → value_by_key b (suc i) key ≡ good nothing
        go none p = value_as ∙ rw p
        go (some x) p = none≢ x.1 (sym (value-cases (some x) p ∙ g))
