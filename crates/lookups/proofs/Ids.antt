-- The search for a step with an id, and which step it finds. Assumes nothing.
use Rattle.std.proofs.Common.{◌≡◌, refl, sym, ap, ◌∙◌, ℕ, zero, suc, ◌+◌, ◌-◌, ◌^◌, ◌≤◌, ◌<◌, Bool, true, false, ltb, List, [], ◌∷◌, map, length, take, drop, get_or, None, Some, arith, ltb-false, ltb-true}
use Rattle.std.proofs.Math.Bool.{false≢true}
use Rattle.std.proofs.Math.Option.{none, some}
use Rattle.refusal.specs.Base.{Answer, good, maybe, same, empty}
use Rattle.item.specs.Encode.{encode}
use Rattle.item.proofs.Size.{item-length}
use Rattle.item.proofs.Same.{same_refl, same-eq}
use Rattle.entries.specs.Entries.{Stands, nth_item}
use Rattle.entries.specs.declared.Span.{Span}
use Rattle.entries.proofs.Standing.{stands-part, item-content}
use Rattle.meaning.specs.Meaning.{Step}
use Rattle.meaning.specs.Record.{text_item, step_parts, step_item}
use Rattle.meaning.specs.Rules.{Each}
use Rattle.record.specs.Jobs.{Found, nothing, part, part_at, numbered}
use Rattle.record.specs.Contract.{StepsLie}
use Rattle.record.proofs.Lookups.{length-steps, numbered-in}
use Rattle.record.proofs.StepPlaces.{StepPart, step_part, no_part, none_left, FirstStep}
use Rattle.lookups.specs.Lookups.{has_id, number_of, First}
use Rattle.lookups.proofs.Places.{part-front, part-shift}

-- ---- one step's id

pub no_id : (id : List ℕ) (st : Step) → length id ≡ 0 → false ≡ has_id id st
unfolding has_id empty
no_id [] st e = refl
no_id (b ∷ id) st e = absurd (omega arith)

-- the second of the parts, which begin at `from`
module _ {s : List ℕ} {at from : ℕ} (st : Step) (q : from ≡ at + 6) (h : Stands s at (step_item st)) (w : length s ≤ 2 ^ 20) where
  pub id-is : (id : List ℕ) {span : Span} → (length id ≡ 0 → ⊥) → Some span ≡ nth_item s from 1 → same (take (span.end - (span.start + 6)) (drop (span.start + 6) s)) id ≡ has_id id st
  unfolding has_id empty step_parts text_item encode
  id-is [] n e = absurd (n refl)
  id-is (b ∷ id) {span} n e =
      let p : StepPart s at st 1 span.start span.end = step_part st h w 1 (omega arith) (e ∙ ap (λ (k : ℕ). nth_item s k 1) q) in
      let i : Stands s (span.start + 6) st.id = item-content 3 st.id p.stands in
      ap (λ (t : List ℕ). same t (b ∷ id)) (stands-part i (span.end - (span.start + 6)) (omega (arith, p.ends, item-length 3 st.id)))

  pub second_there : {X : Type 0} → None ≡ nth_item s from 1 → X
  second_there e = no_part st h w 1 (omega arith) (e ∙ ap (λ (k : ℕ). nth_item s k 1) q)

-- ---- the search

-- the first with the id, of steps from a place on
abbrev pub first_with : List ℕ → ℕ → List Step → Answer Found
first_with id from ss = maybe (number_of id 1 ss) (good nothing) (numbered from (map step_item ss))

-- the steps that are left, behind some that do not have the id
pub record Left (s id : List ℕ) (from to at : ℕ) (ss : List Step) : Type 0 where
  pub rest : List Step
  pub lie : StepsLie s at to rest
  pub before : ℕ
  pub count : before + length rest ≡ length ss
  pub number : number_of id (suc before) rest ≡ number_of id 1 ss
  pub place : (i : ℕ) → part_at at (map step_item rest) i ≡ part_at from (map step_item ss) (before + i)

pub ids_end : {s id : List ℕ} {from to at : ℕ} {ss : List Step} → Left s id from to at ss → to ≤ at → good nothing ≡ first_with id from ss
unfolding number_of maybe
ids_end {id = id} l h = sym (rw (sym l.number ∙ ap (number_of id (suc l.before)) (none_left l.rest h l.lie)))

module _ {s id : List ℕ} {from to at end : ℕ} {ss : List Step} (l : Left s id from to at ss) (first : FirstStep s at to l.rest end) where
  long : l.before + suc (length first.others) ≡ length ss
  long = ap (λ (rest : List Step). l.before + length rest) (sym first.is) ∙ l.count

  turn : number_of id (suc l.before) (first.step ∷ first.others) ≡ number_of id 1 ss
  turn = ap (number_of id (suc l.before)) (sym first.is) ∙ l.number

  place-on : (i : ℕ) → part_at at (map step_item (first.step ∷ first.others)) i ≡ part_at from (map step_item ss) (l.before + i)
  place-on i = ap (λ (rest : List Step). part_at at (map step_item rest) i) (sym first.is) ∙ l.place i

  pub id-found : has_id id first.step ≡ true → good (part at end) ≡ first_with id from ss
  unfolding number_of maybe
  id-found t =
      let n : l.before + 0 ≡ l.before = omega arith in
      let here : part_at from (map step_item ss) l.before ≡ part at end =
      ap (part_at from (map step_item ss)) (sym n) ∙ sym (place-on 0) ∙ part-front at (step_item first.step) (map step_item first.others) ∙ ap (part at) (sym first.ends) in
      let number : some (suc l.before) ≡ number_of id 1 ss = sym (rw t) ∙ turn in
      sym (rw (sym number) (numbered-in from (map step_item ss) (suc l.before) l.before refl (omega (arith, long, length-steps ss)) ∙ ap good here))

  pub ids_next : has_id id first.step ≡ false → Left s id from to end ss
  unfolding number_of
  ids_next t = record {
    rest = first.others;
    lie = first.behind;
    before = suc l.before;
    count = omega (arith, long);
    number = sym (rw t) ∙ turn;
    place = on;
  }
    where
      on : (i : ℕ) → part_at end (map step_item first.others) i ≡ part_at from (map step_item ss) (suc l.before + i)
      on i =
          let n : l.before + suc i ≡ suc l.before + i = omega arith in
          ap (λ (k : ℕ). part_at k (map step_item first.others) i) first.ends
          ∙ part-shift at (step_item first.step) (map step_item first.others) i
          ∙ place-on (suc i)
          ∙ ap (part_at from (map step_item ss)) n

-- ---- the first of several

in-id : (id : List ℕ) (st : Step) → has_id id st ≡ true → (id ≡ [] → ⊥) × (st.id ≡ id)
unfolding has_id empty
in-id [] st t = absurd (false≢true t)
in-id (b ∷ id) st t = (λ e. cc, same-eq st.id (b ∷ id) t)

not-id : (id : List ℕ) (st : Step) → has_id id st ≡ false → (id ≡ [] → ⊥) → st.id ≡ id → ⊥
unfolding has_id empty
not-id [] st t n e = n refl
not-id (b ∷ id) st t n e = false≢true (sym t ∙ rw e (same_refl (b ∷ id)))

-- what the search for a number comes to
pub data Search (id : List ℕ) (n : ℕ) (ss : List Step) : Type 0 where
  found : (i : ℕ) → number_of id n ss ≡ some (n + i) → First id ss i → Search id n ss
  missing : number_of id n ss ≡ none → Each (λ s. has_id id s ≡ false) ss → Search id n ss

pub searched : (id : List ℕ) (n : ℕ) (ss : List Step) → Search id n ss
unfolding number_of
searched id n [] = missing refl tt
searched id n (s ∷ ss) = go (has_id id s) refl (searched id (suc n) ss)
  where
    go : (t : Bool) → has_id id s ≡ t → Search id (suc n) ss → Search id n (s ∷ ss)
    go true t w =
        let h = in-id id s t in
        let e : n ≡ n + 0 = omega arith in
        found 0 (rw t (ap some e)) (record { not_empty = h.0; within = omega arith; has = h.1; none_before = λ j k. absurd (omega arith) })
    go false t (found i q f) =
        let e : suc n + i ≡ n + suc i = omega arith in
        found (suc i) (rw t (q ∙ ap some e)) (record { not_empty = f.not_empty; within = omega (arith, f.within); has = f.has; none_before = before })
      where
        before : (j : ℕ) → j < suc i → get_or (map (λ s. s.id) (s ∷ ss)) j [] ≡ id → ⊥
        before zero k = not-id id s t f.not_empty
        before (suc j) k = f.none_before j (omega arith)
    go false t (missing q k) = missing (rw t q) (t, k)

-- of one list there is one first
pub first_one : {id : List ℕ} {ss : List Step} {i j : ℕ} → First id ss i → First id ss j → i ≡ j
first_one {i = i} {j} f g = go (ltb i j) refl (ltb j i) refl
  where
    go : (t : Bool) → ltb i j ≡ t → (u : Bool) → ltb j i ≡ u → i ≡ j
    go true t u p = absurd (g.none_before i (ltb-true i j t) f.has)
    go false t true p = absurd (f.none_before j (ltb-true j i p) g.has)
    go false t false p = omega (arith, ltb-false i j t, ltb-false j i p)

-- ---- no step with the id

pub none-at : (id : List ℕ) (ss : List Step) (i : ℕ) → Each (λ s. s.id ≡ id → ⊥) ss → i < length ss → get_or (map (λ s. s.id) ss) i [] ≡ id → ⊥
none-at id [] i n h = absurd (omega arith)
none-at id (s ∷ ss) zero n h = n.0
none-at id (s ∷ ss) (suc i) n h = none-at id ss i n.1 (omega arith)

pub none_has : (id : List ℕ) → (id ≡ [] → ⊥) → (ss : List Step) → Each (λ s. has_id id s ≡ false) ss → Each (λ s. s.id ≡ id → ⊥) ss
none_has id n [] k = tt
none_has id n (s ∷ ss) k = (not-id id s k.0 n, none_has id n ss k.1)
