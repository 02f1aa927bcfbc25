-- The record of a meaning is a programme as a panel counts on, and what the panel shows of it stands where the lookups find it. Assumes nothing.
use Rattle.std.proofs.Common.{◌≡◌, refl, sym, ap, ◌∙◌, subst, ℕ, zero, suc, ◌+◌, ◌≤◌, ◌<◌, Fits, w8, arith, List, [], ◌∷◌, ◌++◌, map, append-nil, length, take, drop, Option, None, Some, slice_get, get_or, length-append, length-drop, inl, inr}
use Rattle.std.specs.Prelude.{◌⊎◌}
use Rattle.std.specs.List.{AllByRecursion}
use Rattle.std.specs.Option.{option_map}
use Rattle.std.proofs.Math.Option.{Option as Maybe, none, some}
use Rattle.std.proofs.lemmas.List.{length-map, take-map}
use Rattle.std.proofs.lemmas.Option.{slice_get_within, slice_get-map}
use Rattle.std.proofs.lemmas.List.Elements.{All-from_recursion}
use Rattle.refusal.specs.Base.{Answer, good, refused, given, ◌>>=◌}
use Rattle.refusal.proofs.Tools.{good-inj, refused≢good}
use Rattle.item.specs.Tree.{Yaml, bool, seq}
use Rattle.item.specs.Encode.{item, encode, kind_of, Bytes}
use Rattle.item.proofs.Size.{item-length}
use Rattle.item.proofs.Exact.{bytes_of}
use Rattle.entries.specs.Entries.{content}
use Rattle.entries.proofs.Standing.{value-item, kind-small}
use Rattle.meaning.specs.Meaning.{Step, Meaning}
use Rattle.meaning.specs.Record.{joined, optional, expected, text_item, step_parts, step_item, tags_item, defaults_parts, defaults_item, steps_item, fields, record_of}
use Rattle.meaning.specs.Rules.{Each, StepRules, IsRecord}
use Rattle.record.specs.Jobs.{opened as job_opened, Found, nothing, part, part_at, steps_start, field, step, part_of, check_record, answer_of, lookup_of}
use Rattle.record.specs.declared.RecordAnswer.{RecordAnswer}
use Rattle.record.specs.declared.RecordAnswer.TheVariants.{Good, Refused as NoRecord}
use Rattle.record.specs.declared.Lookup.{Lookup}
use Rattle.record.specs.declared.Lookup.TheVariants.{Found as FoundPart, Nothing, Refused as NotFound}
use Rattle.record.proofs.Headers.{part-inside}
use Rattle.record.proofs.Lookups.{Opened, opening, field_is, step_is, step-zero, numbered-in, length-steps, fields-start}
use Rattle.record.specs.Read.{meaning_in}
use Rattle.record.proofs.Exact.{meaning-exact}
use Rattle.record.proofs.Theorems.{step-beyond}
use Rattle.record.proofs.RoundTrip.{meaning-back}
use Rattle.panel.specs.Panel.{numbered as panel_numbered}
use Rattle.panel.specs.Jobs.{panel_name, panel_step, name_of, step_of}
use Rattle.panel.specs.declared.PanelName.{PanelName}
use Rattle.panel.specs.declared.PanelName.TheVariants.{Named, Refused as NotNamed}
use Rattle.panel.specs.declared.PanelStep.{PanelStep}
use Rattle.panel.specs.declared.PanelStep.TheVariants.{Found as Shown, Refused as NotShown}
use Rattle.panel.proofs.Placed.{list_start, LabelsStand, text-inside, text-bytes}
use Rattle.panel.proofs.Theorem.{name-is, step_start, step-is, step-none, step-labels-stand}
use Rattle.panel.proofs.Theorem as theorem
use Rattle.demands.specs.Panels.{SameName, NamedAlike, SameLabels, LabelledAlike}
use Rattle.panel.specs.Programmes as panel
use Rattle.panel.specs.Programmes.{AnyItem, AnyStep, AnyProgramme, written, text, outer_items, HasKind, StepFits, IsProgramme}

-- ---- the programme that a meaning's record is

abbrev tree : Yaml → AnyItem
tree y = record { kind = kind_of y; content = content y }

unfoldable any_step : Step → AnyStep
any_step s = record {
  kind = 19;
  name = s.name;
  id = s.id;
  more = text s.key ∷ tree s.value ∷ tree (optional s.timeout) ∷ tree (bool s.continue) ∷ tree (expected s.expect) ∷ [];
}

unfoldable six : Meaning → List AnyItem
six m =
    text m.description ∷ record { kind = 4; content = joined (map text_item m.tags) } ∷ text m.image ∷ tree m.setup ∷ record { kind = 17; content = joined (defaults_parts m.defaults) } ∷ tree (seq m.fail_on) ∷ []

unfoldable any : Meaning → AnyProgramme
any m = record { name = m.name; six = six m; list_kind = 18; steps = map any_step m.steps; more = [] }

step-written : (s : Step) → item 19 (panel.step_item (any_step s)).content ≡ step_item s
unfolding any_step step_item step_parts text_item encode joined kind_of content
step-written s = rw (value-item s.value, value-item (optional s.timeout), value-item (expected s.expect)) refl

steps-written : (ss : List Step) → written (map panel.step_item (map any_step ss)) ≡ joined (map step_item ss)
unfolding joined any_step
steps-written [] = refl
steps-written (s ∷ ss) = ap (λ (r : List ℕ). item (any_step s).kind (panel.step_item (any_step s)).content ++ r) (steps-written ss) ∙ ap (λ (i : List ℕ). i ++ joined (map step_item ss)) (step-written s)

-- the name and what stands between it and the steps
first-written : (m : Meaning) → written (text m.name ∷ six m) ≡ joined (take 7 (fields m))
unfolding six fields text_item tags_item defaults_item encode joined content kind_of
first-written m = rw (value-item m.setup) refl

all-written : (m : Meaning) → written (outer_items (any m)) ≡ joined (fields m)
unfolding any six fields text_item tags_item defaults_item steps_item encode joined content kind_of
all-written m = rw (value-item m.setup, steps-written m.steps) refl

steps-fit : (ss : List Step) → Each StepRules ss → AllByRecursion StepFits (map any_step ss)
unfolding any_step
steps-fit [] k = tt
steps-fit (s ∷ ss) k = (
  record {
    kind = omega arith;
    name = k.0.name;
    id = k.0.id;
    more = All-from_recursion HasKind (any_step s).more (omega arith, (kind-small s.value, (kind-small (optional s.timeout), (kind-small (bool s.continue), (kind-small (expected s.expect), tt)))));
  },
  steps-fit ss k.1,
)

module _ (b : List ℕ) (m : Meaning) (w : IsRecord b m) where
  is-programme : IsProgramme b (any m)
  unfolding any six record_of
  is-programme = record {
    fits = record {
      name = w.kept.name;
      six = refl;
      six_kinds = All-from_recursion HasKind (six m) (omega arith, (omega arith, (omega arith, (kind-small m.setup, (omega arith, (kind-small (seq m.fail_on), tt))))));
      list_kind = omega arith;
      steps = All-from_recursion StepFits (map any_step m.steps) (steps-fit m.steps w.kept.steps);
      more = All-from_recursion HasKind [] tt;
      size = omega (arith, ap length (all-written m), w.kept.size, item-length 16 (joined (fields m)));
    };
    written = ap (item 16) (all-written m) ∙ w.written;
  }

  abbrev opened : Opened b (length m.steps)
  opened = record { meaning = m; is = meaning-back b m w; count = refl; record_is = w }

  -- ---- where the lookups find it

  name-found : field b 1 ≡ good (part 6 (6 + 6 + length m.name))
  unfolding part_at fields joined text_item encode
  name-found =
      let z : 6 + length (item 3 m.name ++ []) ≡ 6 + 6 + length m.name = omega (arith, length-append (item 3 m.name) [], item-length 3 m.name) in
      field_is opened 1 ∙ numbered-in 6 (fields m) 1 0 refl (omega arith) ∙ ap (λ (k : ℕ). good (part 6 k)) z

  name-stands : drop 6 b ≡ item 3 m.name ++ joined (drop 1 (fields m))
  unfolding fields joined text_item encode
  name-stands = fields-start b m w ∙ append-nil (joined (fields m))

  start-same : list_start b (any m) is-programme + 6 ≡ steps_start m
  unfolding any steps_start
  start-same = omega (arith, ap length (first-written m), length-append (item 3 m.name) (written (six m)), item-length 3 m.name)

  before-same : (i : ℕ) → written (map panel.step_item (take i (map any_step m.steps))) ≡ joined (take i (map step_item m.steps))
  before-same i = ap (λ (l : List AnyStep). written (map panel.step_item l)) (take-map any_step i m.steps) ∙ steps-written (take i m.steps) ∙ ap joined (sym (take-map step_item i m.steps))

  begins : ℕ → ℕ
  begins i = steps_start m + length (joined (take i (map step_item m.steps)))

  begins-same : (i : ℕ) → step_start b (any m) is-programme i ≡ begins i
  unfolding any begins
  begins-same i = omega (arith, start-same, ap length (before-same i))

  step-found : (i : ℕ) → i < length m.steps → step b (suc i) ≡ good (part (begins i) (steps_start m + length (joined (take (suc i) (map step_item m.steps)))))
  unfolding part_at begins
  step-found i h = step_is opened (suc i) ∙ numbered-in (steps_start m) (map step_item m.steps) (suc i) i refl (omega (arith, length-steps m.steps))

-- the bytes of a text's item
part-is : (b : List ℕ) (at : ℕ) (t r : List ℕ) → drop at b ≡ item 3 t ++ r → part_of b at (at + 6 + length t) ≡ text_item t
unfolding text_item encode
part-is b at t r e =
    part-inside b at (at + 6 + length t) (omega arith) (text-inside b at t r e) ∙ text-bytes b at t r e

-- ---- what both say

module _ (b : List ℕ) (m : Meaning) (w : IsRecord b m) where
  same-name : (n : ℕ) → n ≡ length m.steps → (shown : PanelName) → name_of shown ≡ panel_name b → SameName b n shown
  unfolding any
  same-name n many (Named start end steps) q =
      let e = good-inj _ _ (q ∙ name-is b (any m) (is-programme b m w)) in
      let s : start ≡ 6 = ap (λ (x : ℕ × ℕ × ℕ). x.0) e in
      let t : end ≡ 6 + 6 + length m.name = ap (λ (x : ℕ × ℕ × ℕ). x.1) e in
      let k : steps ≡ n = ap (λ (x : ℕ × ℕ × ℕ). x.2) e ∙ length-map m.steps any_step ∙ sym many in
      record {
        meaning = m;
        is = w;
        many = many;
        start = 6;
        end = 6 + 6 + length m.name;
        found = name-found b m w;
        shown = rw (s, t, k) refl;
        name = part-is b 6 m.name (joined (drop 1 (fields m))) (name-stands b m w);
      }
  same-name n many (NotNamed e) q = refused≢good _ _ _ _ (q ∙ name-is b (any m) (is-programme b m w))

past : {A : Type 0} (xs : List A) (i : ℕ) → slice_get xs i ≡ None → length xs ≤ i
past [] i e = omega arith
past (x ∷ xs) zero e = absurd (let z : ◌≡◌ {A = ℕ} 0 1 = cc in omega arith)
past (x ∷ xs) (suc i) e = omega (arith, past xs i e)

module _ (b : List ℕ) (m : Meaning) (w : IsRecord b m) (i : ℕ) where
  abbrev at : ℕ
  at = begins b m w i

  -- no such step
  none-found : slice_get m.steps i ≡ None → step b (suc i) ≡ refused 53 0 0
  none-found e = step-beyond b m w i (past m.steps i e)

  none-shown : slice_get m.steps i ≡ None → panel_step b (suc i) ≡ refused 53 0 0
  unfolding any
  none-shown e = step-none b (any m) (is-programme b m w) i (slice_get-map any_step m.steps i ∙ ap (option_map any_step) e)

  module _ {s : Step} (e : slice_get m.steps i ≡ Some s) where
    mapped : slice_get (any m).steps i ≡ Some (any_step s)
    unfolding any
    mapped = slice_get-map any_step m.steps i ∙ ap (option_map any_step) e

    there : LabelsStand b at (any_step s)
    there = subst (λ (k : ℕ). LabelsStand b k (any_step s)) (begins-same b m w i) (step-labels-stand b (any m) (is-programme b m w) i mapped)

    shown-is : panel_step b (suc i) ≡ good (at + 6, at + 6 + 6 + length s.name, at + 6 + 6 + length s.name, at + 6 + 6 + length s.name + 6 + length s.id)
    unfolding any_step
    shown-is =
        subst (λ (k : ℕ). panel_step b (suc i) ≡ good (k + 6, k + 6 + 6 + length s.name, k + 6 + 6 + length s.name, k + 6 + 6 + length s.name + 6 + length s.id))
        (begins-same b m w i) (step-is b (any m) (is-programme b m w) i mapped)

    found-is : step b (suc i) ≡ good (part at (steps_start m + length (joined (take (suc i) (map step_item m.steps)))))
    found-is = step-found b m w i (slice_get_within m.steps i s e)

    same-labels : (start end : ℕ) → good (part start end) ≡ step b (suc i) → (said : PanelStep) → step_of said ≡ panel_step b (suc i) → SameLabels b (suc i) start said
    unfolding any_step panel_numbered
    same-labels start end p (Shown ns ne is ie) q =
        let same = good-inj _ _ (q ∙ shown-is) in
        let found : part start end ≡ part at (steps_start m + length (joined (take (suc i) (map step_item m.steps)))) = good-inj _ _ (p ∙ found-is) in
        let k : start ≡ at = cc in
        let x : ns ≡ start + 6 = ap (λ (x : ℕ × ℕ × ℕ × ℕ). x.0) same ∙ ap (λ (n : ℕ). n + 6) (sym k) in
        let y : ne ≡ at + 6 + 6 + length s.name = ap (λ (x : ℕ × ℕ × ℕ × ℕ). x.1) same in
        let z : is ≡ at + 6 + 6 + length s.name = ap (λ (x : ℕ × ℕ × ℕ × ℕ). x.2) same in
        let v : ie ≡ at + 6 + 6 + length s.name + 6 + length s.id = ap (λ (x : ℕ × ℕ × ℕ × ℕ). x.3) same in
        record {
          meaning = m;
          is = w;
          step = s;
          there = e;
          name_end = at + 6 + 6 + length s.name;
          id_end = at + 6 + 6 + length s.name + 6 + length s.id;
          shown = rw (x, y, z, v) refl;
          name = rw k (part-is b (at + 6) s.name there.behind_name there.name);
          id = part-is b (at + 6 + 6 + length s.name) s.id there.behind_id there.id;
        }
    same-labels start end p (NotShown e) q = refused≢good _ _ _ _ (q ∙ shown-is)

-- ---- the jobs

module _ (b : List ℕ) (small : (i : ℕ) → Fits w8 (get_or b i 0)) where
  bytes : Bytes b
  bytes = bytes_of b (λ i. omega (arith, small i))

  pub named_alike : (r : RecordAnswer) → answer_of r ≡ check_record b → (said : PanelName) → name_of said ≡ panel_name b → NamedAlike b r said
  named_alike (Good n) p said q = let o = opening b bytes n p in same-name b o.meaning o.record_is n o.count said q
  named_alike (NoRecord e) p said q = tt

  either : (number : ℕ) → ((m : Meaning) × IsRecord b m) ⊎ (step b number ≡ refused 40 0 0)
  unfolding step job_opened given ◌>>=◌
  either number = go (meaning_in b) refl
    where
      go : (o : Maybe Meaning) → meaning_in b ≡ o → ((m : Meaning) × IsRecord b m) ⊎ (step b number ≡ refused 40 0 0)
      go none e = inr (rw e refl)
      go (some m) e = inl (m, meaning-exact b m bytes e)

  -- where the lookup refuses
  module _ (number : ℕ) {n : ℕ} (r : step b number ≡ refused n 0 0) where
    refused-alike : (l : Lookup) → lookup_of l ≡ step b number → (said : PanelStep) → (n ≡ 53 → step_of said ≡ refused 53 0 0) → LabelledAlike b number l said
    refused-alike (FoundPart start end) p said f = refused≢good _ _ _ _ (sym r ∙ sym p)
    refused-alike Nothing p said f = refused≢good _ _ _ _ (sym r ∙ sym p)
    refused-alike (NotFound e) p said f = λ q. f (let x : ◌≡◌ {A = Answer Found} (refused n 0 0) (refused 53 0 0) = sym r ∙ sym p ∙ q in cc)

  pub labelled_alike : (number : ℕ) (l : Lookup) → lookup_of l ≡ step b number → (said : PanelStep) → step_of said ≡ panel_step b number → LabelledAlike b number l said
  labelled_alike number l p said q = go number (either number) l p said q
    where
      at : (m : Meaning) (w : IsRecord b m) (i : ℕ) (o : Option Step) → slice_get m.steps i ≡ o → (l : Lookup) → lookup_of l ≡ step b (suc i) → (said : PanelStep) → step_of said ≡ panel_step b (suc i) → LabelledAlike b (suc i) l said
      at m w i None e l p said q = refused-alike (suc i) (none-found b m w i e) l p said (λ _. q ∙ none-shown b m w i e)
      at m w i (Some s) e (FoundPart start end) p said q = same-labels b m w i e start end p said q
      at m w i (Some s) e Nothing p said q = absurd (let x : nothing ≡ part (begins b m w i) (steps_start m + length (joined (take (suc i) (map step_item m.steps)))) = good-inj _ _ (p ∙ found-is b m w i e) in let z : ◌≡◌ {A = ℕ} 0 1 = cc in omega arith)
      at m w i (Some s) e (NotFound r) p said q = refused≢good _ _ _ _ (p ∙ found-is b m w i e)

      go : (number : ℕ) → ((m : Meaning) × IsRecord b m) ⊎ (step b number ≡ refused 40 0 0) → (l : Lookup) → lookup_of l ≡ step b number → (said : PanelStep) → step_of said ≡ panel_step b number → LabelledAlike b number l said
      go number (inr closed) l p said q = refused-alike number closed l p said (λ e. absurd (omega (arith, e)))
      go zero (inl (m, w)) l p said q = refused-alike 0 (sym (step-zero (opened b m w) 0 refl)) l p said (λ _. q ∙ theorem.step-zero b (any m) (is-programme b m w))
      go (suc i) (inl (m, w)) l p said q = at m w i (slice_get m.steps i) refl l p said q
