-- Of every programme the labels are shown, and what is accepted is a programme. Assumes nothing.
use Rattle.std.proofs.Common.{Fits, w8, ◌≡◌, refl, sym, ◌∙◌, ℕ, zero, suc, ◌+◌, ◌-◌, arith, List, length, drop, map, take, Option, None, Some, slice_get, get_or, inl, inr, ◌++◌}
use Rattle.std.specs.Prelude.{MatchOption, ◌⊎◌}
use Rattle.refusal.specs.Base.{Answer, good, refused, ◌>>=◌}
use Rattle.refusal.proofs.Tools.{refused≢good}
use Rattle.item.proofs.Exact.{bytes_of}
use Rattle.panel.specs.Panel.{programme, numbered, Programme}
use Rattle.panel.specs.Jobs.{given, start_of, panel_name, panel_step}
use Rattle.panel.specs.Programmes.{AnyStep, AnyProgramme, written, step_item, IsProgramme, NameShown, StepShown, ShowsName, ShowsStep}
use Rattle.panel.proofs.Placed.{list_start, steps-stand, programme-is, name-inside, name-bytes, labels, LabelsStand, labels-many, labels-nth, step-stands, labels-stand, text-inside, text-bytes}
use Rattle.panel.proofs.Made.{programme-made}

module _ (b : List ℕ) (p : AnyProgramme) (w : IsProgramme b p) where
  pub name-is : panel_name b ≡ good (6, 6 + 6 + length p.name, length p.steps)
  unfolding panel_name given start_of ◌>>=◌
  name-is = rw (programme-is b p w, labels-many p.steps (list_start b p w + 6)) refl

  name-shown : NameShown b p (panel_name b)
  name-shown = record { start = 6; end = 6 + 6 + length p.name; is = name-is; inside = name-inside b p w; name = name-bytes b p w }

  -- where the step that so many stand before begins
  abbrev pub step_start : ℕ → ℕ
  step_start i = list_start b p w + 6 + length (written (map step_item (take i p.steps)))

  module _ (i : ℕ) where
    pub step-is : {s : AnyStep} → slice_get p.steps i ≡ Some s
        → panel_step b (suc i) ≡ good (step_start i + 6, step_start i + 6 + 6 + length s.name, step_start i + 6 + 6 + length s.name, step_start i + 6 + 6 + length s.name + 6 + length s.id)
    unfolding panel_step given start_of numbered labels ◌>>=◌
    step-is {s} e =
        let n : step_start i + 6 + 6 - 6 ≡ step_start i + 6 = omega arith in
        let d : step_start i + 6 + 6 + length s.name + 6 - 6 ≡ step_start i + 6 + 6 + length s.name = omega arith in
        rw (programme-is b p w, labels-nth p.steps (list_start b p w + 6) i, e, n, d) refl

    pub step-none : slice_get p.steps i ≡ None → panel_step b (suc i) ≡ refused 53 0 0
    unfolding panel_step given numbered ◌>>=◌
    step-none e = rw (programme-is b p w, labels-nth p.steps (list_start b p w + 6) i, e) refl

    pub step-labels-stand : {s : AnyStep} → slice_get p.steps i ≡ Some s → LabelsStand b (step_start i) s
    step-labels-stand {s} e =
        labels-stand b s (step_start i) (written (map step_item (drop (suc i) p.steps)) ++ written p.more) (step-stands b p.steps (list_start b p w + 6) i (written p.more) e (steps-stand b p w))

  pub step-zero : panel_step b 0 ≡ refused 53 0 0
  unfolding panel_step given numbered ◌>>=◌
  step-zero = rw (programme-is b p w) refl

  step-shown : (number : ℕ) → MatchOption (numbered p.steps number) (panel_step b number ≡ refused 53 0 0) (λ s. StepShown b s (panel_step b number))
  unfolding numbered
  step-shown zero = step-zero
  step-shown (suc i) = go (slice_get p.steps i) refl
    where
      go : (o : Option AnyStep) → slice_get p.steps i ≡ o → MatchOption o (panel_step b (suc i) ≡ refused 53 0 0) (λ s. StepShown b s (panel_step b (suc i)))
      go None e = step-none i e
      go (Some s) e =
          let at = step_start i in
          let there = step-labels-stand i e in
          record {
            name_start = at + 6;
            name_end = at + 6 + 6 + length s.name;
            id_start = at + 6 + 6 + length s.name;
            id_end = at + 6 + 6 + length s.name + 6 + length s.id;
            is = step-is i e;
            name_inside = text-inside b (at + 6) s.name there.behind_name there.name;
            id_inside = text-inside b (at + 6 + 6 + length s.name) s.id there.behind_id there.id;
            name = text-bytes b (at + 6) s.name there.behind_name there.name;
            id = text-bytes b (at + 6 + 6 + length s.name) s.id there.behind_id there.id;
          }

-- ---- what is accepted, and what is refused

module _ (b : List ℕ) (small : (i : ℕ) → Fits w8 (get_or b i 0)) where
  abbrev Made : Type 0
  Made = (p : AnyProgramme) × IsProgramme b p

  seen_or_none : (programme b ≡ None) ⊎ Made
  seen_or_none = go (programme b) refl
    where
      go : (o : Option Programme) → programme b ≡ o → (programme b ≡ None) ⊎ Made
      go None e = inl e
      go (Some seen) e = inr (programme-made b (bytes_of b (λ i. omega (arith, small i))) seen e)

  -- of an answer that is 55 where no programme is seen
  module _ {A : Type 0} (a : Answer A) (closed : programme b ≡ None → a ≡ refused 55 0 0) where
    accepted-made : (x : A) → a ≡ good x → Made
    accepted-made x e = go seen_or_none
      where
        go : (programme b ≡ None) ⊎ Made → Made
        go (inl n) = refused≢good _ _ _ _ (sym (closed n) ∙ e)
        go (inr made) = made

    refused-else : ((p : AnyProgramme) → IsProgramme b p → ⊥) → a ≡ refused 55 0 0
    refused-else none = go seen_or_none
      where
        go : (programme b ≡ None) ⊎ Made → a ≡ refused 55 0 0
        go (inl n) = closed n
        go (inr (p, w)) = absurd (none p w)

  name-closed : programme b ≡ None → panel_name b ≡ refused 55 0 0
  unfolding panel_name given ◌>>=◌
  name-closed e = rw e refl

  step-closed : (number : ℕ) → programme b ≡ None → panel_step b number ≡ refused 55 0 0
  unfolding panel_step given ◌>>=◌
  step-closed number e = rw e refl

  pub shows-name : {a : Answer (ℕ × ℕ × ℕ)} → a ≡ panel_name b → ShowsName b a
  shows-name e = rw e (record { shows = name-shown b; accepted = accepted-made (panel_name b) name-closed; refuses = refused-else (panel_name b) name-closed })

  pub shows-step : {number : ℕ} {a : Answer (ℕ × ℕ × ℕ × ℕ)} → a ≡ panel_step b number → ShowsStep b number a
  shows-step {number} e = rw e (record { shows = λ p w. step-shown b p w number; accepted = accepted-made (panel_step b number) (step-closed number); refuses = refused-else (panel_step b number) (step-closed number) })
