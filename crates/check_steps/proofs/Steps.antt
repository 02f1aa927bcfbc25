-- The steps of a record, one by one. Assumes nothing.
use Rattle.std.proofs.Common.{◌≡◌, refl, sym, ap, ◌∙◌, ℕ, suc, ◌+◌, ◌≤◌, ◌<◌, Bool, true, false, ltb, List, [], ◌∷◌, length, drop, get_or, arith, drop-cons, drop-drop, drop_of_length-le, ltb-false, ltb-true}
use Rattle.std.proofs.lemmas.List.{get_or_past}
use Rattle.refusal.specs.Base.{good, refused, ◌>>=◌, ◌>>◌, ensure, bytes, same}
use Rattle.step_lines.specs.StepLines.{head_line, tail_lines}
use Rattle.meaning.specs.Meaning.{Step}
use Rattle.record.specs.Contract.{StepsLie}
use Rattle.record.proofs.StepPlaces.{none_left, FirstStep}
use Rattle.check_steps.specs.CheckSteps.{known, check_repeat, check_step, check_from}

-- ---- one step

module _ (ns : List (List ℕ)) (line step : ℕ) (x : Step) where
  pub step-36 : false ≡ known ns x.key → refused 36 line step ≡ check_step ns line step x
  unfolding check_step ensure ◌>>◌ ◌>>=◌
  step-36 e = sym (rw (sym e))

  module _ (k : true ≡ known ns x.key) where
    pub step-repeat : true ≡ same x.key (bytes "repeat") → check_repeat ns line step x.value ≡ check_step ns line step x
    unfolding check_step ensure ◌>>◌ ◌>>=◌
    step-repeat e = sym (rw (sym k, sym e))

    pub step-passed : false ≡ same x.key (bytes "repeat") → good tt ≡ check_step ns line step x
    unfolding check_step ensure ◌>>◌ ◌>>=◌
    step-passed e = sym (rw (sym k, sym e))

-- ---- lines

pub line_is : (lines : List ℕ) (i : ℕ) → get_or lines i 0 ≡ head_line (drop i lines)
unfolding head_line
line_is lines i = go (ltb i (length lines)) refl
  where
    go : (t : Bool) → ltb i (length lines) ≡ t → get_or lines i 0 ≡ head_line (drop i lines)
    go true e = let h : i < length lines = ltb-true _ _ e in sym (rw (drop-cons lines i 0))
    go false e = let h : length lines ≤ i = ltb-false _ _ e in rw (drop_of_length-le lines {i = i} h) (get_or_past lines i 0 h)

tail-is : (lines : List ℕ) → tail_lines lines ≡ drop 1 lines
unfolding tail_lines
tail-is [] = refl
tail-is (l ∷ lines) = refl

tail-drop : (lines : List ℕ) (i : ℕ) → tail_lines (drop i lines) ≡ drop (i + 1) lines
tail-drop lines i = tail-is (drop i lines) ∙ drop-drop 1 i lines

-- ---- one step after another

-- all hangs on the steps that are left
pub record Left (s : List ℕ) (to at : ℕ) (ns : List (List ℕ)) (lines : List ℕ) (xs : List Step) (i : ℕ) : Type 0 where
  pub rest : List Step
  pub lie : StepsLie s at to rest
  pub same_answer : check_from ns 1 lines xs ≡ check_from ns (suc i) (drop i lines) rest

module _ {s : List ℕ} {to at : ℕ} {ns : List (List ℕ)} {lines : List ℕ} {xs : List Step} {i : ℕ} (l : Left s to at ns lines xs i) where
  pub left_end : to ≤ at → good tt ≡ check_from ns 1 lines xs
  unfolding check_from
  left_end m = sym (l.same_answer ∙ ap (check_from ns (suc i) (drop i lines)) (none_left l.rest m l.lie))

  module _ {next line : ℕ} (f : FirstStep s at to l.rest next) (here : line ≡ head_line (drop i lines)) where
    turned : check_from ns 1 lines xs ≡ (check_step ns line (i + 1) f.step >> check_from ns (suc (i + 1)) (drop (i + 1) lines) f.others)
    unfolding check_from
    turned =
        let n : suc i ≡ i + 1 = omega arith in
        l.same_answer ∙ ap (check_from ns (suc i) (drop i lines)) f.is ∙ rw (← here, tail-drop, n)

    pub left-refused : {k j t : ℕ} → refused k j t ≡ check_step ns line (i + 1) f.step → refused k j t ≡ check_from ns 1 lines xs
    unfolding ◌>>◌ ◌>>=◌
    left-refused e = sym (turned ∙ rw (sym e))

    pub left-on : good tt ≡ check_step ns line (i + 1) f.step → Left s to next ns lines xs (i + 1)
    unfolding ◌>>◌ ◌>>=◌
    left-on e = record { rest = f.others; lie = f.behind; same_answer = turned ∙ rw (sym e) }
