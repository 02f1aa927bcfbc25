-- The steps of a `repeat`, one by one: each is read before one of them is refused for its command. Assumes nothing.
use Rattle.std.proofs.Common.{◌≡◌, refl, sym, ap, ◌∙◌, subst, ℕ, suc, ◌+◌, ◌≤◌, Bool, true, false, ◌&&◌, List, [], ◌∷◌, Result, Ok, Err, arith}
use Rattle.std.proofs.Math.Option.{none, some}
use Rattle.refusal.specs.Base.{Answer, good, refused, ◌>>=◌, ◌>>◌, ensure, given, bytes}
use Rattle.refusal.specs.Told.{refusal}
use Rattle.refusal.specs.declared.Refusal.{Refusal}
use Rattle.item.specs.Tree.{Yaml, null, bool, int, str, seq, dict, Items, Entries, get, end, Ranged}
use Rattle.item.specs.Encode.{kind_of}
use Rattle.step_lines.specs.StepLines.{head_line, tail_lines}
use Rattle.entries.specs.Entries.{Holds}
use Rattle.entries.proofs.Walking.{no-more-items}
use Rattle.nodes.specs.Contract.{IsItem}
use Rattle.nodes.proofs.Items.{ItemTurn}
use Rattle.meaning.specs.Meaning.{Step}
use Rattle.meaning.specs.Meanings.{sequence_or, step_at, steps_from}
use Rattle.step.specs.Contract.{AgreesStep}
use Rattle.step.specs.declared.parts.StepNodes.{StepNodes}
use Rattle.item.specs.declared.Item.{Item}
use Rattle.check_steps.specs.CheckSteps.{known, repeated, all_known, check_inner, check_repeat}

-- ---- one step after another

-- with the steps that are left, and whether the commands of those before them are known
unfoldable pub onward : List (List ℕ) → ℕ → ℕ → Bool → ℕ → Items → Answer (Unit {0})
onward ns line step b number ys = steps_from (suc number) [] ys >>= λ ss. ensure b 36 line step >> all_known ns line step ss

pub record Walked (s : List ℕ) (to at : ℕ) (ns : List (List ℕ)) (line step : ℕ) (ys : Items) (number : ℕ) (b : Bool) : Type 0 where
  pub rest : Items
  pub holds : Holds s at to rest
  pub same : check_inner ns line step ys ≡ onward ns line step b number rest

pub walk_start : {s : List ℕ} {to at : ℕ} {ns : List (List ℕ)} {line step : ℕ} (ys : Items) → Holds s at to ys → Walked s to at ns line step ys 0 true
unfolding check_inner onward ensure ◌>>◌ ◌>>=◌
walk_start ys h = record { rest = ys; holds = h; same = refl }

module _ {s : List ℕ} {to at : ℕ} {ns : List (List ℕ)} {line step : ℕ} {ys : Items} {number : ℕ} {b : Bool} (w : Walked s to at ns line step ys number b) where
  walk_end : to ≤ at → check_inner ns line step ys ≡ (ensure b 36 line step >> good tt)
  unfolding onward steps_from all_known ◌>>=◌
  walk_end m = w.same ∙ ap (onward ns line step b number) (no-more-items w.rest m w.holds)

  pub walk-passed : to ≤ at → b ≡ true → good tt ≡ check_inner ns line step ys
  unfolding ensure ◌>>◌ ◌>>=◌
  walk-passed m e = sym (walk_end m ∙ rw e)

  pub walk-unknown : to ≤ at → b ≡ false → refused 36 line step ≡ check_inner ns line step ys
  unfolding ensure ◌>>◌ ◌>>=◌
  walk-unknown m e = sym (walk_end m ∙ rw e)

  module _ {item : Item} (t : ItemTurn s at to w.rest item) where
    abbrev others : Items
    others = t.first.others

    this : Answer Step → Answer (Unit {0})
    this a = (a >>= λ x. steps_from (suc (suc number)) [] others >>= λ ss. good (x ∷ ss)) >>= λ ss. ensure b 36 line step >> all_known ns line step ss

    turned : check_inner ns line step ys ≡ this (step_at 0 (suc number) t.first.y)
    unfolding onward steps_from this head_line tail_lines
    turned = w.same ∙ ap (onward ns line step b number) t.first.is

    module _ {r : Result StepNodes Refusal} (promise : (y : Yaml) → Ranged y → IsItem s y item → AgreesStep (step_at 0 (number + 1) y) r) where
      told : {q : Result StepNodes Refusal} → r ≡ q → AgreesStep (step_at 0 (suc number) t.first.y) q
      told {q} e =
          let n : number + 1 ≡ suc number = omega arith in
          subst (λ (i : ℕ). AgreesStep (step_at 0 i t.first.y) q) n (subst (AgreesStep (step_at 0 (number + 1) t.first.y)) e (promise t.first.y t.first.ranged t.item_is))

      pub walk_refused : {e : Refusal} → r ≡ Err e → refusal e ≡ check_inner ns line step ys
      unfolding this ◌>>=◌
      walk_refused q = sym (turned ∙ ap this (told q))

      pub walk-on : {n : StepNodes} → r ≡ Ok n → {k : Bool} → k ≡ known ns n.key.now
          → Walked s to item.to ns line step ys (number + 1) (b && k)
      unfolding this onward all_known ensure ◌>>◌ ◌>>=◌
      walk-on q {k} e =
          let a = told q in
          let n : suc number ≡ number + 1 = omega arith in
          let c : known ns a.step.key ≡ k = ap (known ns) (sym a.stands.key) ∙ sym e in
          record {
            rest = others;
            holds = t.behind;
            same = turned ∙ ap this a.is ∙ behind a.step c (steps_from (suc (suc number)) [] others) ∙ ap (λ (i : ℕ). onward ns line step (b && k) i others) n;
          }
        where
          both : (b k : Bool) (x : Answer (Unit {0})) → (ensure b 36 line step >> (ensure k 36 line step >> x)) ≡ (ensure (b && k) 36 line step >> x)
          both true k x = refl
          both false k x = refl

          behind : (x : Step) → known ns x.key ≡ k → (a : Answer (List Step))
              → ((a >>= λ ss. good (x ∷ ss)) >>= λ ss. ensure b 36 line step >> all_known ns line step ss) ≡ (a >>= λ ss. ensure (b && k) 36 line step >> all_known ns line step ss)
          behind x c (good ss) = rw c (both b k (all_known ns line step ss))
          behind x c (refused n l i) = refl

-- ---- the value of `steps`

pub in-entries : (v : Yaml) (es : Entries) → v ≡ dict es → get (bytes "steps") es ≡ repeated v
unfolding repeated
in-entries v es e = rw e refl

pub no_steps : (v : Yaml) → (kind_of v ≡ 5 → ⊥) → repeated v ≡ none
unfolding repeated kind_of
no_steps null k = refl
no_steps (bool b) k = refl
no_steps (int z) k = refl
no_steps (str t) k = refl
no_steps (seq ys) k = refl
no_steps (dict es) k = absurd (k refl)

null-steps : (x : Yaml) → kind_of x ≡ 0 → sequence_or 31 (some x) ≡ good end
unfolding sequence_or kind_of
null-steps null k = refl
null-steps (bool b) k = absurd (omega arith)
null-steps (int z) k = absurd (omega arith)
null-steps (str t) k = absurd (omega arith)
null-steps (seq ys) k = absurd (omega arith)
null-steps (dict es) k = absurd (omega arith)

other-steps : (x : Yaml) → (kind_of x ≡ 0 → ⊥) → (kind_of x ≡ 4 → ⊥) → sequence_or 31 (some x) ≡ refused 31 0 0
unfolding sequence_or kind_of
other-steps null k l = absurd (k refl)
other-steps (bool b) k l = refl
other-steps (int z) k l = refl
other-steps (str t) k l = refl
other-steps (seq ys) k l = absurd (l refl)
other-steps (dict es) k l = refl

module _ (ns : List (List ℕ)) (line step : ℕ) (v : Yaml) where
  pub repeat-37 : repeated v ≡ none → refused 37 0 step ≡ check_repeat ns line step v
  unfolding check_repeat given ◌>>=◌
  repeat-37 e = sym (rw e)

  module _ (x : Yaml) (e : repeated v ≡ some x) where
    pub repeat-null : kind_of x ≡ 0 → good tt ≡ check_repeat ns line step v
    unfolding check_repeat check_inner given steps_from all_known ◌>>=◌
    repeat-null k = sym (rw (e, null-steps x k))

    pub repeat-31 : (kind_of x ≡ 0 → ⊥) → (kind_of x ≡ 4 → ⊥) → refused 31 0 0 ≡ check_repeat ns line step v
    unfolding check_repeat given ◌>>=◌
    repeat-31 k l = sym (rw (e, other-steps x k l))

    pub repeat-inner : (ys : Items) → x ≡ seq ys → {a : Answer (Unit {0})} → a ≡ check_inner ns line step ys → a ≡ check_repeat ns line step v
    unfolding check_repeat given sequence_or ◌>>=◌
    repeat-inner ys q p = p ∙ sym (rw (e, q))
