-- Step lines by the lines of a text. Assumes nothing.
use Rattle.std.specs.Prelude.{Option, Some, None, MatchOption, leb, ltb, take, Bool, get_or}
use Rattle.std.specs.List.{range_with_len, prefix_len, AllWithin, HoldsAt}
use Rattle.std.proofs.lemmas.List.FromFn.{get_or-range_with_len, length-range_with_len}
use Rattle.std.proofs.lemmas.List.Folds.{length-prefix_len}
use Rattle.std.proofs.lemmas.List.Sums.{prefix_len-le-length, prefix_len_passes, prefix_len_stops}
use Rattle.std.proofs.Common.{◌≡◌, refl, sym, ap, ◌∙◌, ℕ, zero, suc, add-one, ◌+◌, ◌≤◌, ◌<◌, arith, List, [], ◌∷◌, true, false, length, drop, ◌-◌, eq-eqb, lt-ltb, le-ltb, leb-true, leb-false, ltb-true, ltb-false, get_or-take}
use Rattle.refusal.specs.Base.{bytes, same}
use Rattle.lines.specs.Lines.{Line}
use Rattle.lines.specs.Table.{line_at}
use Rattle.lines.specs.Dash.{is_dash}
use Rattle.lines.proofs.Rows.{lines_end, lines_next}
use Rattle.step_lines.specs.declared.Dashes.{Dashes}
use Rattle.step_lines.specs.declared.StepLine.{StepLine}
use Rattle.step_lines.specs.StepLines.{is_steps, behind_steps, dashes_at, dashes_from, step_lines, head_line, tail_lines}
use Rattle.step_lines.specs.Contract.{Begins, Next}

module _ (l : Line) where
  pub are_steps : (t : List ℕ) → t ≡ l.text → l.indent ≡ 0 → same t (bytes "steps:") ≡ is_steps l
  unfolding is_steps
  are_steps t e z = rw (e, eq-eqb l.indent 0 z)

module _ (ls : List Line) where
  -- ---- the line of the steps

  steps_here : (i : ℕ) → i < length ls → is_steps (line_at ls i) ≡ true → behind_steps (drop i ls) ≡ drop (i + 1) ls
  unfolding behind_steps
  steps_here i h e = ap behind_steps (lines_next ls i h) ∙ rw e

  steps_on : (i : ℕ) → i < length ls → is_steps (line_at ls i) ≡ false → behind_steps (drop i ls) ≡ behind_steps (drop (i + 1) ls)
  unfolding behind_steps
  steps_on i h e = ap behind_steps (lines_next ls i h) ∙ rw e

  steps_none : (i : ℕ) → i ≡ length ls → behind_steps (drop i ls) ≡ drop i ls
  unfolding behind_steps
  steps_none i e = ap behind_steps (lines_end ls i e) ∙ sym (lines_end ls i e)

  steps-kept : (i : ℕ) → i ≤ length ls → ((k : ℕ) → 0 ≤ k → k < i → is_steps (line_at ls k) ≡ false) → behind_steps ls ≡ behind_steps (drop i ls)
  steps-kept zero h f = refl
  steps-kept (suc i) h f = rw (← add-one i) (steps-kept i (omega arith) (λ k l m. f k l (omega arith)) ∙ steps_on i (omega arith) (f i (omega arith) (omega arith)))

  -- by what a search for the line finds
  pub by-search : (r : Option ℕ) (n : ℕ) → n ≡ length ls
      → MatchOption r ((k : ℕ) → 0 ≤ k → k < n → is_steps (line_at ls k) ≡ false) (λ i. (0 ≤ i) × (i < n) × (is_steps (line_at ls i) ≡ true) × ((k : ℕ) → 0 ≤ k → k < i → is_steps (line_at ls k) ≡ false))
      → MatchOption r (drop (length ls) ls ≡ behind_steps ls) (λ i. (i < length ls) × (drop (i + 1) ls ≡ behind_steps ls))
  by-search None n e f = sym (steps-kept (length ls) (omega arith) (λ k l h. f k l (omega arith)) ∙ steps_none (length ls) refl)
  by-search (Some i) n e f = (omega (arith, f.1), sym (steps-kept i (omega (arith, f.1)) f.3 ∙ steps_here i (omega (arith, f.1)) f.2))

  pub begins_none : (d : Dashes) → d.at ≡ length ls → drop d.at ls ≡ behind_steps ls → Begins ls (length ls) d
  unfolding step_lines dashes_from dashes_at
  begins_none d e b =
      let n : drop d.at ls ≡ [] = lines_end ls d.at e in
      record { is = ap dashes_from (sym b ∙ n) ∙ sym (ap (dashes_at d.indent) n); within = omega arith }

  pub begins_at : (d : Dashes) → d.at < length ls → d.indent ≡ (line_at ls d.at).indent → drop d.at ls ≡ behind_steps ls → Begins ls (length ls) d
  unfolding step_lines dashes_from
  begins_at d h e b =
      let n = lines_next ls d.at h in
      record {
        is = ap dashes_from (sym b ∙ n) ∙ ap (λ (k : ℕ). dashes_at k (line_at ls d.at ∷ drop (d.at + 1) ls)) (sym e) ∙ ap (dashes_at d.indent) (sym n);
        within = omega arith;
      }

  -- ---- the next dash

  pub dash_on : (indent d : ℕ) → d < length ls → indent ≤ (line_at ls d).indent → is_dash indent (line_at ls d) ≡ false
      → dashes_at indent (drop d ls) ≡ dashes_at indent (drop (d + 1) ls)
  unfolding dashes_at
  dash_on indent d h k e = ap (dashes_at indent) (lines_next ls d h) ∙ rw (le-ltb (line_at ls d).indent indent k, e)

  module _ (indent i d : ℕ) (v : dashes_at indent (drop i ls) ≡ dashes_at indent (drop d ls)) where
    none-next : dashes_at indent (drop d ls) ≡ [] → (r : StepLine) → r.line ≡ 0 → r.next ≡ length ls → Next ls (length ls) indent i r
    unfolding dashes_at head_line tail_lines
    none-next n r p q =
        let e : dashes_at indent (drop i ls) ≡ [] = v ∙ n in
        record { is = p ∙ sym (ap head_line e); others = ap (dashes_at indent) (lines_end ls r.next q) ∙ sym (ap tail_lines e); within = omega arith }

    pub next_ended : d < length ls → (line_at ls d).indent < indent → (r : StepLine) → r.line ≡ 0 → r.next ≡ length ls → Next ls (length ls) indent i r
    unfolding dashes_at
    next_ended h k r p q = none-next (ap (dashes_at indent) (lines_next ls d h) ∙ rw (lt-ltb (line_at ls d).indent indent k)) r p q

    pub next_none : d ≡ length ls → (r : StepLine) → r.line ≡ 0 → r.next ≡ length ls → Next ls (length ls) indent i r
    unfolding dashes_at
    next_none e r p q = none-next (ap (dashes_at indent) (lines_end ls d e)) r p q

    pub next_here : d < length ls → indent ≤ (line_at ls d).indent → is_dash indent (line_at ls d) ≡ true
        → (r : StepLine) → r.line ≡ (line_at ls d).number → r.next ≡ d + 1 → Next ls (length ls) indent i r
    unfolding dashes_at head_line tail_lines
    next_here h k e r p q =
        let w : dashes_at indent (drop i ls) ≡ (line_at ls d).number ∷ dashes_at indent (drop (d + 1) ls) =
        v ∙ ap (dashes_at indent) (lines_next ls d h) ∙ rw (le-ltb (line_at ls d).indent indent k, e) in
        record { is = p ∙ sym (ap head_line w); others = ap (λ (n : ℕ). dashes_at indent (drop n ls)) q ∙ sym (ap tail_lines w); within = omega arith }

  -- ---- the search for it, among the lines that are not less indented

  module _ (indent i : ℕ) where
    abbrev pub goes_on : ℕ → Bool
    goes_on d = leb indent (line_at ls d).indent

    abbrev from : List ℕ
    from = range_with_len i (length ls - i)

    abbrev pub deep_from : List ℕ
    deep_from = take (prefix_len goes_on from) from

    deep-length : length deep_from ≡ prefix_len goes_on from
    deep-length = length-prefix_len goes_on from

    deep-inside : prefix_len goes_on from ≤ length ls - i
    deep-inside = omega (arith, prefix_len-le-length goes_on from, length-range_with_len i (length ls - i))

    -- the lines one by one
    deep-at : (k : ℕ) → k < length deep_from → (get_or deep_from k 0 ≡ i + k) × (i + k < length ls) × (indent ≤ (line_at ls (i + k)).indent)
    deep-at k h =
        let l : k < prefix_len goes_on from = omega (arith, deep-length) in
        let e : get_or from k 0 ≡ i + k = get_or-range_with_len i (length ls - i) k 0 (omega (arith, deep-inside)) in
        (get_or-take (prefix_len goes_on from) from k 0 l ∙ e, omega (arith, deep-inside), leb-true indent (line_at ls (i + k)).indent (ap goes_on (sym e) ∙ prefix_len_passes goes_on from k 0 l))

    -- those without a dash are passed
    deep-passed : (m : ℕ) → m ≤ length deep_from → AllWithin (λ d. is_dash indent (line_at ls d) ≡ false) deep_from 0 m
        → dashes_at indent (drop i ls) ≡ dashes_at indent (drop (i + m) ls)
    deep-passed zero h f = let z : i + 0 ≡ i = omega arith in rw z refl
    deep-passed (suc m) h f =
        let a = deep-at m (omega arith) in
        let e : i + m + 1 ≡ i + suc m = omega arith in
        deep-passed m (omega arith) (λ k d l n. f k d l (omega arith))
        ∙ dash_on indent (i + m) a.1 a.2 (ap (λ (d : ℕ). is_dash indent (line_at ls d)) (sym a.0) ∙ f m 0 (omega arith) (omega arith))
        ∙ ap (λ (n : ℕ). dashes_at indent (drop n ls)) e

    pub search-none : i ≤ length ls → AllWithin (λ d. is_dash indent (line_at ls d) ≡ false) deep_from 0 (length deep_from)
        → (r : StepLine) → r.line ≡ 0 → r.next ≡ length ls → Next ls (length ls) indent i r
    search-none h f r p q = go (ltb (i + m) (length ls)) refl
      where
        m : ℕ
        m = length deep_from

        v : dashes_at indent (drop i ls) ≡ dashes_at indent (drop (i + m) ls)
        v = deep-passed m (omega arith) f

        go : (x : Bool) → ltb (i + m) (length ls) ≡ x → Next ls (length ls) indent i r
        go true e =
            let l : i + m < length ls = ltb-true (i + m) (length ls) e in
            let z : get_or from m 0 ≡ i + m = get_or-range_with_len i (length ls - i) m 0 (omega arith) in
            let y : prefix_len goes_on from < length from = omega (arith, deep-length, length-range_with_len i (length ls - i)) in
            next_ended indent i (i + m) v l
            (leb-false indent (line_at ls (i + m)).indent (ap goes_on (sym z) ∙ ap (λ (k : ℕ). goes_on (get_or from k 0)) deep-length ∙ prefix_len_stops goes_on from 0 y)) r p q
        go false e = next_none indent i (i + m) v (omega (arith, ltb-false (i + m) (length ls) e, deep-length, deep-inside)) r p q

    -- a dash is found
    module _ (d k : ℕ) (h : k < length deep_from) (e : HoldsAt (λ x. x ≡ d) deep_from k) where
      found-at : d ≡ i + k
      found-at = sym (e 0) ∙ (deep-at k h).0

      pub found-inside : d < length ls
      found-inside = omega (arith, found-at, (deep-at k h).1)

      pub search-some : is_dash indent (line_at ls d) ≡ true → AllWithin (λ x. is_dash indent (line_at ls x) ≡ false) deep_from 0 k
          → (r : StepLine) → r.line ≡ (line_at ls d).number → r.next ≡ d + 1 → Next ls (length ls) indent i r
      search-some t f r p q =
          let z : i + k ≡ d = sym found-at in
          let v : dashes_at indent (drop i ls) ≡ dashes_at indent (drop d ls) = deep-passed k (omega arith) f ∙ ap (λ (n : ℕ). dashes_at indent (drop n ls)) z in
          next_here indent i d v found-inside (rw z at (deep-at k h).2) t r p q
