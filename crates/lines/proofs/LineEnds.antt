-- Laws of where the lines of a text begin and end. Assumes nothing.
use Rattle.std.specs.Prelude.{if◌then◌else◌}
use Rattle.std.proofs.Common.{◌≡◌, refl, sym, ap, ◌∙◌, ℕ, suc, ◌+◌, ◌-◌, ◌≤◌, ◌<◌, arith, List, [], ◌∷◌, Bool, true, false, ◌&&◌, eqb, length, take, drop, get_or, length-drop, drop-drop, get_or-drop, eq-eqb, ne_eqb}
use Rattle.std.proofs.Math.Bool.{false≢true}
use Rattle.std.proofs.lemmas.Grind.{get_or_tail}
use Rattle.refusal.specs.Base.{ch}
use Rattle.item.specs.Encode.{flag}
use Rattle.lines.specs.Lines.{begins_newline, prepend, split_lines}
use Rattle.lines.specs.Places.{until_newline, LineEnds}

-- the first line of a text
unfoldable pub first_line : List ℕ → List ℕ
first_line [] = []
first_line (b ∷ bs) =
    if eqb b (ch "\n") then []
    else if eqb b (ch "\r") && begins_newline bs then []
    else b ∷ first_line bs

-- ---- the first line of a text, and those behind it

pub split-first : (b : ℕ) (bs : List ℕ) → split_lines (b ∷ bs) ≡ first_line (b ∷ bs) ∷ split_lines (drop (suc (until_newline (b ∷ bs))) (b ∷ bs))
unfolding split_lines first_line until_newline begins_newline prepend
split-first b [] = go (eqb b (ch "\n")) (eqb b (ch "\r"))
  where
    go : (t r : Bool)
        → (if t then [] ∷ [] else if r && false then [] else (b ∷ []) ∷ [])
        ≡ (if t then [] else if r && false then [] else b ∷ []) ∷ split_lines (drop (suc (if t then 0 else 1)) (b ∷ []))
    go true r = refl
    go false true = refl
    go false false = refl
split-first b (c ∷ cs) = go (eqb b (ch "\n")) (eqb b (ch "\r")) (eqb c (ch "\n")) refl (split-first c cs)
  where
    rest : List (List ℕ)
    rest = split_lines (drop (suc (until_newline (c ∷ cs))) (c ∷ cs))

    go : (t r n : Bool) → eqb c (ch "\n") ≡ n → split_lines (c ∷ cs) ≡ first_line (c ∷ cs) ∷ rest
        → (if t then [] ∷ split_lines (c ∷ cs) else if r && n then split_lines (c ∷ cs) else prepend b (split_lines (c ∷ cs)))
        ≡ (if t then [] else if r && n then [] else b ∷ first_line (c ∷ cs)) ∷ split_lines (drop (suc (if t then 0 else suc (until_newline (c ∷ cs)))) (b ∷ c ∷ cs))
    go true r n q e = refl
    go false true true q e = e ∙ ap (λ (l : List ℕ). l ∷ rest) (rw q)
    go false true false q e = ap (prepend b) e
    go false false n q e = ap (prepend b) e

pub first-take : (s : List ℕ) → first_line s ≡ take (length (first_line s)) s
unfolding first_line
first-take [] = refl
first-take (b ∷ bs) = go (eqb b (ch "\n")) (eqb b (ch "\r") && begins_newline bs) (first-take bs)
  where
    line : Bool → Bool → List ℕ
    line t r = if t then [] else if r then [] else b ∷ first_line bs

    go : (t r : Bool) → first_line bs ≡ take (length (first_line bs)) bs → line t r ≡ take (length (line t r)) (b ∷ bs)
    go true r e = refl
    go false true e = refl
    go false false e = ap (λ (l : List ℕ). b ∷ l) e

-- whether the first line ends at a carriage return and a newline
unfoldable returned : List ℕ → Bool
returned [] = false
returned (b ∷ bs) =
    if eqb b (ch "\n") then false
    else if eqb b (ch "\r") && begins_newline bs then true
    else returned bs

begins-none : (bs : List ℕ) → begins_newline bs ≡ true → until_newline bs ≡ 0
unfolding begins_newline until_newline
begins-none [] e = absurd (false≢true e)
begins-none (c ∷ cs) e = rw e

-- a first line's length is what stands before its newline, but for the carriage return
first-length : (s : List ℕ) → length (first_line s) + flag (returned s) ≡ until_newline s
unfolding first_line returned until_newline flag
first-length [] = refl
first-length (b ∷ bs) = go (eqb b (ch "\n")) (eqb b (ch "\r")) (begins_newline bs) refl (first-length bs)
  where
    go : (t r n : Bool) → begins_newline bs ≡ n → length (first_line bs) + flag (returned bs) ≡ until_newline bs
        → length (if t then [] else if r && n then [] else b ∷ first_line bs) + flag (if t then false else if r && n then true else returned bs)
        ≡ (if t then 0 else suc (until_newline bs))
    go true r n q e = refl
    go false true true q e = sym (ap suc (begins-none bs q))
    go false true false q e = omega arith
    go false false n q e = omega arith

returned-start : (s : List ℕ) → until_newline s ≡ 0 → returned s ≡ false
unfolding returned until_newline
returned-start [] e = refl
returned-start (b ∷ bs) e = go (eqb b (ch "\n")) e
  where
    go : (t : Bool) → (if t then 0 else suc (until_newline bs)) ≡ 0 → (if t then false else if eqb b (ch "\r") && begins_newline bs then true else returned bs) ≡ false
    go true p = refl
    go false p = absurd (omega arith)

returned-none : (s : List ℕ) → until_newline s ≡ length s → returned s ≡ false
unfolding returned until_newline begins_newline
returned-none [] e = refl
returned-none (b ∷ bs) e = go (eqb b (ch "\n")) (eqb b (ch "\r")) (begins_newline bs) refl e (returned-none bs)
  where
    stays : (cs : List ℕ) → begins_newline cs ≡ true → until_newline cs ≡ length cs → ⊥
    stays [] p q = false≢true p
    stays (c ∷ cs) p q = omega (arith, begins-none (c ∷ cs) p)

    go : (t r n : Bool) → begins_newline bs ≡ n → (if t then 0 else suc (until_newline bs)) ≡ suc (length bs) → (until_newline bs ≡ length bs → returned bs ≡ false)
        → (if t then false else if r && n then true else returned bs) ≡ false
    go true r n q p h = refl
    go false true true q p h = absurd (stays bs q (omega arith))
    go false true false q p h = h (omega arith)
    go false false n q p h = h (omega arith)

returned-at : (s : List ℕ) → 0 < until_newline s → until_newline s < length s → returned s ≡ eqb (get_or s (until_newline s - 1) 0) (ch "\r")
unfolding returned until_newline begins_newline
returned-at [] h k = absurd (omega arith)
returned-at (b ∷ []) h k = go (eqb b (ch "\n")) h k
  where
    go : {X : Type 0} (t : Bool) → 0 < (if t then 0 else 1) → (if t then 0 else 1) < 1 → X
    go true h k = absurd (omega arith)
    go false h k = absurd (omega arith)
returned-at (b ∷ c ∷ cs) h k = go (eqb b (ch "\n")) (eqb b (ch "\r")) (eqb c (ch "\n")) refl refl h k (returned-at (c ∷ cs))
  where
    u : ℕ
    u = until_newline (c ∷ cs)

    go : (t r n : Bool) → eqb b (ch "\r") ≡ r → eqb c (ch "\n") ≡ n → 0 < (if t then 0 else suc u) → (if t then 0 else suc u) < suc (suc (length cs))
        → (0 < u → u < suc (length cs) → returned (c ∷ cs) ≡ eqb (get_or (c ∷ cs) (u - 1) 0) (ch "\r"))
        → (if t then false else if r && n then true else returned (c ∷ cs)) ≡ eqb (get_or (b ∷ c ∷ cs) ((if t then 0 else suc u) - 1) 0) (ch "\r")
    go true r n p q h k e = absurd (omega arith)
    go false r true p q h k e =
        let z : u ≡ 0 = rw q in
        let d : suc u - 1 ≡ 0 = omega arith in
        both r (returned-start (c ∷ cs) z) ∙ sym p ∙ ap (λ (i : ℕ). eqb (get_or (b ∷ c ∷ cs) i 0) (ch "\r")) (sym d)
      where
        both : (r : Bool) → returned (c ∷ cs) ≡ false → (if r && true then true else returned (c ∷ cs)) ≡ r
        both true f = refl
        both false f = f
    go false r false p q h k e =
        let z : u ≡ suc (until_newline cs) = rw q in
        let d : suc u - 1 ≡ u = omega arith in
        none r ∙ e (omega arith) (omega arith) ∙ ap (λ (x : ℕ). eqb x (ch "\r")) (sym (ap (λ (i : ℕ). get_or (b ∷ c ∷ cs) i 0) d ∙ get_or_tail b (c ∷ cs) u 0 (omega arith)))
      where
        none : (r : Bool) → (if r && false then true else returned (c ∷ cs)) ≡ returned (c ∷ cs)
        none true = refl
        none false = refl

split-some : (s : List ℕ) → 0 < length s → split_lines s ≡ first_line s ∷ split_lines (drop (suc (until_newline s)) s)
split-some [] h = absurd (omega arith)
split-some (b ∷ bs) h = split-first b bs

-- where the line at `at` ends, by the byte before its newline
module _ (text : List ℕ) (at newline : ℕ) (h : at < length text) (n : newline ≡ at + until_newline (drop at text)) where
  long : length (drop at text) ≡ length text - at
  long = length-drop at text

  ends : (t : Bool) (to : ℕ) → returned (drop at text) ≡ t → to + flag t ≡ newline → to ≤ newline → LineEnds text at newline to
  ends t to e f l =
      let k : length (first_line (drop at text)) + flag t ≡ until_newline (drop at text) = rw (← e) (first-length (drop at text)) in
      let i : length (first_line (drop at text)) ≡ to - at = omega arith in
      let j : at + suc (until_newline (drop at text)) ≡ newline + 1 = omega arith in
      record {
        low = omega arith;
        high = l;
        splits =
            split-some (drop at text) (omega (arith, long))
            ∙ rw (drop-drop (suc (until_newline (drop at text))) at text, j)
            (ap (λ (x : List ℕ). x ∷ split_lines (drop (newline + 1) text)) (first-take (drop at text) ∙ ap (λ (x : ℕ). take x (drop at text)) i));
      }

  whole : returned (drop at text) ≡ false → LineEnds text at newline newline
  unfolding flag
  whole e = ends false newline e (omega arith) (omega arith)

  pub ends_last : newline ≡ length text → LineEnds text at newline newline
  ends_last e = whole (returned-none (drop at text) (omega (arith, long)))

  pub ends_empty : newline ≡ at → LineEnds text at newline newline
  ends_empty e = whole (returned-start (drop at text) (omega arith))

  module _ (k : newline < length text) (m : at < newline) where
    byte : returned (drop at text) ≡ eqb (get_or text (newline - 1) 0) (ch "\r")
    byte =
        let i : at + (until_newline (drop at text) - 1) ≡ newline - 1 = omega arith in
        returned-at (drop at text) (omega arith) (omega (arith, long)) ∙ rw (get_or-drop at text (until_newline (drop at text) - 1) 0, i)

    pub ends_return : get_or text (newline - 1) 0 ≡ ch "\r" → LineEnds text at newline (newline - 1)
    unfolding flag
    ends_return e = ends true (newline - 1) (byte ∙ eq-eqb (get_or text (newline - 1) 0) (ch "\r") e) (omega arith) (omega arith)

    pub ends_other : (get_or text (newline - 1) 0 ≡ ch "\r" → ⊥) → LineEnds text at newline newline
    ends_other e = whole (byte ∙ ne_eqb (get_or text (newline - 1) 0) (ch "\r") e)
