-- Every blank line that section 1 of document 01 keeps in a literal gives a bare newline: before a deeper body line by P3 of document 02, else
-- since it has no extra spaces. Assumes nothing.
use Rattle.std.proofs.Common.{if◌then◌else◌, ◌≡◌, refl, ap, ◌∙◌, subst, ℕ, ◌-◌, ◌<◌, arith, List, [], ◌∷◌, ◌++◌, Bool, true, false, ◌&&◌, ltb, length, drop, replicate, length-append, ltb-false}
use Rattle.refusal.specs.Base.{good, ch, empty}
use Rattle.lines.specs.Lines.{Line, significant_lines}
use Rattle.lines.specs.Ready.{Closed, Ended, blank, full}
use Rattle.lines.proofs.Ends.{lines_end, ended-drop}
use Rattle.literal.specs.Literal.{is_blank, before_deeper, literal_line}

-- a text that ends in some byte is not empty
pub closed_some : (t : List ℕ) → Closed t → empty t ≡ false
unfolding empty
closed_some t c = rw c.is (go c.front)
  where
    go : (s : List ℕ) → empty (s ++ c.last ∷ []) ≡ false
    go [] = refl
    go (b ∷ s) = refl

module _ (indent : ℕ) where
  -- the body line behind blank ones is as deep as they are
  deeper-as : {l : Line} {ls : List Line} → Ended (l ∷ ls) → before_deeper indent (l ∷ ls) ≡ ltb indent l.indent
  unfolding before_deeper empty
  deeper-as (full l ls c e) = rw (closed_some l.text c)
  deeper-as (blank l m ls t i e) = rw t (deeper-as e ∙ ap (ltb indent) i)

  module _ (l : Line) (ls : List Line) where
    -- a blank line, if the body line behind it is as deep
    pub blank-bare : l.text ≡ [] → before_deeper indent ls ≡ ltb indent l.indent → literal_line indent l ls ≡ ch "\n" ∷ []
    unfolding literal_line empty
    blank-bare t d = rw (t, d) (go (ltb indent l.indent) refl)
      where
        go : (x : Bool) → ltb indent l.indent ≡ x → (if x then ch "\n" ∷ [] else replicate (l.indent - indent) (ch " ") ++ [] ++ (ch "\n" ∷ [])) ≡ ch "\n" ∷ []
        go true q = refl
        go false q = let z : l.indent - indent ≡ 0 = omega (arith, ltb-false indent l.indent q) in rw z

    pub bare : Ended (l ∷ ls) → l.text ≡ [] → literal_line indent l ls ≡ ch "\n" ∷ []
    unfolding before_deeper empty
    bare e t = blank-bare t (rw t at (deeper-as e))

    -- any other line
    pub line-full : empty l.text ≡ false → literal_line indent l ls ≡ replicate (l.indent - indent) (ch " ") ++ l.text ++ (ch "\n" ∷ [])
    unfolding literal_line
    line-full e = rw e

    pub line-some : 0 < length (literal_line indent l ls)
    unfolding literal_line
    line-some = go (is_blank l && before_deeper indent ls)
      where
        spaces : List ℕ
        spaces = replicate (l.indent - indent) (ch " ")

        go : (x : Bool) → 0 < length (if x then ch "\n" ∷ [] else spaces ++ l.text ++ (ch "\n" ∷ []))
        go true = omega arith
        go false = omega (arith, length-append (spaces ++ l.text) (ch "\n" ∷ []))

-- of every text, each blank line among its entries
pub blank-rows : (text : List ℕ) (ls : List Line) → significant_lines text ≡ good ls → (i indent : ℕ) (l : Line) (rest : List Line) → drop i ls ≡ l ∷ rest → l.text ≡ [] → literal_line indent l rest ≡ ch "\n" ∷ []
blank-rows text ls g i indent l rest e t = bare indent l rest (subst Ended e (ended-drop i (lines_end text ls g))) t
