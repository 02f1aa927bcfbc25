-- Section 3 of document 01: literals (`parse_literal`), with P3 of document 02, and what reading lines gives. Uses Base of `refusal`; Tree of
-- `item`; Lines of `lines`; Read of `scalar`. Assumes nothing.
use Rattle.std.specs.Prelude.{ℕ, ◌-◌, List, [], ◌∷◌, ◌++◌, Bool, true, false, ◌&&◌, ltb, leb, eqb, replicate, if◌then◌else◌}
use Rattle.refusal.specs.Base.{Answer, good, ◌>>=◌, ch, empty}
use Rattle.item.specs.Tree.{Yaml, str}
use Rattle.lines.specs.Lines.{Line}
use Rattle.scalar.specs.declared.Role.TheVariants.{AsValue}
use Rattle.scalar.specs.Read.{cost, charge}

-- what was read, the running sum, and the lines that are left
abbrev pub Read : Type 0 → Type 0
Read A = Answer (A × ℕ × List Line)

-- a scalar adds its item's size to the running sum, against the `cap` bytes of work
unfoldable pub leaf : ℕ → ℕ → Yaml → List Line → Read Yaml
leaf cap sum y ls = do
  sum' ← charge cap sum (cost AsValue y)
  good (y, sum', ls)

-- a blank line that section 1 keeps; no other line has an empty text
abbrev pub is_blank : Line → Bool
is_blank l = empty l.text

-- P3: whether these lines begin, behind blank ones, with a body line deeper than the literal's first line, which is indented by `indent`
unfoldable pub before_deeper : ℕ → List Line → Bool
before_deeper indent [] = false
before_deeper indent (l ∷ ls) = if is_blank l then before_deeper indent ls else ltb indent l.indent

-- what a line gives before the lines `ls`: the extra spaces, its text, a newline; P3: blank lines directly before such a body line each give
-- a bare newline
unfoldable pub literal_line : ℕ → Line → List Line → List ℕ
literal_line indent l ls =
    if is_blank l && before_deeper indent ls then ch "\n" ∷ []
    else replicate (l.indent - indent) (ch " ") ++ l.text ++ (ch "\n" ∷ [])

abbrev pub onto : List ℕ → List ℕ × List Line → List ℕ × List Line
onto t (body, rest) = (t ++ body, rest)

-- the lines at or beyond an indentation, until one less indented; and the lines that are left
unfoldable pub literal_lines : ℕ → List Line → List ℕ × List Line
literal_lines indent [] = ([], [])
literal_lines indent (l ∷ ls) =
    if leb indent l.indent then onto (literal_line indent l ls) (literal_lines indent ls) else ([], l ∷ ls)

-- a literal needs a line deeper than its key; otherwise it is empty
unfoldable pub literal_under : ℕ → List Line → List ℕ × List Line
literal_under under [] = ([], [])
literal_under under (l ∷ ls) = if ltb under l.indent then literal_lines l.indent (l ∷ ls) else ([], l ∷ ls)

unfoldable pub all_newlines : List ℕ → Bool
all_newlines [] = true
all_newlines (b ∷ bs) = eqb b (ch "\n") && all_newlines bs

-- a text without all its final newlines
unfoldable pub drop_newlines : List ℕ → List ℕ
drop_newlines [] = []
drop_newlines (b ∷ bs) = if all_newlines (b ∷ bs) then [] else b ∷ drop_newlines bs

-- the literal of a key that is indented by `under`; `|-` strips
unfoldable pub literal : ℕ → Bool → ℕ → ℕ → List Line → Read Yaml
literal cap strip under sum ls =
    let (body, rest) = literal_under under ls in
    leaf cap sum (str (if strip then drop_newlines body else body)) rest
