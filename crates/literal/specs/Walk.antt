-- Section 3 of document 01, for the contracts inside the crate: what the walks over the lines of a literal ask and promise. Uses Tree
-- of `item`; Lines of `lines`; Literal of this crate. Assumes nothing.
use Rattle.std.specs.Prelude.{◌≡◌, ℕ, ◌*◌, ◌≤◌, List, Bool, eqb, length, drop, if◌then◌else◌}
use Rattle.item.specs.Tree.{Yaml, str}
use Rattle.lines.specs.Lines.{Line, most_lines}
use Rattle.literal.specs.declared.Body.{Body}
use Rattle.literal.specs.Literal.{Read, leaf, literal_lines, drop_newlines}

-- the bytes that the lines from `i` on give, and the lines behind them
abbrev pub body_from : List Line → ℕ → ℕ → List ℕ
body_from ls indent i = (literal_lines indent (drop i ls)).0

abbrev pub rest_from : List Line → ℕ → ℕ → List Line
rest_from ls indent i = (literal_lines indent (drop i ls)).1

-- the spaces before a text of `size` bytes that stands `deeper` than the literal's first line: none before that of a blank line
abbrev pub extra_spaces : ℕ → ℕ → ℕ
extra_spaces size deeper = if eqb size 0 then 0 else deeper

-- the lines of a literal from `first` up to `next`
pub record Extent (ls : List Line) (first indent : ℕ) (r : Body) : Type 0 where
  pub on : first ≤ r.next
  pub within : r.next ≤ length ls
  pub small : r.len ≤ 131071 * most_lines
  pub size : length (body_from ls indent first) ≡ r.len
  pub left : rest_from ls indent first ≡ drop r.next ls

-- a literal of this body, with these lines behind it
abbrev pub whole : ℕ → Bool → ℕ → List ℕ × List Line → Read Yaml
whole cap strip sum b = leaf cap sum (str (if strip then drop_newlines b.0 else b.0)) b.1
