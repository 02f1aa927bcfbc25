-- Section 1 of document 01, for the contracts inside the crate: where the lines of a text begin and end, by places. Uses Base of `refusal`;
-- Part of `utf8`; Lines of this crate. Assumes nothing.
use Rattle.std.specs.Prelude.{◌≡◌, ℕ, suc, ◌+◌, ◌≤◌, ◌<◌, List, [], ◌∷◌, eqb, drop, get_or, if◌then◌else◌}
use Rattle.refusal.specs.Base.{ch}
use Rattle.utf8.specs.Part.{part}
use Rattle.lines.specs.Lines.{split_lines}

-- no byte from the place `from` up to the place `to` is `b`
abbrev pub Lacks : List ℕ → ℕ → ℕ → ℕ → Type 0
Lacks s from to b = (k : ℕ) → from ≤ k → k < to → get_or s k 0 ≡ b → ⊥

-- how many bytes stand before a text's first newline
unfoldable pub until_newline : List ℕ → ℕ
until_newline [] = 0
until_newline (b ∷ bs) = if eqb b (ch "\n") then 0 else suc (until_newline bs)

-- the line at `at` ends at `to`, and the next line begins behind `newline`
pub record LineEnds (text : List ℕ) (at newline to : ℕ) : Type 0 where
  pub low : at ≤ to
  pub high : to ≤ newline
  pub splits : split_lines (drop at text) ≡ part text at to ∷ split_lines (drop (newline + 1) text)
