-- A part of a text, as the contracts of many crates name it. Uses no other. Assumes nothing.
use Rattle.std.specs.Prelude.{ℕ, ◌-◌, List, take, drop}

-- the bytes of `s` from the place `from` up to the place `to`, as `&s[from..to]` lends them
abbrev pub part : List ℕ → ℕ → ℕ → List ℕ
part s from to = take (to - from) (drop from s)
