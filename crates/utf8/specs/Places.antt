-- What a search of the places from one up to another finds, as the contracts of several crates name it. Uses no other. Assumes nothing.
use Rattle.std.specs.Prelude.{ℕ, ◌≤◌, ◌<◌}

-- where the first place stands that is a `Yes`, or the end of the places; those before it are a `No`
pub record First (Yes No : ℕ → Type 0) (from to place : ℕ) : Type 0 where
  pub low : from ≤ place
  pub high : place ≤ to
  pub before : (k : ℕ) → from ≤ k → k < place → No k
  pub here : place < to → Yes place
