-- Document 01, "Answers", its sentence on lines and steps: which numbers name a line or a step. Uses Base of `refusal`. Assumes nothing.
use Rattle.std.specs.Prelude.{◌≡◌, ℕ, ◌≤◌, Bool, true, false, ◌&&◌, ◌||◌, leb, eqb}
use Rattle.refusal.specs.Base.{Answer, refused}

-- the numbers that are given: 1 to 40 and 50 to 53
unfoldable pub given : ℕ → Bool
given n = (leb 1 n && leb n 40) || (leb 50 n && leb n 53)

-- lines are 0 for 1, 2, 21 to 32, 34 and 37 to 53
unfoldable pub lineless : ℕ → Bool
lineless n = leb n 2 || (leb 21 n && leb n 32) || eqb n 34 || (leb 37 n && leb n 53)

-- 32 to 39 name their step
unfoldable pub stepped : ℕ → Bool
stepped n = leb 32 n && leb n 39

-- the line is that of an entry for 3 to 20, and counts from 1; that of 33, 35 and 36 is the step's, which may be none
unfoldable pub lined : ℕ → Bool
lined n = leb 3 n && leb n 20

pub record Named (n l s : ℕ) : Type 0 where
  pub is_given : given n ≡ true
  pub no_line : lineless n ≡ true → l ≡ 0
  pub line : lined n ≡ true → 1 ≤ l
  pub no_step : stepped n ≡ false → s ≡ 0
  pub step : stepped n ≡ true → 1 ≤ s

-- an answer, of whatever job
abbrev pub Names : {A : Type 0} → Answer A → Type 0
Names a = (n l s : ℕ) → a ≡ refused n l s → Named n l s
