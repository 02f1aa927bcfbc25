-- Document 01, "Answers": how the answer of a job is told to a program in C or Rust, in five numbers. Uses Base of `refusal`; Jobs of
-- `record`. Assumes nothing.
use Rattle.std.specs.Prelude.{ℕ, List, [], ◌∷◌, ◌++◌, length, take, drop, get_or}
use Rattle.refusal.specs.Base.{Answer, good, refused}
use Rattle.record.specs.Jobs.{Found, nothing, part}

-- refused is 1, with number, line and step; else it is what the job's own numbers are
unfoldable pub numbers : {A : Type 0} → (A → List ℕ) → Answer A → List ℕ
numbers f (good a) = f a
numbers f (refused n l s) = 1 ∷ n ∷ l ∷ s ∷ 0 ∷ []

-- accepted is 0; what a job gives elsewhere is not told again
unfoldable pub of_none : List ℕ → List ℕ
of_none ns = 0 ∷ 0 ∷ 0 ∷ 0 ∷ 0 ∷ []

unfoldable pub of_one : ℕ → List ℕ
of_one n = 0 ∷ n ∷ 0 ∷ 0 ∷ 0 ∷ []

unfoldable pub of_three : ℕ × ℕ × ℕ → List ℕ
of_three (a, b, c) = 0 ∷ a ∷ b ∷ c ∷ 0 ∷ []

unfoldable pub of_four : ℕ × ℕ × ℕ × ℕ → List ℕ
of_four (a, b, c, d) = 0 ∷ a ∷ b ∷ c ∷ d ∷ []

-- where a part begins and ends; nothing found is 2
unfoldable pub of_found : Found → List ℕ
of_found (part start end) = 0 ∷ start ∷ end ∷ 0 ∷ 0 ∷ []
of_found nothing = 2 ∷ 0 ∷ 0 ∷ 0 ∷ 0 ∷ []

abbrev pub first_of : List ℕ → ℕ
first_of ns = get_or ns 0 0

-- what is left in the lent places: as many of the numbers as there are places, and behind them what was there
unfoldable pub told : List ℕ → List ℕ → List ℕ
told ns old = take (length old) ns ++ drop (length ns) old
