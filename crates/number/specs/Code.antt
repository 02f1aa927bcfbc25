-- For the contracts of this crate: what the code's answers say in the words of the definitions. Uses Base of
-- `refusal`; Encode of `item`. Assumes nothing.
use Rattle.std.specs.Prelude.{ℕ, List, ◌∷◌, Bool, true, false, leb, ℤ, Some, None, Option as Chance, if◌then◌else◌}
use Rattle.std.proofs.Math.Option.{Option, none, some}
use Rattle.refusal.specs.Base.{ch}
use Rattle.item.specs.Encode.{signed}
use Rattle.item.specs.declared.Integer.{Integer}

-- the code's answer in the words of the definitions
abbrev pub int_of : Chance Integer → Option ℤ
int_of (Some n) = some (signed n.negative n.magnitude)
int_of None = none

abbrev pub number_of : Chance ℕ → Option ℕ
number_of (Some n) = some n
number_of None = none

-- a number of at most `limit`
unfoldable pub at_most : ℕ → Option ℕ → Option ℕ
at_most limit none = none
at_most limit (some n) = if leb n limit then some n else none

-- a magnitude of at most `limit`, with its sign
unfoldable pub bounded : Bool → ℕ → Option ℕ → Option ℤ
bounded negative limit none = none
bounded negative limit (some n) = if leb n limit then some (signed negative n) else none

-- digits behind a minus, or bare
abbrev pub minused : Bool → List ℕ → List ℕ
minused true ds = ch "-" ∷ ds
minused false ds = ds
