-- For contracts: kinds by their numbers, as headers have them. Assumes nothing.
use Rattle.std.specs.Prelude.{◌≡◌, ◌≢◌, ℕ, Result, Ok, Err}
use Rattle.item.specs.declared.Kind.{Kind}
use Rattle.item.specs.declared.Kind.TheVariants.{Null, Bool, Int, Str, Seq, Map, Scenario, Defaults, Steps, Step}
use Rattle.item.specs.declared.UnknownKind.{UnknownKind}

-- the number of a kind
abbrev pub number_of : Kind → ℕ
number_of Null = 0
number_of Bool = 1
number_of Int = 2
number_of Str = 3
number_of Seq = 4
number_of Map = 5
number_of Scenario = 16
number_of Defaults = 17
number_of Steps = 18
number_of Step = 19

-- the kind that has a number, or that none has it
abbrev pub NamesKind : ℕ → Result Kind UnknownKind → Type 0
NamesKind n (Ok kind) = n ≡ number_of kind
NamesKind n (Err unknown) = (kind : Kind) → n ≢ number_of kind
