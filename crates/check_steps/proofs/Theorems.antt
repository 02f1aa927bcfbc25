-- What the check of steps is for: it says of a record what document 01 says of the steps of the meaning that it is the record of. Assumes
-- nothing.
use Rattle.std.proofs.Common.{◌≡◌, ℕ, List, length}
use Rattle.refusal.specs.Base.{good, ◌>>=◌, ◌>>◌, given}
use Rattle.meaning.specs.Meaning.{Meaning}
use Rattle.meaning.specs.Rules.{IsRecord}
use Rattle.record.specs.Jobs.{opened}
use Rattle.record.proofs.RoundTrip.{meaning-back}
use Rattle.check_steps.specs.Names.{names_in}
use Rattle.check_steps.specs.CheckSteps.{check_from, check_steps}

pub check-of-meaning : (b : List ℕ) (m : Meaning) → IsRecord b m → (lines names : List ℕ)
    → check_steps b lines names ≡ (given (names_in names) 40 0 0 >>= λ ns. check_from ns 1 lines m.steps >> good (length m.steps))
unfolding check_steps opened given ◌>>=◌
check-of-meaning b m w lines names = rw (meaning-back b m w)
