-- For contracts: which field of a step a key is. Uses Base of `refusal`. Assumes nothing.
use Rattle.std.specs.Prelude.{ℕ, List, if◌then◌else◌, Option as Maybe, Some, None}
use Rattle.refusal.specs.Base.{bytes, same}
use Rattle.meaning.specs.declared.StepField.{StepField}
use Rattle.meaning.specs.declared.StepField.TheVariants.{Name, Id, Timeout, Continues, Expect}

unfoldable pub step_field : List ℕ → Maybe StepField
step_field k =
    if same k (bytes "name")
    then Some Name
    else if same k (bytes "id")
    then Some Id
    else if same k (bytes "timeout")
    then Some Timeout
    else if same k (bytes "continue_on_error")
    then Some Continues
    else if same k (bytes "expect")
    then Some Expect
    else None
