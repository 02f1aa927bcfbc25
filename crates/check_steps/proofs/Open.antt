-- Every definition of a file of `specs/` opened at once, for proofs that compute with them. Assumes nothing.
use Rattle.check_steps.specs.CheckSteps.{known, repeated, all_known, check_inner, check_repeat, check_step, check_from, check_steps}

unfoldable pub CheckSteps-open : Unit {0}
unfolding known repeated all_known check_inner check_repeat check_step check_from check_steps
CheckSteps-open = tt
