-- Every definition of a file of `specs/` opened at once, for proofs that compute with them. Assumes nothing.
use Rattle.scenario.specs.Scenario.{lines_for, reading_of, scenario, output, tree_bytes, record_bytes, step_numbers, sizes_of}

unfoldable pub Scenario-open : Unit {0}
unfolding lines_for reading_of scenario output tree_bytes record_bytes step_numbers sizes_of
Scenario-open = tt
