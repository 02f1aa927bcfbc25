-- Every definition of a file of `specs/` opened at once, for proofs that compute with them. Assumes nothing.
use Rattle.step_lines.specs.StepLines.{is_steps, behind_steps, dashes_at, dashes_from, step_lines, head_line, tail_lines}

unfoldable pub StepLines-open : Unit {0}
unfolding is_steps behind_steps dashes_at dashes_from step_lines head_line tail_lines
StepLines-open = tt
