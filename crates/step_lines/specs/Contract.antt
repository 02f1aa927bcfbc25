-- Section 4 of document 01, for contracts: what the readers of step lines promise. Uses Lines of `lines`; StepLines of this crate. Assumes
-- nothing.
use Rattle.std.specs.Prelude.{◌≡◌, ℕ, ◌≤◌, List, drop}
use Rattle.lines.specs.Lines.{Line}
use Rattle.step_lines.specs.declared.Dashes.{Dashes}
use Rattle.step_lines.specs.declared.StepLine.{StepLine}
use Rattle.step_lines.specs.StepLines.{dashes_at, step_lines, head_line, tail_lines}

-- where the steps begin: the step lines are the dashes from there on
pub record Begins (ls : List Line) (count : ℕ) (d : Dashes) : Type 0 where
  pub is : step_lines ls ≡ dashes_at d.indent (drop d.at ls)
  pub within : d.at ≤ count

-- the next of the step lines from entry `i` on, and the entry behind it
pub record Next (ls : List Line) (count indent i : ℕ) (l : StepLine) : Type 0 where
  pub is : l.line ≡ head_line (dashes_at indent (drop i ls))
  pub others : dashes_at indent (drop l.next ls) ≡ tail_lines (dashes_at indent (drop i ls))
  pub within : l.next ≤ count
