-- The invariant: for whatever items stand there, the steps of those that were passed and their lines are written. Assumes nothing.
use Rattle.std.proofs.Common.{◌≡◌, ◌-◌, ◌≤◌, length, drop}
use Rattle.item.specs.Tree.{Items}
use Rattle.step_lines.specs.StepLines.{step_lines, dashes_at}
use Rattle.entries.specs.Entries.{Holds}
use Rattle.nodes.specs.Writing.{Goes}
use Rattle.scenario.proofs.Invariants.{Walked}
use Rattle.scenario.proofs.put_steps.Given as goal

abbrev pub invariant-loop-item : goal.invariant-loop-item
invariant-loop-item l =
    (l.item-iterator.bytes.now ≡ l.fn.part.bytes.now) × (l.item-iterator.to ≡ l.fn.part.to) × (l.fn.part.from ≤ l.item-iterator.at) × (l.item-iterator.at ≤ length l.fn.part.bytes.now)
    × (l.steps ≤ l.item-iterator.at - l.fn.part.from) × (l.next ≤ length l.text) × Goes l.initial.writer l.writer
    × ((ys : Items) → Holds l.fn.part.bytes.now l.fn.part.from l.fn.part.to ys → Walked l.fn.part.bytes.now l.fn.part.to l.item-iterator.at ys (step_lines l.text)
    (dashes_at l.first.indent (drop l.next l.text)) l.initial.writer l.writer l.initial.lines l.lines l.steps)
