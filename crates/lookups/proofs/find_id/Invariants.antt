-- The invariant: whatever steps stand there, those that are left decide as all of them do. Assumes nothing.
use Rattle.std.proofs.Common.{◌≡◌, List}
use Rattle.meaning.specs.Meaning.{Step}
use Rattle.record.specs.Contract.{StepsLie}
use Rattle.lookups.proofs.Ids.{Left}
use Rattle.lookups.proofs.find_id.Given as goal

abbrev pub invariant-loop-step : goal.invariant-loop-step
invariant-loop-step l = record {
  bytes : l.step-iterator.bytes.now ≡ l.steps.bytes.now;
  to : l.step-iterator.to ≡ l.steps.to;
  left : (steps : List Step) → StepsLie l.steps.bytes.now l.steps.from l.steps.to steps → Left l.steps.bytes.now l.id l.steps.from l.steps.to l.step-iterator.at steps;
}
