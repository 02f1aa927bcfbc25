-- The invariant: for whatever steps stand there, all hangs on those that are left. Assumes nothing.
use Rattle.std.proofs.Common.{◌≡◌, ℕ, List}
use Rattle.std.proofs.Math.Option.{some}
use Rattle.std.specs.Iterator.Adapters.{enumerate_source, enumerate_count}
use Rattle.meaning.specs.Meaning.{Step}
use Rattle.record.specs.Contract.{StepsLie}
use Rattle.check_steps.specs.Names.{filled}
use Rattle.check_steps.proofs.Steps.{Left}
use Rattle.check_steps.proofs.Places.{Onward}
use Rattle.check_steps.proofs.check_all.Given as goal

abbrev pub invariant-loop-before : goal.invariant-loop-before
invariant-loop-before l = record {
  walk : Onward l.steps.bytes.now l.steps.from l.steps.to (enumerate_source l.before-iterator) (enumerate_count l.before-iterator);
  left : (ns : List (List ℕ)) → filled l.names ≡ some ns → (xs : List Step) → StepsLie l.steps.bytes.now l.steps.from l.steps.to xs → Left l.steps.bytes.now l.steps.to (enumerate_source l.before-iterator).at ns l.lines xs (enumerate_count l.before-iterator);
}
