-- The invariant: for whatever items stand there, all hangs on those that are left, and on whether the commands before them are known.
-- Assumes nothing.
use Rattle.std.proofs.Common.{◌≡◌, ℕ, List}
use Rattle.std.proofs.Math.Option.{some}
use Rattle.std.specs.Iterator.Adapters.{enumerate_source, enumerate_count}
use Rattle.item.specs.Tree.{Items}
use Rattle.entries.specs.Entries.{Holds}
use Rattle.check_steps.specs.Names.{filled}
use Rattle.check_steps.proofs.Inner.{Walked}
use Rattle.check_steps.proofs.Places.{Onward}
use Rattle.check_steps.proofs.check_inner.Given as goal

abbrev pub invariant-loop-before : goal.invariant-loop-before
invariant-loop-before l = record {
  walk : Onward l.steps.bytes.now l.steps.from l.steps.to (enumerate_source l.before-iterator) (enumerate_count l.before-iterator);
  walked : (ns : List (List ℕ)) → filled l.outer.names.now ≡ some ns → (ys : Items) → Holds l.steps.bytes.now l.steps.from l.steps.to ys → Walked l.steps.bytes.now l.steps.to (enumerate_source l.before-iterator).at ns l.outer.line l.outer.number ys (enumerate_count l.before-iterator) l.all_known;
}
