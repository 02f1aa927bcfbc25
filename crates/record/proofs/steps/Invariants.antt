-- The invariant: so many steps were counted, and all hangs on those that are left. Assumes nothing.
use Rattle.std.proofs.Common.{◌≡◌, ◌≤◌, length}
use Rattle.record.specs.Read.{in_item, step_in}
use Rattle.record.proofs.Invariants.{Left}
use Rattle.record.proofs.steps.Given as goal

abbrev pub invariant-loop-item : goal.invariant-loop-item
invariant-loop-item l = record {
  bytes : l.item-iterator.bytes.now ≡ l.s.bytes.now;
  to : l.item-iterator.to ≡ length l.s.bytes.now;
  inside : l.item-iterator.at ≤ length l.s.bytes.now;
  few : l.count ≤ l.item-iterator.at;
  left : Left (in_item 19 step_in) l.s.bytes.now l.item-iterator.at l.count;
}
