-- The invariant: so many steps were counted, and all hangs on those that are left. Assumes nothing.
use Rattle.std.proofs.Common.{◌≡◌, ◌≤◌, take}
use Rattle.panel.proofs.Steps.{Left}
use Rattle.panel.proofs.count_steps.Given as goal

abbrev pub invariant-loop-item : goal.invariant-loop-item
invariant-loop-item l = record {
  bytes : l.item-iterator.bytes.now ≡ take l.fn.list.to l.s;
  to : l.item-iterator.to ≡ l.fn.list.to;
  inside : l.item-iterator.at ≤ l.fn.list.to;
  few : l.count ≤ l.item-iterator.at;
  left : Left l.s l.fn.list l.item-iterator.at l.count;
}
