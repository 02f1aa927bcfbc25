-- The invariant: all hangs on the items that are left. Assumes nothing.
use Rattle.std.proofs.Common.{◌≡◌, ◌≤◌, length}
use Rattle.std.specs.Prelude.{is_some}
use Rattle.panel.specs.Panel.{items_from}
use Rattle.panel.proofs.are_items.Given as goal

abbrev pub invariant-loop-item : goal.invariant-loop-item
invariant-loop-item l = record {
  bytes : l.item-iterator.bytes.now ≡ l.s;
  to : l.item-iterator.to ≡ length l.s;
  inside : l.item-iterator.at ≤ length l.s;
  left : is_some (items_from l.s l.fn.at) ≡ is_some (items_from l.s l.item-iterator.at);
}
