-- The invariant: all hangs on the texts that are left. Assumes nothing.
use Rattle.std.proofs.Common.{ℕ, ◌≡◌, ◌≤◌, length}
use Rattle.record.specs.Read.{field_of, as_text}
use Rattle.record.proofs.Invariants.{Left}
use Rattle.record.proofs.are_texts.Given as goal

abbrev pub invariant-loop-item : goal.invariant-loop-item
invariant-loop-item l = record {
  bytes : l.item-iterator.bytes.now ≡ l.s;
  to : l.item-iterator.to ≡ length l.s;
  inside : l.item-iterator.at ≤ length l.s;
  left : (n : ℕ) × Left (field_of as_text 0) l.s l.item-iterator.at n;
}
