-- The invariant: what is looked for from here is what was looked for at the start. Assumes nothing.
use Rattle.std.proofs.Common.{◌≡◌, ◌-◌}
use Rattle.entries.specs.Entries.{nth_item}
use Rattle.entries.proofs.nth_item.Given as goal

abbrev pub invariant-loop : goal.invariant-loop
invariant-loop l = nth_item l.s l.from l.skip ≡ nth_item l.s l.at (l.skip - l.counter)
