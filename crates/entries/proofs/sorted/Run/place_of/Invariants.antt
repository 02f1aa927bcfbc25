-- The invariant: the keys before `low` are below the key, and it is below those from `high` on. Assumes nothing.
use Rattle.std.proofs.Common.{◌-◌}
use Rattle.entries.proofs.Runs.{Between}
use Rattle.entries.proofs.sorted.Run.place_of.Given as goal

abbrev pub invariant-loop-low : goal.invariant-loop-low
invariant-loop-low l = Between l.self.bytes.now l.self.places l.self.count l.key l.low l.high

abbrev pub decreases-loop-low : goal.decreases-loop-low
decreases-loop-low l = l.high - l.low
