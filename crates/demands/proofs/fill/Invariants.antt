-- What was found so far ends at `at`. Assumes nothing.
use Rattle.std.proofs.Common.{◌≡◌, ◌+◌, ◌-◌, length, take}
use Rattle.meaning.specs.Record.{joined}
use Rattle.demands.specs.Contract.{Parts}
use Rattle.demands.proofs.fill.Given as goal

abbrev pub invariant-loop-number : goal.invariant-loop-number
invariant-loop-number g l =
    (w : Parts (goal.L-post g l.find) l.record l.count l.first) → l.at ≡ l.first + length (joined (take (l.number - 1) w.parts))
