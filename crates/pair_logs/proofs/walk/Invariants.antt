-- What is placed so far is written, and the rest is the walk from the first unplaced of each log on. Assumes nothing.
use Rattle.std.proofs.Common.{◌+◌, ◌-◌, length}
use Rattle.pair_logs.specs.Contract.{Keeps, Going}
use Rattle.pair_logs.proofs.walk.Given as goal

abbrev pub invariant-loop-hammers : goal.invariant-loop-hammers
invariant-loop-hammers l =
    Keeps l.initial.lists l.lists
    × Going l.logs.hammers.now l.logs.sounds.now l.initial.lists.pairs.now l.lists.pairs.now l.initial.lists.lone_hammers.now l.lists.lone_hammers.now l.initial.lists.lone_sounds.now l.lists.lone_sounds.now l.hammers.from l.hammers.before l.sounds.from l.sounds.before l.pairs

abbrev pub decreases-loop-hammers : goal.decreases-loop-hammers
decreases-loop-hammers l =
    length l.logs.hammers.now - l.hammers.from + (length l.logs.sounds.now - l.sounds.from)
