-- The invariant: `whole` rounds fit, and `too_many` do not or are more than any drum wants. Assumes nothing.
use Rattle.std.proofs.Common.{◌≡◌, ◌⊎◌, ◌+◌, ◌-◌, ◌≤◌, ◌<◌}
use Rattle.share.specs.Share.{gots, sum, up_to}
use Rattle.share.proofs.whole_rounds.Given as goal

abbrev pub invariant-loop-too_many : goal.invariant-loop-too_many
invariant-loop-too_many l =
    (l.whole < l.too_many) × (l.too_many ≤ l.most + 1) × (sum (gots (up_to l.whole l.wishes.each.now)) ≤ l.allowed) × (l.rest ≡ l.allowed - sum (gots (up_to l.whole l.wishes.each.now)))
    × ((l.too_many ≡ l.most + 1) ⊎ (l.allowed < sum (gots (up_to l.too_many l.wishes.each.now))))

abbrev pub decreases-loop-too_many : goal.decreases-loop-too_many
decreases-loop-too_many l = l.too_many - l.whole
