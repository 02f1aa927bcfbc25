-- The drums so far have what they get, and the others get what a round with what is left gives them. Assumes nothing.
use Rattle.std.proofs.Common.{◌≤◌, drop}
use Rattle.share.specs.Share.{gots, up_to, round}
use Rattle.share.proofs.Turns.{Stored}
use Rattle.share.proofs.last_round.Given as goal

abbrev pub invariant-loop-i : goal.invariant-loop-i
invariant-loop-i l =
    (l.i ≤ l.i-end)
    × Stored (gots (round l.initial.left (up_to l.rounds.whole l.wishes.each.now))) l.strokes l.i (gots (round l.left (up_to l.rounds.whole (drop l.i l.wishes.each.now))))
