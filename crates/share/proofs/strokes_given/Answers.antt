-- The whole rounds and one with the rest. Assumes nothing.
use Rattle.std.proofs.Common.{◌≤◌, rules}
use Rattle.share.specs.Share.{greatest}
use Rattle.share.proofs.Laws.{dealt, shared}
use Rattle.share.proofs.strokes_given.Goals as goal

pub returns : goal.returns
returns c =
    let a = c.args in
    let ok : greatest a.wishes.now ≤ 255 = search rules in
    rw (c.last_round.ensures, dealt c.whole_rounds.ensures ok) (shared a.wishes.now a.allowed (search rules) (search rules) ok (search rules))
