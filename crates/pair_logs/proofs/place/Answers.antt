use Rattle.std.proofs.Common.{rules}
use Rattle.pair_logs.proofs.Turns.{all_placed}
use Rattle.pair_logs.proofs.place.Goals as goal

pub returns : goal.returns
returns c =
    let w = c.in_ok-walked.ensures in
    record {
      keeps = search rules;
      written = all_placed w.going w.ended c.in_ok-rest.ensures c.in_ok-rest-2.ensures;
    }
