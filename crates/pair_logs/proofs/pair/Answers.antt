use Rattle.std.proofs.Common.{rules}
use Rattle.pair_logs.proofs.Answers.{too_short, all_agree}
use Rattle.pair_logs.proofs.pair.Goals as goal

pub returns-then-not-hold : goal.returns-then-not-hold
returns-then-not-hold c =
    let a = c.args in
    let l = a.lists.now in
    too_short a.hammers.now a.sounds.now l.pairs.now l.lone_hammers.now l.lone_sounds.now c.if-hammers-gt-MOST_TIMES.false c.if-sounds-gt-MOST_TIMES.false
    c.in_ok-counts.ensures.written (search rules)

pub returns : goal.returns
returns c =
    let a = c.args in
    let l = a.lists.now in
    record {
      keeps = c.in_ok-counts.ensures.keeps;
      agrees = all_agree a.hammers.now a.sounds.now l.pairs.now l.lone_hammers.now l.lone_sounds.now c.if-hammers-gt-MOST_TIMES.false c.if-sounds-gt-MOST_TIMES.false
          c.in_ok-counts.ensures.written (search rules);
    }
