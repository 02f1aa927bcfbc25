use Rattle.std.proofs.Common.{rules, length-set}
use Rattle.number.proofs.Laws.{digit_back, digits_stored}
use Rattle.number.proofs.put_decimal.Goals as goal

pub loop-i-preserved : goal.loop-i-preserved
loop-i-preserved c = let l = c.loop-i in (simp length-set l.invariant.0, digit_back l.out c.args.at l.i l.left (search rules) l.invariant.1)

pub returns : goal.returns
returns c = let l = c.loop-i in digits_stored l.out c.args.at l.i l.left (search rules) l.invariant.1
