-- The rows keep what the definition reads of the lines so far. Assumes nothing.
use Rattle.std.proofs.Common.{rules, ◌∙◌, arith}
use Rattle.lines.proofs.ScanLaws.{lines_start, lines_end}
use Rattle.lines.proofs.Ends.{filled}
use Rattle.lines.proofs.read_lines.Goals as goal

pub loop-at-init : goal.loop-at-init
loop-at-init c =
    let e = c.clear.ensures in
    record {
      place = search rules;
      numbered = search rules;
      some = search rules;
      waits = search rules;
      lines = rw e (lines_start c.args.text.now);
      placed = rw e (λ i d h. absurd (omega arith));
    }

pub returns : goal.returns
returns c =
    let l = c.loop-at in
    let v = l.invariant in
    filled c.args.text.now l.rows.items (search rules) (v.lines ∙ lines_end c.args.text.now l.rows.items l.taken.literal l.taken.waiting l.number l.at (omega arith)) v.placed
