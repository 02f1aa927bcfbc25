-- A row is one entry taken, or the refusal of it. Assumes nothing.
use Rattle.std.proofs.Common.{rules}
use Rattle.lines.proofs.TableLaws.{pushed}
use Rattle.lines.proofs.push.Goals as goal

pub returns : goal.returns
returns c = λ text es w.
    let a = c.args in
    let t = c.try_push.ensures in
    rw c.or.ensures (pushed text a.rows.now.items c.try_push.new.self.items a.row c.from.result c.try_push.result t.variant t.ok t.full (search rules) w es)
