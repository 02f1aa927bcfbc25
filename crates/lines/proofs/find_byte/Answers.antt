use Rattle.std.proofs.Common.{rules, tests, arith}
use Rattle.lines.proofs.Laws.{lacks-both}
use Rattle.lines.proofs.find_byte.Goals as goal

pub returns-clause-place : goal.returns-clause-place
returns-clause-place c =
    let f = c.first_place.ensures in
    let e = c.skip_eights-start.ensures in
    (omega (arith, e.0, f.low), f.high, lacks-both c.args.text.now c.args.b c.args.from c.skip_eights-start.result c.first_place.result e.2 (λ k l h. let p = f.before k l h in search (rules, tests)))
