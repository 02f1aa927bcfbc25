use Rattle.std.proofs.Common.{rules, ◌≡◌, min, ◌∙◌, sym}
use Rattle.std.specs.List.{sum_by}
use Rattle.std.proofs.iter.runs.Made.{chains}
use Rattle.share.proofs.Laws.{sum_up_to}
use Rattle.share.proofs.strokes_of.Goals as goal

pub returns : goal.returns
returns c =
    let n = c.args.rounds in
    let ws = c.args.wishes.each.now in
    let e : c.sum.result ≡ sum_by (λ w. min w n) ws = search (rules, chains) in
    e ∙ sym (sum_up_to n ws)
