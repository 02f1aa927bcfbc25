-- The job's answer, told. Assumes nothing.
use Rattle.std.proofs.Common.{ap, ◌∙◌}
use Rattle.drum.specs.Numbers.{first_of, told}
use Rattle.drum.proofs.Telling.{share-told}
use Rattle.drum.proofs.drum_share.Goals as goal

pub returns-clause-result : goal.returns-clause-result
returns-clause-result c =
    let s = c.share-outcome in
    c.tell.ensures.result ∙ ap first_of (share-told s.result.answer s.result.strokes s.ensures.answer)

pub returns-clause-answer : goal.returns-clause-answer
returns-clause-answer c =
    let s = c.share-outcome in
    c.tell.ensures.places ∙ ap (λ ns. told ns c.args.answer.now) (share-told s.result.answer s.result.strokes s.ensures.answer)
