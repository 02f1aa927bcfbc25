-- The first newline from the line's start on ends the line. Assumes nothing.
use Rattle.lines.proofs.Laws.{newline-found}
use Rattle.lines.proofs.newline_at.Goals as goal

pub returns : goal.returns
returns c =
    let a = c.args in
    let f = c.find_byte in
    (newline-found a.text.now a.at f.result f.ensures.place.0 f.ensures.place.1 f.ensures.place.2 f.ensures.found, f.ensures.place.1)
