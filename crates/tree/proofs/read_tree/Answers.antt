-- The first bytes of the work are lent, and what is left in them is said of all. Assumes nothing.
use Rattle.tree.proofs.Reading.{told-size, told-bytes}
use Rattle.tree.proofs.read_tree.Goals as goal

pub returns-in-Ok-clause-answer : goal.returns-in-Ok-clause-answer
returns-in-Ok-clause-answer c =
    let a = c.args in
    let n = c.min-counted in
    told-size a.text.now a.work.now _ n.result n.ensures _ c.in-Ok.ensures.wrote

pub returns-in-Ok-clause-bytes : goal.returns-in-Ok-clause-bytes
returns-in-Ok-clause-bytes c =
    let a = c.args in
    let n = c.min-counted in
    told-bytes a.text.now a.work.now _ n.result n.ensures _ c.in-Ok.ensures.wrote
