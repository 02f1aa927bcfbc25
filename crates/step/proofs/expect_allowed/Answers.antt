-- A key that was not found, or the command's key. Assumes nothing.
use Rattle.std.proofs.Common.{sym, ap, ◌∙◌, Bool, not}
use Rattle.refusal.specs.Base.{ensure}
use Rattle.step.proofs.Steps.{not-found, is-found, nothing-expected, something-expected}
use Rattle.step.proofs.expect_allowed.Goals as goal

pub returns-then-is_none : goal.returns-then-is_none
returns-then-is_none c = λ line n m f.
    nothing-expected line n _ m (not-found c.args.expect c.if-is_none.ensures f) ∙ ap (λ (b : Bool). ensure b 35 line n) (sym c.if-is_none.true)

pub returns-else-is_none : goal.returns-else-is_none
returns-else-is_none c = λ line n m f.
    something-expected line n _ m (is-found c.args.expect c.if-is_none.ensures f).1 ∙ ap (λ (b : Bool). ensure (not b) 35 line n) (sym c.is_built_in.ensures)
