-- The key in the middle is compared. Assumes nothing.
use Rattle.std.proofs.Common.{rules, sym, ap, ◌∙◌}
use Rattle.entries.specs.Contract.{key_cmp}
use Rattle.entries.proofs.Runs.{between-same, between-right, between_left}
use Rattle.entries.proofs.sorted.Run.place_of.Goals as goal

pub returns-in-Equal : goal.returns-in-Equal
returns-in-Equal c =
    between-same c.loop-low.invariant c.args.self.now.in_order _ (search rules) (search rules) (ap (λ k. key_cmp k c.args.key.now) (sym c.key.ensures) ∙ sym c.compare.ensures ∙ c.in-Equal.is)

pub loop-low-preserved-in-Less : goal.loop-low-preserved-in-Less
loop-low-preserved-in-Less c =
    between-right c.loop-low.invariant c.args.self.now.in_order _ (search rules) (search rules) (ap (λ k. key_cmp k c.args.key.now) (sym c.key.ensures) ∙ sym c.compare.ensures ∙ c.in-Less.is)

pub loop-low-preserved : goal.loop-low-preserved
loop-low-preserved c =
    between_left c.loop-low.invariant c.args.self.now.in_order _ (search rules) (search rules) (ap (λ k. key_cmp k c.args.key.now) (sym c.key.ensures) ∙ sym c.compare.ensures ∙ c.in-Greater.is)
