-- The item at the place that the headers before it tell. Assumes nothing.
use Rattle.std.proofs.Common.{sym, ap, ◌∙◌}
use Rattle.std.specs.Prelude.{Option}
use Rattle.std.specs.Option.{option_and_then}
use Rattle.std.specs.Result.{result_ok}
use Rattle.entries.specs.declared.Span.{Span}
use Rattle.item.specs.Places.{header_at}
use Rattle.panel.proofs.Items.{items-nth}
use Rattle.panel.proofs.nth_at.Goals as goal

pub returns-in_err-span-clause-nth : goal.returns-in_err-span-clause-nth
returns-in_err-span-clause-nth c = λ items e.
    c.from_residual.ensures
    ∙ ap (λ (o : Option Span). option_and_then (λ span. result_ok (header_at c.args.s.now span.start)) o) (sym c.in_err-span.was ∙ c.nth_item.ensures) ∙ items-nth _ items _ _ e

pub returns-clause-nth : goal.returns-clause-nth
returns-clause-nth c = λ items e.
    c.ok.ensures.value ∙ ap result_ok c.header_at.ensures.value
    ∙ ap (λ (o : Option Span). option_and_then (λ span. result_ok (header_at c.args.s.now span.start)) o) (sym c.in_ok-span.was ∙ c.nth_item.ensures) ∙ items-nth _ items _ _ e
