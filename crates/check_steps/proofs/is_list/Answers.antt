-- One item of kind 4, nothing behind it, and the names in it. Assumes nothing.
use Rattle.std.proofs.Common.{◌≡◌, sym, ap, ◌∙◌, ℕ, ◌-◌, false, inl, inr, take, drop}
use Rattle.std.proofs.lemmas.Bool.{eqb-true, eqb-false}
use Rattle.item.proofs.Headers.{spans, no_header}
use Rattle.record.specs.Contract.{is_some, are_texts}
use Rattle.record.proofs.Headers.{no-content-at, content-here, content-other}
use Rattle.check_steps.specs.Names.{names_in}
use Rattle.check_steps.proofs.Names.{no-list, list-behind, list-is}
use Rattle.check_steps.proofs.is_list.Goals as goal

pub returns-in_default : goal.returns-in_default
returns-in_default c =
    let b = c.args.names.now in
    no-list b (no-content-at 4 b 0 (no_header b 0 (sym c.in_default.is ∙ c.header_at.ensures.value)))

pub returns-then-is_whole : goal.returns-then-is_whole
returns-then-is_whole c =
    let b = c.args.names.now in
    let h = sym c.in-Ok.is ∙ c.header_at.ensures.value in
    let k = eqb-true _ _ (sym c.is.ensures ∙ c.if-is_whole.true.0) in
    c.are_texts.ensures ∙ ap (λ (i : ℕ). are_texts (take (c.in-Ok.list.to - i) (drop i b))) (spans b 0 h).start ∙ list-is b (content-here 4 b 0 h k) c.if-is_whole.true.1

pub returns-else-is_whole : goal.returns-else-is_whole
returns-else-is_whole c =
    let b = c.args.names.now in
    let h = sym c.in-Ok.is ∙ c.header_at.ensures.value in
    let none : false ≡ is_some (names_in b) = elim c.if-is_whole.either [
      | inl p ↦ list-behind b (content-here 4 b 0 h (eqb-true _ _ (sym c.is.ensures ∙ p.0))) p.1
      | inr p ↦ no-list b (content-other 4 b 0 h (eqb-false _ _ (sym c.is.ensures ∙ p)))
    ] in
    cc
