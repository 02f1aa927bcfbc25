-- The record's items, of which the first is the name and the eighth holds the steps. Assumes nothing.
use Rattle.std.proofs.Common.{sym, ap, ◌∙◌}
use Rattle.std.specs.Result.{result_ok}
use Rattle.panel.proofs.Items.{some-is}
use Rattle.panel.proofs.Texts.{no-whole, other-whole, unnamed, not-filled, no-list, no-steps, sees}
use Rattle.panel.proofs.read_programme.Goals as goal

pub returns-in_err-whole : goal.returns-in_err-whole
returns-in_err-whole c = rw c.from_residual.ensures (no-whole _ (sym c.in_err-whole.was ∙ c.ok.ensures.value ∙ ap result_ok c.header_at.ensures.value))

pub returns-then-not-is_whole : goal.returns-then-not-is_whole
returns-then-not-is_whole c =
    other-whole _ (sym c.in_ok-whole.was ∙ c.ok.ensures.value ∙ ap result_ok c.header_at.ensures.value) (sym c.is_whole.ensures ∙ c.if-not-is_whole.true)

pub returns-in_err-name : goal.returns-in_err-name
returns-in_err-name c =
    let w = sym c.in_ok-whole.was ∙ c.ok.ensures.value ∙ ap result_ok c.header_at.ensures.value in
    let t = sym c.is_whole.ensures ∙ c.if-not-is_whole.false in
    rw c.from_residual-in_err-name.ensures (unnamed _ w t c.in_err-name.ensures.text)

pub returns-then-not-are_items : goal.returns-then-not-are_items
returns-then-not-are_items c =
    let w = sym c.in_ok-whole.was ∙ c.ok.ensures.value ∙ ap result_ok c.header_at.ensures.value in
    let t = sym c.is_whole.ensures ∙ c.if-not-is_whole.false in
    not-filled _ w t c.in_ok-name.ensures.text (sym c.are_items.ensures ∙ c.if-not-are_items.true)

pub returns-in_err-list : goal.returns-in_err-list
returns-in_err-list c =
    let w = sym c.in_ok-whole.was ∙ c.ok.ensures.value ∙ ap result_ok c.header_at.ensures.value in
    let t = sym c.is_whole.ensures ∙ c.if-not-is_whole.false in
    let (rest, q) = some-is _ (sym c.are_items.ensures ∙ c.if-not-are_items.false) in
    rw c.from_residual-in_err-list.ensures (no-list _ w t c.in_ok-name.ensures.text q (c.in_err-list.ensures.nth rest q))

pub returns-in_err-steps : goal.returns-in_err-steps
returns-in_err-steps c =
    let w = sym c.in_ok-whole.was ∙ c.ok.ensures.value ∙ ap result_ok c.header_at.ensures.value in
    let t = sym c.is_whole.ensures ∙ c.if-not-is_whole.false in
    let (rest, q) = some-is _ (sym c.are_items.ensures ∙ c.if-not-are_items.false) in
    rw c.from_residual-in_err-steps.ensures (no-steps _ w t c.in_ok-name.ensures.text q (c.in_ok-list.ensures.nth rest q) c.in_err-steps.ensures)

pub returns : goal.returns
returns c =
    let w = sym c.in_ok-whole.was ∙ c.ok.ensures.value ∙ ap result_ok c.header_at.ensures.value in
    let t = sym c.is_whole.ensures ∙ c.if-not-is_whole.false in
    let (rest, q) = some-is _ (sym c.are_items.ensures ∙ c.if-not-are_items.false) in
    sees _ w t c.in_ok-name.ensures.text q (c.in_ok-list.ensures.nth rest q) c.in_ok-name.ensures.inside c.in_ok-list.ensures.inside c.in_ok-steps.ensures
