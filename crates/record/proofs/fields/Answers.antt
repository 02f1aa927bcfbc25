-- Five fields in turn, then the last three. Assumes nothing.
use Rattle.std.proofs.Common.{sym, ◌∙◌, drop}
use Rattle.std.specs.Prelude.{None, Some}
use Rattle.refusal.specs.Base.{maybe}
use Rattle.item.specs.Decode.{◌>>=◌}
use Rattle.record.specs.Read.{field_of, as_text, all, fields_in}
use Rattle.record.specs.Contract.{are_texts, meaning_steps}
use Rattle.record.proofs.Chains.{no_item, content-read, content-refused, fields-last}
use Rattle.record.proofs.Views.{tree-walks}
use Rattle.record.proofs.fields.Goals as goal

pub returns-in_err-description : goal.returns-in_err-description
unfolding meaning_steps maybe fields_in ◌>>=◌
returns-in_err-description c = rw (c.from_residual.ensures, c.in_err-description.ensures)

pub returns-in_err-tags : goal.returns-in_err-tags
unfolding meaning_steps maybe fields_in ◌>>=◌
returns-in_err-tags c = rw (c.from_residual-in_err-tags.ensures, c.in_ok-description.ensures.is, c.in_err-tags.ensures)

pub returns-in_err-image : goal.returns-in_err-image
unfolding meaning_steps maybe fields_in ◌>>=◌
returns-in_err-image c =
    rw (c.from_residual-in_err-image.ensures, c.in_ok-description.ensures.is, c.in_ok-tags.ensures.is, no_item 4 (all (field_of as_text 0)) (drop c.in_ok-tags.tags c.args.s.bytes.now) c.in_err-image.ensures)

pub returns-then-not-are_texts : goal.returns-then-not-are_texts
unfolding meaning_steps maybe fields_in ◌>>=◌ are_texts
returns-then-not-are_texts c =
    rw (c.in_ok-description.ensures.is, c.in_ok-tags.ensures.is, content-refused (all (field_of as_text 0)) c.in_ok-image.ensures (sym c.are_texts.ensures ∙ c.if-not-are_texts.true))

pub returns-in_err-setup : goal.returns-in_err-setup
unfolding meaning_steps maybe fields_in ◌>>=◌ are_texts
returns-in_err-setup c =
    let t = content-read (all (field_of as_text 0)) c.in_ok-image.ensures (sym c.are_texts.ensures ∙ c.if-not-are_texts.false) in
    rw (c.from_residual-in_err-setup.ensures, c.in_ok-description.ensures.is, c.in_ok-tags.ensures.is, t.is, c.in_err-setup.ensures)

pub returns-in_err-defaults : goal.returns-in_err-defaults
unfolding meaning_steps maybe fields_in ◌>>=◌ are_texts
returns-in_err-defaults c =
    let t = content-read (all (field_of as_text 0)) c.in_ok-image.ensures (sym c.are_texts.ensures ∙ c.if-not-are_texts.false) in
    let n = tree-walks 31 c.args.s.bytes.now c.in_ok-setup.setup None c.in_err-defaults.ensures in
    rw (c.from_residual-in_err-defaults.ensures, c.in_ok-description.ensures.is, c.in_ok-tags.ensures.is, t.is, c.in_ok-setup.ensures.is, n)

pub returns : goal.returns
unfolding are_texts
returns c =
    let t = content-read (all (field_of as_text 0)) c.in_ok-image.ensures (sym c.are_texts.ensures ∙ c.if-not-are_texts.false) in
    let v = tree-walks 31 c.args.s.bytes.now c.in_ok-setup.setup (Some c.in_ok-defaults.defaults) c.in_ok-defaults.ensures in
    c.rest.ensures ∙ fields-last c.args.s.bytes.now c.in_ok-description.ensures c.in_ok-tags.ensures t c.in_ok-setup.ensures v
