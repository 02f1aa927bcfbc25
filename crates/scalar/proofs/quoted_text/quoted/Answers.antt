-- A header, and the string behind it, are the item. Assumes nothing.
use Rattle.std.proofs.Common.{refl, sym, ap, ◌∙◌, arith}
use Rattle.refusal.proofs.Tools.{err_is}
use Rattle.item.proofs.Size.{item-length}
use Rattle.writer.specs.Writing.{cap_of}
use Rattle.writer.proofs.Laws.{appends_item, keeps_same}
use Rattle.scalar.specs.Contract.{quoted_of}
use Rattle.scalar.specs.Read.{string}
use Rattle.scalar.proofs.QuoteLaws.{string-refused, wrote_string, refused_string}
use Rattle.scalar.proofs.quoted_text.quoted.Goals as goal

pub returns-in_err-span : goal.returns-in_err-span
returns-in_err-span c =
    let a = c.args in
    let w = a.writer.now in
    λ role. rw (err_is _ c.from_residual.ensures.1) (record {
      is = ap (string (cap_of w) a.line role w.used) (c.in_err-span.ensures (cap_of w)) ∙ string-refused (cap_of w) a.line role w.used _;
      keeps = keeps_same refl;
    })

pub header-requires : goal.header-requires
header-requires c = let k = c.in_ok-span.ensures 0 in omega (arith, k.within)

pub returns-in_err-header : goal.returns-in_err-header
returns-in_err-header c =
    let a = c.args in
    let w = a.writer.now in
    let k = c.in_ok-span.ensures (cap_of w) in
    let e = c.in_err-header.ensures in
    λ role. rw (err_is _ c.from_residual-in_err-header.ensures.1) (refused_string role (quoted_of a.quote (cap_of w) a.line) a.s.now w _ a.line a.i _ _ k _
    (record { is = e.1; short = omega (arith, e.0, k.long, item-length 3 k.content); same = e.2 }))

pub put_content-requires-clause-in_range : goal.put_content-requires-clause-in_range
put_content-requires-clause-in_range c = let k = c.in_ok-span.ensures 0 in (k.within, k.forward)

pub returns : goal.returns
returns c =
    let a = c.args in
    let w = a.writer.now in
    let k = c.in_ok-span.ensures (cap_of w) in
    λ role. wrote_string role (quoted_of a.quote (cap_of w) a.line) a.s.now w _ a.line a.i _ _ k
    (appends_item 3 _ c.in_ok-header.ensures.0 (c.put_content.ensures (cap_of w) k.content k.is k.long) (sym k.long))
