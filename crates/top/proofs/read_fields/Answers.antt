-- The refusals in their order, then the places. Assumes nothing.
use Rattle.std.proofs.Common.{sym}
use Rattle.refusal.proofs.Tools.{err_is}
use Rattle.refusal.specs.Base.{bytes}
use Rattle.top.proofs.Parts.{top-25, top-26, top-27, top-defaults, top-31, top_read, lost}
use Rattle.nodes.proofs.Texts.{node_of}
use Rattle.top.proofs.read_fields.Goals as goal

pub returns-then-not-is_scalar-clause-fields : goal.returns-then-not-is_scalar-clause-fields
unfolding bytes
returns-then-not-is_scalar-clause-fields c = λ y es p h.
    let n = rw c.if-not-is_scalar.true at (c.is_scalar.ensures _ (c.value_of-name.ensures.value es h)) in
    top-25 p (sym n)

pub returns-in_err-tags-clause-fields : goal.returns-in_err-tags-clause-fields
unfolding bytes
returns-in_err-tags-clause-fields c = λ y es p h.
    let n = rw c.if-not-is_scalar.false at (c.is_scalar.ensures _ (c.value_of-name.ensures.value es h)) in
    let l = lost c.in_err-tags.ensures.value in
    let t = rw l.0 at (c.sequence_of.ensures.items es h) in
    rw (err_is _ c.from_residual.ensures.1, l.1) (top-26 p (sym n.1) (t 26))

pub returns-in_err-fail_on-clause-fields : goal.returns-in_err-fail_on-clause-fields
unfolding bytes
returns-in_err-fail_on-clause-fields c = λ y es p h.
    let n = rw c.if-not-is_scalar.false at (c.is_scalar.ensures _ (c.value_of-name.ensures.value es h)) in
    let t = rw c.in_ok-tags.ensures.ok_part at (c.sequence_of.ensures.items es h) in
    let l = lost c.in_err-fail_on.ensures.value in
    let f = rw l.0 at (c.sequence_of-2.ensures.items es h) in
    rw (err_is _ c.from_residual-in_err-fail_on.ensures.1, l.1) (top-27 p (sym n.1) (t.is 26) (f 27))

pub returns-in_err-defaults-clause-fields : goal.returns-in_err-defaults-clause-fields
unfolding bytes
returns-in_err-defaults-clause-fields c = λ y es p h.
    let n = rw c.if-not-is_scalar.false at (c.is_scalar.ensures _ (c.value_of-name.ensures.value es h)) in
    let t = rw c.in_ok-tags.ensures.ok_part at (c.sequence_of.ensures.items es h) in
    let f = rw c.in_ok-fail_on.ensures.ok_part at (c.sequence_of-2.ensures.items es h) in
    rw (err_is _ c.from_residual-in_err-defaults.ensures.1) (top-defaults p (sym n.1) (t.is 26) (f.is 27) (c.in_err-defaults.ensures.defaults _ (c.value_of.ensures.value es h)))

pub returns-in_err-steps-clause-fields : goal.returns-in_err-steps-clause-fields
unfolding bytes
returns-in_err-steps-clause-fields c = λ y es p h.
    let n = rw c.if-not-is_scalar.false at (c.is_scalar.ensures _ (c.value_of-name.ensures.value es h)) in
    let t = rw c.in_ok-tags.ensures.ok_part at (c.sequence_of.ensures.items es h) in
    let f = rw c.in_ok-fail_on.ensures.ok_part at (c.sequence_of-2.ensures.items es h) in
    let d = c.in_ok-defaults.ensures.defaults _ (c.value_of.ensures.value es h) in
    let l = lost c.in_err-steps.ensures.value in
    let z = rw l.0 at (c.sequence_of-3.ensures.items es h) in
    rw (err_is _ c.from_residual-in_err-steps.ensures.1, l.1) (top-31 p (sym n.1) (t.is 26) (f.is 27) d.is (z 31))

pub returns-clause-fields : goal.returns-clause-fields
unfolding bytes
returns-clause-fields c = λ y es p h.
    let n = rw c.if-not-is_scalar.false at (c.is_scalar.ensures _ (c.value_of-name.ensures.value es h)) in
    let t = rw c.in_ok-tags.ensures.ok_part at (c.sequence_of.ensures.items es h) in
    let f = rw c.in_ok-fail_on.ensures.ok_part at (c.sequence_of-2.ensures.items es h) in
    let d = (c.in_ok-defaults.ensures.defaults _ (c.value_of.ensures.value es h)) in
    let z = rw c.in_ok-steps.ensures.ok_part at (c.sequence_of-3.ensures.items es h) in
    top_read p _ (sym n.1) t f d (c.value_of-name.ensures.value es h) (c.value_of-2.ensures.value es h) (c.value_of-3.ensures.value es h) (c.value_of-4.ensures.value es h) z

pub returns-clause-inside : goal.returns-clause-inside
returns-clause-inside c = record {
  name = node_of _ _ c.value_of-name.ensures.bytes;
  description = node_of _ _ c.value_of-2.ensures.bytes;
  tags = rw c.in_ok-tags.ensures.ok_part at c.sequence_of.ensures.bytes;
  image = node_of _ _ c.value_of-3.ensures.bytes;
  setup = node_of _ _ c.value_of-4.ensures.bytes;
  defaults = c.in_ok-defaults.ensures.inside _ (node_of _ _ c.value_of.ensures.bytes);
  fail_on = rw c.in_ok-fail_on.ensures.ok_part at c.sequence_of-2.ensures.bytes;
  steps = rw c.in_ok-steps.ensures.ok_part at c.sequence_of-3.ensures.bytes;
}
