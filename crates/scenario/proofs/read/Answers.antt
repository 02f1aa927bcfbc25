-- By the tree, the record, and the room for both outputs. Assumes nothing.
use Rattle.std.proofs.Common.{refl, arith, rules}
use Rattle.refusal.proofs.Tools.{err_is}
use Rattle.scenario.proofs.Reading.{of_tree, scenario-untree, scenario-unread, scenario-few, scenario-long, wrote-all}
use Rattle.scenario.proofs.read.Goals as goal

pub returns-in_err-tree_bytes : goal.returns-in_err-tree_bytes
returns-in_err-tree_bytes c = rw (err_is _ c.from_residual.ensures.1) (scenario-untree _ _ _ c.args.text.now _ c.in_err-tree_bytes.ensures)

pub returns-in_err-steps : goal.returns-in_err-steps
returns-in_err-steps c =
    let w = c.in_ok-tree_bytes.ensures in
    let m = rw c.deref.ensures.0 at (rw c.new-text.ensures at (of_tree w c.in_err-steps.ensures.whole)) in
    rw (err_is _ c.from_residual-in_err-steps.ensures.1) (scenario-unread _ _ _ c.args.text.now _ w.wrote.tree w.lined w.wrote.is _ m)

pub returns-then-steps-lines : goal.returns-then-steps-lines
returns-then-steps-lines c =
    let w = c.in_ok-tree_bytes.ensures in
    let v = rw c.deref.ensures.0 at (rw c.new-text.ensures at (of_tree w c.in_ok-steps.ensures.whole)) in
    scenario-few _ _ _ c.args.text.now _ w.wrote.tree w.lined w.wrote.is v.read v.is c.requires.2 (omega (arith, c.if-steps-lines.true, v.many, c.put_record.auto.lines))

pub returns-then-end-record : goal.returns-then-end-record
returns-then-end-record c =
    let w = c.in_ok-tree_bytes.ensures in
    let v = rw c.deref.ensures.0 at (rw c.new-text.ensures at (of_tree w c.in_ok-steps.ensures.whole)) in
    scenario-long _ _ _ c.args.text.now _ w.wrote.tree w.lined w.wrote.is v.read v.is c.requires.2 (omega (arith, c.if-steps-lines.false, v.many, c.put_record.auto.lines)) c.requires.1
    (omega (arith, c.if-end-record.true, v.writes.ends, c.new-writer.ensures.empty))

pub returns : goal.returns
returns c =
    let w = c.in_ok-tree_bytes.ensures in
    let v = rw c.deref.ensures.0 at (rw c.new-text.ensures at (of_tree w c.in_ok-steps.ensures.whole)) in
    wrote-all c.args.text.now _ _ _ _ _ _ _ _ _ c.in_ok-tree_bytes.tree_bytes c.in_ok-steps.steps _ w.wrote refl w.lined c.requires.2
    c.new-writer.ensures.empty c.new-writer.ensures.kept (search rules) v (omega (arith, c.if-steps-lines.false, c.put_record.auto.lines)) (omega (arith, c.if-end-record.false))
