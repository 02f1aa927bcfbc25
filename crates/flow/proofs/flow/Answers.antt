-- What is read behind the spaces at the start of the part, and what stands behind it. Assumes nothing.
use Rattle.std.proofs.Common.{◌≡◌, false, arith, drop}
use Rattle.writer.specs.Writing.{cap_of}
use Rattle.scalar.specs.Read.{skip_spaces}
use Rattle.scalar.specs.Contract.{WroteValue}
use Rattle.flow.specs.Flow.{value}
use Rattle.flow.proofs.Values.{part_more}
use Rattle.flow.proofs.flow.Goals as goal

pub returns-else-skip_spaces-s : goal.returns-else-skip_spaces-s
returns-else-skip_spaces-s c =
    let a = c.args in
    let w = a.writer.now in
    let p = c.skip_spaces.result in
    let k = c.skip_spaces-2 in
    let line : p.line.now ≡ a.s.now = cc in
    let behind : drop p.at p.line.now ≡ skip_spaces (drop 0 a.s.now) = cc in
    let levels : p.levels ≡ a.levels = cc in
    let r : WroteValue a.role (value (cap_of w) a.number a.levels false a.role w.used (skip_spaces a.s.now)) a.s.now w c.value.new.writer c.in_ok-read.read.next c.in_ok-read.read.key
    = rw (behind, levels, line) at c.in_ok-read.ensures in
    part_more a.s.now a.number a.levels a.role w _ _ _ r k.result k.ensures.rest (omega (arith, k.ensures.in_range, c.if-skip_spaces-s.false))
