-- Each part begins where the one before it ends. Assumes nothing.
use Rattle.std.proofs.Common.{◌+◌, ◌-◌, ◌≡◌, ◌∙◌, sym, arith, take, take_all, eq-eqb}
use Rattle.meaning.specs.Record.{joined}
use Rattle.demands.proofs.Lookups.{found-part, part-there, part-starts, part-ends}
use Rattle.demands.proofs.fill.Goals.{else-loop-number-test, then-loop-number-test+in-Found+else-start-at+else-number-count}
use Rattle.demands.proofs.fill.Goals as goal

pub loop-number-init : goal.loop-number-init
unfolding joined
loop-number-init g c = λ w. omega arith

pub returns-in_default : goal.returns-in_default
returns-in_default g c =
    absurd (part-there c.find.result (found-part c.requires.parts c.find.ensures (omega arith) (omega arith)) (λ s e q. c.in_default.not-Found s e q))

pub returns-then-start-at : goal.returns-then-start-at
returns-then-start-at g c =
    let w = c.requires.parts in
    absurd (c.if-start-at.true (part-starts (found-part w c.in-Found.ensures (omega arith) (omega arith)) ∙ sym (c.loop-number.invariant w)))

pub loop-number-preserved : goal.loop-number-preserved
loop-number-preserved g c = λ w.
    let k : c.loop-number.number + 1 - 1 ≡ c.loop-number.number = omega arith in
    rw k (part-ends (found-part w c.in-Found.ensures (omega arith) (omega arith)))

pub returns : goal.returns
returns g c =
    let w = c.requires.parts in
    let n = c.loop-number.number in
    eq-eqb _ _ (elim c.loop-number-test.branch [
      | else-loop-number-test v ↦
          let all : take (n - 1) w.parts ≡ w.parts = take_all (n - 1) w.parts (omega (arith, w.many)) in
          v.at-is ∙ c.loop-number.invariant w ∙ rw all w.end
      | then-loop-number-test+in-Found+else-start-at+else-number-count v ↦
          let all : take n w.parts ≡ w.parts = take_all n w.parts (omega (arith, w.many)) in
          v.at-is ∙ part-ends (found-part w v.in-Found.ensures (omega arith) (omega arith)) ∙ rw all w.end
    ])
