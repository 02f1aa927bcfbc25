use Rattle.std.proofs.Common.{arith, refl, sym, ap, ◌∙◌}
use Rattle.scalar.specs.Key.{key_end}
use Rattle.scalar.specs.Code.{found_of, open_of}
use Rattle.scalar.proofs.KeyLaws.{key_here, key-turn, depth-turn, key-end}
use Rattle.scalar.proofs.key.key_end.Goals as goal

pub loop-i-init : goal.loop-i-init
unfolding key_end
loop-i-init c = (omega arith, omega arith, refl)

pub loop-i-preserved : goal.loop-i-preserved
loop-i-preserved c =
    let l = c.loop-i in
    let p = c.skip_passed-i in (
      omega arith,
      depth-turn _ _ _ _ _ c.depth_after-depth.ensures (omega (arith, l.invariant.1, p.ensures.in_range)),
      key-turn c.args.s.now (open_of l.quote) l.depth p.result _ _ (omega arith) (sym c.colon_at.ensures ∙ c.if-colon_at.false) c.quote_after-quote.ensures c.depth_after-depth.ensures
          ∙ p.ensures.same l.quote l.depth ∙ l.invariant.2,
    )

pub returns-then-i-s : goal.returns-then-i-s
returns-then-i-s c =
    let l = c.loop-i in
    let p = c.skip_passed-i in
    ap found_of (sym (key-end c.args.s.now (open_of l.quote) l.depth p.result c.if-i-s.true) ∙ p.ensures.same l.quote l.depth ∙ l.invariant.2)

pub returns-then-colon_at : goal.returns-then-colon_at
returns-then-colon_at c =
    let l = c.loop-i in
    let p = c.skip_passed-i in
    ap found_of (sym (key_here c.args.s.now (open_of l.quote) l.depth p.result (omega arith) (sym c.colon_at.ensures ∙ c.if-colon_at.true)) ∙ p.ensures.same l.quote l.depth ∙ l.invariant.2)
