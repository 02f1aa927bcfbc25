use Rattle.std.proofs.Common.{rules, ℕ, sym, subst, ◌∙◌}
use Rattle.entries.proofs.Walking.{step, stop, turn, no-entry}
use Rattle.top.proofs.Keys.{KnownRest, known-false, known_on, known-done}
use Rattle.top.proofs.known_keys.Goals as goal

pub returns-in_default : goal.returns-in_default
returns-in_default c = λ es h.
    let i = c.loop-pair.invariant in
    let t = stop _ _ i.0 i.1 c.in-Some.ensures.steps c.in_default.is in
    let k = i.2 es h.lies in
    no-entry k.rest (search rules) t.before t.is k.lies

pub returns-then-not-is_top_key : goal.returns-then-not-is_top_key
returns-then-not-is_top_key c = λ es h.
    let i = c.loop-pair.invariant in
    let t = step _ _ i.0 i.1 c.in-Some.ensures.steps c.in-Ok.is in
    let k = i.2 es h.lies in
    known-false k (turn k.rest (search rules) t.before t.is k.lies) (sym c.if-not-is_top_key.true ∙ c.is_top_key.ensures)

pub loop-pair-preserved : goal.loop-pair-preserved
loop-pair-preserved c =
    let i = c.loop-pair.invariant in
    let t = step _ _ i.0 i.1 c.in-Some.ensures.steps c.in-Ok.is in (
      t.bytes,
      t.end,
      λ es h.
          let k = i.2 es h in
          subst (λ (n : ℕ). KnownRest c.args.part.bytes.now c.args.part.to n es) (sym t.next)
          (known_on k (turn k.rest (search rules) t.before t.is k.lies) (sym c.if-not-is_top_key.false ∙ c.is_top_key.ensures)),
    )

pub returns : goal.returns
returns c = λ es h. known-done (c.loop-pair.invariant.2 es h.lies) (search rules)
