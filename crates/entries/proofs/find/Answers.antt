use Rattle.std.proofs.Common.{rules, arith, ◌≡◌, ◌-◌, ℕ, take, drop, sym, ◌∙◌, subst, length, false, length-take, length-drop}
use Rattle.refusal.specs.Base.{same}
use Rattle.item.proofs.Same.{same_length}
use Rattle.entries.proofs.Walking.{turn, no-entry, Sought, place_end, place_found, search-on, finds, step, stop}
use Rattle.entries.proofs.find.Goals as goal
use Rattle.entries.proofs.find.Goals.{else-is_as_long-via-then-is_as_long+else-equal_bytes, else-is_as_long-via-else-is_as_long}

pub returns-in_default-clause-place : goal.returns-in_default-clause-place
returns-in_default-clause-place c = λ es h.
    let i = c.loop-pair.invariant in
    let t = stop _ _ i.0 i.1 c.in-Some.ensures.steps c.in_default.is in
    let w = i.2 es h in
    no-entry w.rest (search rules) t.before t.is w.lies

pub returns-in_default-clause-value : goal.returns-in_default-clause-value
returns-in_default-clause-value c = λ es h. finds _ es h (returns-in_default-clause-place c es h.lies)

pub returns-then-equal_bytes-clause-place : goal.returns-then-equal_bytes-clause-place
returns-then-equal_bytes-clause-place c = λ es h.
    let i = c.loop-pair.invariant in
    let t = step _ _ i.0 i.1 c.in-Some.ensures.steps c.in-Ok.is in
    let w = i.2 es h in
    place_found w (turn w.rest (search rules) t.before t.is w.lies) (sym c.equal_bytes.ensures ∙ c.if-equal_bytes.true)

pub returns-then-equal_bytes-clause-value : goal.returns-then-equal_bytes-clause-value
returns-then-equal_bytes-clause-value c = λ es h. finds _ es h (returns-then-equal_bytes-clause-place c es h.lies)

pub loop-pair-preserved : goal.loop-pair-preserved
loop-pair-preserved c =
    let i = c.loop-pair.invariant in
    let p = c.in-Ok.pair in
    let s = c.args.part.bytes.now in
    let key = c.args.key.now in
    let t = step _ _ i.0 i.1 c.in-Some.ensures.steps c.in-Ok.is in
    let other : same (take (p.end - p.start) (drop p.start s)) key ≡ false = elim c.else-is_as_long.branch [
      | else-is_as_long-via-then-is_as_long+else-equal_bytes w ↦ sym w.equal_bytes.ensures ∙ w.if-equal_bytes.false
      | else-is_as_long-via-else-is_as_long w ↦ same_length _ _ (λ (e : length (take (p.end - p.start) (drop p.start s)) ≡ length key). let n : length (take (p.end - p.start) (drop p.start s)) ≡ p.end - p.start = simp (length-take, length-drop) (omega (arith, t.places.key, t.places.value, t.places.inside)) in omega (arith, e, n, w.if-is_as_long.false))
    ] in (
      t.bytes,
      t.end,
      λ es h. let w = i.2 es h in
          subst (λ (n : ℕ). Sought s key c.args.part.from c.args.part.to n es) (sym t.next) (search-on w (turn w.rest (search rules) t.before t.is w.lies) other),
    )

pub returns-clause-place : goal.returns-clause-place
returns-clause-place c = λ es h. place_end (c.loop-pair.invariant.2 es h) (search rules)

pub returns-clause-value : goal.returns-clause-value
returns-clause-value c = λ es h. finds _ es h (returns-clause-place c es h.lies)
