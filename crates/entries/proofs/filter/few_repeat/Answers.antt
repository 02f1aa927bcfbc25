use Rattle.std.proofs.Common.{rules, arith, ◌≡◌, ◌-◌, ℕ, List, take, drop, length, sym, ap, ◌∙◌, subst, Bor, Bool, ◌≤◌}
use Rattle.item.specs.Tree.{Entries, has_key}
use Rattle.entries.specs.Entries.{Lies}
use Rattle.entries.specs.Contract.{LeftOver}
use Rattle.entries.specs.declared.Pair.{Pair}
use Rattle.entries.proofs.Walking.{Turn, turn, no-entry, step, stop, Cut, cut, has_in}
use Rattle.entries.proofs.Twice.{judged_all, judged-again, judged-on}
use Rattle.entries.proofs.filter.few_repeat.Goals as goal

-- an entry's key, looked for behind it
sought : {whole part : Bor (List ℕ)} {start end at to : ℕ} {es : Entries} {p : Pair} (t : Turn whole.now at to es p) {b : Bool} → (p.next ≤ to → to ≤ length whole.now → Cut whole part start end p.next to)
    → ((fs : Entries) → Lies part.now start end fs → b ≡ has_key (take (p.end - p.start) (drop p.start whole.now)) fs) → b ≡ has_key t.entry.k t.entry.others
sought t g e =
    has_in _ (g (omega (arith, t.behind.ends)) (omega (arith, t.behind.ends, t.behind.stands.within))) t.behind e ∙ ap (λ (k : List ℕ). has_key k t.entry.others) t.key_is

pub returns-in_default : goal.returns-in_default
returns-in_default c = λ es h.
    let i = c.loop-pair.invariant in
    let t = stop _ _ i.0 i.1 c.in-Some.ensures.steps c.in_default.is in
    let w = i.2 es h in
    no-entry w.rest (search rules) t.before t.is w.lies

pub returns-then-has_key : goal.returns-then-has_key
returns-then-has_key c = λ es h.
    let i = c.loop-pair.invariant in
    let t = step _ _ i.0 i.1 c.in-Some.ensures.steps c.in-Ok.is in
    let w = i.2 es h in
    let e = turn w.rest (search rules) t.before t.is w.lies in
    judged-again w e (sym (sought e (cut c.encoded.ensures c.part-others.ensures.bytes c.part-others.ensures.places) c.has_key.ensures) ∙ c.if-has_key.true)

pub loop-pair-preserved : goal.loop-pair-preserved
loop-pair-preserved c =
    let i = c.loop-pair.invariant in
    let t = step _ _ i.0 i.1 c.in-Some.ensures.steps c.in-Ok.is in (
      t.bytes,
      t.end,
      λ es h.
          let w = i.2 es h in
          let e = turn w.rest (search rules) t.before t.is w.lies in
          subst (λ (n : ℕ). LeftOver c.args.part.bytes.now c.args.part.to n es) (sym t.next)
          (judged-on w e (sym (sought e (cut c.encoded.ensures c.part-others.ensures.bytes c.part-others.ensures.places) c.has_key.ensures) ∙ c.if-has_key.false)),
    )

pub returns : goal.returns
returns c = λ es h. judged_all (c.loop-pair.invariant.2 es h) (search rules)
