use Rattle.std.proofs.Common.{rules, arith, ◌≡◌, ℕ, List, Bor, length, drop, refl, sym, ap, ◌∙◌, subst, ◌<◌, length-drop}
use Rattle.std.proofs.Math.Bool.{Bool as Truth}
use Rattle.value.specs.Tree.{accepts}
use Rattle.value.proofs.Contents.{no_kind}
use Rattle.item.specs.Kinds.{number_of, NamesKind}
use Rattle.item.specs.declared.Kind.{Kind}
use Rattle.item.specs.declared.UnknownKind.{UnknownKind}
use Rattle.item.specs.declared.Kind.TheVariants.{Null, Bool, Int, Str, Seq, Map, Scenario, Defaults, Steps, Step}
use Rattle.item.proofs.Headers.{no_header as no-item-there}
use Rattle.std.specs.Prelude.{Option, Result, Err}
use Rattle.item.specs.Places.{header_at}
use Rattle.item.specs.Walk.{Gives}
use Rattle.item.specs.declared.walk.Walk.{Walk}
use Rattle.item.specs.declared.Item.{Item}
use Rattle.value.proofs.Invariants.{no_key, value-broken, value-missing, value-bad, value-read, items-start, items-end, items-next, items-fail, entries-end, entries_next, entries-fail, each-taken, key-bad, beside-bad, entry-read}
use Rattle.entries.specs.Entries.{Lies}
use Rattle.entries.proofs.Walking.{cut, lies_in}
use Rattle.item.proofs.Turns.{end_of, turn, stop}
use Rattle.item.specs.declared.Broken.{Broken}
use Rattle.value.proofs.+values.Goals as goal

-- no kind of a value
unnamed : {n : ℕ} {unknown : UnknownKind} → NamesKind n (Err unknown) → 5 < n
unnamed h = omega (arith, h Null, h Bool, h Int, h Str, h Seq, h Map)

of-records : (kind : Kind) → (kind ≡ Null → ⊥) → (kind ≡ Bool → ⊥) → (kind ≡ Int → ⊥) → (kind ≡ Str → ⊥) → (kind ≡ Seq → ⊥) → (kind ≡ Map → ⊥) → 5 < number_of kind
of-records Null a b c d e f = absurd (a refl)
of-records Bool a b c d e f = absurd (b refl)
of-records Int a b c d e f = absurd (c refl)
of-records Str a b c d e f = absurd (d refl)
of-records Seq a b c d e f = absurd (e refl)
of-records Map a b c d e f = absurd (f refl)
of-records Scenario a b c d e f = omega arith
of-records Defaults a b c d e f = omega arith
of-records Steps a b c d e f = omega arith
of-records Step a b c d e f = omega arith

-- a content that is lent
lent : (levels kind : ℕ) {s t : List ℕ} {told b : Truth} → s ≡ t → told ≡ accepts levels kind s → told ≡ b → accepts levels kind t ≡ b
lent levels kind e v b = ap (accepts levels kind) (sym e) ∙ sym v ∙ b

-- what a walk gives, where that is known
given_as : (old new : Walk Item) {r given : Option (Result Item Broken)} → r ≡ given → Gives header_at end_of old r new → Gives header_at end_of old given new
given_as old new e g = subst (λ (x : Option (Result Item Broken)). Gives header_at end_of old x new) e g

-- ---- entries

pub entries-returns-in_default-key : goal.entries-returns-in_default-key
entries-returns-in_default-key n c =
    let i = c.loop-key.invariant in
    let t = stop _ _ i.0 i.1 c.in-Some.ensures.steps c.in_default-key.is in
    entries-fail i.2 t.before (λ turns. no_key c.args.levels (drop c.loop-key.walk.at c.args.s.bytes.now) (omega (arith, t.before, length-drop c.loop-key.walk.at c.args.s.bytes.now)) turns (no-item-there c.args.s.bytes.now c.loop-key.walk.at t.is))

pub entries-returns-then-not-is_text : goal.entries-returns-then-not-is_text
entries-returns-then-not-is_text n c =
    let i = c.loop-key.invariant in
    let t = turn _ _ i.0 i.1 c.in-Some.ensures.steps c.in-Ok.is in
    entries-fail i.2 t.before (key-bad c.args.levels c.args.s.bytes.now _ t.is t.before (sym c.is_text.ensures ∙ c.if-not-is_text.true))

pub entries-returns-in_default-next : goal.entries-returns-in_default-next
entries-returns-in_default-next n c =
    let a = c.args in
    let i = c.loop-key.invariant in
    let t = turn _ _ i.0 i.1 c.in-Some.ensures.steps c.in-Ok.is in
    let broken : (b : Broken) × (c.in_default-next.field-0 ≡ Err b) = search rules in
    let u = stop _ _ t.bytes t.end (given_as _ _ c.in_default-next.is c.next-in-Some.ensures.steps) broken.1 in
    let e = value-broken a.levels a.s.bytes.now _ u.is in
    entries-fail i.2 t.before (beside-bad a.levels a.s.bytes.now _ t.is t.before (sym c.is_text.ensures ∙ c.if-not-is_text.false) (rw (← t.next) e))

pub entries-returns-in_default-next-2 : goal.entries-returns-in_default-next-2
entries-returns-in_default-next-2 n c =
    let a = c.args in
    let i = c.loop-key.invariant in
    let t = turn _ _ i.0 i.1 c.in-Some.ensures.steps c.in-Ok.is in
    let e = value-missing a.levels a.s.bytes.now _ (omega (arith, t.end, (given_as _ _ c.in_default-next.is c.next-in-Some.ensures.steps).0)) in
    entries-fail i.2 t.before (beside-bad a.levels a.s.bytes.now _ t.is t.before (sym c.is_text.ensures ∙ c.if-not-is_text.false) (rw (← t.next) e))

pub entries-returns-then-not-value : goal.entries-returns-then-not-value
entries-returns-then-not-value n c =
    let a = c.args in
    let i = c.loop-key.invariant in
    let t = turn _ _ i.0 i.1 c.in-Some.ensures.steps c.in-Ok.is in
    let u = turn _ _ t.bytes t.end (given_as _ _ c.in-Some-Ok.is c.next-in-Some.ensures.steps) c.in-Some-Ok.field-0-is in
    let e = value-bad a.levels a.s.bytes.now _ u.is (lent _ _ c.slice.ensures c.value.ensures c.if-not-value.true) in
    entries-fail i.2 t.before (beside-bad a.levels a.s.bytes.now _ t.is t.before (sym c.is_text.ensures ∙ c.if-not-is_text.false) (rw (← t.next) e))

pub entries-loop-key-preserved : goal.entries-loop-key-preserved
entries-loop-key-preserved n c =
    let a = c.args in
    let i = c.loop-key.invariant in
    let t = turn _ _ i.0 i.1 c.in-Some.ensures.steps c.in-Ok.is in
    let u = turn _ _ t.bytes t.end (given_as _ _ c.in-Some-Ok.is c.next-in-Some.ensures.steps) c.in-Some-Ok.field-0-is in
    let r = value-read a.levels a.s.bytes.now _ u.is (lent _ _ c.slice.ensures c.value.ensures c.if-not-value.false) in
    let o = entry-read a.levels a.s.bytes.now _ t.is t.before (sym c.is_text.ensures ∙ c.if-not-is_text.false) (rw (← t.next) r) in
    (u.bytes, u.end, rw u.next (entries_next i.2 t.before o))

pub entries-returns : goal.entries-returns
entries-returns n c =
    let a = c.args in
    let i = c.loop-key.invariant in
    let whole : length c.all-whole.result.now ≡ length a.s.bytes.now = ap (λ (x : Bor (List ℕ)). length x.now) c.all-whole.ensures.same in
    let part = cut refl c.part.ensures.bytes c.part.ensures.places (omega arith) (omega (arith, whole)) in
    each-taken a.levels a.s.bytes.now c.all-whole.ensures.bytes (entries-end i.2 (omega (arith, i.1, c.in_default.ensures.steps.0))) c.repeats.result (λ es h. c.repeats.ensures es (lies_in part (subst (λ (n : ℕ). Lies a.s.bytes.now 0 n es) (sym whole) h)))

-- ---- items

pub items-loop-item-init : goal.items-loop-item-init
items-loop-item-init n c =
    let e : c.into_iter-item-iterator.result.at ≡ 0 = search rules in
    (search rules, search rules, rw e (items-start c.args.levels c.args.s.bytes.now))

pub items-returns-in_default : goal.items-returns-in_default
items-returns-in_default n c =
    let i = c.loop-item.invariant in
    let t = stop _ _ i.0 i.1 c.in-Some.ensures.steps c.in_default.is in
    items-fail i.2 t.before (value-broken c.args.levels c.args.s.bytes.now _ t.is)

pub items-returns-then-not-value : goal.items-returns-then-not-value
items-returns-then-not-value n c =
    let i = c.loop-item.invariant in
    let t = turn _ _ i.0 i.1 c.in-Some.ensures.steps c.in-Ok.is in
    items-fail i.2 t.before (value-bad c.args.levels c.args.s.bytes.now _ t.is (lent _ _ c.slice.ensures c.value.ensures c.if-not-value.true))

pub items-loop-item-preserved : goal.items-loop-item-preserved
items-loop-item-preserved n c =
    let i = c.loop-item.invariant in
    let t = turn _ _ i.0 i.1 c.in-Some.ensures.steps c.in-Ok.is in
    (t.bytes, t.end, rw t.next (items-next i.2 t.before (value-read c.args.levels c.args.s.bytes.now _ t.is (lent _ _ c.slice.ensures c.value.ensures c.if-not-value.false))))

pub items-returns : goal.items-returns
items-returns n c =
    let i = c.loop-item.invariant in
    items-end i.2 (omega (arith, i.1, c.in-None.ensures.steps.0))

-- ---- values

pub value-returns-in_default : goal.value-returns-in_default
value-returns-in_default n c =
    let a = c.args in
    let is : a.kind ≡ number_of c.in_default.field-0 = subst (NamesKind a.kind) c.in_default.is c.try_from.ensures in
    sym (no_kind a.levels a.kind a.content.bytes.now (omega (arith, is, of-records c.in_default.field-0 (search rules) (search rules) (search rules) (search rules) (search rules) (search rules))))

pub value-returns-in_default-2 : goal.value-returns-in_default-2
value-returns-in_default-2 n c = sym (no_kind c.args.levels c.args.kind c.args.content.bytes.now (unnamed (subst (NamesKind c.args.kind) c.in_default.is c.try_from.ensures)))
