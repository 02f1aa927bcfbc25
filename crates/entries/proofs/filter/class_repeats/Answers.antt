use Rattle.std.proofs.Common.{rules, arith, ◌≡◌, ℕ, ◌-◌, ◌/◌, ◌^◌, ◌≤◌, Bor, List, Bool, true, length, take, drop, sym, ap, ◌∙◌, subst, bit_and}
use Rattle.std.proofs.lemmas.Bool.{false≢true}
use Rattle.item.specs.Tree.{Entries, has_key}
use Rattle.entries.specs.Entries.{Lies}
use Rattle.entries.specs.Contract.{hash_of, Has, Marked, of_class}
use Rattle.entries.specs.declared.Pair.{Pair}
use Rattle.entries.proofs.Walking.{Turn, turn, no-entry, step, stop, Cut, cut, has_in}
use Rattle.entries.proofs.Twice.{Passed, passed_none, passed-all, passed-again, passed_on, of_class_lem, class_of}
use Rattle.entries.proofs.filter.class_repeats.Goals as goal
use Rattle.entries.proofs.filter.class_repeats.Goals.{else-is_of_class-via-then-is_of_class+else-mark, else-is_of_class-via-else-is_of_class}

module _ {s : List ℕ} {from to at : ℕ} {seen : List ℕ} {es : Entries} {p : Pair} (class last : ℕ) (w : Passed s from to (of_class class last) es at seen) (t : Turn s at to w.rest p) where
  module _ {r : ℕ} (e : r ≡ hash_of (take (p.end - p.start) (drop p.start s))) where
    hashed : r ≡ hash_of t.entry.k
    hashed = e ∙ ap hash_of t.key_is

    in_class : bit_and (r / 2 ^ 28) last ≡ class → of_class class last t.entry.k ≡ true
    in_class i = class_of class last t.entry.k (ap (λ (x : ℕ). bit_and (x / 2 ^ 28) last) (sym hashed) ∙ i)

    -- the bits were put in
    on : {new : List ℕ} {had : Bool} → Marked seen new r had → (of_class class last t.entry.k ≡ true → has_key t.entry.k w.front ≡ true → ⊥)
        → Passed s from to (of_class class last) es p.next new
    on {new} m n = passed_on w t new n (λ _. subst (Has new) hashed m.here) m.kept

    new-bits : of_class class last t.entry.k ≡ true → has_key t.entry.k w.front ≡ true → Has seen r
    new-bits i f = subst (Has seen) (sym hashed) (w.kept t.entry.k i f)

    other : (bit_and (r / 2 ^ 28) last ≡ class → ⊥) → Passed s from to (of_class class last) es p.next seen
    other n =
        let no : of_class class last t.entry.k ≡ true → ⊥ = λ i. n (ap (λ (x : ℕ). bit_and (x / 2 ^ 28) last) hashed ∙ of_class_lem class last t.entry.k i) in
        passed_on w t seen (λ i _. no i) (λ i. absurd (no i)) (λ g i. i)

-- the exact search
sought : {whole part : Bor (List ℕ)} {start end from until at to : ℕ} {f : List ℕ → Bool} {seen : List ℕ} {es : Entries} {p : Pair} (w : Passed whole.now from until f es at seen) (t : Turn whole.now at until w.rest p) {b : Bool} → to ≡ at
    → (from ≤ to → to ≤ length whole.now → Cut whole part start end from to)
    → ((fs : Entries) → Lies part.now start end fs → b ≡ has_key (take (p.end - p.start) (drop p.start whole.now)) fs) → b ≡ has_key t.entry.k w.front
sought {whole = whole} {from = from} w t n g e =
    let before = subst (λ (i : ℕ). Lies whole.now from i w.front) (sym n) w.before in
    has_in _ (g (omega (arith, n, w.before.ends)) (omega (arith, n, w.before.ends, w.before.stands.within))) before e ∙ ap (λ (k : List ℕ). has_key k w.front) t.key_is

pub loop-pair-init : goal.loop-pair-init
loop-pair-init c =
    let e : c.into_iter-pair-iterator.result.at ≡ c.args.part.from = search rules in
    (search rules, search rules, omega (arith, e), search rules, λ es h. subst (λ (n : ℕ). Passed c.args.part.bytes.now c.args.part.from c.args.part.to (of_class c.args.class c.args.last) es n c.fill.new.self) (sym e) (passed_none es h))

pub returns-in_default-clause-told : goal.returns-in_default-clause-told
returns-in_default-clause-told c = λ es h.
    let i = c.loop-pair.invariant in
    let t = stop _ _ i.0 i.1 c.in-Some.ensures.steps c.in_default.is in
    let w = i.4 es h in
    no-entry w.rest (search rules) t.before t.is w.behind

pub returns-then-has_key-clause-told : goal.returns-then-has_key-clause-told
returns-then-has_key-clause-told c = λ es h.
    let i = c.loop-pair.invariant in
    let t = step _ _ i.0 i.1 c.in-Some.ensures.steps c.in-Ok.is in
    let w = i.4 es h in
    let e = turn w.rest (search rules) t.before t.is w.behind in
    sym (passed-again w e (in_class c.args.class c.args.last w e c.hash-hash.ensures c.if-is_of_class.true) (sym (sought w e (omega (arith, t.places.first)) (cut c.encoded.ensures c.part-before.ensures.bytes c.part-before.ensures.places) c.has_key.ensures) ∙ c.if-has_key.true))

pub loop-pair-preserved-then-mark : goal.loop-pair-preserved-then-mark
loop-pair-preserved-then-mark c =
    let i = c.loop-pair.invariant in
    let t = step _ _ i.0 i.1 c.in-Some.ensures.steps c.in-Ok.is in (
      t.bytes,
      t.end,
      omega (arith, i.2, t.next, t.places.first, t.places.key, t.places.value),
      c.mark.ensures.size ∙ i.3,
      λ es h.
          let w = i.4 es h in
          let e = turn w.rest (search rules) t.before t.is w.behind in
          subst (λ (n : ℕ). Passed c.args.part.bytes.now c.args.part.from c.args.part.to (of_class c.args.class c.args.last) es n c.mark.new.seen) (sym t.next)
          (on c.args.class c.args.last w e c.hash-hash.ensures c.mark.ensures (λ _ f. false≢true (sym c.if-has_key.false ∙ sought w e (omega (arith, t.places.first)) (cut c.encoded.ensures c.part-before.ensures.bytes c.part-before.ensures.places) c.has_key.ensures ∙ f))),
    )

pub loop-pair-preserved : goal.loop-pair-preserved
loop-pair-preserved c =
    let i = c.loop-pair.invariant in
    let a = c.args in
    let p = c.in-Ok.pair in
    let seen = c.else-is_of_class.seen in
    let t = step _ _ i.0 i.1 c.in-Some.ensures.steps c.in-Ok.is in
    let kept : (length seen ≡ 2048) × ((es : Entries) → Lies a.part.bytes.now a.part.from a.part.to es → Passed a.part.bytes.now a.part.from a.part.to (of_class a.class a.last) es p.next seen) = elim c.else-is_of_class.branch [
      | else-is_of_class-via-then-is_of_class+else-mark b ↦ (
        ap length b.seen-is ∙ b.mark.ensures.size ∙ i.3,
        λ es h.
            let w = i.4 es h in
            let e = turn w.rest (search rules) t.before t.is w.behind in
            subst (λ (x : List ℕ). Passed a.part.bytes.now a.part.from a.part.to (of_class a.class a.last) es p.next x) (sym b.seen-is) (on c.args.class c.args.last w e c.hash-hash.ensures b.mark.ensures (λ q f. b.mark.ensures.told (new-bits c.args.class c.args.last w e c.hash-hash.ensures q f) b.if-mark.false)),
      )
      | else-is_of_class-via-else-is_of_class b ↦ (
        ap length b.seen-is ∙ i.3,
        λ es h.
            let w = i.4 es h in
            let e = turn w.rest (search rules) t.before t.is w.behind in
            subst (λ (x : List ℕ). Passed a.part.bytes.now a.part.from a.part.to (of_class a.class a.last) es p.next x) (sym b.seen-is) (other c.args.class c.args.last w e c.hash-hash.ensures b.if-is_of_class.false),
      )
    ] in
    (t.bytes, t.end, omega (arith, i.2, t.next, t.places.first, t.places.key, t.places.value), kept.0, λ es h. subst (λ (n : ℕ). Passed a.part.bytes.now a.part.from a.part.to (of_class a.class a.last) es n seen) (sym t.next) (kept.1 es h))

pub returns-clause-told : goal.returns-clause-told
returns-clause-told c = λ es h. sym (passed-all (c.loop-pair.invariant.4 es h) (search rules))
