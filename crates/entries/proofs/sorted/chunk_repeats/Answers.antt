use Rattle.std.proofs.Common.{rules, arith, ◌≡◌, ℕ, ◌+◌, ◌-◌, List, take, drop, sym, ◌∙◌, subst, ap, inl, inr}
use Rattle.entries.specs.Contract.{Gap, Located, key_of}
use Rattle.entries.specs.declared.sorted.KeyPlace.{KeyPlace}
use Rattle.std.specs.Prelude.{Result, Err}
use Rattle.entries.proofs.Walking.{turn, no-entry, step, stop}
use Rattle.entries.proofs.Runs.{place-key}
use Rattle.entries.proofs.Chunks.{Chunked, chunked-none, chunked-all, chunked-twice, chunked-past, chunked-on}
use Rattle.entries.proofs.sorted.chunk_repeats.Goals as goal

-- the index of an entry's key, where it was found to be none of those in order
index-free : {whole bytes : List ℕ} {run : List KeyPlace} {n index : ℕ} {r : Result ℕ ℕ} (place : KeyPlace) → bytes ≡ whole
    → Located bytes run n (take (place.end - place.start) (drop place.start whole)) r → r ≡ Err index → Gap bytes run n (key_of bytes place) index
index-free {bytes = bytes} {run} {n} {index} place b l e =
    subst (λ (k : List ℕ). Gap bytes run n k index) (ap (λ (s : List ℕ). take (place.end - place.start) (drop place.start s)) (sym b) ∙ sym (place-key bytes place)) (subst (Located bytes run n _) e l)

pub loop-pair-init : goal.loop-pair-init
loop-pair-init c =
    let e : c.into_iter-pair-iterator.result.at ≡ c.args.part.from = search rules in (
      search rules,
      search rules,
      search rules,
      omega (arith, c.clear.ensures.empty),
      omega (arith, e),
      inl (omega (arith, e)),
      λ es h. rw c.clear.ensures.empty (subst (λ (n : ℕ). Chunked c.args.part.bytes.now c.clear.new.self.places 0 c.args.part.to c.args.part.from n es) (sym e) (chunked-none _ es h)),
    )

pub returns-in_default-clause-agrees_chunk : goal.returns-in_default-clause-agrees_chunk
returns-in_default-clause-agrees_chunk c = λ es h.
    let i = c.loop-pair.invariant in
    let t = stop _ _ i.0 i.1 c.in-Some.ensures.steps c.in_default.is in
    let w = i.6 es h in
    no-entry w.rest (search rules) t.before t.is w.lies

pub returns-in_default-place_of-clause-agrees_chunk : goal.returns-in_default-place_of-clause-agrees_chunk
returns-in_default-place_of-clause-agrees_chunk c = λ es h.
    let i = c.loop-pair.invariant in
    let t = step _ _ i.0 i.1 c.in-Some.ensures.steps c.in-Ok.is in
    let w = i.6 es h in
    chunked-twice w (turn w.rest (search rules) t.before t.is w.lies) (rw i.2 at (subst (Located _ _ _ _) c.in_default-place_of.is c.place_of.ensures))

pub insert-requires-clause-gap : goal.insert-requires-clause-gap
insert-requires-clause-gap c = index-free _ c.loop-pair.invariant.2 c.place_of.ensures c.in-Err.is

pub loop-pair-preserved-then-run-lt-KEYS : goal.loop-pair-preserved-then-run-lt-KEYS
loop-pair-preserved-then-run-lt-KEYS c =
    let i = c.loop-pair.invariant in
    let t = step _ _ i.0 i.1 c.in-Some.ensures.steps c.in-Ok.is in
    let free : Gap c.args.part.bytes.now _ _ _ c.in-Err.index = rw i.2 at (subst (Located _ _ _ _) c.in-Err.is c.place_of.ensures) in (
      t.bytes,
      t.end,
      c.insert.ensures.bytes ∙ i.2,
      omega (arith, i.3, i.4, c.insert.ensures.count, t.places.first, t.places.key, t.places.value),
      omega (arith, t.next),
      inl (omega (arith, t.next)),
      λ es h. let w = i.6 es h in
          rw c.insert.ensures.count (subst (λ (n : ℕ). Chunked c.args.part.bytes.now c.insert.new.self.places (c.loop-pair.run.count + 1) c.args.part.to c.in-Ok.pair.next n es) (sym t.next)
          (chunked-on w (turn w.rest (search rules) t.before t.is w.lies) free (search rules) c.insert.ensures.places (place-key _ _))),
    )

pub loop-pair-preserved : goal.loop-pair-preserved
loop-pair-preserved c =
    let i = c.loop-pair.invariant in
    let t = step _ _ i.0 i.1 c.in-Some.ensures.steps c.in-Ok.is in
    let free : Gap c.args.part.bytes.now _ _ _ c.in-Err.index = rw i.2 at (subst (Located _ _ _ _) c.in-Err.is c.place_of.ensures) in (
      t.bytes,
      t.end,
      i.2,
      i.3,
      omega (arith, i.4, t.next, t.places.first, t.places.key, t.places.value),
      inr (search rules),
      λ es h. let w = i.6 es h in
          subst (λ (n : ℕ). Chunked c.args.part.bytes.now c.loop-pair.run.places c.loop-pair.run.count c.args.part.to c.loop-pair.behind n es) (sym t.next)
          (chunked-past w (turn w.rest (search rules) t.before t.is w.lies) free (search rules)),
    )

pub returns-clause-agrees_chunk : goal.returns-clause-agrees_chunk
returns-clause-agrees_chunk c = λ es h. chunked-all (c.loop-pair.invariant.6 es h) (search rules)
