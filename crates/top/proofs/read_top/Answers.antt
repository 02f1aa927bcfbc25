-- The refusals in their order. Assumes nothing.
use Rattle.std.proofs.Common.{sym, subst, ◌∙◌}
use Rattle.refusal.proofs.Tools.{err_is}
use Rattle.refusal.specs.Base.{bytes}
use Rattle.top.specs.Contract.{KnownKeys}
use Rattle.top.proofs.Parts.{top-21, top-22, top-24, top-23, passed, lost}
use Rattle.top.proofs.read_top.Goals as goal

pub returns-in_err-part-clause-top : goal.returns-in_err-part-clause-top
returns-in_err-part-clause-top c = λ y g st.
    let l = lost c.in_err-part.ensures.value in
    let k = rw l.0 at (c.document.ensures.entries y g st) in
    rw (err_is _ c.from_residual.ensures.1, l.1) (top-21 y k)

pub returns-then-not-known_keys-clause-top : goal.returns-then-not-known_keys-clause-top
returns-then-not-known_keys-clause-top c = λ y g st.
    let m = rw c.in_ok-part.ensures.ok_part at (c.document.ensures.entries y g st) in
    top-22 y m.is (subst (KnownKeys m.entries) c.if-not-known_keys.true (c.known_keys.ensures m.entries m.holds))

pub returns-then-not-is_scalar-clause-top : goal.returns-then-not-is_scalar-clause-top
unfolding bytes
returns-then-not-is_scalar-clause-top c = λ y g st.
    let m = rw c.in_ok-part.ensures.ok_part at (c.document.ensures.entries y g st) in
    let n = subst (KnownKeys m.entries) c.if-not-known_keys.false (c.known_keys.ensures m.entries m.holds) in
    let t = rw c.if-not-is_scalar.true at (c.is_scalar.ensures _ (c.value_of-schema.ensures.value m.entries m.holds)) in
    top-24 y m.is n (sym t)

pub returns-in_err-schema-clause-top : goal.returns-in_err-schema-clause-top
unfolding bytes
returns-in_err-schema-clause-top c = λ y g st.
    let m = rw c.in_ok-part.ensures.ok_part at (c.document.ensures.entries y g st) in
    let l = lost c.in_err-schema.ensures.value in
    let there = rw c.if-not-is_scalar.false at (c.is_scalar.ensures _ (c.value_of-schema.ensures.value m.entries m.holds)) in
    let no_text = rw l.0 at (c.scalar_of.ensures.text _ (c.value_of-schema.ensures.value m.entries m.holds)) in
    cc (no_text, there.1)

pub returns-then-not-is_schema-clause-top : goal.returns-then-not-is_schema-clause-top
unfolding bytes
returns-then-not-is_schema-clause-top c = λ y g st.
    let m = rw c.in_ok-part.ensures.ok_part at (c.document.ensures.entries y g st) in
    let n = subst (KnownKeys m.entries) c.if-not-known_keys.false (c.known_keys.ensures m.entries m.holds) in
    let t = rw c.in_ok-schema.ensures.ok_part at (c.scalar_of.ensures.text _ (c.value_of-schema.ensures.value m.entries m.holds)) in
    top-23 y m.is n t (sym c.if-not-is_schema.true ∙ c.is_schema.ensures)

pub returns-clause-top : goal.returns-clause-top
unfolding bytes
returns-clause-top c = λ y g st.
    let m = rw c.in_ok-part.ensures.ok_part at (c.document.ensures.entries y g st) in
    let n = subst (KnownKeys m.entries) c.if-not-known_keys.false (c.known_keys.ensures m.entries m.holds) in
    let t = rw c.in_ok-schema.ensures.ok_part at (c.scalar_of.ensures.text _ (c.value_of-schema.ensures.value m.entries m.holds)) in
    c.read_fields.ensures.fields y m.entries (passed y m.is n t (sym c.if-not-is_schema.false ∙ c.is_schema.ensures)) m.holds
