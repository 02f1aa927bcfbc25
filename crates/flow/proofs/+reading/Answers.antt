use Rattle.std.proofs.Common.{sym, ◌∙◌, ◌<◌, arith, rules, length}
use Rattle.std.proofs.lemmas.Bool.{not-false}
use Rattle.refusal.proofs.Tools.{err_is}
use Rattle.writer.specs.Writing.{cap_of}
use Rattle.scalar.specs.Contract.{is_in_flow}
use Rattle.flow.proofs.Invariants.{listed_at, list_open, list-stuck, list_stops, list_less, listed_next, mapped_at, map-open, map_stops, mapped_next, mapping_twice, mapping_done, lies_in_written}
use Rattle.flow.proofs.Values.{reads_as, value-end, value-double, value-single, value-plain, entry_ends_so}
use Rattle.flow.proofs.+reading.Goals as goal

-- ---- entries

pub entries-returns-then-i-s : goal.entries-returns-then-i-s
entries-returns-then-i-s t c =
    let k = c.skip_separators-i.ensures in
    map-open (mapped_at c.loop-site.invariant c.used-first.ensures c.used-before.ensures k.rest k.in_range k.other) (omega (arith, c.if-i-s.true))

pub entries-loop-site-preserved : goal.entries-loop-site-preserved
entries-loop-site-preserved t c =
    let k = c.skip_separators-i.ensures in
    mapped_next (mapped_at c.loop-site.invariant c.used-first.ensures c.used-before.ensures k.rest k.in_range k.other) (omega (arith, k.in_range, c.if-i-s.false)) c.if-s-i-eq125.false _ _ c.in-Ok.ensures.0 c.in-Ok.ensures.1

pub entries-returns-in-Err : goal.entries-returns-in-Err
entries-returns-in-Err t c =
    let k = c.skip_separators-i.ensures in
    map_stops (mapped_at c.loop-site.invariant c.used-first.ensures c.used-before.ensures k.rest k.in_range k.other) (omega (arith, k.in_range, c.if-i-s.false)) c.if-s-i-eq125.false _ _ _ c.in-Err.ensures (rw c.used-before.ensures at c.truncate.ensures)

-- ---- an entry

pub entry-returns : goal.entry-returns
entry-returns t c =
    let a = c.args in
    let k = c.skip_spaces-colon in
    let d = c.skip_spaces in
    let h : k.result < length a.s.now = omega (arith, k.ensures.in_range, c.if-colon-s.false) in
    entry_ends_so a.s.now a.i a.site.number a.site.levels a.writer.now _ _ _ c.in_ok-key.ensures (not-false _ c.if-not-key.false) k.result k.ensures.rest h c.if-s-colon-ne58.false d.result d.ensures.rest
    c.requires k.ensures.forward (omega (arith, d.ensures.forward)) d.ensures.in_range _ _ c.entry_value.ensures

-- ---- a mapping

pub mapping-returns-then-repeats : goal.mapping-returns-then-repeats
mapping-returns-then-repeats t c =
    let a = c.args in
    let w = c.entries-end.new.writer in
    mapping_twice a.s.now _ a.site.number a.writer.now w _ c.entries-end.ensures c.repeats.result (λ es l.
    c.repeats.ensures es (lies_in_written es c.part.ensures.bytes c.part.ensures.places c.used-first.ensures c.used.ensures c.written.ensures w.within l)) c.if-repeats.true

pub mapping-returns : goal.mapping-returns
mapping-returns t c =
    let a = c.args in
    let w = c.entries-end.new.writer in
    mapping_done a.s.now _ a.site.number a.writer.now w _ c.entries-end.ensures c.repeats.result (λ es l.
    c.repeats.ensures es (lies_in_written es c.part.ensures.bytes c.part.ensures.places c.used-first.ensures c.used.ensures c.written.ensures w.within l)) c.if-repeats.false

-- ---- a sequence

pub sequence-returns-then-i-s : goal.sequence-returns-then-i-s
sequence-returns-then-i-s t c =
    let k = c.skip_separators-i.ensures in
    list_open (listed_at c.loop-site.invariant c.used-first.ensures c.used.ensures k.rest k.in_range k.other) (omega (arith, c.if-i-s.true))

pub sequence-returns-then-is_stuck : goal.sequence-returns-then-is_stuck
sequence-returns-then-is_stuck t c =
    let k = c.skip_separators-i.ensures in
    list-stuck (listed_at c.loop-site.invariant c.used-first.ensures c.used.ensures k.rest k.in_range k.other) (omega (arith, k.in_range, c.if-i-s.false)) c.if-s-i-eq93.false (sym c.stuck-is_stuck.ensures ∙ c.if-is_stuck.true)

pub sequence-returns-in_err-read : goal.sequence-returns-in_err-read
sequence-returns-in_err-read t c =
    let k = c.skip_separators-i.ensures in
    rw (err_is _ c.from_residual.ensures.1) (list_stops (listed_at c.loop-site.invariant c.used-first.ensures c.used.ensures k.rest k.in_range k.other) (omega (arith, k.in_range, c.if-i-s.false)) c.if-s-i-eq93.false (sym c.stuck-is_stuck.ensures ∙ c.if-is_stuck.false) _ _ c.in_err-read.ensures)

pub sequence-loop-site-smaller : goal.sequence-loop-site-smaller
sequence-loop-site-smaller t c =
    let k = c.skip_separators-i.ensures in
    omega (arith, k.forward, list_less (listed_at c.loop-site.invariant c.used-first.ensures c.used.ensures k.rest k.in_range k.other) (omega (arith, k.in_range, c.if-i-s.false)) c.if-s-i-eq93.false (sym c.stuck-is_stuck.ensures ∙ c.if-is_stuck.false) _ _ _ c.in_ok-read.ensures)

pub sequence-loop-site-preserved : goal.sequence-loop-site-preserved
sequence-loop-site-preserved t c =
    let k = c.skip_separators-i.ensures in
    listed_next (listed_at c.loop-site.invariant c.used-first.ensures c.used.ensures k.rest k.in_range k.other) (omega (arith, k.in_range, c.if-i-s.false)) c.if-s-i-eq93.false (sym c.stuck-is_stuck.ensures ∙ c.if-is_stuck.false) _ _ _ c.in_ok-read.ensures

-- ---- a value

pub value-returns-then-i-s : goal.value-returns-then-i-s
value-returns-then-i-s t c =
    let a = c.args in
    let w = a.writer.now in
    reads_as a.role _ _ a.s.now w _ _ (value-end a.s.now a.i (cap_of w) a.site.number a.site.levels (is_in_flow a.stops) a.role w.used c.if-i-s.true) (c.null_at.ensures a.site.number a.s.now (omega arith))

pub value-returns-in-123 : goal.value-returns-in-123
value-returns-in-123 t c = c.collection.ensures (is_in_flow c.args.stops) c.args.role

pub value-returns-in-34 : goal.value-returns-in-34
value-returns-in-34 t c =
    let a = c.args in
    let w = a.writer.now in
    reads_as a.role _ _ a.s.now w _ _ (value-double a.s.now a.i (cap_of w) a.site.number a.site.levels (is_in_flow a.stops) a.role w.used (omega (arith, c.if-i-s.false)) c.in-34.is) (c.quoted.ensures a.role)

pub value-returns-in-39 : goal.value-returns-in-39
value-returns-in-39 t c =
    let a = c.args in
    let w = a.writer.now in
    reads_as a.role _ _ a.s.now w _ _ (value-single a.s.now a.i (cap_of w) a.site.number a.site.levels (is_in_flow a.stops) a.role w.used (omega (arith, c.if-i-s.false)) c.in-39.is) (c.quoted-in-39.ensures a.role)

pub value-returns-in_default : goal.value-returns-in_default
value-returns-in_default t c =
    let a = c.args in
    let w = a.writer.now in
    reads_as a.role _ _ a.s.now w _ _ (value-plain a.s.now a.i (cap_of w) a.site.number a.site.levels (is_in_flow a.stops) a.role w.used (omega (arith, c.if-i-s.false))
    (search rules) (search rules) (search rules) (search rules)) (c.plain.ensures a.site.number)
