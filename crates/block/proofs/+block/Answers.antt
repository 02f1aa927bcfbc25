use Rattle.std.proofs.Common.{sym, ◌∙◌, ap, ℕ, ◌+◌, arith, length, drop, length-append}
use Rattle.refusal.proofs.Tools.{err_is}
use Rattle.item.specs.Encode.{item, encode}
use Rattle.item.proofs.Size.{item-length}
use Rattle.writer.specs.Writing.{cap_of}
use Rattle.writer.proofs.Laws.{written_length, len_appended}
use Rattle.lines.specs.Table.{line_at}
use Rattle.block.proofs.Places.{entry-unkeyed-at, entry-unvalued-at}
use Rattle.block.proofs.Judging.{ran-once, ran-again, ran-keeps}
use Rattle.block.specs.Contract.{column_at, text_at}
use Rattle.block.proofs.Invariants.{whole, inline-stops, inline-twice, inline-close, list_close}
use Rattle.block.proofs.Turns.{repeats_told, key_in_part, turn-splits, turn-stops, turn-cut, turn-twice, turn_on, item-text, item-stops, item_on}
use Rattle.block.proofs.+block.Goals as goal

pub entries-returns-then-repeats : goal.entries-returns-then-repeats
entries-returns-then-repeats t c =
    let a = c.args in
    let read = whole a.lines.now a.first a.indent a.levels in
    let v = c.all_entries-end.ensures in
    let q = c.truncate.new.self in
    let cut = c.truncate.ensures in
    let twice = repeats_told a.writer.now c.all_entries-end.new.writer v.0.got v.1 c.used-start.ensures c.used.ensures c.written.ensures c.part.ensures.bytes c.part.ensures.places c.repeats.ensures c.if-repeats.true in
    let k = ran-keeps {a = read a.writer.now} v.0 in
    ran-again {a = read a.writer.now} v.0 twice {b = read q} q _ c.entries_once.result (rw (ap length cut.out ∙ k.len, cut.used ∙ c.used-start.ensures)) (rw c.used-start.ensures at cut) c.entries_once.ensures

pub entries-returns : goal.entries-returns
entries-returns t c =
    let a = c.args in
    let v = c.all_entries-end.ensures in
    ran-once {a = whole a.lines.now a.first a.indent a.levels a.writer.now} v.0 (repeats_told a.writer.now c.all_entries-end.new.writer v.0.got v.1 c.used-start.ensures c.used.ensures c.written.ensures c.part.ensures.bytes c.part.ensures.places c.repeats.ensures c.if-repeats.false)

pub all_entries-entry-requires : goal.all_entries-entry-requires
all_entries-entry-requires t c =
    let l = c.loop-key in
    (omega arith, turn-splits l.invariant.0 c.in-At.split (sym c.in-At.is ∙ l.invariant.1))

pub all_entries-returns-in-Err : goal.all_entries-returns-in-Err
all_entries-returns-in-Err t c =
    let l = c.loop-key in
    turn-cut l.invariant.0 c.in-At.split (sym c.in-At.is ∙ l.invariant.1) c.in-Err.ensures (rw c.used-before.ensures at c.truncate.ensures)

pub entries_once-entry-requires : goal.entries_once-entry-requires
entries_once-entry-requires t c =
    let l = c.loop-split in
    (omega arith, turn-splits l.invariant c.in-At.split (sym c.in-At.is ∙ c.key_at.ensures))

pub entries_once-returns-in_err-read : goal.entries_once-returns-in_err-read
entries_once-returns-in_err-read t c =
    let l = c.loop-split in
    rw (err_is _ c.from_residual.ensures.1) (turn-stops l.invariant c.in-At.split (sym c.in-At.is ∙ c.key_at.ensures) c.in_err-read.ensures)

pub entries_once-slice_bounds-has_key-end : goal.entries_once-slice_bounds-has_key-end
entries_once-slice_bounds-has_key-end t c =
    let e = c.in_ok-read.ensures in
    omega (arith, written_length c.entry.new.writer c.written-written.ensures, e.appends.used, length-append (item 3 e.key) (encode e.tree), item-length 3 e.key, e.ends)

pub entries_once-returns-then-has_key : goal.entries_once-returns-then-has_key
entries_once-returns-then-has_key t c =
    let l = c.loop-split in
    let h = key_in_part c.entry.new.writer _ c.written-written.ensures c.part-earlier.ensures.bytes c.part-earlier.ensures.places c.used-start.ensures c.used-before.ensures (omega (arith, l.invariant.appends.used)) (omega (arith, c.in_ok-read.ensures.appends.used)) c.has_key.ensures in
    turn-twice l.invariant c.in-At.split (sym c.in-At.is ∙ c.key_at.ensures) c.in_ok-read.ensures c.has_key.result (rw (c.used-before.ensures, c.written-written.ensures) at h) c.if-has_key.true c.number-line.result c.number-line.ensures.value

pub entries_once-loop-split-preserved : goal.entries_once-loop-split-preserved
entries_once-loop-split-preserved t c =
    let l = c.loop-split in
    let h = key_in_part c.entry.new.writer _ c.written-written.ensures c.part-earlier.ensures.bytes c.part-earlier.ensures.places c.used-start.ensures c.used-before.ensures (omega (arith, l.invariant.appends.used)) (omega (arith, c.in_ok-read.ensures.appends.used)) c.has_key.ensures in
    turn_on l.invariant c.in-At.split (sym c.in-At.is ∙ c.key_at.ensures) c.in_ok-read.ensures c.has_key.result (rw (c.used-before.ensures, c.written-written.ensures) at h) c.if-has_key.false

pub entry-returns-in_err-block_key : goal.entry-returns-in_err-block_key
entry-returns-in_err-block_key t c =
    let a = c.args in
    let ls = a.lines.now in
    let w = a.writer.now in
    let cap = cap_of w in
    let x = c.text-text in
    let n = c.number in
    rw (err_is _ c.from_residual.ensures.1) (entry-unkeyed-at ls a.at.line c.requires.line cap a.levels w.used a.at.from a.at.split x.result.now x.ensures.value n.result n.ensures.value _ c.in_err-block_key.ensures)

pub entry-returns-in_err-next : goal.entry-returns-in_err-next
entry-returns-in_err-next t c =
    let a = c.args in
    let ls = a.lines.now in
    let w = a.writer.now in
    let cap = cap_of w in
    let x = c.text-text in
    let n = c.number in
    rw (err_is _ c.from_residual-in_err-next.ensures.1) (entry-unvalued-at ls a.at.line c.requires.line cap a.levels w.used a.at.from a.at.split x.result.now x.ensures.value n.result n.ensures.value w _ c.in_ok-block_key.ensures _ (len_appended c.in_ok-block_key.ensures.appends) _ c.in_err-next.ensures)

pub inline_mapping-returns-in_err-first : goal.inline_mapping-returns-in_err-first
inline_mapping-returns-in_err-first t c =
    let a = c.args in
    let ls = a.lines.now in
    let w = a.writer.now in
    let x = line_at ls a.at.line in
    rw (err_is _ c.from_residual-in_err-first.ensures.1) (inline-stops w _ _ c.in_ok-header.ensures a.levels x.number (column_at x a.at.from) (text_at x a.at.from) a.at.split (drop (a.at.line + 1) ls) _ _ c.in_err-first.ensures)

pub inline_mapping-slice_bounds-has_key-end : goal.inline_mapping-slice_bounds-has_key-end
inline_mapping-slice_bounds-has_key-end t c =
    let e = c.in_ok-first.ensures in
    omega (arith, written_length c.entries.new.writer c.written-written.ensures, c.in_ok-next.ensures.appends.used, e.appends.used, length-append (item 3 e.key) (encode e.tree), item-length 3 e.key, e.ends)

pub inline_mapping-returns-then-has_key : goal.inline_mapping-returns-then-has_key
inline_mapping-returns-then-has_key t c =
    let a = c.args in
    let ls = a.lines.now in
    let w = a.writer.now in
    let x = line_at ls a.at.line in
    let e = c.in_ok-first.ensures in
    let h = key_in_part c.entries.new.writer _ c.written-written.ensures c.part-behind.ensures.bytes c.part-behind.ensures.places c.used-later.ensures c.used.ensures (omega (arith, c.in_ok-next.ensures.appends.used)) (omega arith) c.has_key.ensures in
    inline-twice w _ _ c.in_ok-header.ensures a.levels x.number (column_at x a.at.from) (text_at x a.at.from) a.at.split (drop (a.at.line + 1) ls) ls (a.at.line + 1) _ _ _ e (c.indent.result + a.at.from) (ap (λ (k : ℕ). k + a.at.from) c.indent.ensures.value) _ _ c.in_ok-next.ensures c.has_key.result (rw c.written-written.ensures at h) c.if-has_key.true c.number-line.result c.number-line.ensures.value

pub inline_mapping-returns : goal.inline_mapping-returns
inline_mapping-returns t c =
    let a = c.args in
    let ls = a.lines.now in
    let w = a.writer.now in
    let x = line_at ls a.at.line in
    let e = c.in_ok-first.ensures in
    let h = key_in_part c.entries.new.writer _ c.written-written.ensures c.part-behind.ensures.bytes c.part-behind.ensures.places c.used-later.ensures c.used.ensures (omega (arith, c.in_ok-next.ensures.appends.used)) (omega arith) c.has_key.ensures in
    inline-close w _ _ c.in_ok-header.ensures a.levels x.number (column_at x a.at.from) (text_at x a.at.from) a.at.split (drop (a.at.line + 1) ls) ls (a.at.line + 1) _ _ _ e (c.indent.result + a.at.from) (ap (λ (k : ℕ). k + a.at.from) c.indent.ensures.value) _ _ c.in_ok-next.ensures c.has_key.result (rw c.written-written.ensures at h) c.if-has_key.false e.on _ c.end.ensures

pub sequence-item-requires : goal.sequence-item-requires
sequence-item-requires t c =
    let l = c.loop-writer in
    (omega arith, item-text c.in_ok-header.ensures l.invariant (sym c.goes_on.ensures ∙ c.loop-writer-test.true))

pub sequence-returns-in_err-i : goal.sequence-returns-in_err-i
sequence-returns-in_err-i t c =
    let l = c.loop-writer in
    rw (err_is _ c.from_residual-in_err-i.ensures.1) (item-stops c.in_ok-header.ensures l.invariant (sym c.goes_on.ensures ∙ c.loop-writer-test.true) c.in_err-i.ensures)

pub sequence-loop-writer-preserved : goal.sequence-loop-writer-preserved
sequence-loop-writer-preserved t c =
    let l = c.loop-writer in
    item_on c.in_ok-header.ensures l.invariant (sym c.goes_on.ensures ∙ c.loop-writer-test.true) c.in_ok-i.ensures

pub sequence-returns : goal.sequence-returns
sequence-returns t c =
    let l = c.loop-writer in
    list_close c.in_ok-header.ensures l.invariant (sym c.goes_on.ensures ∙ c.loop-writer-test.false) _ c.end.ensures
