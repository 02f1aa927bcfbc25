-- The first places of each output are lent, and what is left in them is said of all. Assumes nothing.
use Rattle.std.proofs.Common.{sym, ◌∙◌, rules}
use Rattle.scenario.specs.Scenario.{tree_bytes, record_bytes, step_numbers}
use Rattle.scenario.proofs.Reading.{same-lent, lent-read, refused_told, zeros-out}
use Rattle.scenario.proofs.read_scenario.Goals as goal

pub returns-in-Ok : goal.returns-in-Ok
returns-in-Ok c =
    let t = lent-read c.args.text.now _ _ _ _ _ _ _ _ _ c.min-work_len.ensures c.min-record_len.ensures c.min-places.ensures c.in-Ok.field-0 c.in-Ok.ensures in
    record { answer = t.answer; tree = t.tree_left; bytes = t.record_left; numbers = t.lines_left }

pub returns-in-Err : goal.returns-in-Err
returns-in-Err c =
    let e = c.in-Err.e in
    let v = sym (same-lent c.args.text.now _ _ _ _ _ _ c.min-work_len.ensures c.min-record_len.ensures c.min-places.ensures) ∙ c.in-Err.ensures in
    record {
      answer = refused_told _ e v;
      tree = c.fill.ensures.after (search rules) ∙ zeros-out _ e v tree_bytes _ _ _ c.read.auto.work;
      bytes = c.fill-in-Err.ensures.after (search rules) ∙ zeros-out _ e v record_bytes _ _ _ c.read.auto.record;
      numbers = c.fill-in-Err-2.ensures.after (search rules) ∙ zeros-out _ e v step_numbers _ _ _ c.read.auto.lines;
    }
