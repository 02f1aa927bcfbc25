-- By how the line is read. Assumes nothing.
use Rattle.std.proofs.Common.{rules, sym, ap, ◌∙◌, ◌+◌, ◌-◌, length, arith}
use Rattle.refusal.proofs.Tools.{err_is}
use Rattle.lines.specs.declared.Literal.TheVariants.{Under}
use Rattle.lines.specs.Lines.{scan, literal_after}
use Rattle.lines.specs.Raw.{raw_text}
use Rattle.lines.specs.Filling.{reading}
use Rattle.lines.proofs.TableLaws.{took_none, took_of, reading-stops}
use Rattle.lines.proofs.ScanLaws.{scan-normal, scan-blank, scan-body, tab-stops}
use Rattle.lines.proofs.RawLine.read_into.Goals as goal

pub returns-in-Blank : goal.returns-in-Blank
returns-in-Blank c =
    let a = c.args in
    record {
      taken = λ raws. took_of (scan-blank a.self.number (raw_text a.self) a.before.waiting raws a.before.literal _ (sym c.way-way.ensures ∙ c.in-Blank.is)) (took_none a.self.text.now a.rows.now.items _);
      waits = omega arith;
    }

pub returns-in_err-untabbed : goal.returns-in_err-untabbed
returns-in_err-untabbed c =
    let a = c.args in
    let p = err_is _ c.from_residual.ensures.1 in
    let e = c.in_err-untabbed.ensures in
    record {
      taken = λ raws. rw (p, e.1)
          (reading-stops a.self.text.now a.rows.now.items _ 4 a.self.number 0
          (tab-stops a.self.number (raw_text a.self) a.before.waiting raws a.before.literal c.way-way.result (sym c.way-way.ensures) c.in_default.not-Blank (2048 - length a.rows.now.items) e.0));
      waits = rw p (search rules);
    }

pub returns-in_err-push_body : goal.returns-in_err-push_body
returns-in_err-push_body c =
    let a = c.args in
    let p = err_is _ c.from_residual-in_err-push_body.ensures.1 in
    record {
      taken = λ raws. rw p
          (ap (reading a.self.text.now a.rows.now.items) (scan-body a.self.number (raw_text a.self) a.before.waiting raws a.before.literal c.in-Body.under (sym c.way-way.ensures ∙ c.in-Body.is))
          ∙ c.in_err-push_body.ensures (scan (Under c.in-Body.under) 0 (a.self.number + 1) raws));
      waits = rw p (search rules);
    }

pub returns-in-Body : goal.returns-in-Body
returns-in-Body c =
    let a = c.args in
    record {
      taken = λ raws. took_of (scan-body a.self.number (raw_text a.self) a.before.waiting raws a.before.literal c.in-Body.under (sym c.way-way.ensures ∙ c.in-Body.is))
          (c.in_ok-push_body.ensures (scan (Under c.in-Body.under) 0 (a.self.number + 1) raws));
      waits = omega arith;
    }

pub returns-in_err-literal : goal.returns-in_err-literal
returns-in_err-literal c =
    let a = c.args in
    let p = err_is _ c.from_residual-in_err-literal.ensures.1 in
    record {
      taken = λ raws. rw p
          (ap (reading a.self.text.now a.rows.now.items) (scan-normal a.self.number (raw_text a.self) a.before.waiting raws a.before.literal c.way-way.result (sym c.way-way.ensures) c.in_default.not-Blank c.in_default-way.not-Body)
          ∙ c.in_err-literal.ensures.taken (scan (literal_after (raw_text a.self)) 0 (a.self.number + 1) raws));
      waits = rw p (search rules);
    }

pub returns : goal.returns
returns c =
    let a = c.args in
    record {
      taken = λ raws. rw c.in_ok-literal.ensures.open
          (took_of (scan-normal a.self.number (raw_text a.self) a.before.waiting raws a.before.literal c.way-way.result (sym c.way-way.ensures) c.in_default.not-Blank c.in_default-way.not-Body)
          (c.in_ok-literal.ensures.taken (scan (literal_after (raw_text a.self)) 0 (a.self.number + 1) raws)));
      waits = omega arith;
    }
