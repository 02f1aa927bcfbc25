use Rattle.std.proofs.Common.{Bor, List, ℕ, rules, arith, refl, sym, subst}
use Rattle.refusal.specs.Base.{bytes}
use Rattle.item.specs.Tree.{get}
use Rattle.entries.specs.Entries.{Finds}
use Rattle.meaning.specs.Meanings.{commands}
use Rattle.entries.proofs.Walking.{stop, no-entry}
use Rattle.step.proofs.Commands.{Ended, AgreesFound, command_part, no-command, turned, walk_end}
use Rattle.step.proofs.entries_in.Goals as goal
use Rattle.step.proofs.entries_in.Goals.{in-None, in-Some+in_default, in-One, in-Nothing}

pub loop-pair-preserved-in-Some-Name : goal.loop-pair-preserved-in-Some-Name
loop-pair-preserved-in-Some-Name c = turned _ _ (search rules) c.loop-pair.invariant c.in-Some.ensures.steps c.in-Ok.is c.of.ensures (rw (c.in-Some-Name.is, c.in-Some-Name.field-0-is, c.field_with-name.ensures) refl)

pub loop-pair-preserved-in-Some-Id : goal.loop-pair-preserved-in-Some-Id
loop-pair-preserved-in-Some-Id c = turned _ _ (search rules) c.loop-pair.invariant c.in-Some.ensures.steps c.in-Ok.is c.of.ensures (rw (c.in-Some-Id.is, c.in-Some-Id.field-0-is, c.field_with-id.ensures) refl)

pub loop-pair-preserved-in-Some-Timeout : goal.loop-pair-preserved-in-Some-Timeout
loop-pair-preserved-in-Some-Timeout c = turned _ _ (search rules) c.loop-pair.invariant c.in-Some.ensures.steps c.in-Ok.is c.of.ensures (rw (c.in-Some-Timeout.is, c.in-Some-Timeout.field-0-is, c.field_with-timeout.ensures) refl)

pub loop-pair-preserved-in-Some-Continues : goal.loop-pair-preserved-in-Some-Continues
loop-pair-preserved-in-Some-Continues c = turned _ _ (search rules) c.loop-pair.invariant c.in-Some.ensures.steps c.in-Ok.is c.of.ensures (rw (c.in-Some-Continues.is, c.in-Some-Continues.field-0-is, c.field_with-continues.ensures) refl)

pub loop-pair-preserved-in-Some-Expect : goal.loop-pair-preserved-in-Some-Expect
loop-pair-preserved-in-Some-Expect c = turned _ _ (search rules) c.loop-pair.invariant c.in-Some.ensures.steps c.in-Ok.is c.of.ensures (rw (c.in-Some-Expect.is, c.in-Some-Expect.field-0-is, c.field_with-expect.ensures) refl)

pub loop-pair-preserved : goal.loop-pair-preserved
loop-pair-preserved c = turned _ _ (search rules) c.loop-pair.invariant c.in-Some.ensures.steps c.in-Ok.is c.of.ensures (rw (c.in-None-of.is, c.command_with-command.ensures) refl)

pub returns-clause-entries : goal.returns-clause-entries
returns-clause-entries c = λ es h.
    let v = c.loop-pair in
    let all : Bor (List ℕ) = c.args.part.bytes in
    let e = sym c.encoded-s.ensures in
    let d : Ended all.now es (record { name = v.name; id = v.id; timeout = v.timeout; continues = v.continues; expect = v.expect; command = v.command }) =
    elim c.match-next.branch [
      | in-None w ↦ walk_end (v.invariant.2 es h) (omega (arith, v.invariant.1, w.in-None.ensures.steps.0))
      | in-Some+in_default w ↦
          let t = stop _ _ v.invariant.0 v.invariant.1 w.in-Some.ensures.steps w.in_default.is in
          let l = v.invariant.2 es h in
          no-entry l.rest (search rules) t.before t.is l.holds.lies
    ] in
    record {
      fields = record {
        name = c.found.ensures.value (get (bytes "name") es) (subst (λ (b : Bor (List ℕ)). Finds b.now (get (bytes "name") es) v.name) e d.name);
        id = c.found-2.ensures.value (get (bytes "id") es) (subst (λ (b : Bor (List ℕ)). Finds b.now (get (bytes "id") es) v.id) e d.id);
        timeout = c.found-3.ensures.value (get (bytes "timeout") es) (subst (λ (b : Bor (List ℕ)). Finds b.now (get (bytes "timeout") es) v.timeout) e d.timeout);
        continue = c.found-4.ensures.value (get (bytes "continue_on_error") es) (subst (λ (b : Bor (List ℕ)). Finds b.now (get (bytes "continue_on_error") es) v.continues) e d.continue);
        expect = c.found-5.ensures.value (get (bytes "expect") es) (subst (λ (b : Bor (List ℕ)). Finds b.now (get (bytes "expect") es) v.expect) e d.expect);
      };
      command = elim c.match-command.branch [
        | in-One w ↦ rw w.result-is (command_part w.part.result _ c.encoded-s.ensures w.part.ensures.bytes w.part.ensures.places (subst (AgreesFound all.now (commands es)) w.in-One.is d.command))
        | in-Nothing w ↦ rw w.result-is (no-command all.now (commands es) d.command w.in-Nothing.is)
      ];
    }
