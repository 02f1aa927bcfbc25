-- One name after the other. Assumes nothing.
use Rattle.std.proofs.Common.{sym, ◌∙◌, subst, ℕ, rules}
use Rattle.item.proofs.Turns.{turn, stop}
use Rattle.check_steps.proofs.Names.{Unread, unread-end, unread-found, unread-on, unread-lost}
use Rattle.check_steps.proofs.is_name.Goals as goal

pub returns-in_default : goal.returns-in_default
returns-in_default c = λ ns e.
    let i = c.loop-name.invariant in
    let t = stop _ _ i.bytes i.to c.in-Some.ensures.steps c.in_default.is in
    unread-lost (i.unread ns e) t.before t.is

pub returns-then-same_bytes : goal.returns-then-same_bytes
returns-then-same_bytes c = λ ns e.
    let i = c.loop-name.invariant in
    let t = turn _ _ i.bytes i.to c.in-Some.ensures.steps c.in-Ok.is in
    unread-found (i.unread ns e) t.before t.is (sym c.same_bytes.ensures ∙ c.if-same_bytes.true)

pub loop-name-preserved : goal.loop-name-preserved
loop-name-preserved c =
    let i = c.loop-name.invariant in
    let t = turn _ _ i.bytes i.to c.in-Some.ensures.steps c.in-Ok.is in
    record {
      bytes = t.bytes;
      to = t.end;
      unread = λ ns e.
          subst (λ (n : ℕ). Unread c.args.names.now c.args.key.now n ns) (sym t.next)
          (unread-on (i.unread ns e) t.before t.is (sym c.same_bytes.ensures ∙ c.if-same_bytes.false));
    }

pub returns : goal.returns
returns c = λ ns e. unread-end (c.loop-name.invariant.unread ns e) (search rules)
