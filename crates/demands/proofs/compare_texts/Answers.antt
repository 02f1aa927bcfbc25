-- By the bytes of both records the meanings are told apart. Assumes nothing.
use Rattle.demands.proofs.Calls.{compared_same, compared-different}
use Rattle.std.proofs.Common.{sym, ◌∙◌}
use Rattle.demands.proofs.compare_texts.Goals as goal

pub returns-then-same_bytes : goal.returns-then-same_bytes
returns-then-same_bytes c =
    compared_same c.in-Ok.ensures c.in-Ok-record_of.ensures (sym c.same_bytes.ensures ∙ c.if-same_bytes.true)

pub returns-else-same_bytes : goal.returns-else-same_bytes
returns-else-same_bytes c =
    compared-different c.in-Ok.ensures c.in-Ok-record_of.ensures (sym c.same_bytes.ensures ∙ c.if-same_bytes.false)
