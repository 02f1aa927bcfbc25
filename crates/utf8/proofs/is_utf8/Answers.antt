use Rattle.std.proofs.Common.{sym}
use Rattle.utf8.proofs.Utf8Laws.{all_ascii}
use Rattle.utf8.proofs.is_utf8.Goals as goal

pub returns-then-is_ascii : goal.returns-then-is_ascii
returns-then-is_ascii c = sym (all_ascii c.args.text.now (rw c.if-is_ascii.true at c.is_ascii.ensures.cases))
