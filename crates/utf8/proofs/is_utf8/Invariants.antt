-- Whether the text is UTF-8 is at each turn whether the rest is, behind what is due. Assumes nothing.
use Rattle.std.proofs.Common.{◌≡◌, drop}
use Rattle.utf8.specs.Utf8.{utf8_from, is_utf8}
use Rattle.utf8.specs.Contract.{due_of}
use Rattle.utf8.proofs.is_utf8.Given as goal

abbrev pub invariant-loop-b : goal.invariant-loop-b
invariant-loop-b l = is_utf8 l.text ≡ utf8_from (due_of l.due.left l.due.low l.due.high) (drop l.b-index l.text)
