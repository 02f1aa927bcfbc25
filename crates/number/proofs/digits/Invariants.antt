-- The invariant: the digits from here on, with what is read before them, make the number that all of them make. Assumes nothing.
use Rattle.std.proofs.Common.{◌≡◌, drop}
use Rattle.number.specs.Integers.{digits}
use Rattle.number.specs.Code.{at_most}
use Rattle.number.proofs.Laws.{digits_from}
use Rattle.number.proofs.digits.Given as goal

abbrev pub invariant-loop-b : goal.invariant-loop-b
invariant-loop-b l = at_most l.limit (digits l.t) ≡ at_most l.limit (digits_from l.number (drop l.b-index l.t))
