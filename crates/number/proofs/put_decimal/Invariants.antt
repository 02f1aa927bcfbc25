-- The invariant: with the digits of what is left stored before them, those stored so far are all of them. Assumes nothing.
use Rattle.std.proofs.Common.{◌≡◌, ◌-◌, length}
use Rattle.std.proofs.Math.Seq.{sets}
use Rattle.number.specs.Integers.{decimal_of}
use Rattle.number.proofs.Laws.{last_digits}
use Rattle.number.proofs.put_decimal.Given as goal

abbrev pub invariant-loop-i : goal.invariant-loop-i
invariant-loop-i l = (length l.out ≡ length l.initial.out) × (sets l.out l.at (last_digits (l.i - l.at) l.left) ≡ sets l.initial.out l.at (decimal_of 20 l.n))
