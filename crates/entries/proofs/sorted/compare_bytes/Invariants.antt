-- The invariant: what is left of the keys decides as they do. Assumes nothing.
use Rattle.std.proofs.Common.{◌≡◌, length, drop}
use Rattle.std.specs.Ordering.{nat_cmp}
use Rattle.std.specs.Cmp.Lexicographic.{slice_cmp}
use Rattle.entries.proofs.sorted.compare_bytes.Given as goal

abbrev pub invariant-loop-x : goal.invariant-loop-x
invariant-loop-x l = slice_cmp nat_cmp (drop (length l.yielded) l.a) (drop (length l.yielded) l.b) ≡ slice_cmp nat_cmp l.a l.b
