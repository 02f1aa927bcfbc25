-- The invariant: the names that are left have the key where all of them have it. Assumes nothing.
use Rattle.std.proofs.Common.{◌≡◌, ℕ, List, length}
use Rattle.std.proofs.Math.Option.{some}
use Rattle.check_steps.specs.Names.{filled}
use Rattle.check_steps.proofs.Names.{Unread}
use Rattle.check_steps.proofs.is_name.Given as goal

abbrev pub invariant-loop-name : goal.invariant-loop-name
invariant-loop-name l = record {
  bytes : l.name-iterator.bytes.now ≡ l.names;
  to : l.name-iterator.to ≡ length l.names;
  unread : (ns : List (List ℕ)) → filled l.names ≡ some ns → Unread l.names l.key l.name-iterator.at ns;
}
