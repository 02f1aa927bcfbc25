-- The invariant: the hash goes on from here to that of the whole key. Assumes nothing.
use Rattle.std.proofs.Common.{◌≡◌, ◌<◌, ◌^◌, drop}
use Rattle.entries.specs.Contract.{hash_from, hash_of}
use Rattle.entries.proofs.filter.hash.Given as goal

abbrev pub invariant-loop-byte : goal.invariant-loop-byte
invariant-loop-byte l = (l.hash < 2 ^ 32) × (hash_from l.hash (drop l.byte-index l.key) ≡ hash_of l.key)
