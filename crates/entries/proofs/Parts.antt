-- What stands in bytes stands in the part of them that has its places. Assumes nothing.
use Rattle.std.proofs.Common.{◌≡◌, ◌≤◌, ℕ, List, length, refl, arith, Bor}
use Rattle.item.specs.Tree.{Entries}
use Rattle.entries.specs.Entries.{Lies}
use Rattle.entries.proofs.Walking.{cut, lies_in}

-- by what `part` ensures
pub in_part : {all part : Bor (List ℕ)} {start end from to : ℕ} (es : Entries) → part ≡ all → (from ≤ to → to ≤ length all.now → (start ≡ from) × (end ≡ to))
    → Lies all.now from to es → Lies part.now start end es
in_part es b places l = lies_in (cut refl b places (omega (arith, l.ends)) (omega (arith, l.ends, l.stands.within))) l
