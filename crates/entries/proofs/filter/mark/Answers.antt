-- A word with bits put into it. Assumes nothing.
use Rattle.std.proofs.Common.{rules}
use Rattle.entries.proofs.Bits.{marked_by}
use Rattle.entries.proofs.filter.mark.Goals as goal

pub returns : goal.returns
returns c = marked_by _ _ _ (search rules) c.bits_of-bits.ensures
