-- For contracts: what a call does with the record that is written. Uses Encode of `item`. Assumes nothing.
use Rattle.std.specs.Prelude.{◌≡◌, ℕ, ◌+◌, ◌-◌, ◌≤◌, ◌^◌, min, List, length}
use Rattle.std.proofs.lemmas.List.Edits.{sets}
use Rattle.item.specs.Encode.{head}
use Rattle.nodes.specs.declared.output.RecordWriter.{RecordWriter}

-- where so many bytes end behind a place, as far as numbers of 64 bits go
abbrev pub behind : ℕ → ℕ → ℕ
behind at size = min (at + size) (2 ^ 64 - 1)

-- bytes are stored at a place if they end within the output, and tell where they end
pub record Stored (old new : List ℕ) (at : ℕ) (bytes : List ℕ) (end : ℕ) : Type 0 where
  pub grows : at ≤ end
  pub ends : end ≡ behind at (length bytes)
  pub stored : at + length bytes ≤ length old → new ≡ sets old at bytes
  pub kept : length new ≡ length old

-- whatever was written: the same output, of the same length, and no end before the old one
pub record Goes (old new : RecordWriter) : Type 0 where
  pub same_reference : new.out.ghost_name ≡ old.out.ghost_name
  pub len : length new.out.now ≡ length old.out.now
  pub grows : old.end ≤ new.end

-- the same, and the end goes on by so many bytes at most
pub record GoesAtMost (most : ℕ) (old new : RecordWriter) : Type 0 where
  pub goes : Goes old new
  pub near : new.end ≤ old.end + most

-- bytes are written behind the end, and stored if they end within the output
pub record Writes (old new : RecordWriter) (bytes : List ℕ) : Type 0 where
  pub goes : Goes old new
  pub ends : new.end ≡ behind old.end (length bytes)
  pub stored : old.end + length bytes ≤ length old.out.now → new.out.now ≡ sets old.out.now old.end bytes

-- the six bytes of a header are left free behind the end
pub record Opens (old new : RecordWriter) (header : ℕ) : Type 0 where
  pub same_reference : new.out.ghost_name ≡ old.out.ghost_name
  pub out : new.out.now ≡ old.out.now
  pub at : header ≡ old.end
  pub ends : new.end ≡ behind old.end 6
  pub grows : old.end ≤ new.end

-- the header of the item whose content goes from behind it to the end is filled in, if the item ends within the output
pub record Closes (old new : RecordWriter) (header kind : ℕ) : Type 0 where
  pub same_reference : new.out.ghost_name ≡ old.out.ghost_name
  pub len : length new.out.now ≡ length old.out.now
  pub ends : new.end ≡ old.end
  pub stored : old.end ≤ length old.out.now → new.out.now ≡ sets old.out.now header (head kind (old.end - (header + 6)))
