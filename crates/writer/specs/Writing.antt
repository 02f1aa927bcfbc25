-- What a call does with a writer: the bytes that it puts behind those that are used. Assumes nothing.
use Rattle.std.specs.Prelude.{◌≡◌, ℕ, ◌+◌, ◌-◌, ◌<◌, ◌≤◌, List, length, take, Result, Ok, Err}
use Rattle.std.proofs.lemmas.List.Edits.{sets}
use Rattle.refusal.specs.declared.Refusal.{Refusal}
use Rattle.refusal.specs.declared.Refusal.TheVariants.{WorkTooShort}
use Rattle.writer.specs.declared.Writer.{Writer}

-- how many bytes the output has
abbrev pub cap_of : Writer → ℕ
cap_of w = length w.out.now

-- how many bytes more fit
abbrev pub room_of : Writer → ℕ
room_of w = length w.out.now - w.used

-- bytes are put behind those that are used; the rest of the output is kept
pub record Appends (old new : Writer) (bytes : List ℕ) : Type 0 where
  pub same_reference : new.out.ghost_name ≡ old.out.ghost_name
  pub out : new.out.now ≡ sets old.out.now old.used bytes
  pub used : new.used ≡ old.used + length bytes

-- whatever was put, the bytes that were used stay
pub record Keeps (old new : Writer) : Type 0 where
  pub same_reference : new.out.ghost_name ≡ old.out.ghost_name
  pub len : length new.out.now ≡ length old.out.now
  pub grows : old.used ≤ new.used
  pub kept : take old.used new.out.now ≡ take old.used old.out.now

-- bytes are put at a place that was used already
pub record Fills (old new : Writer) (at : ℕ) (bytes : List ℕ) : Type 0 where
  pub same_reference : new.out.ghost_name ≡ old.out.ghost_name
  pub out : new.out.now ≡ sets old.out.now at bytes
  pub used : new.used ≡ old.used

-- six bytes are used more, which keep what they had
pub record Begins (old new : Writer) (header : ℕ) : Type 0 where
  pub same_reference : new.out.ghost_name ≡ old.out.ghost_name
  pub out : new.out.now ≡ old.out.now
  pub at : header ≡ old.used
  pub used : new.used ≡ old.used + 6

-- `n` bytes are used, and none of the output changes
pub record CutsBack (old new : Writer) (n : ℕ) : Type 0 where
  pub same_reference : new.out.ghost_name ≡ old.out.ghost_name
  pub out : new.out.now ≡ old.out.now
  pub used : new.used ≡ n

-- bytes have no room, and nothing is put
pub record Lacks (old new : Writer) (bytes : List ℕ) (e : Refusal) : Type 0 where
  pub is : e ≡ WorkTooShort
  pub short : room_of old < length bytes
  pub same : new ≡ old

-- bytes are put behind those that are used; or they have no room, and nothing is
abbrev pub Puts : Writer → Writer → List ℕ → Result (Unit {0}) Refusal → Type 0
Puts old new bytes (Ok done) = Appends old new bytes
Puts old new bytes (Err e) = Lacks old new bytes e
