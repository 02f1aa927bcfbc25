-- For contracts: a walk over what stands one behind another in some bytes. Assumes nothing.
use Rattle.std.specs.Prelude.{◌≡◌, ℕ, ◌-◌, ◌≤◌, ◌<◌, List, Option, None, Some, Result, Ok, Err}
use Rattle.std.specs.Iterator.{Count, at_most}
use Rattle.item.specs.declared.Broken.{Broken}
use Rattle.item.specs.declared.walk.Walk.{Walk}

module _ {T : Type 0} where
  -- nothing is longer than the bytes that are left
  abbrev pub bytes_left : Walk T → Count
  bytes_left walk = at_most (walk.to - walk.at)

  -- a walk over the same part
  pub record SamePart (old new : Walk T) : Type 0 where
    pub bytes : new.bytes ≡ old.bytes
    pub to : new.to ≡ old.to

  -- what stands at the place is given, and the walk goes on behind it; or nothing is left
  abbrev pub Gives : (List ℕ → ℕ → Result T Broken) → (T → ℕ) → Walk T → Option (Result T Broken) → Walk T → Type 0
  Gives reads ends old None new = (old.to ≤ old.at) × (new ≡ old)
  Gives reads ends old (Some (Ok placed)) new = (old.at < old.to) × (reads old.bytes.now old.at ≡ Ok placed) × SamePart old new × (new.at ≡ ends placed)
  Gives reads ends old (Some (Err broken)) new = (old.at < old.to) × (reads old.bytes.now old.at ≡ Err broken) × SamePart old new × (new.at ≡ old.to)
