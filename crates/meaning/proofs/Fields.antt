-- A key is a field of a step where it stands in the list of them. Assumes nothing.
use Rattle.std.proofs.Common.{◌≡◌, refl, ℕ, List, Bool, true, false, ◌||◌}
use Rattle.std.specs.Prelude.{is_some, if◌then◌else◌, Some, None}
use Rattle.refusal.specs.Base.{bytes, same, one_of}
use Rattle.meaning.specs.Meaning.{step_fields}
use Rattle.meaning.specs.Fields.{step_field}
use Rattle.meaning.specs.declared.StepField.TheVariants.{Name, Id, Timeout, Continues, Expect}

pub field_listed : (k : List ℕ) → is_some (step_field k) ≡ one_of k step_fields
unfolding step_field step_fields one_of
field_listed k = go (same k (bytes "name")) (same k (bytes "id")) (same k (bytes "timeout")) (same k (bytes "continue_on_error")) (same k (bytes "expect"))
  where
    go : (a b c d e : Bool) → is_some (if a then Some Name else if b then Some Id else if c then Some Timeout else if d then Some Continues else if e then Some Expect else None)
        ≡ (a || (b || (c || (d || (e || false)))))
    go true b c d e = refl
    go false true c d e = refl
    go false false true d e = refl
    go false false false true e = refl
    go false false false false true = refl
    go false false false false false = refl
