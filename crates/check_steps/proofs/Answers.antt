-- The answers of the check, case by case. Assumes nothing.
use Rattle.std.proofs.Common.{◌≡◌, sym, ℕ, false, List}
use Rattle.std.proofs.Math.Option.{some}
use Rattle.refusal.specs.Base.{good, refused, ◌>>=◌, ◌>>◌, given}
use Rattle.meaning.specs.Meaning.{Meaning}
use Rattle.record.specs.Jobs.{opened, check_record}
use Rattle.record.specs.Contract.{is_some}
use Rattle.record.proofs.Views.{none_is}
use Rattle.record.proofs.Lookups.{closed, Opened}
use Rattle.check_steps.specs.Names.{names_in}
use Rattle.check_steps.specs.CheckSteps.{check_from, check_steps}

pub no_record : (b lines names : List ℕ) {n l s : ℕ} → refused n l s ≡ check_record b → refused n l s ≡ check_steps b lines names
unfolding check_steps
no_record b lines names {n} {l} {s} e = closed b n l s e _

-- ---- a good record

module _ {b : List ℕ} {n : ℕ} (o : Opened b n) where
  abbrev m : Meaning
  m = o.meaning

  module _ (lines names : List ℕ) where
    pub bad-list : false ≡ is_some (names_in names) → refused 40 0 0 ≡ check_steps b lines names
    unfolding check_steps opened given ◌>>=◌
    bad-list e = sym (rw (o.is, none_is (names_in names) (sym e)))

    module _ (ns : List (List ℕ)) (e : names_in names ≡ some ns) where
      pub refused-is : {k l s : ℕ} → refused k l s ≡ check_from ns 1 lines m.steps → refused k l s ≡ check_steps b lines names
      unfolding check_steps opened given ◌>>=◌ ◌>>◌
      refused-is p = sym (rw (o.is, e, sym p))

      pub passed_is : good tt ≡ check_from ns 1 lines m.steps → good n ≡ check_steps b lines names
      unfolding check_steps opened given ◌>>=◌ ◌>>◌
      passed_is p = sym (rw (o.is, e, sym p, sym o.count))
