-- No integer, or the times that the integer is. Assumes nothing.
use Rattle.std.proofs.Common.{◌≡◌, subst}
use Rattle.refusal.proofs.Tools.{err_is}
use Rattle.refusal.specs.declared.Refusal.TheVariants.{TimesNotPositive}
use Rattle.nodes.specs.Contract.{AgreesInteger}
use Rattle.lookups.proofs.Values.{integer_there, other_times}
use Rattle.lookups.proofs.times_at.Goals as goal

pub returns-in_err-n : goal.returns-in_err-n
returns-in_err-n c = λ v g st.
    let o = c.in_err-n.ensures in
    let r : c.in_err-n.field-0.0 ≡ TimesNotPositive c.args.number = cc (rw o.ok_part at o.value) in
    rw (err_is _ c.from_residual.ensures.1, r) (other_times c.args.number v (subst (AgreesInteger v) o.ok_part (integer_there v _ _ (c.at.ensures.value v g st) c.and_then-n.ensures)))
