-- By the kind of the value. Assumes nothing.
use Rattle.std.proofs.Common.{subst}
use Rattle.refusal.proofs.Tools.{err_is}
use Rattle.refusal.specs.Base.{Answer}
use Rattle.meaning.specs.Meaning.{Defaults}
use Rattle.top.specs.Contract.{AgreesDefaults}
use Rattle.top.proofs.Parts.{lost}
use Rattle.top.proofs.DefaultKeys.{defaults-empty, defaults-other, mapped-is}
use Rattle.top.proofs.defaults_of.Goals as goal

pub returns-in_default-clause-defaults : goal.returns-in_default-clause-defaults
returns-in_default-clause-defaults c = λ o h. defaults-empty o c.default.ensures.0 c.default.ensures.1 (rw c.in_default.is at (c.other_than_null.ensures.value o h))

pub returns-in_err-part-clause-defaults : goal.returns-in_err-part-clause-defaults
returns-in_err-part-clause-defaults c = λ o h.
    let f = c.in-Some.ensures.value o h in
    let l = lost c.in_err-part.ensures.value in
    let k = rw l.0 at (c.mapping.ensures.entries f.value f.node_is) in
    rw (err_is _ c.from_residual.ensures.1, l.1) (defaults-other o f c.in-Some.ensures.other k)

pub returns-clause-defaults : goal.returns-clause-defaults
returns-clause-defaults c = λ o h.
    let f = c.in-Some.ensures.value o h in
    let m = rw c.in_ok-part.ensures.ok_part at (c.mapping.ensures.entries f.value f.node_is) in
    subst (λ (a : Answer Defaults). AgreesDefaults a c.defaults_in.result) (mapped-is o f m) (c.defaults_in.ensures.defaults m.entries m.holds)
