-- No mapping, or what is found among its entries. Assumes nothing.
use Rattle.std.proofs.Common.{◌∙◌}
use Rattle.lookups.proofs.Values.{no_mapping, in_mapping_lem}
use Rattle.lookups.proofs.in_mapping.Goals as goal

pub returns-in_err-entries : goal.returns-in_err-entries
returns-in_err-entries c = λ v g st. rw c.from_residual-in_err-entries.ensures (no_mapping _ _ v (c.in_err-entries.ensures.entries v (c.in_ok-at.ensures.value v g st)))

pub returns : goal.returns
returns c = λ v g st.
    let p = c.in_ok-entries.ensures in
    in_mapping_lem _ _ v (p.entries v (c.in_ok-at.ensures.value v g st)) (p.from ∙ c.in_ok-at.ensures.place) c.find_value.ensures
