-- The signed number of eight bytes. Assumes nothing.
use Rattle.std.proofs.Common.{◌≡◌, ◌∙◌, ap, rules, ℕ, List, take, drop}
use Rattle.std.specs.Int.{w64}
use Rattle.std.proofs.lemmas.Int.{to_z-of_z}
use Rattle.item.specs.Encode.{number}
use Rattle.item.specs.Decode.{untwos}
use Rattle.nodes.proofs.Numbers.{signed-8}
use Rattle.nodes.proofs.integer_at.Goals as goal

pub returns : goal.returns
returns c =
    let a = c.args in
    let bytes = c.copy_from_slice.new.self in
    let same : bytes ≡ take 8 (drop a.at a.s.now) = search rules in
    c.from.ensures
    ∙ to_z-of_z w64 c.from_le_bytes.result (record { sfits = c.from_le_bytes.type_inv })
    ∙ c.from_le_bytes.ensures
    ∙ signed-8 bytes c.copy_from_slice.ensures.len
    ∙ ap (λ (x : List ℕ). untwos (number x)) same
