use Rattle.std.proofs.Common.{◌≡◌, ◌+◌, ◌-◌, ◌≤◌, ℕ, List, length, ◌∙◌, arith, rules}
use Rattle.std.proofs.lemmas.List.Edits.{sets}
use Rattle.std.proofs.Math.Seq.{length-sets}
use borrow.Rule.Slice.PartMut.{put_mid}
use Rattle.item.specs.Encode.{le, head}
use Rattle.item.proofs.Runs.{sets-append}
use Rattle.item.proofs.Parts.{put_part, le_2, le_4}
use Rattle.item.proofs.put_header.Goals as goal

-- four bytes, and two behind them
two-parts : (l a b : List ℕ) (at size kind i j : ℕ) → a ≡ le 4 size → b ≡ le 2 kind → i ≡ at + 4 → j ≡ at + 6 → j ≤ length l
    → put_mid i (j - i) (put_mid at (i - at) l a) b ≡ sets l at (head kind size)
unfolding head le
two-parts l a b at size kind i j e f p q h =
    let k : i - at ≡ 4 = omega (arith, p) in
    let m : j - i ≡ 2 = omega (arith, p, q) in
    let first : put_mid at (i - at) l a ≡ sets l at (le 4 size) = rw (e, k) (put_part l (le 4 size) at 4 (search rules) (omega (arith, p, q))) in
    rw (first, f, m, p) (put_part (sets l at (le 4 size)) (le 2 kind) (at + 4) 2 (search rules) (rw (length-sets l at (le 4 size)) (omega (arith, p, q))) ∙ sets-append (le 4 size) (le 2 kind) l at)

pub returns : goal.returns
returns c =
    let a = c.args in
    two-parts a.out.now _ _ a.at a.size a.kind _ _ (c.copy_from_slice.ensures.after ∙ c.to_le_bytes.ensures ∙ le_4 a.size) (c.copy_from_slice-2.ensures.after ∙ c.to_le_bytes-2.ensures ∙ le_2 a.kind) (search rules) (search rules) (search rules)
