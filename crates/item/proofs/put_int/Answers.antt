use Rattle.std.proofs.Common.{◌≡◌, ◌+◌, ◌-◌, ◌≤◌, ℕ, List, length, ◌∙◌, arith, rules}
use Rattle.std.proofs.lemmas.List.Edits.{sets}
use Rattle.std.proofs.Math.Seq.{length-sets}
use borrow.Rule.Slice.PartMut.{put_mid}
use Rattle.item.specs.Encode.{le, head, item, encode}
use Rattle.item.proofs.Runs.{sets_item}
use Rattle.item.proofs.Parts.{put_part, le_8}
use Rattle.item.proofs.put_int.Goals as goal

-- eight bytes behind their header
word-part : (l out b : List ℕ) (at z i j : ℕ) → out ≡ sets l at (head 2 8) → b ≡ le 8 z → i ≡ at + 6 → j ≡ at + 14 → j ≤ length l
    → put_mid i (j - i) out b ≡ sets l at (item 2 (le 8 z))
unfolding le
word-part l out b at z i j o e p q h =
    let m : j - i ≡ 8 = omega (arith, p, q) in
    rw (o, e, m, p) (put_part (sets l at (head 2 8)) (le 8 z) (at + 6) 8 (search rules) (rw (length-sets l at (head 2 8)) (omega (arith, p, q))) ∙ sets_item l at 2 (le 8 z))

pub returns : goal.returns
unfolding encode
returns c =
    let a = c.args in
    word-part a.out.now _ _ a.at _ _ _ c.put_header.ensures (c.copy_from_slice.ensures.after ∙ rw c.twos_complement.ensures at (c.to_le_bytes.ensures ∙ le_8 _)) (search rules) (search rules) (search rules)
