-- Parts that are written and read at once: a part of a buffer that is overwritten is a run of stores, and std's bytes of a number are the
-- definition's. Assumes nothing.
use Rattle.std.proofs.Common.{◌≡◌, ℕ, ◌+◌, ◌≤◌, List, length, take, refl, sym, ◌∙◌, append_assoc, arith, drop-drop}
use Rattle.std.specs.Int.{to_le_bytes, w16, w32, w64}
use Rattle.std.proofs.lemmas.List.Edits.{sets, sets-eq}
use borrow.Rule.Slice.PartMut.{put_mid}
use Rattle.std.proofs.Math.Nat.{div-div-eq-div-mul}
use Rattle.item.specs.Encode.{le}

pub put_part : (l bs : List ℕ) (at k : ℕ) → k ≡ length bs → at + k ≤ length l → put_mid at k l bs ≡ sets l at bs
put_part l bs at k e h = rw (drop-drop k at l, e) (sym (sets-eq bs l at (omega (arith, e)) ∙ append_assoc (take at l) bs _))

pub le_2 : (n : ℕ) → to_le_bytes w16 n ≡ le 2 n
unfolding le
le_2 n = refl

pub le_4 : (n : ℕ) → to_le_bytes w32 n ≡ le 4 n
unfolding le
le_4 n = simp div-div-eq-div-mul

pub le_8 : (n : ℕ) → to_le_bytes w64 n ≡ le 8 n
unfolding le
le_8 n = simp div-div-eq-div-mul
