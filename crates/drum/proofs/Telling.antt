-- Numbers stored one by one are told as far as there are places; and what a share's answer tells. Assumes nothing.
use Rattle.std.proofs.Common.{◌≡◌, refl, ap, ℕ, zero, suc, ◌<◌, arith, List, [], ◌∷◌, set, length, take, get_or}
use Rattle.std.proofs.Math.Seq.{take-nil}
use Rattle.refusal.specs.Base.{Answer}
use Rattle.share.specs.Share.{answer_of}
use Rattle.share.specs.declared.ShareAnswer.{ShareAnswer}
use Rattle.share.specs.declared.ShareAnswer.TheVariants.{Given, Refused}
use Rattle.drum.specs.Numbers.{numbers, of_none, told}

pub told-none : (old : List ℕ) → old ≡ told [] old
unfolding told
told-none old = rw (take-nil (length old)) refl

-- where there is no place, nothing is stored
pub told-more : (ns old : List ℕ) (i : ℕ) → i < length ns → set (told (take i ns) old) i (get_or ns i 0) ≡ told (take (suc i) ns) old
unfolding told
told-more [] old i h = absurd (omega arith)
told-more (n ∷ ns) [] zero h = refl
told-more (n ∷ ns) [] (suc i) h = refl
told-more (n ∷ ns) (o ∷ old) zero h = ap (λ (s : List ℕ). n ∷ s) (told-none old)
told-more (n ∷ ns) (o ∷ old) (suc i) h = ap (λ (s : List ℕ). n ∷ s) (told-more ns old i (omega arith))

-- a share's answer has no numbers
pub share-told : (a : ShareAnswer) (ns : List ℕ) {x : Answer (List ℕ)} → answer_of a ns ≡ x → numbers of_none (answer_of a []) ≡ numbers of_none x
unfolding numbers of_none
share-told Given ns e = ap (numbers of_none) e
share-told (Refused r) ns e = ap (numbers of_none) e
