-- Runs of stores: `sets l i vs` is `vs` stored from the index i on.
--     sets-append     a run, and then a run right behind it, is one run
--     sets-before     a run, and then a run right before it, is one run
--     sets-next       a run of a list's front, and then its next element, is a run of the longer front
--     sets_item       a header, and then its content behind it, is the item
-- None of the first three asks that the run lies within the list. Assumes nothing.
use Rattle.std.proofs.Common.{◌≡◌, refl, sym, ap, ◌∙◌, List, [], ◌∷◌, ◌++◌, ℕ, suc, ◌+◌, ◌≤◌, ◌<◌, add-zero, add-suc, suc-add, add-one, arith, length, set, take, get_or, take-suc, length-take-le}
use Rattle.std.proofs.lemmas.List.Edits.{sets}
use Rattle.std.proofs.lemmas.List.{set_comm}
use Rattle.item.specs.Encode.{head, item}
use Rattle.item.proofs.Size.{head-length}

pub sets-append : (xs ys l : List ℕ) (i : ℕ) → sets (sets l i xs) (i + length xs) ys ≡ sets l i (xs ++ ys)
sets-append [] ys l i = rw add-zero
sets-append (x ∷ xs) ys l i = rw (add-suc, ← suc-add i (length xs)) (sets-append xs ys (set l i x) (suc i))

set_past : (hs l : List ℕ) (i j y : ℕ) → i + length hs ≤ j → set (sets l i hs) j y ≡ sets (set l j y) i hs
set_past [] l i j y h = refl
set_past (x ∷ hs) l i j y h =
    set_past hs (set l i x) (suc i) j y (omega arith)
    ∙ ap (λ (k : List ℕ). sets k (suc i) hs) (set_comm l i j x y (λ e. omega arith))

sets-past : (ys hs l : List ℕ) (i j : ℕ) → i + length hs ≤ j → sets (sets l j ys) i hs ≡ sets (sets l i hs) j ys
sets-past [] hs l i j h = refl
sets-past (y ∷ ys) hs l i j h =
    sets-past ys hs (set l j y) i (suc j) (omega arith)
    ∙ ap (λ (k : List ℕ). sets k (suc j) ys) (sym (set_past hs l i j y h))

pub sets-before : (hs ys l : List ℕ) (i : ℕ) → sets (sets l (i + length hs) ys) i hs ≡ sets l i (hs ++ ys)
sets-before hs ys l i = sets-past ys hs l i (i + length hs) (omega arith) ∙ sets-append hs ys l i

pub sets-next : (l s : List ℕ) (at i : ℕ) → i < length s → set (sets l at (take i s)) (at + i) (get_or s i 0) ≡ sets l at (take (i + 1) s)
sets-next l s at i h =
    ap (λ (n : ℕ). set (sets l at (take i s)) (at + n) (get_or s i 0)) (sym (length-take-le i s (omega arith)))
    ∙ sets-append (take i s) (get_or s i 0 ∷ []) l at
    ∙ rw (add-one, take-suc s i 0 h)

pub sets_item : (l : List ℕ) (at k : ℕ) (c : List ℕ) → sets (sets l at (head k (length c))) (at + 6) c ≡ sets l at (item k c)
unfolding item
sets_item l at k c =
    ap (λ (n : ℕ). sets (sets l at (head k (length c))) (at + n) c) (sym (head-length k (length c)))
    ∙ sets-append (head k (length c)) c l at
