-- What a header tells: the places of an item, whatever stands there, and that it is none. Assumes nothing.
use Rattle.std.proofs.Common.{◌≡◌, refl, sym, ap, ◌∙◌, subst, ℕ, ◌+◌, ◌-◌, ◌≤◌, List, Bool, true, false, Result, Ok, Err, length, take, drop, arith, ltb, ltb-true, ltb-false}
use Rattle.std.proofs.Math.Option.{none, some}
use Rattle.item.specs.Encode.{number}
use Rattle.item.specs.Decode.{header}
use Rattle.item.specs.Places.{header_at}
use Rattle.item.proofs.HeaderPlaces.{found, at_cut, at_past, at_item, header-places}
use Rattle.item.specs.declared.Item.{Item}
use Rattle.item.specs.declared.Broken.{Broken}

-- ---- an item

-- where the item at a place begins and ends
pub record Spans (s : List ℕ) (at from to : ℕ) : Type 0 where
  pub start : from ≡ at + 6
  pub order : from ≤ to
  pub fits : to ≤ length s

-- the same of what a header says
abbrev pub SpansAt : List ℕ → ℕ → Result Item Broken → Type 0
SpansAt s at (Ok item) = Spans s at item.from item.to
SpansAt s at (Err broken) = Unit {0}

pub spans_at : (s : List ℕ) (at : ℕ) → SpansAt s at (header_at s at)
spans_at s at = go (ltb (length s) (at + 6)) refl
  where
    n : ℕ
    n = number (take 4 (drop at s))

    whole : at + 6 ≤ length s → (t : Bool) → ltb (length s) (at + 6 + n) ≡ t → SpansAt s at (header_at s at)
    whole g true e = rw (at_past s at n g refl (ltb-true _ _ e)) tt
    whole g false e =
        let i : at + 6 + n ≤ length s = ltb-false _ _ e in
        rw (at_item s at n g refl _ refl i) (record { start = refl; order = omega arith; fits = omega arith })

    go : (t : Bool) → ltb (length s) (at + 6) ≡ t → SpansAt s at (header_at s at)
    go true e = rw (at_cut s at (ltb-true _ _ e)) tt
    go false e = whole (ltb-false _ _ e) (ltb (length s) (at + 6 + n)) refl

pub spans : (s : List ℕ) (at : ℕ) {item : Item} → Ok item ≡ header_at s at → Spans s at item.from item.to
spans s at h = subst (λ r. SpansAt s at r) (sym h) (spans_at s at)

pub header-item : (s : List ℕ) (at : ℕ) {item : Item} → Ok item ≡ header_at s at
    → header (drop at s) ≡ some (item.kind, take (item.to - item.from) (drop item.from s), drop item.to s)
unfolding found
header-item s at h = header-places s at ∙ ap (found s) (sym h)

-- ---- no item

pub no_header : (s : List ℕ) (at : ℕ) {broken : Broken} → Err broken ≡ header_at s at → header (drop at s) ≡ none
unfolding found
no_header s at e = header-places s at ∙ ap (found s) (sym e)
