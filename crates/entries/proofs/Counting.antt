-- The n-th item, by the headers before it. Assumes nothing.
use Rattle.std.proofs.Common.{◌≡◌, refl, ap, ℕ, zero, suc, ◌+◌, ◌≤◌, arith, List, length}
use Rattle.std.specs.Prelude.{None, Some, Result, Ok, Err}
use Rattle.item.specs.Places.{header_at}
use Rattle.item.specs.declared.Item.{Item}
use Rattle.item.specs.declared.Broken.{Broken}
use Rattle.item.proofs.Headers.{spans}
use Rattle.entries.specs.Entries.{span_at, behind, nth_item}
use Rattle.entries.specs.declared.Span.{Span}

-- ---- one header

-- the places of an item, whatever stands there
pub record Spanned (s : List ℕ) (at start end : ℕ) : Type 0 where
  pub first : start ≡ at
  pub order : at + 6 ≤ end
  pub inside : end ≤ length s

module _ (s : List ℕ) (at : ℕ) {span : Span} (e : Some span ≡ span_at at (header_at s at)) where
  pub spanned : Spanned s at span.start span.end
  unfolding span_at
  spanned = go (header_at s at) refl e
    where
      go : (r : Result Item Broken) → r ≡ header_at s at → Some span ≡ span_at at r → Spanned s at span.start span.end
      go (Ok item) h e =
          let i = spans s at h in
          let a : span.start ≡ at = cc in
          let b : span.end ≡ item.to = cc in
          record { first = a; order = omega (arith, i.start, i.order, b); inside = omega (arith, i.fits, b) }
      go (Err broken) h e = let z : ◌≡◌ {A = ℕ} 0 1 = cc in absurd (omega arith)

  pub nth_on : (skip left : ℕ) → skip ≡ suc left → nth_item s at skip ≡ nth_item s span.end left
  unfolding nth_item span_at behind
  nth_on skip left q = rw q (go (header_at s at) e)
    where
      go : (r : Result Item Broken) → Some span ≡ span_at at r → behind r (λ to. nth_item s to left) ≡ nth_item s span.end left
      go (Ok item) e = let b : item.to ≡ span.end = cc in ap (λ (i : ℕ). nth_item s i left) b
      go (Err broken) e = let z : ◌≡◌ {A = ℕ} 0 1 = cc in absurd (omega arith)

-- ---- the n-th

pub nth_lost : (s : List ℕ) (at : ℕ) → None ≡ span_at at (header_at s at) → (skip : ℕ) → None ≡ nth_item s at skip
unfolding nth_item span_at behind
nth_lost s at h zero = h
nth_lost s at h (suc skip) = go (header_at s at) h
  where
    go : (r : Result Item Broken) → None ≡ span_at at r → None ≡ behind r (λ to. nth_item s to skip)
    go (Ok item) e = let z : ◌≡◌ {A = ℕ} 0 1 = cc in absurd (omega arith)
    go (Err broken) e = refl

-- a found item stands within the bytes
pub record Within (s : List ℕ) (start end : ℕ) : Type 0 where
  pub order : start + 6 ≤ end
  pub fits : end ≤ length s

pub nth_inside : (s : List ℕ) (skip at : ℕ) {span : Span} → Some span ≡ nth_item s at skip → Within s span.start span.end
unfolding nth_item span_at behind
nth_inside s zero at e = let i = spanned s at e in record { order = omega (arith, i.first, i.order); fits = i.inside }
nth_inside s (suc skip) at {span} e = go (header_at s at) (λ to. nth_inside s skip to {span = span}) e
  where
    go : (r : Result Item Broken) → ((to : ℕ) → Some span ≡ nth_item s to skip → Within s span.start span.end) → Some span ≡ behind r (λ to. nth_item s to skip) → Within s span.start span.end
    go (Ok item) more e = more item.to e
    go (Err broken) more e = let z : ◌≡◌ {A = ℕ} 0 1 = cc in absurd (omega arith)
