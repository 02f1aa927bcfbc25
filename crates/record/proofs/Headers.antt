-- What a header says of a field or an item, and parts by their places. Assumes nothing.
use Rattle.std.specs.Prelude.{if◌then◌else◌}
use Rattle.std.proofs.lemmas.Bool.{eqb-false, lt-leb}
use Rattle.std.proofs.Math.Option.{none}
use Rattle.item.specs.Decode.{◌>>=◌, header}
use Rattle.item.specs.Places.{header_at}
use Rattle.std.specs.Prelude.{Ok, Option as StdOption, None, Some, slice_range, ◌⊎◌, unwrap_or}
use Rattle.std.proofs.Common.{Bor, MatchOption, inl, inr, ◌≡◌, refl, sym, ◌∙◌, ℕ, ◌+◌, ◌-◌, ◌≤◌, ◌<◌, arith, List, [], Bool, true, false, ◌&&◌, eqb, leb, length, take, drop, eq-eqb, ne_eqb, eqb-true, le-leb}
use Rattle.std.specs.Bool.{then_some}
use Rattle.item.specs.declared.Item.{Item}
use Rattle.item.proofs.Headers.{spans, header-item}
pub use Rattle.value.proofs.Headers.{is-ok, is-err}
use Rattle.record.specs.Read.{content}
use Rattle.record.specs.Jobs.{part_of}
use Rattle.record.specs.Contract.{ItemAt, ItemEnds}

-- ---- the item at a place

pub no-content-at : (k : ℕ) (s : List ℕ) (at : ℕ) → header (drop at s) ≡ none → content k (drop at s) ≡ none
unfolding content ◌>>=◌
no-content-at k s at h = rw h

module _ (k : ℕ) (s : List ℕ) (at : ℕ) {item : Item} (h : Ok item ≡ header_at s at) where
  pub content-here : item.kind ≡ k → ItemAt k s at item.to
  unfolding content ◌>>=◌
  content-here e =
      let i = spans s at h in
      record {
        is = rw (header-item s at h, eq-eqb item.kind k e, i.start);
        forward = omega (arith, i.start, i.order);
        fits = i.fits;
      }

  pub content-other : (item.kind ≡ k → ⊥) → content k (drop at s) ≡ none
  unfolding content ◌>>=◌
  content-other n = rw (header-item s at h, ne_eqb item.kind k n)

  pub item_ends : (b : Bool) → b ≡ eqb item.kind k → ItemEnds k s at (then_some b item.to)
  item_ends true e = content-here (eqb-true item.kind k (sym e))
  item_ends false e = content-other (eqb-false item.kind k (sym e))

pub no_item_ends : (k : ℕ) (s : List ℕ) (at : ℕ) → header (drop at s) ≡ none → ItemEnds k s at None
no_item_ends k s at h = no-content-at k s at h

-- ---- a part

module _ (b : List ℕ) (start end : ℕ) where
  pub part-past : length b < end → part_of b start end ≡ []
  unfolding part_of
  part-past h = rw (lt-leb end (length b) h) (go (leb start end))
    where
      go : (t : Bool) → (if t && false then take (end - start) (drop start b) else []) ≡ []
      go true = refl
      go false = refl

  pub part_turned : end < start → part_of b start end ≡ []
  unfolding part_of
  part_turned h = rw (lt-leb start end h)

  pub part-inside : start ≤ end → end ≤ length b → part_of b start end ≡ take (end - start) (drop start b)
  unfolding part_of
  part-inside h k = rw (le-leb start end h, le-leb end (length b) k)

  -- what `get` gives, or the empty part
  pub part_got : (o : StdOption (Bor (List ℕ))) (other : Bor (List ℕ)) → other.now ≡ []
      → MatchOption o ((end < start) ⊎ (length b < end)) (λ x. (start ≤ end) × (end ≤ length b) × (x.now ≡ slice_range b start end) × (length x.now + start ≡ end))
      → (unwrap_or o other).now ≡ part_of b start end
  part_got None other e (inl h) = e ∙ sym (part_turned h)
  part_got None other e (inr h) = e ∙ sym (part-past h)
  part_got (Some x) other e m = m.2 ∙ sym (part-inside m.0 m.1)
