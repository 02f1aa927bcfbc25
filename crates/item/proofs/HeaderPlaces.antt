-- The items at places, by what stands there, and what that tells of the decoder's header. Assumes nothing.
use Rattle.std.proofs.Common.{◌≡◌, refl, sym, ap, ◌∙◌, ℕ, suc, ◌+◌, ◌-◌, ◌*◌, ◌≤◌, ◌<◌, ◌^◌, arith, List, ◌∷◌, ◌++◌, append_assoc, Bool, true, false, ltb, length, take, drop, get_or, length-drop, length-append, drop-cons, drop-drop, lt-ltb, le-ltb, le-leb, ltb-true, ltb-false}
use Rattle.std.proofs.lemmas.Bool.{lt-leb}
use Rattle.std.proofs.Math.Numerals.{towards_suc}
use Rattle.std.proofs.Math.Option.{Option, none, some}
use Rattle.item.specs.Encode.{number, head, item}
use Rattle.item.specs.Decode.{header}
use Rattle.item.proofs.Size.{head-length}
use Rattle.item.proofs.RoundTrip.{head-size, head-kind}
use Rattle.std.specs.Prelude.{Result, Ok, Err}
use Rattle.item.specs.declared.Item.{Item}
use Rattle.item.specs.declared.Broken.{Broken}
use Rattle.item.specs.declared.Broken.TheVariants.{Cut, PastEnd}
use Rattle.item.specs.Places.{header_at}

-- ---- numbers at places

pub take_next : (s : List ℕ) (i k : ℕ) → i < length s → take (suc k) (drop i s) ≡ get_or s i 0 ∷ take k (drop (suc i) s)
take_next s i k h = rw (drop-cons s i 0 h)

module _ (s : List ℕ) (i : ℕ) where
  pub two_at : i + 2 ≤ length s → number (take 2 (drop i s)) ≡ get_or s i 0 + 256 * get_or s (i + 1) 0
  unfolding number
  two_at h = simp towards_suc (rw (take_next s i 1 (omega arith), take_next s (suc i) 0 (omega arith)) (omega arith))

  pub four_at : i + 4 ≤ length s
      → number (take 4 (drop i s)) ≡ get_or s i 0 + 256 * get_or s (i + 1) 0 + 65536 * get_or s (i + 2) 0 + 2 ^ 24 * get_or s (i + 3) 0
  unfolding number
  four_at h =
      simp towards_suc
      (rw (take_next s i 3 (omega arith), take_next s (suc i) 2 (omega arith), take_next s (suc (suc i)) 1 (omega arith), take_next s (suc (suc (suc i))) 0 (omega arith)) (omega arith))

-- ---- the three cases

module _ (s : List ℕ) (at : ℕ) where
  pub at_cut : length s < at + 6 → header_at s at ≡ Err Cut
  unfolding header_at
  at_cut h = rw (lt-ltb (length s) (at + 6) h)

  module _ (n : ℕ) (h : at + 6 ≤ length s) (e : number (take 4 (drop at s)) ≡ n) where
    pub at_past : length s < at + 6 + n → header_at s at ≡ Err PastEnd
    unfolding header_at
    at_past m = rw (le-ltb (length s) (at + 6) h, e, lt-ltb (length s) (at + 6 + n) m)

    pub at_item : (k : ℕ) → number (take 2 (drop (at + 4) s)) ≡ k → at + 6 + n ≤ length s → header_at s at ≡ Ok (record { kind = k; from = at + 6; to = at + 6 + n })
    unfolding header_at
    at_item k f m = rw (le-ltb (length s) (at + 6) h, e, f, le-ltb (length s) (at + 6 + n) m)

-- what a written item looks like from its place
pub item-at : (s : List ℕ) (at k : ℕ) (c r : List ℕ) → k < 256 ^ 2 → length c < 256 ^ 4 → at ≤ length s → drop at s ≡ item k c ++ r
    → header_at s at ≡ Ok (record { kind = k; from = at + 6; to = at + 6 + length c })
unfolding item
item-at s at k c r hk hc ha e =
    let w : drop at s ≡ head k (length c) ++ (c ++ r) = e ∙ append_assoc (head k (length c)) c r in
    let long : length s - at ≡ 6 + (length c + length r) = sym (length-drop at s) ∙ ap length w ∙ simp (length-append, head-length) in
    at_item s at (length c) (omega arith) (ap (λ (l : List ℕ). number (take 4 l)) w ∙ head-size k (length c) (c ++ r) hk hc)
    k (ap (λ (l : List ℕ). number (take 2 l)) (sym (drop-drop 4 at s) ∙ ap (drop 4) w) ∙ head-kind k (length c) (c ++ r) hk hc) (omega arith)

-- what the decoder's header finds, by places
unfoldable pub found : List ℕ → Result Item Broken → Option (ℕ × List ℕ × List ℕ)
found s (Ok item) = some (item.kind, take (item.to - item.from) (drop item.from s), drop item.to s)
found s (Err broken) = none

pub header-places : (s : List ℕ) (at : ℕ) → header (drop at s) ≡ found s (header_at s at)
unfolding header found
header-places s at = go (ltb (length s) (at + 6)) refl
  where
    n : ℕ
    n = number (take 4 (drop at s))

    m : ℕ
    m = length (drop at s)

    long : m ≡ length s - at
    long = length-drop at s

    whole : at + 6 ≤ length s → (t : Bool) → ltb (length s) (at + 6 + n) ≡ t → header (drop at s) ≡ found s (header_at s at)
    whole h true e =
        let i : length s < at + 6 + n = ltb-true _ _ e in
        rw (at_past s at n h refl i, le-leb 6 m (omega (arith, long)), lt-leb n (m - 6) (omega (arith, long)))
    whole h false e =
        let i : at + 6 + n ≤ length s = ltb-false _ _ e in
        let j : at + 6 + n - (at + 6) ≡ n = omega arith in
        rw (
          at_item s at n h refl (number (take 2 (drop (at + 4) s))) refl i,
          le-leb 6 m (omega (arith, long)),
          le-leb n (m - 6) (omega (arith, long)),
          drop-drop 4 at s,
          drop-drop 6 at s,
          drop-drop n (at + 6) s,
          j,
        )

    go : (t : Bool) → ltb (length s) (at + 6) ≡ t → header (drop at s) ≡ found s (header_at s at)
    go true e = let i : length s < at + 6 = ltb-true _ _ e in rw (at_cut s at i, lt-leb 6 m (omega (arith, long)))
    go false e = whole (ltb-false _ _ e) (ltb (length s) (at + 6 + n)) refl
