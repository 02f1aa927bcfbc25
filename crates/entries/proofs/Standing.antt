-- What stands at places of bytes: its parts, and what the headers there say. Assumes nothing.
use Rattle.std.proofs.Common.{◌≡◌, refl, sym, ap, ◌∙◌, subst, ℕ, suc, ◌+◌, ◌-◌, ◌≤◌, ◌<◌, ◌^◌, arith, List, [], ◌∷◌, ◌++◌, append_assoc, length, take, drop, get_or, length-append, take_at, drop_at, drop-drop, drop-cons}
use Rattle.item.specs.Tree.{Yaml, null, bool, int, str, seq, dict}
use Rattle.item.specs.Encode.{head, item, encode, kind_of}
use Rattle.item.proofs.Size.{head-length, item-length}
use Rattle.item.specs.Places.{header_at}
use Rattle.item.proofs.HeaderPlaces.{item-at}
use Rattle.item.specs.declared.Item.{Item}
use Rattle.std.specs.Prelude.{Ok}
use Rattle.entries.specs.Entries.{Stands, content}

-- ---- parts

module _ {s : List ℕ} {p : ℕ} (a b : List ℕ) (st : Stands s p (a ++ b)) where
  pub stands-left : Stands s p a
  stands-left = record {
    rest = b ++ st.rest;
    here = st.here ∙ append_assoc a b st.rest;
    within = omega (arith, length-append a b, st.within);
  }

  pub stands-right : Stands s (p + length a) b
  stands-right = record {
    rest = st.rest;
    here = sym (drop-drop (length a) p s) ∙ ap (drop (length a)) (st.here ∙ append_assoc a b st.rest) ∙ drop_at a (b ++ st.rest) (length a) refl;
    within = omega (arith, length-append a b, st.within);
  }

pub stands-is : {s a b : List ℕ} {p : ℕ} → a ≡ b → Stands s p a → Stands s p b
stands-is {s} {p = p} e h = subst (Stands s p) e h

pub stands_at : {s a : List ℕ} {p q : ℕ} → p ≡ q → Stands s p a → Stands s q a
stands_at {s} {a} e h = subst (λ (i : ℕ). Stands s i a) e h

pub stands-part : {s a : List ℕ} {p : ℕ} → Stands s p a → (n : ℕ) → n ≡ length a → take n (drop p s) ≡ a
stands-part {s} {a} h n e = ap (take n) h.here ∙ take_at a h.rest n (sym e)

pub stands-byte : {s : List ℕ} {p n : ℕ} → Stands s p (n ∷ []) → get_or s p 0 ≡ n
stands-byte {s} {p} {n} h =
    let e : get_or s p 0 ∷ drop (suc p) s ≡ n ∷ h.rest = sym (drop-cons s p 0 (omega (arith, h.within))) ∙ h.here in
    cc

-- ---- items

pub item-head : {s : List ℕ} {p : ℕ} (kind : ℕ) (c : List ℕ) → kind < 256 ^ 2 → length s ≤ 2 ^ 20 → Stands s p (item kind c) → header_at s p ≡ Ok (record { kind = kind; from = p + 6; to = p + 6 + length c })
item-head {s} {p} kind c small w st = item-at s p kind c st.rest small (omega (arith, st.within, item-length kind c)) (omega (arith, st.within)) st.here

pub item-content : {s : List ℕ} {p : ℕ} (kind : ℕ) (c : List ℕ) → Stands s p (item kind c) → Stands s (p + 6) c
unfolding item
item-content {s} {p} kind c st = stands_at (ap (λ (n : ℕ). p + n) (head-length kind (length c))) (stands-right (head kind (length c)) c st)

-- ---- values

pub value-item : (v : Yaml) → encode v ≡ item (kind_of v) (content v)
unfolding encode content kind_of
value-item null = refl
value-item (bool b) = refl
value-item (int z) = refl
value-item (str t) = refl
value-item (seq ys) = refl
value-item (dict es) = refl

pub kind-small : (v : Yaml) → kind_of v < 256 ^ 2
unfolding kind_of
kind-small null = omega arith
kind-small (bool b) = omega arith
kind-small (int z) = omega arith
kind-small (str t) = omega arith
kind-small (seq ys) = omega arith
kind-small (dict es) = omega arith

pub value-size : (v : Yaml) → length (encode v) ≡ 6 + length (content v)
value-size v = ap length (value-item v) ∙ item-length (kind_of v) (content v)

pub value-head : {s : List ℕ} {p : ℕ} (v : Yaml) → length s ≤ 2 ^ 20 → Stands s p (encode v) → header_at s p ≡ Ok (record { kind = kind_of v; from = p + 6; to = p + length (encode v) })
value-head {s} {p} v w st =
    let n : p + 6 + length (content v) ≡ p + length (encode v) = omega (arith, value-size v) in
    item-head (kind_of v) (content v) (kind-small v) w (stands-is (value-item v) st) ∙ ap (λ (i : ℕ). Ok (record { kind = kind_of v; from = p + 6; to = i })) n

-- a value, by what the header at its place says
pub record Valued (s : List ℕ) (p : ℕ) (v : Yaml) (kind from to : ℕ) : Type 0 where
  pub kind_is : kind ≡ kind_of v
  pub start : from ≡ p + 6
  pub end : to ≡ p + length (encode v)
  pub inside : Stands s from (content v)
  pub ends : to ≡ from + length (content v)
  pub part_is : take (to - from) (drop from s) ≡ content v

pub valued : {s : List ℕ} {p : ℕ} {item : Item} → Ok item ≡ header_at s p → (v : Yaml) → length s ≤ 2 ^ 20 → Stands s p (encode v) → Valued s p v item.kind item.from item.to
valued {s} {p} {item} h v w st =
    let e : Ok item ≡ Ok (record { kind = kind_of v; from = p + 6; to = p + length (encode v) }) = h ∙ value-head v w st in
    let a : item.from ≡ p + 6 = cc e in
    let b : item.to ≡ p + length (encode v) = cc e in
    let i : Stands s item.from (content v) = stands_at (sym a) (item-content (kind_of v) (content v) (stands-is (value-item v) st)) in
    record {
      kind_is = cc e;
      start = a;
      end = b;
      inside = i;
      ends = omega (arith, a, b, value-size v);
      part_is = stands-part i (item.to - item.from) (omega (arith, a, b, value-size v));
    }
