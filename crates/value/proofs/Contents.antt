-- The content of each kind, and the item around it. Assumes nothing.
use Rattle.std.specs.Prelude.{if◌then◌else◌}
use Rattle.std.proofs.Common.{◌≡◌, refl, sym, ◌∙◌, subst, ℕ, zero, suc, ◌-◌, ◌^◌, ◌≤◌, ◌<◌, arith, List, [], ◌∷◌, Bool, true, false, ltb, eqb, length, get_or, pos, negsuc, lt-ltb, le-ltb, ne_eqb, ltb-true, ltb-false, eqb-true}
use Rattle.std.proofs.Math.Option.{Option, none, some}
use lib.Signed.{mag}
use Rattle.refusal.specs.Base.{maybe}
use Rattle.utf8.specs.Utf8.{is_utf8}
use Rattle.item.specs.Tree.{Yaml, Items, Entries, int, seq, dict}
use Rattle.item.specs.Encode.{number, Bytes}
use Rattle.item.specs.Decode.{◌>>=◌, header, nothing, unflag, untwos, unint, decode_items, decode_entries, content_of, node, decode}
use Rattle.item.proofs.Exact.{number_small}
use Rattle.meaning.specs.Sound.{sound}
use Rattle.value.specs.Tree.{tree, inside, accepts, accepts_items, accepts_entries}

-- ---- scalars

pub null_content : (l : ℕ) (s : List ℕ) → accepts l 0 s ≡ eqb (length s) 0
unfolding accepts content_of nothing sound maybe
null_content l [] = refl
null_content l (b ∷ s) = sym (ne_eqb (suc (length s)) 0 (λ e. omega arith))

pub flag_content : (l : ℕ) (s : List ℕ) → accepts l 1 s ≡ accepts 0 1 s
unfolding accepts content_of
flag_content l s = refl

pub flag_size : (s : List ℕ) → (length s ≡ 1 → ⊥) → accepts 0 1 s ≡ false
unfolding accepts content_of unflag nothing maybe ◌>>=◌
flag_size [] h = refl
flag_size (b ∷ []) h = absurd (h refl)
flag_size (zero ∷ c ∷ s) h = refl
flag_size (suc zero ∷ c ∷ s) h = refl
flag_size (suc (suc b) ∷ c ∷ s) h = refl

pub flag_byte : (s : List ℕ) → length s ≡ 1 → accepts 0 1 s ≡ ltb (get_or s 0 0) 2
unfolding accepts content_of unflag nothing sound maybe ◌>>=◌
flag_byte [] h = absurd (omega arith)
flag_byte (zero ∷ []) h = refl
flag_byte (suc zero ∷ []) h = refl
flag_byte (suc (suc b) ∷ []) h = sym (le-ltb (suc (suc b)) 2 (omega arith))
flag_byte (b ∷ c ∷ s) h = absurd (omega arith)

untwos-small : (n : ℕ) → n < 256 ^ 8 → mag (untwos n) < 2 ^ 63
unfolding untwos
untwos-small n h = go (ltb n (2 ^ 63)) refl
  where
    go : (t : Bool) → ltb n (2 ^ 63) ≡ t → mag (if t then pos n else negsuc (0xffff_ffff_ffff_ffff - n)) < 2 ^ 63
    go true e = ltb-true _ _ e
    go false e = let i : 2 ^ 63 ≤ n = ltb-false _ _ e in omega arith

pub int_content : (l : ℕ) (s : List ℕ) → Bytes s → accepts l 2 s ≡ eqb (length s) 8
unfolding accepts content_of unint sound maybe ◌>>=◌
int_content l s b = go (eqb (length s) 8) refl
  where
    go : (t : Bool) → eqb (length s) 8 ≡ t → maybe ((if t then some (untwos (number s)) else none) >>= λ z. some (int z)) false sound ≡ t
    go true e =
        let n : length s ≡ 8 = eqb-true (length s) 8 e in
        lt-ltb (mag (untwos (number s))) (2 ^ 63) (untwos-small (number s) (subst (λ (k : ℕ). number s < 256 ^ k) n (number_small s b)))
    go false e = refl

pub string_content : (l : ℕ) (s : List ℕ) → accepts l 3 s ≡ is_utf8 s
unfolding accepts content_of sound maybe
string_content l s = refl

-- ---- collections

sound-items : (o : Option Items) → maybe (o >>= λ ys. some (seq ys)) false sound ≡ maybe o false sound
unfolding maybe ◌>>=◌ sound
sound-items none = refl
sound-items (some ys) = refl

sound-entries : (o : Option Entries) → maybe (o >>= λ es. some (dict es)) false sound ≡ maybe o false sound
unfolding maybe ◌>>=◌ sound
sound-entries none = refl
sound-entries (some es) = refl

pub sequence_content : (l m : ℕ) (s : List ℕ) → l ≡ suc m → accepts l 4 s ≡ accepts_items m s
unfolding accepts accepts_items content_of inside ◌>>=◌
sequence_content l m s h = rw h (sound-items (decode_items (λ r. decode m r) (length s) s))

pub mapping_content : (l m : ℕ) (s : List ℕ) → l ≡ suc m → accepts l 5 s ≡ accepts_entries m s
unfolding accepts accepts_entries content_of inside ◌>>=◌
mapping_content l m s h = rw h (sound-entries (decode_entries (λ r. decode m r) (length s) s))

-- no level is left, or there is no such kind
pub too_deep : (k : ℕ) (s : List ℕ) → 4 ≤ k → accepts 0 k s ≡ false
unfolding accepts content_of inside maybe ◌>>=◌
too_deep k s h = rw (other k 0 (omega arith), other k 1 (omega arith), other k 2 (omega arith), other k 3 (omega arith)) (go (eqb k 4) (eqb k 5))
  where
    other : (a b : ℕ) → b < a → eqb a b ≡ false
    other a b h = ne_eqb a b (λ e. omega arith)

    go : (t u : Bool) → maybe (if t then none else if u then none else none) false (λ (y : Yaml). sound y) ≡ false
    go true u = refl
    go false true = refl
    go false false = refl

pub no_kind : (l k : ℕ) (s : List ℕ) → 5 < k → accepts l k s ≡ false
unfolding accepts content_of maybe
no_kind l k s h =
    rw (other 0 (omega arith), other 1 (omega arith), other 2 (omega arith), other 3 (omega arith), other 4 (omega arith), other 5 (omega arith))
  where
    other : (b : ℕ) → b < k → eqb k b ≡ false
    other b h = ne_eqb k b (λ e. omega arith)

-- ---- the item around a content

pub decode-node : (l : ℕ) (bs : List ℕ) → decode l bs ≡ node (inside l) bs
unfolding decode inside
decode-node zero bs = refl
decode-node (suc l) bs = refl

-- a tree that was read, by the header of its item
pub record Tree (l : ℕ) (bs rest : List ℕ) : Type 0 where
  pub value : Yaml
  pub is : tree l bs ≡ some (value, rest)

module _ (l : ℕ) (bs : List ℕ) where
  pub no_header : header bs ≡ none → tree l bs ≡ none
  unfolding tree node ◌>>=◌
  no_header e = rw (decode-node l bs, e)

  module _ (k : ℕ) (c rest : List ℕ) (e : header bs ≡ some (k, c, rest)) where
    is-node : tree l bs ≡ (content_of (inside l) k c >>= λ y. some (y, rest)) >>= λ (x : Yaml × List ℕ). if sound x.0 then some x else none
    unfolding tree node ◌>>=◌
    is-node = rw (decode-node l bs, e)

    pub content-refused : accepts l k c ≡ false → tree l bs ≡ none
    unfolding accepts maybe ◌>>=◌
    content-refused h = is-node ∙ go (content_of (inside l) k c) h
      where
        go : (o : Option Yaml) → maybe o false sound ≡ false → (o >>= λ y. some (y, rest)) >>= (λ (x : Yaml × List ℕ). if sound x.0 then some x else none) ≡ none
        go none h = refl
        go (some y) h = rw h

    pub content-taken : accepts l k c ≡ true → Tree l bs rest
    unfolding accepts maybe ◌>>=◌
    content-taken h = go (content_of (inside l) k c) refl h
      where
        go : (o : Option Yaml) → content_of (inside l) k c ≡ o → maybe o false sound ≡ true → Tree l bs rest
        go none p h = absurd (let z : ◌≡◌ {A = Bool} false true = h in let n : ◌≡◌ {A = ℕ} 0 1 = cc in omega arith)
        go (some y) p h = record { value = y; is = is-node ∙ rw (p, h) }
