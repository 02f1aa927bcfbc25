-- Laws of scalars: what they are written as, and where plain text ends. Assumes nothing.
use Rattle.std.specs.Prelude.{if◌then◌else◌}
use Rattle.std.proofs.Common.{◌≡◌, refl, ap, ◌∙◌, ℕ, suc, ◌+◌, ◌-◌, ◌≤◌, ◌<◌, add-one, arith, List, [], ◌∷◌, Bool, true, false, ◌&&◌, length, length-drop, take, drop, get_or, drop_of_length-le, ℤ, drop-cons, drop-drop, le-leb, ne_eqb}
use Rattle.std.proofs.Math.Option.{Option, none, some}
use Rattle.std.proofs.Math.Seq.{length-sets}
use Rattle.std.proofs.lemmas.Bool.{lt-leb}
use Rattle.refusal.specs.Base.{◌>>=◌, ch, one_of}
use Rattle.refusal.specs.declared.Refusal.{Refusal}
use Rattle.item.specs.Tree.{Yaml, null, bool, int, str, seq, dict}
use Rattle.item.specs.Encode.{item, encode}
use Rattle.item.proofs.Size.{item-length, encode-size}
use Rattle.writer.specs.declared.Writer.{Writer}
use Rattle.writer.specs.Writing.{cap_of, Appends, Lacks}
use Rattle.writer.proofs.Laws.{appends_none, keeps_same}
use Rattle.utf8.specs.Part.{part}
use Rattle.utf8.specs.White.{trim}
use Rattle.utf8.specs.Places.{First}
use Rattle.utf8.proofs.Places.{counts}
use Rattle.number.specs.Integers.{integer, int_text}
use Rattle.scalar.specs.declared.Role.{Role}
use Rattle.scalar.specs.declared.Role.TheVariants.{AsValue, AsKey}
use Rattle.scalar.specs.Scalars.{nulls, trues, falses, int_or, bool_text, scalar_of}
use Rattle.scalar.specs.Read.{cost, charge, scalar, ends_item, ends_colon, stops_plain, plain_text, onto, plain}
use Rattle.scalar.specs.Contract.{written, is_key, Refuses, WroteValue}
use Rattle.scalar.specs.Code.{plain_len}

-- ---- what a scalar is written as

-- no collection
abbrev pub Flat : Yaml → Type 0
Flat null = Unit {0}
Flat (bool b) = Unit {0}
Flat (int z) = Unit {0}
Flat (str s) = Unit {0}
Flat (seq ys) = ⊥
Flat (dict es) = ⊥

-- a scalar adds to the running sum what is written of it
pub written-cost : (role : Role) (y : Yaml) → Flat y → length (written role y) ≡ cost role y
unfolding written cost
written-cost AsValue null f = encode-size null
written-cost AsValue (bool b) f = encode-size (bool b)
written-cost AsValue (int z) f = encode-size (int z)
written-cost AsValue (str s) f = encode-size (str s)
written-cost AsValue (seq ys) f = absurd f
written-cost AsValue (dict es) f = absurd f
written-cost AsKey null f = refl
written-cost AsKey (bool b) f = item-length 3 (bool_text b)
written-cost AsKey (int z) f = item-length 3 (int_text z)
written-cost AsKey (str s) f = item-length 3 s
written-cost AsKey (seq ys) f = absurd f
written-cost AsKey (dict es) f = absurd f

-- a string is written the same in both roles
pub written_text : (role : Role) (s : List ℕ) → written role (str s) ≡ item 3 s
unfolding written encode
written_text AsValue s = refl
written_text AsKey s = refl

-- a scalar whose bytes are put, or have no room, is read as the definition says
module _ (role : Role) (y : Yaml) (flat : Flat y) (s : List ℕ) (old new : Writer) (next line : ℕ) (h : next ≤ length s) where
  pub wrote_scalar : (key : Bool) → key ≡ is_key y → Appends old new (written role y)
      → WroteValue role (scalar (cap_of old) line role old.used y (drop next s)) s old new next key
  unfolding scalar charge ◌>>=◌
  wrote_scalar key k p =
      let w : length (written role y) ≡ cost role y = written-cost role y flat in
      let u : new.used ≡ old.used + cost role y = p.used ∙ ap (λ (x : ℕ). old.used + x) w in
      let m : old.used + cost role y ≤ cap_of old = omega (arith, new.within, ap length p.out, length-sets old.out.now old.used (written role y)) in
      record {
        tree = y;
        is = rw (u, le-leb (old.used + cost role y) (cap_of old) m);
        appends = p;
        forward = h;
        keyed = k;
      }

  pub refused_scalar : (e : Refusal) → Lacks old new (written role y) e → Refuses (scalar (cap_of old) line role old.used y (drop next s)) old new e
  unfolding scalar charge ◌>>=◌
  refused_scalar e p =
      let w : length (written role y) ≡ cost role y = written-cost role y flat in
      record {
        is = rw (p.is, lt-leb (old.used + cost role y) (cap_of old) (omega (arith, p.short)));
        keeps = keeps_same p.same;
      }

pub ruleset rooms = (appends_none, item-length)

pub ruleset scalars = (wrote_scalar, refused_scalar)

pub flat_scalar : (t : List ℕ) → Flat (scalar_of t)
unfolding scalar_of int_or
flat_scalar t = go (one_of t nulls) (one_of t trues) (one_of t falses) (integer t)
  where
    go : (x y z : Bool) (o : Option ℤ) → Flat (if x then null else if y then bool true else if z then bool false else int_or t o)
    go true y z o = tt
    go false true z o = tt
    go false false true o = tt
    go false false false none = tt
    go false false false (some n) = tt

-- ---- plain text

module _ (s : List ℕ) (i : ℕ) where
  pub colon_last : length s ≤ i → true ≡ ends_colon (drop i s)
  unfolding ends_colon
  colon_last h = rw (drop_of_length-le s {i = i} h)

  pub colon_space : i < length s → get_or s i 0 ≡ ch " " → true ≡ ends_colon (drop i s)
  unfolding ends_colon
  colon_space h e = rw (drop-cons s i 0 h, e)

  pub colon_other : i < length s → (get_or s i 0 ≡ ch " " → ⊥) → ends_item (get_or s i 0) ≡ ends_colon (drop i s)
  unfolding ends_colon
  colon_other h n = rw (drop-cons s i 0 h, ne_eqb (get_or s i 0) (ch " ") n)

pub ruleset colons = (colon_last, colon_space, colon_other)

module _ (s : List ℕ) (i : ℕ) where
  pub plain-none : (f : Bool) → length s ≤ i → plain_len f (drop i s) ≡ 0
  unfolding plain_len
  plain-none f h = rw (drop_of_length-le s {i = i} h)

  module _ (h : i < length s) where
    pub plain_here : stops_plain (get_or s i 0) (drop (i + 1) s) ≡ true → plain_len true (drop i s) ≡ 0
    unfolding plain_len
    plain_here e = let d : drop i s ≡ get_or s i 0 ∷ drop (i + 1) s = rw add-one (drop-cons s i 0 h) in rw (d, e)

    pub plain-on : stops_plain (get_or s i 0) (drop (i + 1) s) ≡ false → plain_len true (drop i s) ≡ suc (plain_len true (drop (i + 1) s))
    unfolding plain_len
    plain-on e = let d : drop i s ≡ get_or s i 0 ∷ drop (i + 1) s = rw add-one (drop-cons s i 0 h) in rw (d, e)

-- where plain text in a collection ends
pub plain_found : (s : List ℕ) (i r : ℕ)
    → First (λ k. stops_plain (get_or s k 0) (drop (k + 1) s) ≡ true) (λ k. stops_plain (get_or s k 0) (drop (k + 1) s) ≡ false) i (length s) r
    → r ≡ i + plain_len true (drop i s)
plain_found s i r f =
    counts (λ k. plain_len true (drop k s)) f (λ k h e. plain-on s k h e) (λ k h e. plain_here s k h e) (plain-none s (length s) true (omega arith))

pub plain_top : (s : List ℕ) → plain_len false s ≡ length s
unfolding plain_len
plain_top [] = refl
plain_top (b ∷ s) = ap suc (plain_top s)

pub ruleset plain_tops = (plain_top, length-drop)

plain-split : (f : Bool) (s : List ℕ) → plain_text f s ≡ (take (plain_len f s) s, drop (plain_len f s) s)
unfolding plain_text plain_len
plain-split f [] = refl
plain-split f (b ∷ s) = go (f && stops_plain b s) (plain-split f s)
  where
    n : ℕ
    n = plain_len f s

    go : (x : Bool) → plain_text f s ≡ (take n s, drop n s) → (if x then ([], b ∷ s) else onto b (plain_text f s)) ≡ (take (if x then 0 else suc n) (b ∷ s), drop (if x then 0 else suc n) (b ∷ s))
    go true e = refl
    go false e = rw e

-- plain text by its places
module _ (cap number : ℕ) (f : Bool) (role : Role) (sum : ℕ) (s : List ℕ) (i e : ℕ) (h : e ≡ i + plain_len f (drop i s)) where
  pub plain-part : plain cap number f role sum (drop i s) ≡ scalar cap number role sum (scalar_of (trim (part s i e))) (drop e s)
  unfolding plain
  plain-part =
      let z : e - i ≡ plain_len f (drop i s) = omega arith in
      rw (plain-split f (drop i s), z, h, drop-drop (plain_len f (drop i s)) i s)
