-- What is known of a tree that is read: its levels, its keys, its strings, its integers; as it grows. Assumes nothing.
use Rattle.std.proofs.Common.{◌≡◌, refl, ℕ, suc, ◌+◌, ◌≤◌, ◌<◌, ◌^◌, arith, List, Bool, true, false, not, leb, ℤ, leb-true}
use Rattle.std.proofs.Math.Option.{Option, none, some}
use Rattle.std.proofs.lemmas.Bool.{cond_both}
use Rattle.std.specs.Int.Signed.{mag}
use Rattle.refusal.specs.Base.{Answer, good, ◌>>=◌, ◌>>◌, ensure, one_of}
use Rattle.refusal.proofs.Tools.{good-inj, refused≢good, chosen}
use Rattle.item.specs.Tree.{Shape, Node, Yaml, null, bool, int, str, seq, dict, Items, end, ◌◂◌, Entries, done, pair, add, levels, has_key, Ranged}
use Rattle.number.specs.Integers.{integer}
use Rattle.scalar.specs.Scalars.{int_or, scalar_of, nulls, trues, falses}
use Rattle.scalar.specs.Read.{charge}
use Rattle.flow.specs.Flow.{fresh}
use Rattle.tree.proofs.Levels.{levels-snoc, levels-add}
use Rattle.tree.proofs.Keys.{Differing, differing-snoc, differing-add}
use Rattle.utf8.specs.Utf8.{Utf8}
use Rattle.tree.proofs.Strings.{Texts, texts-snoc, texts-add}
use Rattle.tree.proofs.Integers.{integer-mag, ranged-snoc, ranged-add}

-- a tree of at most `l` levels, whose keys differ in each mapping, whose strings and keys are UTF-8 and whose integers have 64 bits
pub record Fit (l : ℕ) {s : Shape} (y : Node s) : Type 0 where
  pub few : levels y ≤ l
  pub keys : Differing y
  pub strings : Texts y
  pub integers : Ranged y

-- ---- scalars

module _ (l : ℕ) where
  pub fit-null : Fit l null
  unfolding levels
  fit-null = record { few = omega arith; keys = tt; strings = tt; integers = tt }

  pub fit-str : (s : List ℕ) → Utf8 s → Fit l (str s)
  unfolding levels
  fit-str s u = record { few = omega arith; keys = tt; strings = u; integers = tt }

  fit-bool : (b : Bool) → Fit l (bool b)
  unfolding levels
  fit-bool b = record { few = omega arith; keys = tt; strings = tt; integers = tt }

  fit_int : (z : ℤ) → mag z < 2 ^ 63 → Fit l (int z)
  unfolding levels
  fit_int z h = record { few = omega arith; keys = tt; strings = tt; integers = h }

pub fit-scalar : (l : ℕ) (s : List ℕ) → Utf8 s → Fit l (scalar_of s)
unfolding scalar_of int_or
fit-scalar l s u =
    cond_both (one_of s nulls) _ _ (Fit l) (λ _. fit-null l)
    λ _. cond_both (one_of s trues) _ _ (Fit l) (λ _. fit-bool l true)
    λ _. cond_both (one_of s falses) _ _ (Fit l) (λ _. fit-bool l false)
    λ _. go (integer s) refl
  where
    go : (o : Option ℤ) → integer s ≡ o → Fit l (int_or s o)
    go none e = fit-str l s u
    go (some z) e = fit_int l z (integer-mag s z e)

-- ---- collections as they grow

module _ {l : ℕ} where
  pub fit-end : Fit l end
  unfolding levels
  fit-end = record { few = omega arith; keys = tt; strings = tt; integers = tt }

  pub fit-done : Fit l done
  unfolding levels
  fit-done = record { few = omega arith; keys = tt; strings = tt; integers = tt }

  pub fit-snoc : {ys : Items} {y : Yaml} → Fit l ys → Fit l y → Fit l (ys ◂ y)
  fit-snoc {ys} {y} h k = record {
    few = omega (arith, levels-snoc ys y);
    keys = differing-snoc ys y h.keys k.keys;
    strings = texts-snoc ys y h.strings k.strings;
    integers = ranged-snoc ys y h.integers k.integers;
  }

  pub fit-add : {es : Entries} (k : List ℕ) {v : Yaml} → Fit l es → has_key k es ≡ false → Utf8 k → Fit l v → Fit l (add es k v)
  fit-add {es} k {v} h f u m = record {
    few = omega (arith, levels-add es k v);
    keys = differing-add es k v h.keys f m.keys;
    strings = texts-add es k v h.strings u m.strings;
    integers = ranged-add es k v h.integers m.integers;
  }

  pub fit-pair : {es : Entries} {k : List ℕ} {v : Yaml} → has_key k es ≡ false → Utf8 k → Fit l v → Fit l es → Fit l (pair k v es)
  unfolding levels
  fit-pair f u m h = record {
    few = omega arith;
    keys = (f, m.keys, h.keys);
    strings = (u, m.strings, h.strings);
    integers = (m.integers, h.integers);
  }

  pub fit-seq : {ys : Items} → Fit l ys → Fit (suc l) (seq ys)
  unfolding levels
  fit-seq h = record { few = omega arith; keys = h.keys; strings = h.strings; integers = h.integers }

  pub fit-dict : {es : Entries} → Fit l es → Fit (suc l) (dict es)
  unfolding levels
  fit-dict h = record { few = omega arith; keys = h.keys; strings = h.strings; integers = h.integers }

-- ---- what a reading gives: a tree that fits `l` levels, a running sum within `cap`, and what is left

pub record Fine (cap l : ℕ) {R : Type 0} (Left : R → Type 0) {s : Shape} (g : Node s × ℕ × R) : Type 0 where
  pub tree : Fit l g.0
  pub sum : g.1 ≤ cap
  pub left : Left g.2

pub charge-le : (cap sum k s : ℕ) → charge cap sum k ≡ good s → s ≤ cap
unfolding charge
charge-le cap sum k s e = chosen (leb (sum + k) cap) _ _ e
    (λ t p. rw (← good-inj _ _ p) (leb-true (sum + k) cap t)) (λ _ p. refused≢good s 50 0 0 p)

-- a key that was not there
pub was-fresh : {B X : Type 0} (cap n : ℕ) (k : List ℕ) (es : Entries) (c : Answer B) (b : B) → (fresh cap n k es >> c) ≡ good b → (has_key k es ≡ false → c ≡ good b → X) → X
unfolding fresh ensure ◌>>◌ ◌>>=◌
was-fresh {X = X} cap n k es c b e f = go (has_key k es) refl e
  where
    go : (t : Bool) → has_key k es ≡ t → (ensure (not t) 18 n 0 >> c) ≡ good b → X
    go true h e = refused≢good b 18 n 0 e
    go false h e = f h e
