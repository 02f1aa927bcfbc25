-- `as_yaml` turned back: the parts of a representation that has a tree have trees. And trees that have a text, as keys do. Assumes nothing.
use Rattle.std.specs.Prelude.{if◌then◌else◌}
use Rattle.std.proofs.Common.{◌≡◌, refl, ℕ, ◌+◌, List, Bool, true, false, length}
use Rattle.std.proofs.Math.Option.{Option, none, some, none-ne-some, some-injective}
use Rattle.refusal.specs.Base.{maybe, given}
use Rattle.item.specs.Tree.{keyed, Yaml, Entries, has_key, levels}
use Rattle.item.specs.Tree as Tree
use Rattle.scalar.specs.Scalars.{key_text}
use Rattle.scalar.specs.declared.Role.TheVariants.{AsKey}
use Rattle.flow.proofs.Sums.{key-weight, weight}
use Rattle.yaml.specs.Represent.{Graph, Rep, as_yaml}

-- what an option must hold for a later one to hold something
pub record Held {A B : Type 0} (o : Option A) (f : A → Option B) (b : B) : Type 0 where
  pub value : A
  pub is : o ≡ some value
  pub next : f value ≡ some b

pub held : {A B : Type 0} (o : Option A) (f : A → Option B) (b : B) → maybe o none f ≡ some b → Held o f b
unfolding maybe
held none f b e = absurd (none-ne-some b e)
held (some a) f b e = record { value = a; is = refl; next = e }

pub some-eq : {A : Type 0} {a b : A} → some a ≡ some b → a ≡ b
some-eq {a = a} {b = b} e = some-injective a b e

pub fresh : (b : Bool) (x y : Entries) → (if b then none else some x) ≡ some y → (b ≡ false) × (x ≡ y)
fresh true x y e = absurd (none-ne-some y e)
fresh false x y e = (refl, some-eq e)

-- what a pair of a mapping with a tree holds
pub record Paired (a v : Rep) (ps : Graph keyed) (es : Entries) : Type 0 where
  pub tree : Yaml
  pub key : List ℕ
  pub value : Yaml
  pub rest : Entries
  pub key_is : as_yaml a ≡ some tree
  pub text_is : key_text tree ≡ some key
  pub value_is : as_yaml v ≡ some value
  pub rest_is : as_yaml ps ≡ some rest
  pub next : (if has_key key rest then none else some (Tree.pair key value rest)) ≡ some es

pub pair_held : (a v : Rep) (ps : Graph keyed) (es : Entries) → as_yaml (Graph.pair a v ps) ≡ some es → Paired a v ps es
unfolding as_yaml
pair_held a v ps es e =
    let f₁ : Yaml → Option Entries = λ y. maybe (key_text y) none λ key. maybe (as_yaml v) none λ x. maybe (as_yaml ps) none λ es. if has_key key es then none else some (Tree.pair key x es) in
    let h₁ : Held (as_yaml a) f₁ es = held (as_yaml a) f₁ es e in
    let f₂ : List ℕ → Option Entries = λ key. maybe (as_yaml v) none λ x. maybe (as_yaml ps) none λ es. if has_key key es then none else some (Tree.pair key x es) in
    let h₂ : Held (key_text h₁.value) f₂ es = held (key_text h₁.value) f₂ es h₁.next in
    let f₃ : Yaml → Option Entries = λ x. maybe (as_yaml ps) none λ es. if has_key h₂.value es then none else some (Tree.pair h₂.value x es) in
    let h₃ : Held (as_yaml v) f₃ es = held (as_yaml v) f₃ es h₂.next in
    let f₄ : Entries → Option Entries = λ es. if has_key h₂.value es then none else some (Tree.pair h₂.value h₃.value es) in
    let h₄ : Held (as_yaml ps) f₄ es = held (as_yaml ps) f₄ es h₃.next in
    record {
      tree = h₁.value;
      key = h₂.value;
      value = h₃.value;
      rest = h₄.value;
      key_is = h₁.is;
      text_is = h₂.is;
      value_is = h₃.is;
      rest_is = h₄.is;
      next = h₄.next;
    }

-- ---- keys

pub scalar-levels : (y : Yaml) (k : List ℕ) → key_text y ≡ some k → levels y ≡ 0
unfolding key_text levels
scalar-levels Tree.null k e = refl
scalar-levels (Tree.bool b) k e = refl
scalar-levels (Tree.int z) k e = refl
scalar-levels (Tree.str s) k e = refl
scalar-levels (Tree.seq ys) k e = absurd (none-ne-some k e)
scalar-levels (Tree.dict es) k e = absurd (none-ne-some k e)

pub key-size : (y : Yaml) (k : List ℕ) → key_text y ≡ some k → weight AsKey y ≡ 6 + length k
unfolding given
key-size y k e = key-weight 0 0 y k (rw e)
