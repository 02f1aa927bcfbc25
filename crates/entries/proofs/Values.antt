-- What a collection is, by its kind. Assumes nothing.
use Rattle.std.proofs.Common.{◌≡◌, refl, ◌⊎◌, inl, inr, ⊎_elim, ℕ, ◌+◌, ◌<◌, arith, List, length}
use Rattle.item.specs.Tree.{Shape, Node, Yaml, null, bool, int, str, seq, dict, Ranged}
use Rattle.item.specs.Encode.{kind_of}
use Rattle.entries.specs.Entries.{Stands, Holds, content}

-- a sequence or a mapping, and where what is in it stands
pub record Collection {sh : Shape} (made : Node sh → Yaml) (s : List ℕ) (from to : ℕ) (v : Yaml) : Type 0 where
  pub inner : Node sh
  pub is : v ≡ made inner
  pub holds : Holds s from to inner

module _ {s : List ℕ} {from to : ℕ} where
  collection : (v : Yaml) → Ranged v → Stands s from (content v) → to ≡ from + length (content v) → 3 < kind_of v
      → (Collection seq s from to v × (kind_of v ≡ 4)) ⊎ (Collection dict s from to v × (kind_of v ≡ 5))
  unfolding kind_of content
  collection null g st e k = absurd (omega arith)
  collection (bool b) g st e k = absurd (omega arith)
  collection (int z) g st e k = absurd (omega arith)
  collection (str t) g st e k = absurd (omega arith)
  collection (seq ys) g st e k = inl (record { inner = ys; is = refl; holds = record { ranged = g; lies = record { stands = st; ends = e } } }, refl)
  collection (dict es) g st e k = inr (record { inner = es; is = refl; holds = record { ranged = g; lies = record { stands = st; ends = e } } }, refl)

  module _ (v : Yaml) (g : Ranged v) (st : Stands s from (content v)) (e : to ≡ from + length (content v)) where
    pub items_of : kind_of v ≡ 4 → Collection seq s from to v
    items_of k = ⊎_elim (λ w. w.0) (λ w. absurd (omega (arith, w.1))) (collection v g st e (omega arith))

    pub entries-of : kind_of v ≡ 5 → Collection dict s from to v
    entries-of k = ⊎_elim (λ w. absurd (omega (arith, w.1))) (λ w. w.0) (collection v g st e (omega arith))
