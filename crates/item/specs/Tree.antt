-- Sections 2 and 3 of document 01: trees, which are what a text says before it is asked whether it is a scenario. Uses Base of `refusal`.
-- Assumes nothing.
use Rattle.std.specs.Prelude.{ℕ, suc, max, ◌^◌, ◌<◌, List, Bool, true, false, ◌||◌, ℤ, if◌then◌else◌}
use Rattle.std.proofs.Math.Option.{Option, none, some}
use Rattle.std.specs.Int.Signed.{mag}
use Rattle.refusal.specs.Base.{same}

-- a value, the items of a sequence, the entries of a mapping: three shapes of one family, so that one function serves them all
pub data Shape : Type 0 where
  one many keyed : Shape

pub data Node : Shape → Type 0 where
  null : Node one
  bool : Bool → Node one
  int : ℤ → Node one
  str : List ℕ → Node one
  seq : Node many → Node one
  dict : Node keyed → Node one
  end : Node many
  ◌▸◌ : Node one → Node many → Node many
  done : Node keyed
  pair : List ℕ → Node one → Node keyed → Node keyed

infixr 30 ◌▸◌
abbrev pub Yaml : Type 0
Yaml = Node one

abbrev pub Items : Type 0
Items = Node many

abbrev pub Entries : Type 0
Entries = Node keyed

-- how deep collections nest; the outermost is level 1
unfoldable pub levels : {s : Shape} → Node s → ℕ
levels null = 0
levels (bool b) = 0
levels (int z) = 0
levels (str s) = 0
levels (seq ys) = suc (levels ys)
levels (dict es) = suc (levels es)
levels end = 0
levels (y ▸ ys) = max (levels y) (levels ys)
levels done = 0
levels (pair k v es) = max (levels v) (levels es)

-- every integer has 64 bits
abbrev pub Ranged : {s : Shape} → Node s → Type 0
Ranged null = Unit {0}
Ranged (bool b) = Unit {0}
Ranged (int z) = mag z < 2 ^ 63
Ranged (str s) = Unit {0}
Ranged (seq ys) = Ranged ys
Ranged (dict es) = Ranged es
Ranged end = Unit {0}
Ranged (y ▸ ys) = Ranged y × Ranged ys
Ranged done = Unit {0}
Ranged (pair k v es) = Ranged v × Ranged es

-- ---- sequences and mappings as they grow, and the search for a key

unfoldable pub ◌◂◌ : Items → Yaml → Items
end ◂ y = y ▸ end
(x ▸ xs) ◂ y = x ▸ (xs ◂ y)

infixl 30 ◌◂◌
unfoldable pub no_item : Items → Bool
no_item end = true
no_item (y ▸ ys) = false

unfoldable pub add : Entries → List ℕ → Yaml → Entries
add done k v = pair k v done
add (pair j u es) k v = pair j u (add es k v)

unfoldable pub no_entry : Entries → Bool
no_entry done = true
no_entry (pair k v es) = false

unfoldable pub has_key : List ℕ → Entries → Bool
has_key k done = false
has_key k (pair j v es) = same j k || has_key k es

-- the value of a key
unfoldable pub get : List ℕ → Entries → Option Yaml
get k done = none
get k (pair j v es) = if same j k then some v else get k es
