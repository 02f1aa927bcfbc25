-- What a panel sees of a record: the programme's name, and each step's name and id. All other items are passed over by their lengths, of
-- whatever kind they are. Uses Utf8 of `utf8`; Places of `item`. Assumes nothing.
use Rattle.std.specs.Prelude.{ℕ, zero, suc, List, [], ◌∷◌, Bool, ◌&&◌, ◌==◌, length, take, slice_get, slice_range, if◌then◌else◌, Option, None, Some}
use Rattle.std.specs.Option.{option_and_then}
use Rattle.std.specs.Result.{result_ok}
use Rattle.utf8.specs.Utf8.{is_utf8}
use Rattle.item.specs.Places.{header_at}
use Rattle.item.specs.declared.Item.{Item}
use Rattle.panel.specs.declared.Labels.{Labels}

infixl 20 ◌>>=◌
abbrev pub ◌>>=◌ : {A B : Type 0} → Option A → (A → Option B) → Option B
o >>= f = option_and_then f o

-- what is made of each, if something is made of all
unfoldable pub each : {A B : Type 0} → (A → Option B) → List A → Option (List B)
each f [] = Some []
each f (a ∷ more) = do
  b ← f a
  bs ← each f more
  Some (b ∷ bs)

-- ---- items, by their headers

-- the items that stand one behind another from a place of some bytes up to their end, with nothing left over
unfoldable pub items_by : ℕ → List ℕ → ℕ → Option (List Item)
items_by zero s at = if at == length s then Some [] else None
items_by (suc turns) s at = if at == length s then Some [] else (do
  item ← result_ok (header_at s at)
  more ← items_by turns s item.to
  Some (item ∷ more))

-- as many turns as there are bytes are enough
unfoldable pub items_from : List ℕ → ℕ → Option (List Item)
items_from s at = items_by (length s) s at

-- the items that fill the content of an item
unfoldable pub items_in : List ℕ → Item → Option (List Item)
items_in s item = items_from (take item.to s) item.from

-- ---- labels: texts that are shown

-- kind 3, in UTF-8
unfoldable pub is_text : List ℕ → Item → Bool
is_text s item = item.kind == 3 && is_utf8 (slice_range s item.from item.to)

unfoldable pub text_of : List ℕ → Item → Option Item
text_of s item = if is_text s item then Some item else None

-- a step, of any kind, is filled by items: the first two are its name and its id, and more may follow
unfoldable pub labels_of : List ℕ → Item → Option Labels
labels_of s step = do
  items ← items_in s step
  name ← slice_get items 0 >>= text_of s
  id ← slice_get items 1 >>= text_of s
  Some (record { name = name; id = id })

-- ---- the whole record

-- the bytes are one item of kind 16, filled by these items
unfoldable pub fields_of : List ℕ → Option (List Item)
fields_of s = do
  whole ← result_ok (header_at s 0)
  if whole.kind == 16 && whole.to == length s then items_in s whole else None

-- the steps fill the item that holds them, of any kind
unfoldable pub steps_in : List ℕ → Item → Option (List Labels)
steps_in s list = items_in s list >>= each (labels_of s)

pub record Programme : Type 0 where
  pub name : Item
  pub steps : List Labels

-- the first item is the name, the eighth holds the steps, and more may follow
unfoldable pub programme : List ℕ → Option Programme
programme s = do
  fields ← fields_of s
  name ← slice_get fields 0 >>= text_of s
  steps ← slice_get fields 7 >>= steps_in s
  Some (record { name = name; steps = steps })

-- steps are numbered from 1
unfoldable pub numbered : {A : Type 0} → List A → ℕ → Option A
numbered steps zero = None
numbered steps (suc i) = slice_get steps i
