-- What the inner functions promise. Uses Places of `item`; Panel of this crate. Assumes nothing.
use Rattle.std.specs.Prelude.{◌≡◌, ℕ, ◌≤◌, List, length, slice_get, Option, None, Some}
use Rattle.std.specs.Result.{result_ok}
use Rattle.item.specs.Places.{header_at}
use Rattle.item.specs.declared.Item.{Item}
use Rattle.panel.specs.declared.Labels.{Labels}
use Rattle.panel.specs.declared.Programme.{Programme}
use Rattle.panel.specs.Panel as definition
use Rattle.panel.specs.Panel.{◌>>=◌, items_from, text_of, steps_in}

-- an item lies in some bytes, behind its header
pub record Inside (s : List ℕ) (item : Item) : Type 0 where
  pub header : 6 ≤ item.from
  pub order : item.from ≤ item.to
  pub fits : item.to ≤ length s

pub record LabelsInside (s : List ℕ) (labels : Labels) : Type 0 where
  pub name : Inside s labels.name
  pub id : Inside s labels.id

-- the text at a place
unfoldable pub text_from : List ℕ → ℕ → Option Item
text_from s at = result_ok (header_at s at) >>= text_of s

-- of the items from a place to the end, the one with so many before it
abbrev pub NthFrom : List ℕ → ℕ → ℕ → Option Item → Type 0
NthFrom s at before found = (items : List Item) → items_from s at ≡ Some items → found ≡ slice_get items before

-- a programme by its items: the steps stand in one
pub record Sees (s : List ℕ) (p : Programme) : Type 0 where
  pub name_inside : Inside s p.name
  pub list_inside : Inside s p.list
  pub steps : List Labels
  pub listed : steps_in s p.list ≡ Some steps
  pub count : p.steps ≡ length steps
  pub is : definition.programme s ≡ Some (record { name = p.name; steps = steps })

abbrev pub SeesProgramme : List ℕ → Option Programme → Type 0
SeesProgramme s (Some p) = Sees s p
SeesProgramme s None = definition.programme s ≡ None
