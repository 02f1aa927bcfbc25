-- What a panel counts on, told by what may be written: a programme's labels among items of any kind, whatever drum boards will know one day.
-- A panel shows the labels of every such programme, and of no other bytes. Uses Base of `refusal`; Utf8 of `utf8`; Encode of `item`; Panel of
-- this crate. Assumes nothing.
use Rattle.std.specs.Prelude.{◌≡◌, ℕ, ◌<◌, ◌≤◌, ◌^◌, List, ◌∷◌, ◌++◌, map, length, slice_range, All, MatchOption}
use Rattle.std.specs.List.{flat_map}
use Rattle.refusal.specs.Base.{Answer, good, refused}
use Rattle.utf8.specs.Utf8.{Utf8}
use Rattle.item.specs.Encode.{item}
use Rattle.panel.specs.Panel.{numbered}

-- ---- what is written

pub record AnyItem : Type 0 where
  pub kind : ℕ
  pub content : List ℕ

-- items one behind another
abbrev pub written : List AnyItem → List ℕ
written items = flat_map (λ i. item i.kind i.content) items

abbrev pub text : List ℕ → AnyItem
text t = record { kind = 3; content = t }

-- a step of any kind: its name, its id, then any items
pub record AnyStep : Type 0 where
  pub kind : ℕ
  pub name : List ℕ
  pub id : List ℕ
  pub more : List AnyItem

abbrev pub step_item : AnyStep → AnyItem
step_item s = record { kind = s.kind; content = written (text s.name ∷ text s.id ∷ s.more) }

-- a programme: its name, six items of any kind and content, an item of any kind that holds the steps, then any items
pub record AnyProgramme : Type 0 where
  pub name : List ℕ
  pub six : List AnyItem
  pub list_kind : ℕ
  pub steps : List AnyStep
  pub more : List AnyItem

abbrev pub list_item : AnyProgramme → AnyItem
list_item p = record { kind = p.list_kind; content = written (map step_item p.steps) }

abbrev pub outer_items : AnyProgramme → List AnyItem
outer_items p = text p.name ∷ p.six ++ list_item p ∷ p.more

-- ---- what can be written

-- a header has two bytes for a kind, and four for a length
abbrev pub HasKind : AnyItem → Type 0
HasKind i = i.kind < 2 ^ 16

pub record StepFits (s : AnyStep) : Type 0 where
  pub kind : s.kind < 2 ^ 16
  pub name : Utf8 s.name
  pub id : Utf8 s.id
  pub more : All HasKind s.more

pub record Fits (p : AnyProgramme) : Type 0 where
  pub name : Utf8 p.name
  pub six : length p.six ≡ 6
  pub six_kinds : All HasKind p.six
  pub list_kind : p.list_kind < 2 ^ 16
  pub steps : All StepFits p.steps
  pub more : All HasKind p.more
  pub size : length (written (outer_items p)) < 2 ^ 32

-- `b` is a programme: one item of kind 16, nothing before or behind
pub record IsProgramme (b : List ℕ) (p : AnyProgramme) : Type 0 where
  pub fits : Fits p
  pub written : item 16 (written (outer_items p)) ≡ b

-- ---- what is shown

-- an answer gives the part that is the item of the name, and how many steps there are
pub record NameShown (b : List ℕ) (p : AnyProgramme) (a : Answer (ℕ × ℕ × ℕ)) : Type 0 where
  pub start : ℕ
  pub end : ℕ
  pub is : a ≡ good (start, end, length p.steps)
  pub inside : end ≤ length b
  pub name : slice_range b start end ≡ item 3 p.name

-- the parts that are the items of a step's name and id
pub record StepShown (b : List ℕ) (s : AnyStep) (a : Answer (ℕ × ℕ × ℕ × ℕ)) : Type 0 where
  pub name_start : ℕ
  pub name_end : ℕ
  pub id_start : ℕ
  pub id_end : ℕ
  pub is : a ≡ good (name_start, name_end, id_start, id_end)
  pub name_inside : name_end ≤ length b
  pub id_inside : id_end ≤ length b
  pub name : slice_range b name_start name_end ≡ item 3 s.name
  pub id : slice_range b id_start id_end ≡ item 3 s.id

-- the name and the count of every programme are shown, and of nothing else
pub record ShowsName (b : List ℕ) (a : Answer (ℕ × ℕ × ℕ)) : Type 0 where
  pub shows : (p : AnyProgramme) → IsProgramme b p → NameShown b p a
  pub accepted : (x : ℕ × ℕ × ℕ) → a ≡ good x → (p : AnyProgramme) × IsProgramme b p
  pub refuses : ((p : AnyProgramme) → IsProgramme b p → ⊥) → a ≡ refused 55 0 0

-- so are the name and the id of the step with a number, where there is one
pub record ShowsStep (b : List ℕ) (number : ℕ) (a : Answer (ℕ × ℕ × ℕ × ℕ)) : Type 0 where
  pub shows : (p : AnyProgramme) → IsProgramme b p → MatchOption (numbered p.steps number) (a ≡ refused 53 0 0) (λ s. StepShown b s a)
  pub accepted : (x : ℕ × ℕ × ℕ × ℕ) → a ≡ good x → (p : AnyProgramme) × IsProgramme b p
  pub refuses : ((p : AnyProgramme) → IsProgramme b p → ⊥) → a ≡ refused 55 0 0
