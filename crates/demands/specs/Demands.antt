-- The demands, as the contracts of functions that call the jobs (document 01, "Contracts"). Uses Base and Told of `refusal`; Tree and
-- Encode of `item`; Tree of `tree`; Meaning, Record and Rules of `meaning`; Jobs and Theorems of `record`; Scenario and Told of `scenario`.
-- Assumes nothing.
use Rattle.std.specs.Prelude.{◌≡◌, ℕ, zero, suc, ◌≤◌, min, List, [], map, Bool, false, ◌&&◌, eqb, leb, length, take, drop, get_or, replicate}
use Rattle.refusal.specs.Base.{Answer, good, refused, limit}
use Rattle.refusal.specs.Told.{told, refusal}
use Rattle.refusal.specs.declared.Told.{Told}
use Rattle.refusal.specs.declared.Refusal.{Refusal}
use Rattle.item.specs.Tree.{Yaml}
use Rattle.item.specs.Encode.{encode}
use Rattle.tree.specs.Tree.{tree}
use Rattle.tree.specs.declared.TreeAnswer.{TreeAnswer}
use Rattle.tree.specs.declared.TreeAnswer.TheVariants.{Read as TreeRead, Refused as TreeRefused}
use Rattle.meaning.specs.Meaning.{Meaning}
use Rattle.meaning.specs.Record.{step_item}
use Rattle.meaning.specs.Rules.{IsRecord}
use Rattle.record.specs.Jobs.{Found, check_record}
use Rattle.record.specs.Theorems.{shown}
use Rattle.scenario.specs.Scenario.{Reading}
use Rattle.scenario.specs.Told.{text_meaning}
use Rattle.demands.specs.declared.Compared.{Compared}
use Rattle.demands.specs.declared.Compared.TheVariants.{Same, Different, Neither}

-- ---- the two ends of a call of `read_tree`; those of `read_scenario` stand in `Told` of `scenario`

pub record TreeWritten (text work left : List ℕ) (n : ℕ) : Type 0 where
  pub read : Yaml
  pub is : tree (length work) text ≡ good read
  pub size : n ≡ length (encode read)
  pub fits : n ≤ min (length work) limit
  pub written : take n left ≡ encode read
  pub kept : drop n left ≡ drop n work

pub record TreeLeft (text work left : List ℕ) (e : Refusal) : Type 0 where
  pub is : tree (length work) text ≡ refusal e
  pub zeros : left ≡ replicate (length work) 0

abbrev pub TreeEnds : (text work left : List ℕ) → TreeAnswer → Type 0
TreeEnds text work left (TreeRead n) = TreeWritten text work left n
TreeEnds text work left (TreeRefused e) = TreeLeft text work left e

-- ---- a refusal

-- number, line and step are the definition's, and every output is zeros to its last place; a text that is read has no number
abbrev pub TellsRefusal : Answer Reading → (work tree room bytes places lines : List ℕ) → Told → Type 0
TellsRefusal (good r) work tree room bytes places lines t = t ≡ told 0 0 0
TellsRefusal (refused n l s) work tree room bytes places lines t =
    (t ≡ told n l s) × (tree ≡ replicate (length work) 0) × (bytes ≡ replicate (length room) 0) × (lines ≡ replicate (length places) 0)

-- ---- two texts

abbrev pub Accepted : Answer Reading → Type 0
Accepted a = (r : Reading) × (a ≡ good r)

-- the records of two accepted texts are the same bytes exactly if the texts' meanings are equal
abbrev pub Compares : (a b : Answer Reading) (text other : List ℕ) → Compared → Type 0
Compares a b text other Same = Accepted a × Accepted b × (text_meaning text ≡ text_meaning other)
Compares a b text other Different = Accepted a × Accepted b × (text_meaning text ≡ text_meaning other → ⊥)
Compares a b text other Neither = Accepted a × Accepted b → ⊥

-- the numbers that say that too little was lent: 50, 51, 52
unfoldable pub lacks : ℕ → Bool
lacks n = leb 50 n && leb n 52

-- ---- lookups

-- whether the check accepts the bytes with so many steps
unfoldable pub good_with : Answer ℕ → ℕ → Bool
good_with (good k) n = eqb k n
good_with (refused k l s) n = false

unfoldable pub is_good : List ℕ → ℕ → Bool
is_good b n = good_with (check_record b) n

unfoldable pub out_of_range : Answer Found → Bool
out_of_range (good f) = false
out_of_range (refused n l s) = eqb n 53

-- of some items, the one at a place that counts from 1; nothing at any other
unfoldable pub nth : List (List ℕ) → ℕ → List ℕ
nth ps zero = []
nth ps (suc i) = get_or ps i []

abbrev pub step_items : Meaning → List (List ℕ)
step_items m = map step_item m.steps

-- the bytes found by a number in any bytes, which is a field's place or a step's: the item of the meaning whose record they are
pub record ItemShown (lookup : List ℕ → ℕ → Answer Found) (items : Meaning → List (List ℕ)) (b : List ℕ) (number : ℕ)
    (found : List ℕ) : Type 0 where
  pub is : found ≡ shown b (lookup b number)
  pub item : (m : Meaning) → IsRecord b m → found ≡ nth (items m) number

-- the same in the record of a text: items of the text's own meaning, and nothing of a text that is refused
pub record TextItem (items : Meaning → List (List ℕ)) (a : Answer Reading) (text : List ℕ) (number : ℕ) (found : List ℕ) : Type 0 where
  pub item : (m : Meaning) → Accepted a → text_meaning text ≡ good m → found ≡ nth (items m) number
  pub nothing : (Accepted a → ⊥) → found ≡ []
