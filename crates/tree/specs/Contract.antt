-- Sections 1 to 3 of document 01, for contracts: what the readers inside the job promise. Uses Base and Told of `refusal`; Tree and Encode
-- of `item`; Lines, Table and Ready of `lines`; Tree of this crate. Assumes nothing.
use Rattle.std.specs.Prelude.{◌≡◌, ℕ, ◌≤◌, List, length, Result, Ok, Err}
use Rattle.std.proofs.lemmas.List.Edits.{sets}
use Rattle.refusal.specs.Base.{Answer, good}
use Rattle.refusal.specs.Told.{refusal}
use Rattle.refusal.specs.declared.Refusal.{Refusal}
use Rattle.item.specs.Tree.{Yaml}
use Rattle.item.specs.Encode.{encode}
use Rattle.lines.specs.declared.Row.{Row}
use Rattle.lines.specs.Lines.{significant_lines}
use Rattle.lines.specs.Table.{table_lines}
use Rattle.lines.specs.Ready.{Ready}
use Rattle.tree.specs.Tree.{tree_of}

-- a tree of `bytes` bytes, written from the front
pub record WroteTree (answer : Answer Yaml) (old new : List ℕ) (bytes : ℕ) : Type 0 where
  pub tree : Yaml
  pub is : answer ≡ good tree
  pub stored : new ≡ sets old 0 (encode tree)
  pub size : bytes ≡ length (encode tree)
  pub fits : bytes ≤ length old

abbrev pub AgreesTree : Answer Yaml → List ℕ → List ℕ → Result ℕ Refusal → Type 0
AgreesTree answer old new (Ok n) = WroteTree answer old new n
AgreesTree answer old new (Err e) = answer ≡ refusal e

-- the same, with the lines that were read
pub record WroteLined (answer : Answer Yaml) (text : List ℕ) (rows : List Row) (old new : List ℕ) (bytes : ℕ) : Type 0 where
  pub wrote : WroteTree answer old new bytes
  pub ready : Ready text rows
  pub lined : significant_lines text ≡ good (table_lines text rows)
  pub is_tree : answer ≡ tree_of (length old) (table_lines text rows)

abbrev pub AgreesRead : Answer Yaml → List ℕ → List Row → List ℕ → List ℕ → Result ℕ Refusal → Type 0
AgreesRead answer text rows old new (Ok n) = WroteLined answer text rows old new n
AgreesRead answer text rows old new (Err e) = answer ≡ refusal e
