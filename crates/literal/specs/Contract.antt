-- For contracts: what the readers of lines promise. Uses Base of `refusal`; Tree and Encode of `item`; Writing of `writer`; Lines of `lines`;
-- Contract of `scalar`; Literal of this crate. Assumes nothing.
use Rattle.std.specs.Prelude.{◌≡◌, ℕ, ◌≤◌, Bool, true, false, List, length, drop, Result, Ok, Err}
use Rattle.refusal.specs.Base.{good}
use Rattle.refusal.specs.declared.Refusal.{Refusal}
use Rattle.item.specs.Tree.{Shape, Node}
use Rattle.item.specs.Encode.{encode}
use Rattle.writer.specs.declared.Writer.{Writer}
use Rattle.writer.specs.Writing.{Appends}
use Rattle.lines.specs.Lines.{Line}
use Rattle.scalar.specs.Contract.{Refuses}
use Rattle.literal.specs.declared.Chomping.{Chomping}
use Rattle.literal.specs.declared.Chomping.TheVariants.{Clip, Strip}
use Rattle.literal.specs.Literal.{Read}

-- whether all newlines at the end are dropped
abbrev pub strips : Chomping → Bool
strips Clip = false
strips Strip = true

-- a value, or the entries of a mapping, read from the line `i` of `ls` up to the line `next`, and written behind what was written before
pub record WroteBlock {s : Shape} (answer : Read (Node s)) (ls : List Line) (i : ℕ) (old new : Writer) (next : ℕ) : Type 0 where
  pub tree : Node s
  pub is : answer ≡ good (tree, new.used, drop next ls)
  pub appends : Appends old new (encode tree)
  pub on : i ≤ next
  pub within : next ≤ length ls

abbrev pub AgreesBlock : {s : Shape} → Read (Node s) → List Line → ℕ → Writer → Writer → Result ℕ Refusal → Type 0
AgreesBlock answer ls i old new (Ok next) = WroteBlock answer ls i old new next
AgreesBlock answer ls i old new (Err e) = Refuses answer old new e

-- the same of the lines from `i` on, by what is read of lines
abbrev pub ReadsLines : {s : Shape} → (List Line → Read (Node s)) → List Line → ℕ → Writer → Writer → Result ℕ Refusal → Type 0
ReadsLines read ls i old new r = AgreesBlock (read (drop i ls)) ls i old new r

-- the same of a part of one line, with whatever lines left from `i` on
abbrev pub ReadsPart : {s : Shape} → (List Line → Read (Node s)) → ℕ → Writer → Writer → Result ℕ Refusal → Type 0
ReadsPart read i old new r = (ls : List Line) → i ≤ length ls → AgreesBlock (read (drop i ls)) ls i old new r
