-- For the contracts inside the crate: what the readers of blocks promise. Uses Base of `refusal`; Tree and Encode of `item`; Writing of
-- `writer`; Entries of `entries`; Lines and Dash of `lines`; Key and Contract of `scalar`; Literal and Contract of `literal`; Block of this
-- crate. Assumes nothing.
use Rattle.std.specs.Prelude.{◌≡◌, ℕ, ◌+◌, ◌≤◌, List, [], ◌∷◌, ◌++◌, Bool, true, false, length, drop, Result, Ok, Err, MatchResult, if◌then◌else◌}
use Rattle.std.proofs.Math.Option.{Option, none}
use Rattle.refusal.specs.declared.Refusal.{Refusal}
use Rattle.refusal.specs.Base.{Answer, good, refused, maybe, bytes, same, empty}
use Rattle.item.specs.Tree.{Yaml, Entries}
use Rattle.item.specs.Encode.{item, encode}
use Rattle.writer.specs.declared.Writer.{Writer}
use Rattle.writer.specs.Writing.{Appends}
use Rattle.entries.specs.Entries.{Lies, key_twice}
use Rattle.lines.specs.Lines.{Line}
use Rattle.lines.specs.Dash.{dashed, is_dash}
use Rattle.scalar.specs.Key.{key_end}
use Rattle.scalar.specs.Contract.{Refuses}
use Rattle.literal.specs.declared.Chomping.TheVariants.{Clip, Strip}
use Rattle.literal.specs.Literal.{Read}
use Rattle.literal.specs.Contract.{AgreesBlock}
use Rattle.block.specs.declared.Opening.{Opening}
use Rattle.block.specs.declared.Opening.TheVariants.{Dash, Key, Flow}
use Rattle.block.specs.declared.Behind.{Behind}
use Rattle.block.specs.declared.Behind.TheVariants.{Nothing, Literal, Value}
use Rattle.block.specs.declared.EntryRead.{EntryRead}
use Rattle.block.specs.Block.{key_at}

-- what a line with this text begins with
unfoldable pub opening_of : List ℕ → Opening
opening_of t = if dashed t then Dash else maybe (key_end t) Flow Key

-- what the text behind a colon is
unfoldable pub behind_of : List ℕ → Behind
behind_of t =
    if empty t then Nothing
    else if same t (bytes "|") then Literal Clip
    else if same t (bytes "|-") then Literal Strip
    else Value

-- whether the first of the lines goes on a mapping at this indentation, and where its key ends
unfoldable pub key_here : ℕ → List Line → Option ℕ
key_here indent [] = none
key_here indent (l ∷ ls) = key_at indent l

-- whether it goes on a sequence
unfoldable pub dash_here : ℕ → List Line → Bool
dash_here indent [] = false
dash_here indent (l ∷ ls) = is_dash indent l

-- the column of the place `from` of a line's text, and the text from there on
abbrev pub column_at : Line → ℕ → ℕ
column_at l from = l.indent + from

abbrev pub text_at : Line → ℕ → List ℕ
text_at l from = drop from l.text

-- a key, written behind what was written before
pub record WroteKey (answer : Answer (List ℕ × ℕ)) (old new : Writer) : Type 0 where
  pub key : List ℕ
  pub is : answer ≡ good (key, new.used)
  pub appends : Appends old new (item 3 key)

abbrev pub AgreesKey : {X : Type 0} → Answer (List ℕ × ℕ) → Writer → Writer → Result X Refusal → Type 0
AgreesKey answer old new r = MatchResult r (λ _. WroteKey answer old new) (λ e. Refuses answer old new e)

-- an entry read up to the line `next` of `ls`, its key written up to `key_end`, and its value behind it
pub record WroteEntry (answer : Read (List ℕ × Yaml)) (ls : List Line) (i : ℕ) (old new : Writer) (next key_end : ℕ) : Type 0 where
  pub key : List ℕ
  pub tree : Yaml
  pub is : answer ≡ good ((key, tree), new.used, drop next ls)
  pub appends : Appends old new (item 3 key ++ encode tree)
  pub ends : key_end ≡ old.used + 6 + length key
  pub on : i ≤ next
  pub within : next ≤ length ls

abbrev pub AgreesEntry : Read (List ℕ × Yaml) → List Line → ℕ → Writer → Writer → Result EntryRead Refusal → Type 0
AgreesEntry answer ls i old new (Ok r) = WroteEntry answer ls i old new r.next r.key_end
AgreesEntry answer ls i old new (Err e) = Refuses answer old new e

-- the same of the lines from `i` on
abbrev pub ReadsEntry : (List Line → Read (List ℕ × Yaml)) → List Line → ℕ → Writer → Writer → Result EntryRead Refusal → Type 0
ReadsEntry read ls i old new r = AgreesEntry (read (drop i ls)) ls i old new r

-- the answer is 18
pub record Twice (answer : Read Entries) : Type 0 where
  pub line : ℕ
  pub is : answer ≡ refused 18 line 0

-- the entries `got` were read, after which `told` is the answer unless a key stands twice among them; if `exact`, none does
pub record Judged (answer told : Read Entries) (exact : Bool) (got : Entries) : Type 0 where
  pub single : key_twice got ≡ false → answer ≡ told
  pub twice : key_twice got ≡ true → Twice answer
  pub sure : exact ≡ true → key_twice got ≡ false

-- a run over entries, and what it tells of them
pub record Ran (answer : Read Entries) (ls : List Line) (i : ℕ) (exact : Bool) (old new : Writer) (end : Result ℕ Refusal) : Type 0 where
  pub got : Entries
  pub told : Read Entries
  pub judged : Judged answer told exact got
  pub agrees : AgreesBlock told ls i old new end

-- the same of the lines from `i` on, whatever keys stand twice: however it ends, the entries are all that is used more
abbrev pub ReadsEntries : (List Line → Read Entries) → List Line → ℕ → Writer → Writer → Result ℕ Refusal → Type 0
ReadsEntries read ls i old new r = (run : Ran (read (drop i ls)) ls i false old new r) × Lies new.out.now old.used new.used run.got

-- the same up to the first line whose key stands twice
abbrev pub ReadsOnce : (List Line → Read Entries) → List Line → ℕ → Writer → Writer → Result ℕ Refusal → Type 0
ReadsOnce read ls i old new r = Ran (read (drop i ls)) ls i true old new r
