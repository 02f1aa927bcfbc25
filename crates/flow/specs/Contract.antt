-- For the contracts inside the crate: what the readers of collections promise. Uses Base and Told of `refusal`; Tree and Encode of `item`;
-- Writing of `writer`; Entries of `entries`; Contract, Scalars and Read of `scalar`; Flow of this crate. Assumes nothing.
use Rattle.std.specs.Prelude.{◌≡◌, ℕ, zero, suc, ◌≤◌, ◌<◌, List, [], ◌∷◌, ◌++◌, Bool, true, ◌&&◌, ◌||◌, eqb, length, drop, Result, Ok, Err, if◌then◌else◌}
use Rattle.std.proofs.Math.Option.{Option, none, some}
use Rattle.refusal.specs.Base.{Answer, good, refused, ◌>>=◌, given, ch}
use Rattle.refusal.specs.Told.{refusal}
use Rattle.refusal.specs.declared.Refusal.{Refusal}
use Rattle.item.specs.Tree.{Yaml, Items, end, Entries, done}
use Rattle.item.specs.Encode.{item, encode}
use Rattle.writer.specs.declared.Writer.{Writer}
use Rattle.writer.specs.Writing.{Appends, Keeps}
use Rattle.entries.specs.Entries.{Lies, key_twice}
use Rattle.scalar.specs.declared.Role.{Role}
use Rattle.scalar.specs.declared.Role.TheVariants.{AsKey}
use Rattle.scalar.specs.Contract.{written, is_key, Refuses}
use Rattle.scalar.specs.Scalars.{key_text}
use Rattle.scalar.specs.Read.{Got, Reader, skip_spaces}
use Rattle.flow.specs.Flow.{items, entries, behind_colon, entry_value, value}

-- what stands between the items of a collection: spaces, and once there is one, commas
unfoldable pub separates : Bool → ℕ → Bool
separates got b = eqb b (ch " ") || (got && eqb b (ch ","))

unfoldable pub skip_separators : Bool → List ℕ → List ℕ
skip_separators got [] = []
skip_separators got (b ∷ bs) = if separates got b then skip_separators got bs else b ∷ bs

-- a byte behind an entry's colon that leaves out its value
unfoldable pub leaves_out : ℕ → Bool
leaves_out b = eqb b (ch ",") || eqb b (ch "}")

-- how a value is read in a collection that `levels` more may be opened in
unfoldable pub levels_inside : ℕ → ℕ → ℕ → Option Reader
levels_inside cap n zero = none
levels_inside cap n (suc levels) = some (λ r s b. value cap n levels true r s b)

-- the items behind a `[`, and the entries behind a `{`, where `sum` bytes are used
unfoldable pub flow_items : ℕ → ℕ → ℕ → ℕ → List ℕ → Answer (Got Items)
flow_items cap n levels sum bs = items cap n (λ r s b. value cap n levels true r s b) (suc (length bs)) end sum bs

unfoldable pub flow_entries : ℕ → ℕ → ℕ → ℕ → List ℕ → Answer (Got Entries)
flow_entries cap n levels sum bs = entries cap n (λ r s b. value cap n levels true r s b) (suc (length bs)) done sum bs

-- a key, a colon and a value
unfoldable pub entry_of : ℕ → ℕ → Reader → ℕ → List ℕ → Answer (Got (List ℕ × Yaml))
entry_of cap n inside sum bs = do
  (k, sum₁, rest₁) ← inside AsKey sum bs
  key ← given (key_text k) 16 n 0
  rest₂ ← behind_colon cap n (skip_spaces rest₁)
  (v, sum₂, rest₃) ← entry_value cap n inside sum₁ (skip_spaces rest₂)
  good ((key, v), sum₂, rest₃)

-- a part read from `s` up to `next`, and written behind what was written before
pub record Wrote {A : Type 0} (bytes : A → List ℕ) (answer : Answer (Got A)) (s : List ℕ) (old new : Writer) (next : ℕ) : Type 0 where
  pub got : A
  pub is : answer ≡ good (got, new.used, drop next s)
  pub appends : Appends old new (bytes got)
  pub forward : next ≤ length s

abbrev pub Reads : {A : Type 0} → (A → List ℕ) → Answer (Got A) → List ℕ → Writer → Writer → Result ℕ Refusal → Type 0
Reads bytes answer s old new (Ok next) = Wrote bytes answer s old new next
Reads bytes answer s old new (Err e) = Refuses answer old new e

abbrev pub pair_bytes : List ℕ × Yaml → List ℕ
pair_bytes (k, v) = item 3 k ++ encode v

-- an entry that begins at `i`
abbrev pub ReadsPair : Answer (Got (List ℕ × Yaml)) → List ℕ → Writer → Writer → ℕ → Result ℕ Refusal → Type 0
ReadsPair answer s old new i (Ok next) = Wrote pair_bytes answer s old new next × (i < next)
ReadsPair answer s old new i (Err e) = Refuses answer old new e

-- what is told of entries that were read, if no key stands twice
abbrev pub end_of : List ℕ → ℕ → Entries → Result ℕ Refusal → Answer (Got Entries)
end_of s used got (Ok next) = good (got, used, drop next s)
end_of s used got (Err e) = refusal e

-- where they close, nothing is written but them
abbrev pub ClosedBy : List ℕ → Writer → Writer → Entries → Result ℕ Refusal → Type 0
ClosedBy s old new got (Ok next) = (next ≤ length s) × Appends old new (encode got)
ClosedBy s old new got (Err e) = Unit {0}

-- 18: entries that are read on the line `n`, and all that is used more, however they end; a key that stands twice among them comes before
-- their end
pub record ReadsEntries (answer : Answer (Got Entries)) (n : ℕ) (s : List ℕ) (old new : Writer) (end : Result ℕ Refusal) : Type 0 where
  pub got : Entries
  pub is : answer ≡ (if key_twice got then refused 18 n 0 else end_of s new.used got end)
  pub keeps : Keeps old new
  pub lies : Lies new.out.now old.used new.used got
  pub closed : ClosedBy s old new got end

-- a part of a line that is one value, written behind what was written before
pub record WroteWhole (role : Role) (answer : Answer (Yaml × ℕ)) (old new : Writer) (key : Bool) : Type 0 where
  pub tree : Yaml
  pub is : answer ≡ good (tree, new.used)
  pub appends : Appends old new (written role tree)
  pub keyed : key ≡ is_key tree

abbrev pub ReadsWhole : Role → Answer (Yaml × ℕ) → Writer → Writer → Result Bool Refusal → Type 0
ReadsWhole role answer old new (Ok key) = WroteWhole role answer old new key
ReadsWhole role answer old new (Err e) = Refuses answer old new e
