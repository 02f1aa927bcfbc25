-- A turn of the walk over the lines of a mapping or a sequence, by what the code reads there. Assumes nothing.
use Rattle.std.proofs.Common.{◌≡◌, refl, sym, ap, ◌∙◌, ℕ, ◌+◌, ◌-◌, ◌<◌, ◌≤◌, Bor, List, ◌∷◌, Bool, true, false, ◌&&◌, length, take, drop, Err}
use Rattle.std.proofs.Math.Option.{some}
use Rattle.refusal.specs.declared.Refusal.{Refusal}
use Rattle.refusal.specs.declared.Refusal.TheVariants.{KeyTwice}
use Rattle.utf8.specs.White.{trim_start}
use Rattle.item.specs.Tree.{Yaml, Entries, has_key}
use Rattle.item.specs.Encode.{encode}
use Rattle.item.specs.declared.Found.TheVariants.{At}
use Rattle.writer.specs.declared.Writer.{Writer}
use Rattle.writer.specs.Writing.{cap_of, Begins, CutsBack}
use Rattle.entries.specs.Entries.{Lies, key_twice}
use Rattle.entries.proofs.Parts.{in_part}
use Rattle.entries.proofs.Walking.{lies-between}
use Rattle.flow.proofs.Invariants.{lies_in_written}
use Rattle.lines.specs.Lines.{Line}
use Rattle.lines.specs.Table.{line_at}
use Rattle.lines.proofs.Rows.{lines_next, lines_end}
use Rattle.scalar.specs.Code.{found_of}
use Rattle.scalar.specs.Contract.{Refuses}
use Rattle.literal.specs.Literal.{Read}
use Rattle.literal.specs.Contract.{WroteBlock}
use Rattle.literal.proofs.Laws.{leaf_wrote, leaf_refused}
use Rattle.block.specs.Block.{entry_at, item_behind, block_seq, within}
use Rattle.block.specs.Contract.{key_here, dash_here, column_at, text_at, WroteEntry, Ran}
use Rattle.block.proofs.Parts.{found_at, found_nothing}
use Rattle.block.proofs.Cases.{wrote-block, refuses-as, wrote-entry, agrees-block, block-end, child-end}
use Rattle.block.proofs.Places.{key-there, key-splits, entry-as, dash-there, dash-text, key-first, block-line-at, sequence-deep-at, block-sequence-at, mapping-deep-at, block-mapping-at, child-deeper-at, child-none-at, entry-done-at, value-nothing-at, value-literal-at, value-line-at, item-child-at, item-line-at, item-splits, item-deep-at, item-inline-at}
use Rattle.writer.proofs.Laws.{len_appended, written_length}
use Rattle.block.proofs.Invariants.{whole, inline-full, inline-later, mapped_end, mapped-start, mapped_all, map-full, map-refused, map-close, listed_start, list_full, Mapped, out-long, map-stops, map-cut, map-twice, map_on, Listed, sout-long, list-stops, list_on}

-- ---- what is told of the bytes that are written, by what `written`, `part` and the search ensure

-- the search for a key in a part
pub key_in_part : (w : Writer) {all part : Bor (List ℕ)} {start end from to i j : ℕ} (key : List ℕ) {found : Bool} → all.now ≡ take w.used w.out.now
    → part ≡ all → (from ≤ to → to ≤ length all.now → (start ≡ from) × (end ≡ to)) → from ≡ i → to ≡ j → i ≤ j → j ≤ w.used
    → ((es : Entries) → Lies part.now start end es → found ≡ has_key key es)
    → (es : Entries) → take (j - i) (drop i (take w.used w.out.now)) ≡ encode es → found ≡ has_key key es
key_in_part w key b p places m n h k s es e =
    s es (in_part es p places (rw (b, m, n) (lies-between _ _ _ es h (rw (written_length w refl) k) e)))

-- the search for a key that stands twice
pub repeats_told : (old mid : Writer) (es : Entries) → Lies mid.out.now old.used mid.used es → {all part : Bor (List ℕ)} {start end from to : ℕ} {found told : Bool}
    → from ≡ old.used → to ≡ mid.used → all.now ≡ take mid.used mid.out.now → part ≡ all → (from ≤ to → to ≤ length all.now → (start ≡ from) × (end ≡ to))
    → ((gs : Entries) → Lies part.now start end gs → found ≡ key_twice gs) → found ≡ told → key_twice es ≡ told
repeats_told old mid es l m n b p places s e = sym (s es (lies_in_written es p places m n b mid.within l)) ∙ e

module _ {ls : List Line} {first indent levels : ℕ} {exact : Bool} {old out : Writer} {i : ℕ} (v : Mapped ls first indent levels exact old out i)
    (split : ℕ) (f : At split ≡ found_of (key_here indent (drop i ls))) where
  here : key_here indent (drop i ls) ≡ some split
  here = found_at (key_here indent (drop i ls)) split f

  there : i < length ls
  there = key-there ls i indent split v.within' here

  abbrev l : Line
  l = line_at ls i

  abbrev rest : List Line
  rest = drop (i + 1) ls

  next : drop i ls ≡ l ∷ rest
  next = lines_next ls i there

  abbrev answer : Read Entries
  answer = whole ls first indent levels old

  -- the entry as the definition has it, and as the code reads it
  abbrev defined : Read (List ℕ × Yaml)
  defined = entry_at (cap_of old) (within (cap_of old) levels) l.number indent l.text split out.used rest

  abbrev read : Read (List ℕ × Yaml)
  read = entry_at (cap_of out) (within (cap_of out) levels) l.number (column_at l 0) (text_at l 0) split out.used rest

  defined-as : defined ≡ read
  defined-as = entry-as ls i there indent split here (cap_of out) (cap_of old) levels out.used (out-long v)

  pub turn-splits : (i < length ls) × (0 + split < length l.text)
  turn-splits = (there, key-splits ls i there indent split here)

  pub turn-stops : {new : Writer} {z : Refusal} → Refuses read out new z → Ran answer ls first exact old new (Err z)
  turn-stops {new} {z} r = map-stops v l rest next split here new z (refuses-as defined read out new z defined-as r)

  pub turn-cut : {mid new : Writer} {z : Refusal} → Refuses read out mid z → CutsBack mid new out.used
      → (run : Ran answer ls first exact old new (Err z)) × Lies new.out.now old.used new.used run.got
  turn-cut {mid} {new} {z} r b = map-cut v l rest next split here mid new z (refuses-as defined read out mid z defined-as r) b

  module _ {new : Writer} {j c : ℕ} (w : WroteEntry read ls (i + 1) out new j c) where
    put : WroteEntry defined ls (i + 1) out new j c
    put = wrote-entry defined read ls (i + 1) out new j c defined-as w

    module _ (found : Bool) (s : (es : Entries) → take (out.used - old.used) (drop old.used (take new.used new.out.now)) ≡ encode es
        → found ≡ exact && has_key (take (c - (out.used + 6)) (drop (out.used + 6) (take new.used new.out.now))) es) where
      pub turn-twice : found ≡ true → (n : ℕ) → n ≡ l.number → Ran answer ls first exact old new (Err (KeyTwice n))
      turn-twice = map-twice v l rest next split here new j c put found s

      pub turn_on : found ≡ false → Mapped ls first indent levels exact old new j
      turn_on = map_on v l rest next split here new j c put found s

module _ {ls : List Line} {first indent levels : ℕ} {a old : Writer} {header : ℕ} (begun : Begins a old header) {out : Writer} {i : ℕ} (v : Listed ls first indent levels old out i)
    (k : dash_here indent (drop i ls) ≡ true) where
  dash : i < length ls
  dash = dash-there ls i indent v.within' k

  -- the item, with so much room
  abbrev item : ℕ → Read Yaml
  item cap = item_behind cap (within cap levels) (line_at ls i) out.used (trim_start (drop 1 (line_at ls i).text)) (drop (i + 1) ls)

  item-as : item (cap_of old) ≡ item (cap_of out)
  item-as = ap item (sym (sout-long begun v))

  pub item-text : (i < length ls) × (0 < length (line_at ls i).text)
  item-text = (dash, dash-text ls i indent dash k)

  pub item-stops : {new : Writer} {z : Refusal} → Refuses (item (cap_of out)) out new z → Refuses (block_seq (cap_of a) (within (cap_of a) levels) indent a.used (drop first ls)) a new z
  item-stops {new} {z} r = list-stops begun v (line_at ls i) (drop (i + 1) ls) (lines_next ls i dash) k new z (refuses-as _ _ out new z item-as r)

  pub item_on : {new : Writer} {j : ℕ} → WroteBlock (item (cap_of out)) ls (i + 1) out new j → Listed ls first indent levels old new j
  item_on {new} {j} w = list_on begun v (line_at ls i) (drop (i + 1) ls) (lines_next ls i dash) k new j (wrote-block _ _ ls (i + 1) out new j item-as w)

-- what the search tries, by the reader
pub ruleset children = (agrees-block, child-end, child-deeper-at, child-none-at, lines_end, leaf_wrote, leaf_refused)

pub ruleset entry_values = (agrees-block, value-nothing-at, value-literal-at, value-line-at)

pub ruleset entry_reads = (entry-done-at, len_appended)

pub ruleset all_turns = (mapped-start, turn_on, mapped_all, found_nothing)

pub ruleset mappings = (map-full, map-refused, map-close)

pub ruleset sequences = (list_full, listed_start)

pub ruleset blocks = (agrees-block, leaf_wrote, leaf_refused, block-end, key-first, block-line-at, sequence-deep-at, block-sequence-at, mapping-deep-at, block-mapping-at, lines_end)

pub ruleset items = (agrees-block, item-child-at, item-line-at, item-splits, item-deep-at, item-inline-at, found_at, found_nothing)

pub ruleset once_turns = (mapped-start, mapped_end, found_nothing)

pub ruleset inlines = (inline-full, inline-later)
