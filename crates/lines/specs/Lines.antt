-- Section 1 of document 01: the significant lines of a text. Uses Base of `refusal`; White of `utf8`. Assumes nothing.
use Rattle.std.specs.Prelude.{ℕ, zero, suc, ◌-◌, List, [], ◌∷◌, ◌++◌, Bool, false, ◌&&◌, ◌||◌, ltb, eqb, drop, take, if◌then◌else◌}
use Rattle.refusal.specs.Base.{Answer, good, refused, ◌>>=◌, ch, bytes, same, empty, ends_with}
use Rattle.lines.specs.declared.Place.{Place}
use Rattle.lines.specs.declared.Place.TheVariants.{Fresh, Plain, Single, Double, Hidden}
use Rattle.lines.specs.declared.Literal.{Literal}
use Rattle.lines.specs.declared.Literal.TheVariants.{Closed, Under}
use Rattle.utf8.specs.White.{leading, all_white, trim_end}

-- an entry: its indentation, its text, its line's number
pub record Line : Type 0 where
  pub indent : ℕ
  pub text : List ℕ
  pub number : ℕ

abbrev pub line : ℕ → List ℕ → ℕ → Line
line i t n = record { indent = i; text = t; number = n }

-- ---- the lines of a text: each ends at a newline, a carriage return before it going too

unfoldable pub begins_newline : List ℕ → Bool
begins_newline [] = false
begins_newline (b ∷ bs) = eqb b (ch "\n")

unfoldable pub prepend : ℕ → List (List ℕ) → List (List ℕ)
prepend b [] = (b ∷ []) ∷ []
prepend b (l ∷ ls) = (b ∷ l) ∷ ls

unfoldable pub split_lines : List ℕ → List (List ℕ)
split_lines [] = []
split_lines (b ∷ bs) =
    if eqb b (ch "\n") then [] ∷ split_lines bs
    else if eqb b (ch "\r") && begins_newline bs then split_lines bs
    else prepend b (split_lines bs)

-- ---- one line: its indentation, a tab in it, its comment

-- spaces only
unfoldable pub indent_of : List ℕ → ℕ
indent_of [] = 0
indent_of (b ∷ bs) = if eqb b (ch " ") then suc (indent_of bs) else 0

unfoldable pub has_tab : List ℕ → Bool
has_tab [] = false
has_tab (b ∷ bs) = eqb b (ch "\t") || has_tab bs

-- a tab in the leading white space
unfoldable pub tabbed : List ℕ → Bool
tabbed raw = has_tab (take (leading raw) raw)

-- the place behind a byte that stands outside quotes: a quote opens anywhere
unfoldable pub after_plain : ℕ → Place
after_plain b =
    if eqb b (ch " ") then Fresh
    else if eqb b (ch "'") then Single
    else if eqb b (ch "\"") then Double
    else Plain

-- the place behind a byte: `\` in double quotes hides the next byte
unfoldable pub place_after : Place → ℕ → Place
place_after Fresh b = after_plain b
place_after Plain b = after_plain b
place_after Single b = if eqb b (ch "'") then Plain else Single
place_after Double b = if eqb b (ch "\"") then Plain else if eqb b (ch "\\") then Hidden else Double
place_after Hidden b = Double

-- a `#` first or after a space, outside quotes
unfoldable pub starts_comment : Place → ℕ → Bool
starts_comment Fresh b = eqb b (ch "#")
starts_comment Plain b = false
starts_comment Single b = false
starts_comment Double b = false
starts_comment Hidden b = false

-- the text before a comment
unfoldable pub uncommented : Place → List ℕ → List ℕ
uncommented p [] = []
uncommented p (b ∷ bs) = if starts_comment p b then [] else b ∷ uncommented (place_after p b) bs

unfoldable pub strip_comment : List ℕ → List ℕ
strip_comment s = uncommented Fresh s

-- what is left of a line that is read normally
unfoldable pub significant : List ℕ → List ℕ
significant raw = trim_end (strip_comment (drop (indent_of raw) raw))

unfoldable pub is_marker : List ℕ → Bool
is_marker t = same t (bytes "---") || same t (bytes "...")

unfoldable pub opens_literal : List ℕ → Bool
opens_literal t = ends_with (bytes ": |") t || ends_with (bytes ": |-") t

-- ---- the scan: each line of the text gives entries, a refusal, or nothing

pub data Event : Type 0 where
  entry : Line → Event
  bad : ℕ → ℕ → Event  -- a refusal's number and line

-- line `n`, read normally
unfoldable pub events_of : ℕ → List ℕ → List Event
events_of n raw =
    if tabbed raw then bad 4 n ∷ []
    else if empty (significant raw) then []
    else if is_marker (significant raw) then bad 5 n ∷ []
    else entry (line (indent_of raw) (significant raw) n) ∷ []

-- what is open behind a line with this text and indentation
unfoldable pub literal_of : List ℕ → ℕ → Literal
literal_of t i = if opens_literal t then Under i else Closed

unfoldable pub literal_after : List ℕ → Literal
literal_after raw = literal_of (significant raw) (indent_of raw)

-- the `waiting` blank lines before line `n`, with its indentation
unfoldable pub blanks_before : ℕ → ℕ → ℕ → List Event
blanks_before zero n i = []
blanks_before (suc waiting) n i = entry (line i [] (n - suc waiting)) ∷ blanks_before waiting n i

-- line `n` as a body line of a literal: its end is trimmed, and the blank lines that wait go before it
unfoldable pub body_of : ℕ → ℕ → List ℕ → List Event
body_of waiting n raw =
    if tabbed raw then bad 4 n ∷ []
    else blanks_before waiting n (indent_of raw) ++ entry (line (indent_of raw) (trim_end (drop (indent_of raw) raw)) n) ∷ []

-- the lines from number `n` on; the `waiting` lines before them are blank lines of the open literal
unfoldable pub scan : Literal → ℕ → ℕ → List (List ℕ) → List Event
scan lit waiting n [] = []
scan Closed waiting n (raw ∷ raws) = events_of n raw ++ scan (literal_after raw) 0 (suc n) raws
scan (Under at) waiting n (raw ∷ raws) =
    if all_white raw then scan (Under at) (suc waiting) (suc n) raws
    else if ltb at (indent_of raw) then body_of waiting n raw ++ scan (Under at) 0 (suc n) raws
    else events_of n raw ++ scan (literal_after raw) 0 (suc n) raws

-- the entries up to the first refusal, of which at most `room` are taken
unfoldable pub collect : ℕ → List Event → Answer (List Line)
collect room [] = good []
collect room (bad k n ∷ es) = refused k n 0
collect zero (entry l ∷ es) = refused 3 l.number 0
collect (suc room) (entry l ∷ es) = collect room es >>= λ ls. good (l ∷ ls)

-- a text has at most so many entries
abbrev pub most_lines : ℕ
most_lines = 2048

unfoldable pub significant_lines : List ℕ → Answer (List Line)
significant_lines text = collect most_lines (scan Closed 0 1 (split_lines text))
