-- YAML 1.2.2, chapter 5: characters. The numbers in brackets are its productions. A text is UTF-8, as bytes. Every character that a
-- production tells apart is ASCII, so the classes below look at one byte; that no byte is one of another kind of character (a control
-- character, a byte order mark) is `Printable`, which looks at code points. Uses Base of `refusal`; Utf8 and Points of `utf8`. Assumes
-- nothing.
use Rattle.std.specs.Prelude.{◌≡◌, ℕ, ◌+◌, List, [], ◌∷◌, ◌++◌, Bool, true, false, ◌&&◌, ◌||◌, not, T, eqb, leb, ltb, replicate}
use Rattle.refusal.specs.Base.{ch, bytes}
use Rattle.utf8.specs.Utf8.{◌‥◌, within}
use Rattle.utf8.specs.Points.{encode, in_any}

-- [1] c-printable, without the byte order mark [3], which YAML allows before a document and in quotes
unfoldable pub printable : ℕ → Bool
printable c =
    in_any ((0x9 ‥ 0xa) ∷ (0xd ‥ 0xd) ∷ (0x20 ‥ 0x7e) ∷ (0x85 ‥ 0x85) ∷ (0xa0 ‥ 0xd7ff) ∷ (0xe000 ‥ 0xfefe) ∷ (0xff00 ‥ 0xfffd) ∷ (0x10000 ‥ 0x10ffff) ∷ []) c

unfoldable pub utf8_of : List ℕ → List ℕ
utf8_of [] = []
utf8_of (c ∷ cs) = encode c ++ utf8_of cs

unfoldable pub all_printable : List ℕ → Bool
all_printable [] = true
all_printable (c ∷ cs) = printable c && all_printable cs

-- a text is the UTF-8 of printable characters
pub record Printable (t : List ℕ) : Type 0 where
  pub points : List ℕ
  pub is : t ≡ utf8_of points
  pub are : T (all_printable points)

-- how many characters: bytes 80 to BF go on with one
unfoldable pub characters : List ℕ → ℕ
characters [] = 0
characters (b ∷ bs) = (elim (within (0x80 ‥ 0xbf) b) [ true ↦ 0 | false ↦ 1 ]) + characters bs

-- [33] s-white
abbrev pub white : ℕ → Bool
white b = eqb b (ch " ") || eqb b (ch "\t")

unfoldable pub whites : List ℕ → Bool
whites [] = true
whites (b ∷ bs) = white b && whites bs

-- [27] nb-char, and in printable text [2] nb-json
abbrev pub nb_char : ℕ → Bool
nb_char b = eqb b (ch "\t") || leb 0x20 b

unfoldable pub nb_chars : List ℕ → Bool
nb_chars [] = true
nb_chars (b ∷ bs) = nb_char b && nb_chars bs

-- [34] ns-char: no white space and no line break
abbrev pub ns_char : ℕ → Bool
ns_char b = ltb 0x20 b && not (eqb b 0x7f)

-- [22] c-indicator
abbrev pub indicators : List ℕ
indicators = bytes "-?:,[]{}#&*!|>'\"%@`"

-- [23] c-flow-indicator
abbrev pub flow_indicators : List ℕ
flow_indicators = bytes ",[]{}"

unfoldable pub among : ℕ → List ℕ → Bool
among b [] = false
among b (c ∷ cs) = eqb b c || among b cs

-- [63] s-indent(n)
abbrev pub spaces : ℕ → List ℕ
spaces n = replicate n (ch " ")
