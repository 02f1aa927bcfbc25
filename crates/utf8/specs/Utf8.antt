-- RFC 3629, section 4: UTF-8 as the table of well-formed sequences, and the texts made of them. Utf8Points of proofs/ shows that these are
-- the texts that the bit layout of its section 3 encodes. Uses Base of `refusal`. Assumes nothing.
use Rattle.std.specs.Prelude.{◌≡◌, ℕ, List, [], ◌∷◌, Bool, true, false, ◌&&◌, leb, if◌then◌else◌}
use Rattle.std.proofs.Math.Option.{Option, none, some}
use Rattle.refusal.specs.Base.{maybe}

-- the bytes from `low` to `high`, both among them
pub record Range : Type 0 where
  pub low : ℕ
  pub high : ℕ

infix 40 ◌‥◌
abbrev pub ◌‥◌ : ℕ → ℕ → Range
◌‥◌ a b = record { low = a; high = b }

unfoldable pub within : Range → ℕ → Bool
within r b = leb r.low b && leb b r.high

-- UTF8-tail
abbrev pub tail : Range
tail = 0x80 ‥ 0xbf

-- a form of a character: where its first byte lies, and each byte behind it
pub record Row : Type 0 where
  pub first : Range
  pub behind : List Range

abbrev pub row : Range → List Range → Row
row r rs = record { first = r; behind = rs }

-- UTF8-char = UTF8-1 / UTF8-2 / UTF8-3 / UTF8-4, a row for each alternative, in the order of the RFC
unfoldable pub table : List Row
table =
    -- UTF8-1
    row (0x00 ‥ 0x7f) []
    -- UTF8-2
    ∷ row (0xc2 ‥ 0xdf) (tail ∷ [])
    -- UTF8-3
    ∷ row (0xe0 ‥ 0xe0) ((0xa0 ‥ 0xbf) ∷ tail ∷ [])
    ∷ row (0xe1 ‥ 0xec) (tail ∷ tail ∷ [])
    ∷ row (0xed ‥ 0xed) ((0x80 ‥ 0x9f) ∷ tail ∷ [])
    ∷ row (0xee ‥ 0xef) (tail ∷ tail ∷ [])
    -- UTF8-4
    ∷ row (0xf0 ‥ 0xf0) ((0x90 ‥ 0xbf) ∷ tail ∷ tail ∷ [])
    ∷ row (0xf1 ‥ 0xf3) (tail ∷ tail ∷ tail ∷ [])
    ∷ row (0xf4 ‥ 0xf4) ((0x80 ‥ 0x8f) ∷ tail ∷ tail ∷ [])
    ∷ []

-- what the first row that a first byte fits says of the bytes behind it
unfoldable pub behind_in : List Row → ℕ → Option (List Range)
behind_in [] b = none
behind_in (r ∷ rows) b = if within r.first b then some r.behind else behind_in rows b

-- the ranges of the bytes that must follow a first byte; none where no character begins so
unfoldable pub tails_of : ℕ → Option (List Range)
tails_of b = behind_in table b

-- UTF8-octets = *( UTF8-char ), of a text whose next bytes must lie in the ranges `due`
unfoldable pub utf8_from : List Range → List ℕ → Bool
utf8_from [] [] = true
utf8_from (r ∷ due) [] = false
utf8_from [] (b ∷ bs) = maybe (tails_of b) false λ due. utf8_from due bs
utf8_from (r ∷ due) (b ∷ bs) = within r b && utf8_from due bs

unfoldable pub is_utf8 : List ℕ → Bool
is_utf8 text = utf8_from [] text

abbrev pub Utf8 : List ℕ → Type 0
Utf8 text = is_utf8 text ≡ true
