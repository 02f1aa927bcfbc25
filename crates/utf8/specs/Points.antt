-- RFC 3629, section 3, and section 1 of document 01: code points, their UTF-8, and those that are white space. Uses Utf8 of this crate.
-- Assumes nothing.
use Rattle.std.specs.Prelude.{ℕ, ◌+◌, ◌/◌, ◌%◌, ◌^◌, List, [], ◌∷◌, Bool, false, ◌||◌, leb, if◌then◌else◌}
use Rattle.utf8.specs.Utf8.{Range, ◌‥◌, within}

-- the last six bits of a number, as a byte behind the first
unfoldable pub six_of : ℕ → ℕ
six_of c = 0x80 + c % 64

-- the bit layout, by the number of bytes that a code point needs
unfoldable pub encode : ℕ → List ℕ
encode c =
    if leb c 0x7f then c ∷ []
    else if leb c 0x7ff then (0xc0 + c / 64) ∷ six_of c ∷ []
    else if leb c 0xffff then (0xe0 + c / 4096) ∷ six_of (c / 64) ∷ six_of c ∷ []
    else (0xf0 + c / (2 ^ 18)) ∷ six_of (c / 4096) ∷ six_of (c / 64) ∷ six_of c ∷ []

unfoldable pub in_any : List Range → ℕ → Bool
in_any [] c = false
in_any (r ∷ rs) c = within r c || in_any rs c

-- the code points that UTF-8 has: up to 10FFFF, without the surrogates D800 to DFFF
unfoldable pub scalar : ℕ → Bool
scalar c = in_any ((0x0 ‥ 0xd7ff) ∷ (0xe000 ‥ 0x10ffff) ∷ []) c

-- white space: 9 to D, 20, 85, A0, 1680, 2000 to 200A, 2028, 2029, 202F, 205F, 3000
unfoldable pub white_points : List Range
white_points =
    (0x9 ‥ 0xd)
    ∷ (0x20 ‥ 0x20)
    ∷ (0x85 ‥ 0x85)
    ∷ (0xa0 ‥ 0xa0)
    ∷ (0x1680 ‥ 0x1680)
    ∷ (0x2000 ‥ 0x200a)
    ∷ (0x2028 ‥ 0x2029)
    ∷ (0x202f ‥ 0x202f)
    ∷ (0x205f ‥ 0x205f)
    ∷ (0x3000 ‥ 0x3000)
    ∷ []

unfoldable pub white_point : ℕ → Bool
white_point c = in_any white_points c
