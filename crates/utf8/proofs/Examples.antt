-- The definitions at worked examples, each computed: document 01's white space is white space in UTF-8, with its length, and its
-- neighbours are none; texts that RFC 3629 takes or refuses; texts trimmed. Assumes nothing.
use Rattle.std.proofs.Common.{◌≡◌, refl, [], ◌∷◌, map, true, false, ℕ}
use Rattle.refusal.proofs.Open.{Base-open}
use Rattle.utf8.specs.Utf8.{is_utf8}
use Rattle.utf8.proofs.Open.{Utf8-open, Points-open, White-open}
use Rattle.utf8.specs.Points.{encode}
use Rattle.utf8.specs.White.{white_len, trim}

abbrev white : ℕ → ℕ
white c = white_len (encode c)

-- the 25 code points of document 01
one_byte : map white (0x9 ∷ 0xa ∷ 0xb ∷ 0xc ∷ 0xd ∷ 0x20 ∷ []) ≡ 1 ∷ 1 ∷ 1 ∷ 1 ∷ 1 ∷ 1 ∷ []
unfolding Points-open Base-open Utf8-open White-open
one_byte = refl

two_bytes : map white (0x85 ∷ 0xa0 ∷ []) ≡ 2 ∷ 2 ∷ []
unfolding Points-open Base-open Utf8-open White-open
two_bytes = refl

from-2000 : map white (0x2000 ∷ 0x2001 ∷ 0x2002 ∷ 0x2003 ∷ 0x2004 ∷ 0x2005 ∷ 0x2006 ∷ 0x2007 ∷ 0x2008 ∷ 0x2009 ∷ 0x200a ∷ []) ≡ 3 ∷ 3 ∷ 3 ∷ 3 ∷ 3 ∷ 3 ∷ 3 ∷ 3 ∷ 3 ∷ 3 ∷ 3 ∷ []
unfolding Points-open Base-open Utf8-open White-open
from-2000 = refl

three-bytes : map white (0x1680 ∷ 0x2028 ∷ 0x2029 ∷ 0x202f ∷ 0x205f ∷ 0x3000 ∷ []) ≡ 3 ∷ 3 ∷ 3 ∷ 3 ∷ 3 ∷ 3 ∷ []
unfolding Points-open Base-open Utf8-open White-open
three-bytes = refl

-- what others take for white space: 1C, 1F, 180E, 200B, FEFF; and what stands beside it
no-white : map white (0x8 ∷ 0xe ∷ 0x1c ∷ 0x1f ∷ 0x21 ∷ 0x84 ∷ 0x86 ∷ 0x9f ∷ 0xa1 ∷ 0x180e ∷ 0x1fff ∷ 0x200b ∷ 0x2027 ∷ 0x202a ∷ 0x2060 ∷ 0x3001 ∷ 0xfeff ∷ []) ≡ 0 ∷ 0 ∷ 0 ∷ 0 ∷ 0 ∷ 0 ∷ 0 ∷ 0 ∷ 0 ∷ 0 ∷ 0 ∷ 0 ∷ 0 ∷ 0 ∷ 0 ∷ 0 ∷ 0 ∷ []
unfolding Points-open Base-open Utf8-open White-open
no-white = refl

-- the examples of RFC 3629, section 7: A, not identical to, alpha, full stop; and a Chinese character with a BOM before it
rfc-first : is_utf8 (0x41 ∷ 0xe2 ∷ 0x89 ∷ 0xa2 ∷ 0xce ∷ 0x91 ∷ 0x2e ∷ []) ≡ true
unfolding Base-open Utf8-open
rfc-first = refl

rfc-last : is_utf8 (0xef ∷ 0xbb ∷ 0xbf ∷ 0xf0 ∷ 0xa3 ∷ 0x8e ∷ 0xb4 ∷ []) ≡ true
unfolding Base-open Utf8-open
rfc-last = refl

replacement : is_utf8 (0xef ∷ 0xbf ∷ 0xbd ∷ []) ≡ true
unfolding Base-open Utf8-open
replacement = refl

last-code-point : is_utf8 (0xf4 ∷ 0x8f ∷ 0xbf ∷ 0xbf ∷ []) ≡ true
unfolding Base-open Utf8-open
last-code-point = refl

surrogate : is_utf8 (0xed ∷ 0xa0 ∷ 0x80 ∷ []) ≡ false
unfolding Base-open Utf8-open
surrogate = refl

beyond : is_utf8 (0xf4 ∷ 0x90 ∷ 0x80 ∷ 0x80 ∷ []) ≡ false
unfolding Base-open Utf8-open
beyond = refl

overlong-two : is_utf8 (0xc0 ∷ 0x80 ∷ []) ≡ false
unfolding Base-open Utf8-open
overlong-two = refl

overlong-three : is_utf8 (0xe0 ∷ 0x80 ∷ 0x80 ∷ []) ≡ false
unfolding Base-open Utf8-open
overlong-three = refl

cut_off : is_utf8 (0x61 ∷ 0xe2 ∷ 0x82 ∷ []) ≡ false
unfolding Base-open Utf8-open
cut_off = refl

-- both ends go and the middle stays; a character that is cut off stays too
trims : trim (0x20 ∷ 0xc2 ∷ 0xa0 ∷ 0x61 ∷ 0x20 ∷ 0x62 ∷ 0x09 ∷ 0xe3 ∷ 0x80 ∷ 0x80 ∷ []) ≡ 0x61 ∷ 0x20 ∷ 0x62 ∷ []
unfolding Base-open Utf8-open White-open
trims = refl

trims-cut-off : trim (0xc2 ∷ 0x20 ∷ 0xe2 ∷ 0x80 ∷ []) ≡ 0xc2 ∷ 0x20 ∷ 0xe2 ∷ 0x80 ∷ []
unfolding Base-open Utf8-open White-open
trims-cut-off = refl
