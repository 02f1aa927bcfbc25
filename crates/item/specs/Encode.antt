-- Section 5 of document 01, kinds 0 to 5: the items that trees are written as. Uses Tree of this crate. Assumes nothing.
use Rattle.std.specs.Prelude.{ℕ, zero, suc, ◌+◌, ◌-◌, ◌*◌, ◌/◌, ◌%◌, ◌<◌, List, [], ◌∷◌, ◌++◌, Bool, true, false, length, ℤ, pos, negsuc, neg_ℤ}
use Rattle.item.specs.Tree.{Shape, Node, Yaml, null, bool, int, str, seq, dict, end, ◌▸◌, done, pair}

-- every element is a byte
abbrev pub Bytes : List ℕ → Type 0
Bytes [] = Unit {0}
Bytes (b ∷ bs) = (b < 256) × Bytes bs

-- so many bytes of a number, the lowest first
unfoldable pub le : ℕ → ℕ → List ℕ
le zero n = []
le (suc k) n = n % 256 ∷ le k (n / 256)

-- the number whose bytes these are
unfoldable pub number : List ℕ → ℕ
number [] = 0
number (b ∷ bs) = b + 256 * number bs

-- content length (4 bytes), kind (2 bytes)
unfoldable pub head : ℕ → ℕ → List ℕ
head kind size = le 4 size ++ le 2 kind

-- the header, the content
unfoldable pub item : ℕ → List ℕ → List ℕ
item kind content = head kind (length content) ++ content

unfoldable pub flag : Bool → ℕ
flag true = 1
flag false = 0

-- 64-bit two's complement, as a number
unfoldable pub twos : ℤ → ℕ
twos (pos n) = n
twos (negsuc n) = 0xffff_ffff_ffff_ffff - n

-- an integer by its sign and its magnitude
unfoldable pub signed : Bool → ℕ → ℤ
signed false n = pos n
signed true n = neg_ℤ (pos n)

unfoldable pub encode : {s : Shape} → Node s → List ℕ
encode null = item 0 []
encode (bool b) = item 1 (flag b ∷ [])
encode (int z) = item 2 (le 8 (twos z))
encode (str s) = item 3 s
encode (seq ys) = item 4 (encode ys)
encode (dict es) = item 5 (encode es)
encode end = []
encode (y ▸ ys) = encode y ++ encode ys
encode done = []
encode (pair k v es) = item 3 k ++ (encode v ++ encode es)

-- the kind of a value's item
unfoldable pub kind_of : Yaml → ℕ
kind_of null = 0
kind_of (bool b) = 1
kind_of (int z) = 2
kind_of (str s) = 3
kind_of (seq ys) = 4
kind_of (dict es) = 5
