-- How many bytes an encoding has. Assumes nothing.
use Rattle.std.proofs.Common.{◌≡◌, refl, ap, ◌∙◌, ℕ, zero, suc, ◌+◌, ◌/◌, ◌<◌, ◌^◌, arith, List, [], ◌∷◌, length, length-append}
use Rattle.item.specs.Tree.{Shape, Node, Yaml, null, bool, int, str, seq, dict, end, ◌▸◌, done, pair}
use Rattle.item.specs.Encode.{le, head, item, flag, twos, encode}

pub le-length : (k n : ℕ) → length (le k n) ≡ k
unfolding le
le-length zero n = refl
le-length (suc k) n = ap suc (le-length k (n / 256))

pub head-length : (k n : ℕ) → length (head k n) ≡ 6
unfolding head
head-length k n = simp (length-append, le-length)

pub item-length : (k : ℕ) (c : List ℕ) → length (item k c) ≡ 6 + length c
unfolding item
item-length k c = simp (length-append, head-length)

pub content-small : (k : ℕ) (c : List ℕ) → length (item k c) < 256 ^ 4 → length c < 256 ^ 4
content-small k c h = omega (arith, item-length k c)

-- what each part of a tree adds: a scalar its item, a key its text's item, a collection 6
abbrev pub size : {s : Shape} → Node s → ℕ
size null = 6
size (bool b) = 7
size (int z) = 14
size (str s) = 6 + length s
size (seq ys) = 6 + size ys
size (dict es) = 6 + size es
size end = 0
size (y ▸ ys) = size y + size ys
size done = 0
size (pair k v es) = 6 + length k + (size v + size es)

pub encode-size : {s : Shape} (y : Node s) → length (encode y) ≡ size y
unfolding encode
encode-size null = item-length 0 []
encode-size (bool b) = item-length 1 (flag b ∷ [])
encode-size (int z) = item-length 2 (le 8 (twos z)) ∙ ap (λ (n : ℕ). 6 + n) (le-length 8 (twos z))
encode-size (str s) = item-length 3 s
encode-size (seq ys) = item-length 4 (encode ys) ∙ ap (λ (n : ℕ). 6 + n) (encode-size ys)
encode-size (dict es) = item-length 5 (encode es) ∙ ap (λ (n : ℕ). 6 + n) (encode-size es)
encode-size end = refl
encode-size (y ▸ ys) = simp (length-append, encode-size y, encode-size ys)
encode-size done = refl
encode-size (pair k v es) = simp (length-append, item-length, encode-size v, encode-size es)

-- no value is written as nothing
pub encode-long : (y : Yaml) → 0 < length (encode y)
encode-long null = omega (arith, encode-size null)
encode-long (bool b) = omega (arith, encode-size (bool b))
encode-long (int z) = omega (arith, encode-size (int z))
encode-long (str s) = omega (arith, encode-size (str s))
encode-long (seq ys) = omega (arith, encode-size (seq ys))
encode-long (dict es) = omega (arith, encode-size (dict es))
