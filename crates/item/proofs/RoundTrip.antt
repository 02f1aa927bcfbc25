-- The round trip: what is encoded is decoded to the same tree, so that no encoding is the front of another. Assumes nothing.
use Rattle.std.proofs.Common.{◌≡◌, refl, sym, ap, ◌∙◌, ℕ, zero, suc, ◌+◌, ◌-◌, ◌/◌, ◌^◌, ◌≤◌, ◌<◌, pow-suc, le_refl, arith, List, [], ◌∷◌, ◌++◌, append_assoc, true, false, length, take, drop, length-append, take_at, drop_at, ℤ, pos, negsuc, le-leb, lt-ltb, le-ltb}
use Rattle.std.proofs.Math.Option.{Option, none, some, some-injective}
use lib.Signed.{mag}
use Rattle.item.specs.Tree.{Ranged, Shape, one, many, keyed, Node, Yaml, null, bool, int, str, seq, dict, end, ◌▸◌, done, pair, levels}
use Rattle.item.specs.Encode.{le, number, head, item, flag, twos, encode}
use Rattle.item.specs.Decode.{◌>>=◌, header, unflag, untwos, nothing, unint, unkey, decode_items, decode_entries, content_of, node, decode}
use Rattle.item.proofs.Size.{le-length, head-length, item-length, content-small, encode-long}

pub number-le : (k n : ℕ) → n < 256 ^ k → number (le k n) ≡ n
unfolding le number
number-le zero n h = omega arith
number-le (suc k) n h = rw (number-le k (n / 256) (omega (arith, pow-suc 256 k))) (omega arith)

-- what a header says, read at its places
module _ (k n : ℕ) (r : List ℕ) (hk : k < 256 ^ 2) (hn : n < 256 ^ 4) where
  pub head-size : number (take 4 (head k n ++ r)) ≡ n
  unfolding head
  head-size = rw (append_assoc (le 4 n) (le 2 k) r, take_at (le 4 n) (le 2 k ++ r) 4 (le-length 4 n)) (number-le 4 n hn)

  pub head-kind : number (take 2 (drop 4 (head k n ++ r))) ≡ k
  unfolding head
  head-kind = rw (append_assoc (le 4 n) (le 2 k) r, drop_at (le 4 n) (le 2 k ++ r) 4 (le-length 4 n), take_at (le 2 k) r 2 (le-length 2 k)) (number-le 2 k hk)

  pub head-rest : drop 6 (head k n ++ r) ≡ r
  head-rest = drop_at (head k n) r 6 (head-length k n)

pub header-item : (k : ℕ) (c r : List ℕ) → k < 256 ^ 2 → length c < 256 ^ 4 → header (item k c ++ r) ≡ some (k, c, r)
unfolding header item
header-item k c r hk hc =
    rw (
      append_assoc (head k n) c r,
      head-size k n (c ++ r) hk hc,
      head-kind k n (c ++ r) hk hc,
      head-rest k n (c ++ r) hk hc,
      le-leb 6 (length w) (omega (arith, long)),
      le-leb n (length w - 6) (omega (arith, long)),
      take_at c r n refl,
      drop_at c r n refl,
    )
  where
    n : ℕ
    n = length c

    w : List ℕ
    w = head k n ++ (c ++ r)

    long : length w ≡ 6 + (n + length r)
    long = simp (length-append, head-length)

pub twos_back : (z : ℤ) → mag z < 2 ^ 63 → untwos (twos z) ≡ z
unfolding untwos twos
twos_back (pos n) h = rw (lt-ltb n (2 ^ 63) h)
twos_back (negsuc n) h =
    rw (le-ltb (0xffff_ffff_ffff_ffff - n) (2 ^ 63) (omega arith)) (ap negsuc (omega arith))

pub twos_small : (z : ℤ) → mag z < 2 ^ 63 → twos z < 256 ^ 8
unfolding twos
twos_small (pos n) h = omega arith
twos_small (negsuc n) h = omega arith

unint-back : (z : ℤ) → mag z < 2 ^ 63 → unint (le 8 (twos z)) ≡ some z
unfolding unint
unint-back z h = rw (le-length 8 (twos z), number-le 8 (twos z) (twos_small z h)) (ap some (twos_back z h))

-- ---- the round trip

inside_of : ℕ → Option (List ℕ → Option (Yaml × List ℕ))
inside_of zero = none
inside_of (suc l) = some (λ r. decode l r)

after : List ℕ → Option Yaml → Option (Yaml × List ℕ)
after r none = none
after r (some y) = some (y, r)

decode-node : (l : ℕ) (bs : List ℕ) → decode l bs ≡ node (inside_of l) bs
unfolding decode inside_of
decode-node zero bs = refl
decode-node (suc l) bs = refl

after_is : (r : List ℕ) (o : Option Yaml) → (o >>= λ y. some (y, r)) ≡ after r o
unfolding ◌>>=◌ after
after_is r none = refl
after_is r (some y) = refl

decode-item : (l k : ℕ) (c r : List ℕ) → k < 256 ^ 2 → length c < 256 ^ 4 → decode l (item k c ++ r) ≡ after r (content_of (inside_of l) k c)
unfolding node
decode-item l k c r hk hc =
    decode-node l (item k c ++ r) ∙ rw (header-item k c r hk hc) (unfold ◌>>=◌ in (after_is r (content_of (inside_of l) k c)))

items-step : (f : List ℕ → Option (Yaml × List ℕ)) (t : ℕ) (bs r : List ℕ) (y : Yaml) → 0 < length bs → f bs ≡ some (y, r)
    → decode_items f (suc t) bs ≡ (decode_items f t r >>= λ ys. some (y ▸ ys))
unfolding decode_items ◌>>=◌
items-step f t [] r y h e = absurd (omega arith)
items-step f t (b ∷ bs) r y h e = rw e

entries-step : (f : List ℕ → Option (Yaml × List ℕ)) (t : ℕ) (k bs r : List ℕ) (y : Yaml) → length k < 256 ^ 4 → f bs ≡ some (y, r)
    → decode_entries f (suc t) (item 3 k ++ bs) ≡ (decode_entries f t r >>= λ es. some (pair k y es))
unfolding decode_entries ◌>>=◌ unkey
entries-step f t k bs r y h e = go (item 3 k ++ bs) refl
  where
    go : (cs : List ℕ) → item 3 k ++ bs ≡ cs → decode_entries f (suc t) cs ≡ (decode_entries f t r >>= λ es. some (pair k y es))
    go [] q = absurd (omega (arith, ap length q, length-append (item 3 k) bs, item-length 3 k))
    go (c ∷ cs) q = rw (← q, header-item 3 k bs (omega arith) h, e)

-- what is read back from an encoding, for each shape
abbrev pub Back : (s : Shape) → Node s → ℕ → List ℕ → ℕ → Type 0
Back one y l r t = decode l (encode y ++ r) ≡ some (y, r)
Back many ys l r t = decode_items (λ r. decode l r) t (encode ys) ≡ some ys
Back keyed es l r t = decode_entries (λ r. decode l r) t (encode es) ≡ some es

pub back : {s : Shape} (y : Node s) (l : ℕ) (r : List ℕ) (t : ℕ) → levels y ≤ l → Ranged y → length (encode y) < 256 ^ 4 → length (encode y) ≤ t → Back s y l r t
unfolding encode content_of nothing unflag flag after inside_of ◌>>=◌ decode_items decode_entries levels
back null l r t d g h m = decode-item l 0 [] r (omega arith) (omega arith)
back (bool true) l r t d g h m = decode-item l 1 (1 ∷ []) r (omega arith) (omega arith)
back (bool false) l r t d g h m = decode-item l 1 (0 ∷ []) r (omega arith) (omega arith)
back (int z) l r t d g h m = decode-item l 2 (le 8 (twos z)) r (omega arith) (content-small 2 _ h) ∙ rw (unint-back z g)
back (str s) l r t d g h m = decode-item l 3 s r (omega arith) (content-small 3 s h)
back (seq ys) zero r t d g h m = absurd (omega arith)
back (seq ys) (suc l) r t d g h m =
    let n : length (encode ys) < 256 ^ 4 = content-small 4 (encode ys) h in
    decode-item (suc l) 4 (encode ys) r (omega arith) n
    ∙ rw (back ys l [] (length (encode ys)) (omega arith) g n (omega arith))
back (dict es) zero r t d g h m = absurd (omega arith)
back (dict es) (suc l) r t d g h m =
    let n : length (encode es) < 256 ^ 4 = content-small 5 (encode es) h in
    decode-item (suc l) 5 (encode es) r (omega arith) n
    ∙ rw (back es l [] (length (encode es)) (omega arith) g n (omega arith))
back end l r zero d g h m = refl
back end l r (suc t) d g h m = refl
back (y ▸ ys) l r zero d g h m = absurd (omega (arith, length-append (encode y) (encode ys), encode-long y))
back (y ▸ ys) l r (suc t) d g h m =
    let n : length (encode y ++ encode ys) ≡ length (encode y) + length (encode ys) = length-append (encode y) (encode ys) in
    let p : 0 < length (encode y) = encode-long y in
    items-step (λ r. decode l r) t (encode y ++ encode ys) (encode ys) y (omega arith) (back y l (encode ys) (suc t) (omega arith) g.0 (omega arith) (omega arith))
    ∙ rw (back ys l [] t (omega arith) g.1 (omega arith) (omega arith))
back done l r zero d g h m = refl
back done l r (suc t) d g h m = refl
back (pair k v es) l r zero d g h m = absurd (omega (arith, length-append (item 3 k) (encode v ++ encode es), item-length 3 k))
back (pair k v es) l r (suc t) d g h m =
    let n : length (item 3 k ++ (encode v ++ encode es)) ≡ length (item 3 k) + length (encode v ++ encode es) = length-append (item 3 k) _ in
    let q : length (encode v ++ encode es) ≡ length (encode v) + length (encode es) = length-append (encode v) _ in
    let p : length (item 3 k) ≡ 6 + length k = item-length 3 k in
    entries-step (λ r. decode l r) t k (encode v ++ encode es) (encode es) v (omega arith) (back v l (encode es) (suc t) (omega arith) g.0 (omega arith) (omega arith))
    ∙ rw (back es l [] t (omega arith) g.1 (omega arith) (omega arith))

-- equal bytes mean equal trees, and no encoding is a proper front of another
pub encode-prefix-free : (a b : Yaml) (r s : List ℕ) → Ranged a → Ranged b → length (encode a) < 256 ^ 4 → length (encode b) < 256 ^ 4
    → encode a ++ r ≡ encode b ++ s → (a ≡ b) × (r ≡ s)
encode-prefix-free a b r s ga gb ha hb e =
    let l : ℕ = levels a + levels b in
    let p : ◌≡◌ {A = Option (Yaml × List ℕ)} (some (a, r)) (some (b, s)) = sym (back a l r _ (omega arith) ga ha (le_refl _)) ∙ ap (decode l) e ∙ back b l s _ (omega arith) gb hb (le_refl _) in
    let q : ◌≡◌ {A = Yaml × List ℕ} (a, r) (b, s) = some-injective _ _ p in
    (ap (λ (x : Yaml × List ℕ). x.0) q, ap (λ (x : Yaml × List ℕ). x.1) q)
