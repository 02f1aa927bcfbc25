-- The decoder takes nothing but encodings: what it reads from bytes is what is written for the tree it gives. Assumes nothing.
use Rattle.std.specs.Prelude.{if◌then◌else◌}
use Rattle.std.proofs.Common.{◌≡◌, refl, sym, ap, ◌∙◌, subst, ℕ, zero, suc, ◌+◌, ◌-◌, ◌*◌, ◌/◌, ◌%◌, ◌^◌, ◌≤◌, ◌<◌, pow-suc, arith, List, [], ◌∷◌, ◌++◌, append_assoc, Bool, true, false, ◌&&◌, leb, ltb, eqb, length, take, drop, get_or, take-append-drop, length-drop, length-take-le, drop-drop, ℤ, pos, negsuc, leb-true, eqb-true}
use Rattle.std.proofs.lemmas.Bool.{and_parts}
use Rattle.std.proofs.Math.Option.{Option, none, some, some-injective, none-ne-some}
use Rattle.refusal.proofs.Tools.{chosen}
use Rattle.item.specs.Tree.{Shape, Node, Yaml, null, Items, Entries}
use Rattle.item.specs.Encode.{le, number, head, item, flag, twos, encode, Bytes}
use Rattle.item.specs.Decode.{◌>>=◌, Decoder, header, unflag, untwos, nothing, unint, unkey, decode_items, decode_entries, content_of, node, decode}

-- bytes by their places
pub bytes_of : (s : List ℕ) → ((i : ℕ) → get_or s i 0 < 256) → Bytes s
bytes_of [] h = tt
bytes_of (b ∷ s) h = (h 0, bytes_of s (λ i. h (suc i)))

bytes_left : (a b : List ℕ) → Bytes (a ++ b) → Bytes a
bytes_left [] b h = tt
bytes_left (x ∷ a) b h = (h.0, bytes_left a b h.1)

bytes-right : (a b : List ℕ) → Bytes (a ++ b) → Bytes b
bytes-right [] b h = h
bytes-right (x ∷ a) b h = bytes-right a b h.1

pub got : {A B X : Type 0} (o : Option A) (f : A → Option B) (b : B) → (o >>= f) ≡ some b → ((x : A) → o ≡ some x → f x ≡ some b → X) → X
unfolding ◌>>=◌
got none f b e k = absurd (none-ne-some b e)
got (some x) f b e k = k x refl e

pub none≢ : {A X : Type 0} (a : A) → none ≡ some a → X
none≢ a e = absurd (none-ne-some a e)

-- the bytes of a number are these
pub le-number : (bs : List ℕ) → Bytes bs → le (length bs) (number bs) ≡ bs
unfolding le number
le-number [] h = refl
le-number (b ∷ bs) h =
    let low : (b + 256 * number bs) % 256 ≡ b = omega arith in
    let high : (b + 256 * number bs) / 256 ≡ number bs = omega arith in
    rw (low, high) (ap (λ (t : List ℕ). b ∷ t) (le-number bs h.1))

pub number_small : (bs : List ℕ) → Bytes bs → number bs < 256 ^ length bs
unfolding number
number_small [] h = omega arith
number_small (b ∷ bs) h = omega (arith, number_small bs h.1, pow-suc 256 (length bs))

bytes_take : (n : ℕ) (s : List ℕ) → Bytes s → Bytes (take n s)
bytes_take n s h = bytes_left (take n s) (drop n s) (subst Bytes (sym (take-append-drop n s)) h)

pub bytes_drop : (n : ℕ) (s : List ℕ) → Bytes s → Bytes (drop n s)
bytes_drop n s h = bytes-right (take n s) (drop n s) (subst Bytes (sym (take-append-drop n s)) h)

pub record Headed (bs : List ℕ) (x : ℕ × List ℕ × List ℕ) : Type 0 where
  pub is : bs ≡ item x.0 x.1 ++ x.2
  pub inner : Bytes x.1
  pub left : Bytes x.2

-- six bytes are the header of the kind and the length that they say
six : (bs : List ℕ) → Bytes bs → 6 ≤ length bs → bs ≡ head (number (take 2 (drop 4 bs))) (number (take 4 bs)) ++ drop 6 bs
unfolding head
six bs h n =
    let a : le 4 (number (take 4 bs)) ≡ take 4 bs = ap (λ (k : ℕ). le k (number (take 4 bs))) (sym (length-take-le 4 bs (omega arith))) ∙ le-number (take 4 bs) (bytes_take 4 bs h) in
    let m : 2 ≤ length (drop 4 bs) = simp length-drop (omega arith) in
    let b : le 2 (number (take 2 (drop 4 bs))) ≡ take 2 (drop 4 bs) = ap (λ (k : ℕ). le k (number (take 2 (drop 4 bs)))) (sym (length-take-le 2 (drop 4 bs) m)) ∙ le-number (take 2 (drop 4 bs)) (bytes_take 2 (drop 4 bs) (bytes_drop 4 bs h)) in
    sym (rw (a, b, append_assoc, ← drop-drop 2 4 bs, take-append-drop 2 (drop 4 bs)) (take-append-drop 4 bs))

pub header-inv : (bs : List ℕ) (x : ℕ × List ℕ × List ℕ) → Bytes bs → header bs ≡ some x → Headed bs x
unfolding header item
header-inv bs x h e = chosen (leb 6 (length bs) && leb (number (take 4 bs)) (length bs - 6)) _ _ e
    (λ t r.
    let p : (6 ≤ length bs) × (number (take 4 bs) ≤ length bs - 6) = both-leb t in
    let n : length (take (number (take 4 bs)) (drop 6 bs)) ≡ number (take 4 bs) = length-take-le _ (drop 6 bs) (simp length-drop (omega arith)) in
    subst (Headed bs) (some-injective _ _ r) (record {
      is = six bs h p.0 ∙ rw (n, append_assoc, take-append-drop (number (take 4 bs)) (drop 6 bs));
      inner = bytes_take (number (take 4 bs)) (drop 6 bs) (bytes_drop 6 bs h);
      left = bytes_drop (number (take 4 bs)) (drop 6 bs) (bytes_drop 6 bs h);
    }))
    (λ _ r. none≢ x r)
  where
    both-leb : {a b c d : ℕ} → leb a b && leb c d ≡ true → (a ≤ b) × (c ≤ d)
    both-leb {a} {b} {c} {d} t = let both = and_parts (leb a b) (leb c d) t in (leb-true a b both.0, leb-true c d both.1)

-- a decoder that takes only what is written for what it gives
pub record Written {s : Shape} (bs : List ℕ) (x : Node s × List ℕ) : Type 0 where
  pub is : bs ≡ encode x.0 ++ x.1
  pub left : Bytes x.1

abbrev pub Exact : Decoder Yaml → Type 0
Exact f = (bs : List ℕ) (x : Yaml × List ℕ) → Bytes bs → f bs ≡ some x → Written bs x

pub items-inv : (f : Decoder Yaml) → Exact f → (t : ℕ) (bs : List ℕ) (ys : Items) → Bytes bs → decode_items f t bs ≡ some ys → bs ≡ encode ys
unfolding decode_items encode
items-inv f h zero [] ys b e = rw (← some-injective _ _ e)
items-inv f h zero (c ∷ bs) ys b e = none≢ ys e
items-inv f h (suc t) [] ys b e = rw (← some-injective _ _ e)
items-inv f h (suc t) (c ∷ bs) ys b e = got (f (c ∷ bs)) _ ys e
    λ x p e. got (decode_items f t x.1) _ ys e
    λ zs q r.
    let w = h (c ∷ bs) x b p in
    w.is ∙ ap (λ (s : List ℕ). encode x.0 ++ s) (items-inv f h t x.1 zs w.left q) ∙ ap encode (some-injective _ _ r)

pub key-inv : (bs : List ℕ) (x : List ℕ × List ℕ) → Bytes bs → unkey bs ≡ some x → (bs ≡ item 3 x.0 ++ x.1) × Bytes x.1
unfolding unkey
key-inv bs x h e = got (header bs) _ x e λ y p e. chosen (eqb y.0 3) _ _ e
    (λ t r. let w = header-inv bs y h p in
    subst (λ (x : List ℕ × List ℕ). (bs ≡ item 3 x.0 ++ x.1) × Bytes x.1) (some-injective _ _ r)
    (w.is ∙ ap (λ (k : ℕ). item k y.1 ++ y.2) (eqb-true _ _ t), w.left))
    (λ _ r. none≢ x r)

pub entries-inv : (f : Decoder Yaml) → Exact f → (t : ℕ) (bs : List ℕ) (es : Entries) → Bytes bs → decode_entries f t bs ≡ some es → bs ≡ encode es
unfolding decode_entries encode
entries-inv f h zero [] es b e = rw (← some-injective _ _ e)
entries-inv f h zero (c ∷ bs) es b e = none≢ es e
entries-inv f h (suc t) [] es b e = rw (← some-injective _ _ e)
entries-inv f h (suc t) (c ∷ bs) es b e = got (unkey (c ∷ bs)) _ es e
    λ x p e. got (f x.1) _ es e
    λ y q e. got (decode_entries f t y.1) _ es e
    λ zs r s.
    let v = key-inv (c ∷ bs) x b p in
    let w = h x.1 y v.1 q in
    v.0 ∙ ap (λ (s : List ℕ). item 3 x.0 ++ s) (w.is ∙ ap (λ (s : List ℕ). encode y.0 ++ s) (entries-inv f h t y.1 zs w.left r)) ∙ ap encode (some-injective _ _ s)

pub nothing-inv : {A : Type 0} (a b : A) (s : List ℕ) → nothing a s ≡ some b → (s ≡ []) × (a ≡ b)
unfolding nothing
nothing-inv a b [] e = (refl, some-injective _ _ e)
nothing-inv a b (x ∷ s) e = none≢ b e

pub flag-inv : (s : List ℕ) (b : Bool) → unflag s ≡ some b → s ≡ flag b ∷ []
unfolding unflag flag
flag-inv [] b e = none≢ b e
flag-inv (zero ∷ s) b e = let v = nothing-inv false b s e in rw (v.0, ← v.1)
flag-inv (suc zero ∷ s) b e = let v = nothing-inv true b s e in rw (v.0, ← v.1)
flag-inv (suc (suc n) ∷ s) b e = none≢ b e

twos-untwos : (n : ℕ) → n < 256 ^ 8 → twos (untwos n) ≡ n
unfolding untwos twos
twos-untwos n h = go (ltb n (2 ^ 63)) refl
  where
    go : (t : Bool) → ltb n (2 ^ 63) ≡ t → twos (if t then pos n else negsuc (0xffff_ffff_ffff_ffff - n)) ≡ n
    go true e = refl
    go false e = omega arith

int-inv : (s : List ℕ) (z : ℤ) → Bytes s → unint s ≡ some z → s ≡ le 8 (twos z)
unfolding unint
int-inv s z h e = chosen (eqb (length s) 8) _ _ e
    (λ t r.
    let n : length s ≡ 8 = eqb-true (length s) 8 t in
    let small : number s < 256 ^ 8 = subst (λ (k : ℕ). number s < 256 ^ k) n (number_small s h) in
    sym (le-number s h) ∙ rw (n, ← some-injective _ _ r, twos-untwos (number s) small))
    (λ _ r. none≢ z r)

abbrev AllExact : Option (Decoder Yaml) → Type 0
AllExact o = (f : Decoder Yaml) → o ≡ some f → Exact f

content-inv : (o : Option (Decoder Yaml)) → AllExact o → (k : ℕ) (s : List ℕ) (y : Yaml) → Bytes s → content_of o k s ≡ some y → item k s ≡ encode y
unfolding content_of encode
content-inv o h k s y b e =
    chosen (eqb k 0) _ _ e (λ t p. let v = nothing-inv null y s p in rw (eqb-true k 0 t, v.0, ← v.1))
    λ _ e. chosen (eqb k 1) _ _ e (λ t p. got (unflag s) _ y p λ x q r. rw (eqb-true k 1 t, flag-inv s x q, ← some-injective _ _ r))
    λ _ e. chosen (eqb k 2) _ _ e (λ t p. got (unint s) _ y p λ x q r. rw (eqb-true k 2 t, int-inv s x b q, ← some-injective _ _ r))
    λ _ e. chosen (eqb k 3) _ _ e (λ t p. rw (eqb-true k 3 t, ← some-injective _ _ p))
    λ _ e. chosen (eqb k 4) _ _ e (λ t p. got o _ y p λ f q p. got (decode_items f (length s) s) _ y p
    λ ys r p. rw (eqb-true k 4 t, items-inv f (h f q) (length s) s ys b r, ← some-injective _ _ p))
    λ _ e. chosen (eqb k 5) _ _ e (λ t p. got o _ y p λ f q p. got (decode_entries f (length s) s) _ y p
    λ es r p. rw (eqb-true k 5 t, entries-inv f (h f q) (length s) s es b r, ← some-injective _ _ p))
    λ _ e. none≢ y e

node-exact : (o : Option (Decoder Yaml)) → AllExact o → Exact (node o)
unfolding node
node-exact o h bs x b e = got (header bs) _ x e
    λ y p e. got (content_of o y.0 y.1) _ x e
    λ v q r. let w = header-inv bs y b p in
    subst (λ (x : Yaml × List ℕ). Written bs x) (some-injective _ _ r) (record {
      is = w.is ∙ ap (λ (s : List ℕ). s ++ y.2) (content-inv o h y.0 y.1 v w.inner q);
      left = w.left;
    })

-- what is decoded from bytes was written so
pub decode-exact : (levels : ℕ) → Exact (decode levels)
unfolding decode
decode-exact zero bs x b e = node-exact none (λ f p. none≢ f p) bs x b e
decode-exact (suc l) bs x b e = node-exact (some _) (λ f p. subst Exact (some-injective _ _ p) (decode-exact l)) bs x b e
