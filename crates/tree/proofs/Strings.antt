-- Trees whose strings and keys are UTF-8, and scalars as texts. Assumes nothing.
use Rattle.std.proofs.Common.{◌≡◌, sym, ◌∙◌, ℕ, zero, suc, ◌+◌, ◌/◌, ◌%◌, ◌<◌, arith, List, [], ◌∷◌, ◌++◌, Bool, true, false, ltb, ℤ, pos, negsuc, ltb-true}
use Rattle.std.proofs.lemmas.Bool.{cond_both}
use Rattle.refusal.specs.Base.{good, given, ch, bytes}
use Rattle.refusal.proofs.Tools.{good-inj, refused≢good}
use Rattle.utf8.specs.Utf8.{Utf8}
use Rattle.utf8.proofs.Utf8Laws.{utf8_append, utf8_nil, utf8-ascii, utf8-cut}
use Rattle.item.specs.Tree.{Shape, Node, Yaml, null, bool, int, str, seq, dict, Items, end, ◌▸◌, ◌◂◌, Entries, done, pair, add}
use Rattle.number.specs.Integers.{decimal_of, int_text}
use Rattle.scalar.specs.Scalars.{key_text, bool_text}

-- every string and every key
abbrev pub Texts : {s : Shape} → Node s → Type 0
Texts null = Unit {0}
Texts (bool b) = Unit {0}
Texts (int z) = Unit {0}
Texts (str s) = Utf8 s
Texts (seq ys) = Texts ys
Texts (dict es) = Texts es
Texts end = Unit {0}
Texts (y ▸ ys) = Texts y × Texts ys
Texts done = Unit {0}
Texts (pair k v es) = Utf8 k × Texts v × Texts es

pub texts-snoc : (ys : Items) (y : Yaml) → Texts ys → Texts y → Texts (ys ◂ y)
unfolding ◌◂◌
texts-snoc end y d e = (e, tt)
texts-snoc (x ▸ xs) y d e = (d.0, texts-snoc xs y d.1 e)

pub texts-add : (es : Entries) (k : List ℕ) (v : Yaml) → Texts es → Utf8 k → Texts v → Texts (add es k v)
unfolding add
texts-add done k v d u e = (u, e, tt)
texts-add (pair j w es) k v d u e = (d.0, d.1, texts-add es k v d.2 u e)

-- ---- texts joined, and cut at a byte of ASCII, which is a character of its own

pub joined : (a c : List ℕ) → Utf8 a → Utf8 c → Utf8 (a ++ c)
joined a c u v = utf8_append a c u ∙ v

pub put : (b : ℕ) (c : List ℕ) → b < 0x80 → Utf8 c → Utf8 (b ∷ c)
put b c h u = utf8-ascii b c h ∙ u

pub cut : (a : List ℕ) (b : ℕ) (c : List ℕ) → b < 0x80 → Utf8 (a ++ b ∷ c) → Utf8 a × Utf8 c
cut a b c h u =
    let p = utf8-cut a b c (λ k l. omega arith) u in
    (p.0, sym (utf8-ascii b c h) ∙ p.1)

-- ---- scalars as texts

decimal-utf8 : (places n : ℕ) → Utf8 (decimal_of places n)
unfolding decimal_of
decimal-utf8 zero n = utf8_nil
decimal-utf8 (suc places) n = cond_both (ltb n 10) _ _ Utf8
    (λ e. put (ch "0" + n) [] (omega (arith, ltb-true n 10 e)) utf8_nil)
    (λ e. joined (decimal_of places (n / 10)) _ (decimal-utf8 places (n / 10)) (put (ch "0" + n % 10) [] (omega arith) utf8_nil))

int-utf8 : (z : ℤ) → Utf8 (int_text z)
unfolding int_text
int-utf8 (pos n) = decimal-utf8 20 n
int-utf8 (negsuc n) = put (ch "-") _ (omega arith) (decimal-utf8 20 (suc n))

bool-utf8 : (b : Bool) → Utf8 (bool_text b)
unfolding bool_text bytes
bool-utf8 true = put 116 _ (omega arith) (put 114 _ (omega arith) (put 117 _ (omega arith) (put 101 _ (omega arith) utf8_nil)))
bool-utf8 false = put 102 _ (omega arith) (put 97 _ (omega arith) (put 108 _ (omega arith) (put 115 _ (omega arith) (put 101 _ (omega arith) utf8_nil))))

-- the text that a key is taken as
pub key-utf8 : (y : Yaml) (k : List ℕ) (c n s : ℕ) → Texts y → given (key_text y) c n s ≡ good k → Utf8 k
unfolding given key_text
key-utf8 null k c n s h e = refused≢good k c n s e
key-utf8 (bool b) k c n s h e = rw (← good-inj _ _ e) (bool-utf8 b)
key-utf8 (int z) k c n s h e = rw (← good-inj _ _ e) (int-utf8 z)
key-utf8 (str t) k c n s h e = rw (← good-inj _ _ e) h
key-utf8 (seq ys) k c n s h e = refused≢good k c n s e
key-utf8 (dict es) k c n s h e = refused≢good k c n s e
