-- YAML 1.2.2, 7.3: flow scalars on one line. The numbers in brackets are its productions. Uses Base of `refusal`; Characters of this crate.
-- Assumes nothing.
use Rattle.std.specs.Prelude.{ℕ, List, [], ◌∷◌, Bool, false, ◌&&◌, ◌||◌, not, T, eqb}
use Rattle.refusal.specs.Base.{ch, bytes}
use Rattle.yaml.specs.Characters.{nb_char, ns_char, indicators, flow_indicators, among}

-- ---- contexts: outside and inside flow collections

pub data Context : Type 0 where
  flow_out flow_in : Context

-- [127] ns-plain-safe
unfoldable pub plain_safe : Context → ℕ → Bool
plain_safe flow_out b = ns_char b
plain_safe flow_in b = ns_char b && not (among b flow_indicators)

unfoldable pub safe_next : Context → List ℕ → Bool
safe_next c [] = false
safe_next c (b ∷ bs) = plain_safe c b

-- [126] ns-plain-first, with what follows it
unfoldable pub plain_first : Context → ℕ → List ℕ → Bool
plain_first c b bs = (ns_char b && not (among b indicators)) || (among b (bytes "?:-") && safe_next c bs)

-- [130] ns-plain-char behind the character `a`, with what follows it
unfoldable pub plain_char : Context → ℕ → ℕ → List ℕ → Bool
plain_char c a b bs =
    (plain_safe c b && not (among b (bytes ":#")))
    || (eqb b (ch "#") && ns_char a)
    || (eqb b (ch ":") && safe_next c bs)

-- [132] nb-ns-plain-in-line, behind `a`
pub data PlainRest (c : Context) : ℕ → List ℕ → Type 0 where
  p_end : {a : ℕ} → PlainRest c a []
  p_char : {a b : ℕ} {t : List ℕ} → T (plain_char c a b t) → PlainRest c b t → PlainRest c a (b ∷ t)
  p_space : {a b : ℕ} {t : List ℕ} → PlainRest c (ch " ") (b ∷ t) → PlainRest c a (ch " " ∷ b ∷ t)
  p_tab : {a b : ℕ} {t : List ℕ} → PlainRest c (ch "\t") (b ∷ t) → PlainRest c a (ch "\t" ∷ b ∷ t)

-- [133] ns-plain-one-line
pub data Plain (c : Context) : List ℕ → Type 0 where
  plain : {b : ℕ} {t : List ℕ} → T (plain_first c b t) → PlainRest c b t → Plain c (b ∷ t)

-- ---- quoted texts on one line

-- [41] to [60], those that are kept
pub data Escape : ℕ → ℕ → Type 0 where
  esc_n : Escape (ch "n") (ch "\n")
  esc_t : Escape (ch "t") (ch "\t")
  esc_r : Escape (ch "r") (ch "\r")
  esc_0 : Escape (ch "0") 0
  esc_quote : Escape (ch "\"") (ch "\"")
  esc_back : Escape (ch "\\") (ch "\\")
  esc_slash : Escape (ch "/") (ch "/")

-- [107] nb-double-char, [109] in a line: the text, and what it stands for
pub data DoubleText : List ℕ → List ℕ → Type 0 where
  d_end : DoubleText [] []
  d_char : {b : ℕ} {t v : List ℕ} → T (nb_char b && not (eqb b (ch "\"")) && not (eqb b (ch "\\"))) → DoubleText t v → DoubleText (b ∷ t) (b ∷ v)
  d_escaped : {b e : ℕ} {t v : List ℕ} → Escape b e → DoubleText t v → DoubleText (ch "\\" ∷ b ∷ t) (e ∷ v)

-- [118] nb-single-char, [120] in a line
pub data SingleText : List ℕ → List ℕ → Type 0 where
  s_end : SingleText [] []
  s_char : {b : ℕ} {t v : List ℕ} → T (nb_char b && not (eqb b (ch "'"))) → SingleText t v → SingleText (b ∷ t) (b ∷ v)
  s_twice : {t v : List ℕ} → SingleText t v → SingleText (ch "'" ∷ ch "'" ∷ t) (ch "'" ∷ v)
