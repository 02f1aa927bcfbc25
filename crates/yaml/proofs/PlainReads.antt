-- Plain text: how it begins, and how far the reader runs in it. Assumes nothing.
use Rattle.std.proofs.Common.{◌≡◌, refl, ap, ⊎_elim, ℕ, zero, suc, List, [], ◌∷◌, ◌++◌, true, false, ◌&&◌, ◌||◌, not, T, eqb, eqb→eq, replicate}
use Rattle.std.proofs.Math.Facts.{and_yes, or_yes}
use Rattle.refusal.specs.Base.{ch, bytes}
use Rattle.scalar.specs.Read.{plain_text, onto, ends_item, ends_colon, stops_plain}
use Rattle.yaml.specs.Characters.{ns_char, among, indicators, flow_indicators}
use Rattle.yaml.specs.Scalars.{Context, flow_in, plain_safe, safe_next, plain_first, plain_char, PlainRest, p_end, p_char, p_space, p_tab, Plain, plain}
use Rattle.yaml.specs.Flow.{json_like}
use Rattle.yaml.proofs.Tests.{All, by-each, differs, not-among}

-- ---- single bytes

pub ns-no-space : (b : ℕ) → T (ns_char b) → eqb b 32 ≡ false
ns-no-space b h = differs (λ c. ns_char c) b 32 h refl

safe-ends : (b : ℕ) → T (plain_safe flow_in b) → (ends_item b ≡ false) × (eqb b 32 ≡ false)
unfolding plain_safe ends_item among bytes
safe-ends b h =
    let k = and_yes (ns_char b) (not (among b flow_indicators)) h in
    (rw (not-among b 44 flow_indicators k.1 tt, not-among b 125 flow_indicators k.1 tt, not-among b 93 flow_indicators k.1 tt), ns-no-space b k.0)

next-safe : (t r : List ℕ) → T (safe_next flow_in t) → ends_colon (t ++ r) ≡ false
unfolding safe_next ends_colon
next-safe [] r h = absurd h
next-safe (b ∷ t) r h = let k = safe-ends b h in rw (k.1, k.0)

-- ---- how a node begins

-- no byte that opens another kind of node than plain text
pub record Plainly (b : ℕ) : Type 0 where
  pub no_space : eqb b 32 ≡ false
  pub no_brace : eqb b 123 ≡ false
  pub no_bracket : eqb b 91 ≡ false
  pub no_double : eqb b 34 ≡ false
  pub no_single : eqb b 39 ≡ false
  pub no_tag : eqb b 38 || eqb b 42 || eqb b 33 ≡ false

plainly : (b : ℕ) → T (not (among b (bytes " {[\"'&*!"))) → Plainly b
unfolding among bytes
plainly b h =
    let out : (x : ℕ) → T (among x (bytes " {[\"'&*!")) → eqb b x ≡ false = λ x m. not-among b x (bytes " {[\"'&*!") h m in
    record { no_space = out 32 tt; no_brace = out 123 tt; no_bracket = out 91 tt; no_double = out 34 tt; no_single = out 39 tt; no_tag = rw (out 38 tt, out 42 tt, out 33 tt) }

-- no byte that the loops of flow collections read themselves, and none at which plain text stops
pub record Begins (b : ℕ) (t : List ℕ) : Type 0 where
  pub no_space : eqb b 32 ≡ false
  pub no_close : eqb b 93 ≡ false
  pub no_comma : eqb b 44 ≡ false
  pub no_end : eqb b 125 ≡ false
  pub goes : (r : List ℕ) → stops_plain b (t ++ r) ≡ false

pub begins : (b : ℕ) (t : List ℕ) → T (not (among b (bytes " ]},:"))) → Begins b t
unfolding among bytes stops_plain ends_item
begins b t h =
    let out : (x : ℕ) → T (among x (bytes " ]},:")) → eqb b x ≡ false = λ x m. not-among b x (bytes " ]},:") h m in
    record { no_space = out 32 tt; no_close = out 93 tt; no_comma = out 44 tt; no_end = out 125 tt; goes = λ r. rw (out 44 tt, out 125 tt, out 93 tt, out 58 tt) }

-- by the first character of plain text: one that is no indicator, or one of three with more behind it
pub by_first : (P : ℕ → Type 0) (c : Context) (b : ℕ) (t : List ℕ) → T (plain_first c b t)
    → (T (ns_char b) → ((x : ℕ) → T (among x indicators) → eqb b x ≡ false) → P b) → (T (safe_next c t) → All P (bytes "?:-")) → P b
unfolding plain_first
by_first P c b t h f g = ⊎_elim
    (λ h. let k = and_yes (ns_char b) (not (among b indicators)) h in f k.0 (λ x m. not-among b x indicators k.1 m))
    (λ h. let k = and_yes (among b (bytes "?:-")) (safe_next c t) h in by-each P (bytes "?:-") (g k.1) b k.0)
    (or_yes (ns_char b && not (among b indicators)) (among b (bytes "?:-") && safe_next c t) h)

pub first_plain : (c : Context) (b : ℕ) (t : List ℕ) → T (plain_first c b t) → Plainly b
unfolding among bytes
first_plain c b t h = by_first Plainly c b t h
    (λ k out. record { no_space = ns-no-space b k; no_brace = out 123 tt; no_bracket = out 91 tt; no_double = out 34 tt; no_single = out 39 tt; no_tag = rw (out 38 tt, out 42 tt, out 33 tt) })
    (λ s. (plainly 63 tt, (plainly 58 tt, (plainly 45 tt, tt))))

pub first-begins : (b : ℕ) (t : List ℕ) → T (plain_first flow_in b t) → Begins b t
unfolding among bytes stops_plain ends_item
first-begins b t h = by_first (λ x. Begins x t) flow_in b t h
    (λ k out. record { no_space = ns-no-space b k; no_close = out 93 tt; no_comma = out 44 tt; no_end = out 125 tt; goes = λ r. rw (out 44 tt, out 125 tt, out 93 tt, out 58 tt) })
    (λ s. (begins 63 t tt, (record { no_space = refl; no_close = refl; no_comma = refl; no_end = refl; goes = λ r. next-safe t r s }, (begins 45 t tt, tt))))

-- plain text is not like JSON
pub not-json : (c : Context) {t : List ℕ} → Plain c t → T (json_like t) → ⊥
unfolding json_like among bytes
not-json c (plain {b = b} {t = t} h p) j = let k = first_plain c b t h in (rw (k.no_double, k.no_single, k.no_bracket, k.no_brace) at j)

-- ---- up to where it stops inside a flow collection

char-goes : (a b : ℕ) (t r : List ℕ) → T (plain_char flow_in a b t) → stops_plain b (t ++ r) ≡ false
unfolding plain_char stops_plain among bytes
char-goes a b t r h =
    ⊎_elim
    (λ h. ⊎_elim
    (λ h. let k = and_yes (plain_safe flow_in b) (not (among b (bytes ":#"))) h in
    rw ((safe-ends b k.0).0, not-among b 58 (bytes ":#") k.1 tt))
    (λ h. let k = and_yes (eqb b 35) _ h in rw (eqb→eq b 35 k.0) (unfold ends_item in refl))
    (or_yes (plain_safe flow_in b && not (among b (bytes ":#"))) (eqb b (ch "#") && ns_char a) h))
    (λ h. let k = and_yes (eqb b 58) (safe_next flow_in t) h in rw (eqb→eq b 58 k.0, next-safe t r k.1) (unfold ends_item in refl))
    (or_yes ((plain_safe flow_in b && not (among b (bytes ":#"))) || (eqb b (ch "#") && ns_char a)) (eqb b (ch ":") && safe_next flow_in t) h)

spaces-run : (k b : ℕ) (bs : List ℕ) → stops_plain b bs ≡ true → plain_text true (replicate k 32 ++ (b ∷ bs)) ≡ (replicate k 32, b ∷ bs)
unfolding plain_text stops_plain ends_item
spaces-run zero b bs h = rw h
spaces-run (suc k) b bs h = ap (onto 32) (spaces-run k b bs h)

pub plain-run : {a : ℕ} {t : List ℕ} → PlainRest flow_in a t → (k b : ℕ) (bs : List ℕ) → stops_plain b bs ≡ true
    → plain_text true (t ++ (replicate k 32 ++ (b ∷ bs))) ≡ (t ++ replicate k 32, b ∷ bs)
unfolding plain_text stops_plain ends_item
plain-run p_end k b bs h = spaces-run k b bs h
plain-run (p_char {a = a} {b = c} {t = t} g p) k b bs h = rw (char-goes a c t (replicate k 32 ++ (b ∷ bs)) g) (ap (onto c) (plain-run p k b bs h))
plain-run (p_space p) k b bs h = ap (onto 32) (plain-run p k b bs h)
plain-run (p_tab p) k b bs h = ap (onto 9) (plain-run p k b bs h)

-- and to the end of the text outside
pub plain-all : (t : List ℕ) → plain_text false t ≡ (t, [])
unfolding plain_text
plain-all [] = refl
plain-all (b ∷ t) = ap (onto b) (plain-all t)
