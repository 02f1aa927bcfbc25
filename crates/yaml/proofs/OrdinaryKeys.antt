-- Kept's conditions on keys hold of ordinary texts: a plain or quoted text has no end of a key in it, and as a key it is found. Assumes nothing.
use Rattle.std.specs.Prelude.{if◌then◌else◌}
use Rattle.std.proofs.Common.{◌≡◌, refl, ap, ◌∙◌, ◌⊎◌, inl, inr, ⊎_elim, ℕ, suc, ◌+◌, ◌-◌, arith, List, [], ◌∷◌, ◌++◌, append_assoc, append-nil, Bool, true, false, ◌&&◌, ◌||◌, not, T, eqb, eqb→eq, length, length-append}
use Rattle.std.proofs.Math.Facts.{and_yes, or_yes}
use Rattle.std.proofs.Math.Bool.{and-false}
use Rattle.std.proofs.Math.Option.{none, some}
use Rattle.refusal.specs.Base.{ch, bytes}
use Rattle.scalar.specs.Key.{quote_after, opens, closes, last_or_space, depth_after, qualifies, key_end_from, key_end}
use Rattle.yaml.specs.Characters.{white, whites, ns_char, nb_char, indicators, flow_indicators, among}
use Rattle.yaml.specs.Scalars.{Context, flow_out, flow_in, plain_safe, safe_next, plain_first, plain_char, PlainRest, p_end, p_char, p_space, p_tab, Plain, plain, SingleText, s_end, s_char, s_twice}
use Rattle.yaml.specs.Flow.{Quoted, q_double, q_single}
use Rattle.yaml.specs.Kept.{starts, KeyFound, NoKey}
use Rattle.yaml.specs.Ordinary.{without, quoted_without, no_escaped_quote, LastOrSpace, last, space, KeyText, k_plain, k_quoted}
use Rattle.yaml.proofs.Tests.{not-among, by-each}
use Rattle.yaml.proofs.PlainReads.{ns-no-space}

-- ---- bytes

pub white-cases : (b : ℕ) → T (white b) → (b ≡ 32) ⊎ (b ≡ 9)
white-cases b h = ⊎_elim (λ g. inl (eqb→eq b 32 g)) (λ g. inr (eqb→eq b 9 g)) (or_yes (eqb b 32) (eqb b 9) h)

pub not-of₁ : (a b : Bool) → T (a && not b) → b ≡ false
not-of₁ true false h = refl
not-of₁ true true h = absurd h
not-of₁ false b h = absurd h

pub safe-ns : (c : Context) (b : ℕ) → T (plain_safe c b) → T (ns_char b)
unfolding plain_safe
safe-ns flow_out b h = h
safe-ns flow_in b h = (and_yes (ns_char b) (not (among b flow_indicators)) h).0

pub char-ns : (c : Context) (a b : ℕ) (t : List ℕ) → T (plain_char c a b t) → T (ns_char b) × ((eqb b 35 ≡ false) ⊎ T (ns_char a))
unfolding plain_char among bytes
char-ns c a b t h = ⊎_elim
    (λ h. ⊎_elim
    (λ h. let k = and_yes (plain_safe c b) (not (among b (bytes ":#"))) h in (safe-ns c b k.0, inl (not-among b 35 (bytes ":#") k.1 tt)))
    (λ h. let k = and_yes (eqb b 35) (ns_char a) h in (rw (eqb→eq b 35 k.0) tt, inr k.1))
    (or_yes (plain_safe c b && not (among b (bytes ":#"))) (eqb b (ch "#") && ns_char a) h))
    (λ h. let k = and_yes (eqb b 58) (safe_next c t) h in (rw (eqb→eq b 58 k.0) tt, inl (rw (eqb→eq b 58 k.0))))
    (or_yes ((plain_safe c b && not (among b (bytes ":#"))) || (eqb b (ch "#") && ns_char a)) (eqb b (ch ":") && safe_next c t) h)

pub first-ns : (c : Context) (b : ℕ) (t : List ℕ) → T (plain_first c b t) → T (ns_char b) × (eqb b 35 ≡ false)
unfolding plain_first among bytes
first-ns c b t h = ⊎_elim
    (λ h. let k = and_yes (ns_char b) (not (among b indicators)) h in (k.0, not-among b 35 indicators k.1 tt))
    (λ h. by-each (λ b. T (ns_char b) × (eqb b 35 ≡ false)) (bytes "?:-") ((tt, refl), ((tt, refl), ((tt, refl), tt))) b (and_yes (among b (bytes "?:-")) (safe_next c t) h).0)
    (or_yes (ns_char b && not (among b indicators)) (among b (bytes "?:-") && safe_next c t) h)

-- ---- colons in plain texts

-- a byte that is no colon, or one with a character behind it
abbrev Inner : Context → ℕ → List ℕ → Type 0
Inner c b t = (eqb b (ch ":") ≡ false) ⊎ T (safe_next c t)

module _ (c : Context) where
  first_inner : (b : ℕ) (t : List ℕ) → T (plain_first c b t) → Inner c b t
  unfolding plain_first among bytes
  first_inner b t h = ⊎_elim
      (λ h. inl (not-among b 58 indicators (and_yes (ns_char b) (not (among b indicators)) h).1 tt))
      (λ h. inr (and_yes (among b (bytes "?:-")) (safe_next c t) h).1)
      (or_yes (ns_char b && not (among b indicators)) (among b (bytes "?:-") && safe_next c t) h)

  char-inner : (a b : ℕ) (t : List ℕ) → T (plain_char c a b t) → Inner c b t
  unfolding plain_char among bytes
  char-inner a b t h = ⊎_elim
      (λ h. ⊎_elim
      (λ h. inl (not-among b 58 (bytes ":#") (and_yes (plain_safe c b) (not (among b (bytes ":#"))) h).1 tt))
      (λ h. inl (rw (eqb→eq b 35 (and_yes (eqb b 35) (ns_char a) h).0)))
      (or_yes (plain_safe c b && not (among b (bytes ":#"))) (eqb b (ch "#") && ns_char a) h))
      (λ h. inr (and_yes (eqb b 58) (safe_next c t) h).1)
      (or_yes ((plain_safe c b && not (among b (bytes ":#"))) || (eqb b (ch "#") && ns_char a)) (eqb b (ch ":") && safe_next c t) h)

  next-stays : (t r : List ℕ) → T (safe_next c t) → last_or_space (t ++ r) ≡ false
  unfolding safe_next last_or_space
  next-stays [] r h = absurd h
  next-stays (b ∷ t) r h = ns-no-space b (safe-ns c b h)

  inner-stays : (b : ℕ) (t : List ℕ) → Inner c b t → (q d : ℕ) (r : List ℕ) → qualifies q d (b ∷ t ++ r) ≡ false
  unfolding qualifies
  inner-stays b t (inl e) q d r = simp (e, and-false)
  inner-stays b t (inr h) q d r = simp (next-stays t r h, and-false)

  -- ---- a plain text has no end of a key, whatever quotes and brackets it has

  step-none : (b : ℕ) (t : List ℕ) → Inner c b t → (q d at : ℕ) → key_end_from q d at (b ∷ t) ≡ key_end_from (quote_after q b) (depth_after q d b) (suc at) t
  unfolding key_end_from
  step-none b t h q d at =
      let e : qualifies q d (b ∷ t) ≡ false = rw append-nil at (inner-stays b t h q d []) in
      rw e

  rest-none : {a : ℕ} {t : List ℕ} → PlainRest c a t → (q d at : ℕ) → key_end_from q d at t ≡ none
  rest-none p_end q d at = unfold key_end_from in refl
  rest-none (p_char {a = a} {b = b} {t = t} h p) q d at = step-none b t (char-inner a b t h) q d at ∙ rest-none p (quote_after q b) (depth_after q d b) (suc at)
  rest-none (p_space {b = b} {t = t} p) q d at = step-none 32 (b ∷ t) (inl refl) q d at ∙ rest-none p (quote_after q 32) (depth_after q d 32) (suc at)
  rest-none (p_tab {b = b} {t = t} p) q d at = step-none 9 (b ∷ t) (inl refl) q d at ∙ rest-none p (quote_after q 9) (depth_after q d 9) (suc at)

  pub plain-no-key : {t : List ℕ} → Plain c t → NoKey t
  unfolding NoKey key_end
  plain-no-key (plain {b = b} {t = t} h p) = step-none b t (first_inner b t h) 0 0 0 ∙ rest-none p (quote_after 0 b) (depth_after 0 0 b) 1

-- ---- texts that the search for a key's end passes

-- no end in it: it leads from a quote and a depth to others
abbrev pub Passes : ℕ → ℕ → ℕ → ℕ → List ℕ → Type 0
Passes q d q' d' s = (at : ℕ) (r : List ℕ) → key_end_from q d at (s ++ r) ≡ key_end_from q' d' (length s + at) r

module _ (q d : ℕ) where
  pub pass-none : Passes q d q d []
  pass-none at r = ap (λ (n : ℕ). key_end_from q d n r) (omega arith)

  module _ (q₁ d₁ q₂ d₂ : ℕ) where
    pub pass-byte : (b : ℕ) (t : List ℕ) → ((r : List ℕ) → qualifies q d (b ∷ t ++ r) ≡ false) → quote_after q b ≡ q₁ → depth_after q d b ≡ d₁ → Passes q₁ d₁ q₂ d₂ t → Passes q d q₂ d₂ (b ∷ t)
    pass-byte b t h e f p at r = step ∙ p (suc at) r ∙ ap (λ (n : ℕ). key_end_from q₂ d₂ n r) (omega arith)
      where
        step : key_end_from q d at (b ∷ t ++ r) ≡ key_end_from q₁ d₁ (suc at) (t ++ r)
        step = unfold key_end_from in rw (h r, e, f)

    pub pass-join : (s t : List ℕ) → Passes q d q₁ d₁ s → Passes q₁ d₁ q₂ d₂ t → Passes q d q₂ d₂ (s ++ t)
    pass-join s t p g at r =
        rw append_assoc (p at (t ++ r) ∙ g (length s + at) r ∙ ap (λ (n : ℕ). key_end_from q₂ d₂ n r) (omega (arith, length-append s t)))

pub pass-no-key : (s : List ℕ) → Passes 0 0 0 0 s → NoKey s
unfolding NoKey key_end
pass-no-key s p = rw append-nil at (p 0 []) ∙ (unfold key_end_from in refl)

-- ---- white space

module _ (d : ℕ) where
  pub pass-white : (b : ℕ) (x : List ℕ) → (b ≡ 32) ⊎ (b ≡ 9) → Passes 0 d 0 d x → Passes 0 d 0 d (b ∷ x)
  unfolding qualifies quote_after depth_after opens closes
  pass-white b x (inl e) p = rw e (pass-byte 0 d 0 d 0 d 32 x (λ r. refl) refl refl p)
  pass-white b x (inr e) p = rw e (pass-byte 0 d 0 d 0 d 9 x (λ r. refl) refl refl p)

  pub pass-whites : (x : List ℕ) → T (whites x) → Passes 0 d 0 d x
  unfolding whites
  pass-whites [] h = pass-none 0 d
  pass-whites (b ∷ x) h = let k = and_yes (white b) (whites x) h in pass-white b x (white-cases b k.0) (pass-whites x k.1)

-- behind it and white space a colon is found
pub pass-found : (s x u : List ℕ) → Passes 0 0 0 0 s → T (whites x) → LastOrSpace u → KeyFound (s ++ x) u
unfolding KeyFound key_end
pass-found s x u p w h = pass-join 0 0 0 0 0 0 s x p (pass-whites 0 x w) 0 (58 ∷ u) ∙ here h (length (s ++ x) + 0) ∙ ap some (omega arith)
  where
    here : {u : List ℕ} → LastOrSpace u → (at : ℕ) → key_end_from 0 0 at (58 ∷ u) ≡ some at
    here last at = unfold key_end_from qualifies last_or_space in refl
    here space at = unfold key_end_from qualifies last_or_space in refl

-- ---- plain texts without quotes and opening brackets

abbrev openers : List ℕ
openers = bytes "'\"[{"

pass-plain-byte : (c : Context) (b : ℕ) (t : List ℕ) → Inner c b t → T (not (among b openers)) → Passes 0 0 0 0 t → Passes 0 0 0 0 (b ∷ t)
unfolding quote_after depth_after opens among bytes
pass-plain-byte c b t h n p = pass-byte 0 0 0 0 0 0 b t (inner-stays c b t h 0 0)
    (rw (not-among b 39 openers n tt, not-among b 34 openers n tt))
    (rw (not-among b 123 openers n tt, not-among b 91 openers n tt) (go (closes b)))
    p
  where
    go : (x : Bool) → (if x then 0 - 1 else 0) ≡ 0
    go true = refl
    go false = refl

pass-rest : {c : Context} {a : ℕ} {t : List ℕ} → PlainRest c a t → T (without openers t) → Passes 0 0 0 0 t
unfolding without
pass-rest p_end h = pass-none 0 0
pass-rest {c} (p_char {a = a} {b = b} {t = t} g p) h =
    let k = and_yes (not (among b openers)) (without openers t) h in
    pass-plain-byte c b t (char-inner c a b t g) k.0 (pass-rest p k.1)
pass-rest {c} (p_space {b = b} {t = t} p) h = pass-white 0 32 (b ∷ t) (inl refl) (pass-rest p (and_yes (not (among 32 openers)) (without openers (b ∷ t)) h).1)
pass-rest {c} (p_tab {b = b} {t = t} p) h = pass-white 0 9 (b ∷ t) (inr refl) (pass-rest p (and_yes (not (among 9 openers)) (without openers (b ∷ t)) h).1)

pass-plain : {c : Context} {t : List ℕ} → Plain c t → T (without openers t) → Passes 0 0 0 0 t
unfolding without
pass-plain {c} (plain {b = b} {t = t} g p) h =
    let k = and_yes (not (among b openers)) (without openers t) h in
    pass-plain-byte c b t (first_inner c b t g) k.0 (pass-rest p k.1)

pub plain-key-found : {c : Context} {t u : List ℕ} (x : List ℕ) → Plain c t → T (without (bytes "'\"[{") t) → T (whites x) → LastOrSpace u → KeyFound (t ++ x) u
plain-key-found {t = t} {u = u} x p h w l = pass-found t x u (pass-plain p h) w l

-- ---- quoted texts

module _ (d : ℕ) where
  double-byte : (b : ℕ) (t : List ℕ) → eqb b 34 ≡ false → Passes 34 d 0 d t → Passes 34 d 0 d (b ∷ t)
  unfolding qualifies quote_after depth_after
  double-byte b t e p = pass-byte 34 d 34 d 0 d b t (λ r. refl) (rw e) refl p

  -- `\` hides nothing here
  pass-double : (t : List ℕ) → T (without (bytes "\"") t) → Passes 34 d 0 d (t ++ (34 ∷ []))
  unfolding without bytes among
  pass-double [] h = unfold qualifies quote_after depth_after in pass-byte 34 d 0 d 0 d 34 [] (λ r. refl) refl refl (pass-none 0 d)
  pass-double (b ∷ t) h =
      let k = and_yes (not (among b (bytes "\""))) (without (bytes "\"") t) h in
      double-byte b (t ++ (34 ∷ [])) (not-among b 34 (bytes "\"") k.0 tt) (pass-double t k.1)

  single-byte : (b : ℕ) (t : List ℕ) → eqb b 39 ≡ false → Passes 39 d 0 d t → Passes 39 d 0 d (b ∷ t)
  unfolding qualifies quote_after depth_after
  single-byte b t e p = pass-byte 39 d 39 d 0 d b t (λ r. refl) (rw e) refl p

  -- `''` closes the quote and opens it again
  pass-single : {t v : List ℕ} → SingleText t v → Passes 39 d 0 d (t ++ (39 ∷ []))
  unfolding qualifies quote_after depth_after opens closes
  pass-single s_end = pass-byte 39 d 0 d 0 d 39 [] (λ r. refl) refl refl (pass-none 0 d)
  pass-single (s_char {b = b} {t = t} h g) = single-byte b (t ++ (39 ∷ [])) (not-of₁ (nb_char b) (eqb b 39) h) (pass-single g)
  pass-single (s_twice {t = t} g) =
      pass-byte 39 d 0 d 0 d 39 (39 ∷ t ++ (39 ∷ [])) (λ r. refl) refl refl (pass-byte 0 d 39 d 0 d 39 (t ++ (39 ∷ [])) (λ r. refl) refl refl (pass-single g))

  pub pass-quoted : {s v : List ℕ} (q : Quoted s v) → T (no_escaped_quote q) → Passes 0 d 0 d s
  unfolding quoted_without qualifies quote_after depth_after opens closes
  pass-quoted (q_double {t = t} g e) h = rw e (pass-byte 0 d 34 d 0 d 34 (t ++ (34 ∷ [])) (λ r. refl) refl refl (pass-double t h))
  pass-quoted (q_single {t = t} g e) h = rw e (pass-byte 0 d 39 d 0 d 39 (t ++ (39 ∷ [])) (λ r. refl) refl refl (pass-single g))

pub quoted-no-key : {s v : List ℕ} (q : Quoted s v) → T (no_escaped_quote q) → NoKey s
quoted-no-key {s} q h = pass-no-key s (pass-quoted 0 q h)

pub quoted-key-found : {s v u : List ℕ} (x : List ℕ) (q : Quoted s v) → T (no_escaped_quote q) → T (whites x) → LastOrSpace u → KeyFound (s ++ x) u
quoted-key-found {s} {u = u} x q h w l = pass-found s x u (pass-quoted 0 q h) w l

pub key-found : {k u : List ℕ} (y : List ℕ) → KeyText k → T (whites y) → LastOrSpace u → KeyFound (k ++ y) u
key-found y (k_plain p h e) w l = plain-key-found y p h w l
key-found y (k_quoted q h) w l = quoted-key-found y q h w l

pub key-starts : {k : List ℕ} (y : List ℕ) → KeyText k → starts (ch "?") (k ++ y) ≡ false
unfolding starts
key-starts y (k_plain (plain g p) h e) = e
key-starts y (k_quoted (q_double d e) h) = rw e
key-starts y (k_quoted (q_single d e) h) = rw e
