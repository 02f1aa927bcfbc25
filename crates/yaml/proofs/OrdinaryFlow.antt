-- Flow collections of ordinary scalars are ordinary: no key ends in one, and a comment can follow it. Assumes nothing.
use Rattle.std.proofs.Common.{◌≡◌, refl, ◌⊎◌, inl, inr, ⊎_elim, ℕ, suc, arith, List, [], ◌∷◌, ◌++◌, false, ◌&&◌, ◌||◌, not, T, eqb, eqb→eq, ne_eqb}
use Rattle.std.proofs.Math.Facts.{and_yes, or_yes}
use Rattle.std.proofs.Math.Bool.{and-false}
use Rattle.refusal.specs.Base.{ch, bytes}
use Rattle.item.specs.Tree.{many, keyed}
use Rattle.scalar.specs.Key.{quote_after, opens, closes, depth_after, qualifies}
use Rattle.yaml.specs.Characters.{spaces, ns_char, indicators, flow_indicators, among}
use Rattle.yaml.specs.Scalars.{Context, flow_out, flow_in, plain_safe, safe_next, plain_first, plain_char, PlainRest, p_end, p_char, p_space, p_tab, Plain, plain}
use Rattle.yaml.specs.Represent.{Graph, Rep}
use Rattle.yaml.specs.Flow.{Flow, f_plain, f_quoted, f_seq, f_map, FlowItems, s_close, s_last, s_more, FlowPairs, FlowPair, p_value, p_adjacent, p_null}
use Rattle.yaml.specs.Flow as F
use Rattle.yaml.specs.Kept.{NoKey}
use Rattle.yaml.specs.Ordinary.{without, flow_without, items_without, pairs_without, pair_without, Quiet, q_plain, q_quoted, q_white, q_mark, q_join}
use Rattle.yaml.proofs.Tests.{not-among, by-each}
use Rattle.yaml.proofs.Whites.{whites-spaces}
use Rattle.yaml.proofs.OrdinaryKeys.{Passes, pass-none, pass-byte, pass-join, pass-no-key, pass-white, pass-whites, pass-quoted, plain-no-key}

abbrev quotes : List ℕ
quotes = bytes "'\""

-- a byte that is neither a quote nor a bracket
abbrev Still : ℕ → Type 0
Still b = (eqb b 39 ≡ false) × (eqb b 34 ≡ false) × (eqb b 123 ≡ false) × (eqb b 91 ≡ false) × (eqb b 125 ≡ false) × (eqb b 93 ≡ false)

safe-still : (b : ℕ) → T (plain_safe flow_in b) → T (not (among b quotes)) → Still b
unfolding plain_safe among bytes
safe-still b h n =
    let k : T (not (among b flow_indicators)) = (and_yes (ns_char b) (not (among b flow_indicators)) h).1 in
    (not-among b 39 quotes n tt, not-among b 34 quotes n tt, not-among b 123 flow_indicators k tt, not-among b 91 flow_indicators k tt, not-among b 125 flow_indicators k tt, not-among b 93 flow_indicators k tt)

char-still : (a b : ℕ) (t : List ℕ) → T (plain_char flow_in a b t) → T (not (among b quotes)) → Still b
unfolding plain_char
char-still a b t h n = ⊎_elim
    (λ h. ⊎_elim
    (λ h. safe-still b (and_yes (plain_safe flow_in b) (not (among b (bytes ":#"))) h).0 n)
    (λ h. rw (eqb→eq b 35 (and_yes (eqb b 35) (ns_char a) h).0) (refl, refl, refl, refl, refl, refl))
    (or_yes (plain_safe flow_in b && not (among b (bytes ":#"))) (eqb b (ch "#") && ns_char a) h))
    (λ h. rw (eqb→eq b 58 (and_yes (eqb b 58) (safe_next flow_in t) h).0) (refl, refl, refl, refl, refl, refl))
    (or_yes ((plain_safe flow_in b && not (among b (bytes ":#"))) || (eqb b (ch "#") && ns_char a)) (eqb b (ch ":") && safe_next flow_in t) h)

first-still : (b : ℕ) (t : List ℕ) → T (plain_first flow_in b t) → Still b
unfolding plain_first among bytes
first-still b t h = ⊎_elim
    (λ h. let k : T (not (among b indicators)) = (and_yes (ns_char b) (not (among b indicators)) h).1 in
    (not-among b 39 indicators k tt, not-among b 34 indicators k tt, not-among b 123 indicators k tt, not-among b 91 indicators k tt, not-among b 125 indicators k tt, not-among b 93 indicators k tt))
    (λ h. by-each Still (bytes "?:-") ((refl, refl, refl, refl, refl, refl), ((refl, refl, refl, refl, refl, refl), ((refl, refl, refl, refl, refl, refl), tt)))
    b (and_yes (among b (bytes "?:-")) (safe_next flow_in t) h).0)
    (or_yes (ns_char b && not (among b indicators)) (among b (bytes "?:-") && safe_next flow_in t) h)

-- behind an opening bracket no colon ends a key
module _ (d : ℕ) where
  deep-stays : (b : ℕ) (t : List ℕ) → qualifies 0 (suc d) (b ∷ t) ≡ false
  unfolding qualifies
  deep-stays b t = simp (ne_eqb (suc d) 0 (λ e. omega arith), and-false)

  deep-byte : (b : ℕ) (t : List ℕ) → Still b → (d' : ℕ) → Passes 0 (suc d) 0 d' t → Passes 0 (suc d) 0 d' (b ∷ t)
  unfolding quote_after depth_after opens closes
  deep-byte b t h d' p = pass-byte 0 (suc d) 0 (suc d) 0 d' b t (λ r. deep-stays b (t ++ r)) (rw (h.0, h.1)) (rw (h.2, h.3, h.4, h.5)) p

  deep-rest : {a : ℕ} {t : List ℕ} → PlainRest flow_in a t → T (without quotes t) → Passes 0 (suc d) 0 (suc d) t
  unfolding without
  deep-rest p_end h = pass-none 0 (suc d)
  deep-rest (p_char {a = a} {b = b} {t = t} g p) h =
      let k = and_yes (not (among b quotes)) (without quotes t) h in
      deep-byte b t (char-still a b t g k.0) (suc d) (deep-rest p k.1)
  deep-rest (p_space {b = b} {t = t} p) h = pass-white (suc d) 32 (b ∷ t) (inl refl) (deep-rest p (and_yes (not (among 32 quotes)) (without quotes (b ∷ t)) h).1)
  deep-rest (p_tab {b = b} {t = t} p) h = pass-white (suc d) 9 (b ∷ t) (inr refl) (deep-rest p (and_yes (not (among 9 quotes)) (without quotes (b ∷ t)) h).1)

  deep-plain : {t : List ℕ} → Plain flow_in t → T (without quotes t) → Passes 0 (suc d) 0 (suc d) t
  unfolding without
  deep-plain (plain {b = b} {t = t} g p) h = deep-byte b t (first-still b t g) (suc d) (deep-rest p (and_yes (not (among b quotes)) (without quotes t) h).1)

  -- brackets
  pass-open : (b : ℕ) (t : List ℕ) → (b ≡ 91) ⊎ (b ≡ 123) → (d' : ℕ) → Passes 0 (suc d) 0 d' t → Passes 0 d 0 d' (b ∷ t)
  unfolding qualifies quote_after depth_after opens closes
  pass-open b t (inl e) d' p = rw e (pass-byte 0 d 0 (suc d) 0 d' 91 t (λ r. refl) refl refl p)
  pass-open b t (inr e) d' p = rw e (pass-byte 0 d 0 (suc d) 0 d' 123 t (λ r. refl) refl refl p)

  pass-close : (b : ℕ) → (b ≡ 93) ⊎ (b ≡ 125) → Passes 0 (suc d) 0 d (b ∷ [])
  unfolding qualifies quote_after depth_after opens closes
  pass-close b (inl e) = rw e (pass-byte 0 (suc d) 0 d 0 d 93 [] (λ r. refl) refl (omega arith) (pass-none 0 d))
  pass-close b (inr e) = rw e (pass-byte 0 (suc d) 0 d 0 d 125 [] (λ r. refl) refl (omega arith) (pass-none 0 d))

  -- a part and spaces
  pass-part : (t : List ℕ) (n : ℕ) (u : List ℕ) (d' : ℕ) → Passes 0 (suc d) 0 (suc d) t → Passes 0 (suc d) 0 d' u → Passes 0 (suc d) 0 d' (t ++ (spaces n ++ u))
  pass-part t n u d' p q =
      pass-join 0 (suc d) 0 (suc d) 0 d' t (spaces n ++ u) p (pass-join 0 (suc d) 0 (suc d) 0 d' (spaces n) u (pass-whites (suc d) (spaces n) (whites-spaces n)) q)

  deep-sign : (b : ℕ) (t : List ℕ) → (b ≡ 44) ⊎ (b ≡ 58) → (d' : ℕ) → Passes 0 (suc d) 0 d' t → Passes 0 (suc d) 0 d' (b ∷ t)
  deep-sign b t (inl e) d' p = rw e (deep-byte 44 t (refl, refl, refl, refl, refl, refl) d' p)
  deep-sign b t (inr e) d' p = rw e (deep-byte 58 t (refl, refl, refl, refl, refl, refl) d' p)

  pass-inside : (b n : ℕ) (t : List ℕ) → (b ≡ 91) ⊎ (b ≡ 123) → Passes 0 (suc d) 0 d t → Passes 0 d 0 d (b ∷ spaces n ++ t)
  pass-inside b n t h p = pass-open b (spaces n ++ t) h d (pass-part [] n t d (pass-none 0 (suc d)) p)

abbrev double : List ℕ
double = bytes "\""

mutual
  unfolding flow_without items_without pairs_without pair_without

  pass-flow : (d : ℕ) {c : Context} {t : List ℕ} {r : Rep} (g : Flow c t r) → c ≡ flow_in → T (flow_without quotes double g) → Passes 0 (suc d) 0 (suc d) t
  pass-flow d (f_plain {t = t} p s) i h = deep-plain d (rw i at p) h
  pass-flow d (f_quoted q) i h = pass-quoted (suc d) q h
  pass-flow d (f_seq {t = t} n g e) i h = rw e (pass-inside (suc d) 91 n t (inl refl) (pass-items (suc d) g h))
  pass-flow d (f_map {t = t} n g e) i h = rw e (pass-inside (suc d) 123 n t (inr refl) (pass-pairs (suc d) g h))

  pass-items : (d : ℕ) {t : List ℕ} {rs : Graph many} (g : FlowItems t rs) → T (items_without quotes double g) → Passes 0 (suc d) 0 d t
  pass-items d (s_close e) h = rw e (pass-close d 93 (inl refl))
  pass-items d (s_last {t = t} n g e) h = rw e (pass-part d t n (93 ∷ []) d (pass-flow d g refl h) (pass-close d 93 (inl refl)))
  pass-items d (s_more {t = t} {u = u} n m g gs e) h =
      let k = and_yes (flow_without quotes double g) (items_without quotes double gs) h in
      rw e (pass-part d t n (44 ∷ spaces m ++ u) d (pass-flow d g refl k.0) (deep-sign d 44 (spaces m ++ u) (inl refl) d (pass-part d [] m u d (pass-none 0 (suc d)) (pass-items d gs k.1))))

  pass-pairs : (d : ℕ) {t : List ℕ} {ps : Graph keyed} (g : FlowPairs t ps) → T (pairs_without quotes double g) → Passes 0 (suc d) 0 d t
  pass-pairs d (F.m_close e) h = rw e (pass-close d 125 (inr refl))
  pass-pairs d (F.m_last {t = t} n g e) h = rw e (pass-part d t n (125 ∷ []) d (pass-pair d g h) (pass-close d 125 (inr refl)))
  pass-pairs d (F.m_more {t = t} {u = u} n m g gs e) h =
      let k = and_yes (pair_without quotes double g) (pairs_without quotes double gs) h in
      rw e (pass-part d t n (44 ∷ spaces m ++ u) d (pass-pair d g k.0) (deep-sign d 44 (spaces m ++ u) (inl refl) d (pass-part d [] m u d (pass-none 0 (suc d)) (pass-pairs d gs k.1))))

  pass-pair : (d : ℕ) {t : List ℕ} {k v : Rep} (g : FlowPair t k v) → T (pair_without quotes double g) → Passes 0 (suc d) 0 (suc d) t
  pass-pair d (p_value {t = t} {u = u} n m g f e) h =
      let k = and_yes (flow_without quotes double g) (flow_without quotes double f) h in
      rw e (pass-part d t n (58 ∷ spaces (suc m) ++ u) (suc d) (pass-flow d g refl k.0) (deep-sign d 58 (spaces (suc m) ++ u) (inr refl) (suc d) (pass-part d [] (suc m) u (suc d) (pass-none 0 (suc d)) (pass-flow d f refl k.1))))
  pass-pair d (p_adjacent {t = t} {u = u} n g j f e) h =
      let k = and_yes (flow_without quotes double g) (flow_without quotes double f) h in
      rw e (pass-part d t n (58 ∷ u) (suc d) (pass-flow d g refl k.0) (deep-sign d 58 u (inr refl) (suc d) (pass-flow d f refl k.1)))
  pass-pair d (p_null {t = t} n g e) h = rw e (pass-part d t n (58 ∷ []) (suc d) (pass-flow d g refl h) (deep-sign d 58 [] (inr refl) (suc d) (pass-none 0 (suc d))))

-- plain texts without quotes, and double-quoted ones without `\"`
pub flow-no-key : {t : List ℕ} {r : Rep} (g : Flow flow_out t r) → T (flow_without (bytes "'\"") (bytes "\"") g) → NoKey t
unfolding flow_without
flow-no-key (f_plain p s) h = plain-no-key flow_out p
flow-no-key (f_quoted q) h = pass-no-key _ (pass-quoted 0 q h)
flow-no-key (f_seq {t = t} n g e) h = rw e (pass-no-key (91 ∷ spaces n ++ t) (pass-inside 0 91 n t (inl refl) (pass-items 0 g h)))
flow-no-key (f_map {t = t} n g e) h = rw e (pass-no-key (123 ∷ spaces n ++ t) (pass-inside 0 123 n t (inr refl) (pass-pairs 0 g h)))

-- ---- comments

quiet-byte : (b : ℕ) {t : List ℕ} → T (among b (bytes "-:,[]{}|")) → Quiet t → Quiet (b ∷ t)
quiet-byte b h q = q_join (q_mark h) q refl

quiet-part : {t : List ℕ} (n : ℕ) {u : List ℕ} → Quiet t → Quiet u → Quiet (t ++ (spaces n ++ u))
quiet-part n q p = q_join q (q_join (q_white (whites-spaces n)) p refl) refl

quiet-spaces : (n : ℕ) {u : List ℕ} → Quiet u → Quiet (spaces n ++ u)
quiet-spaces n p = q_join (q_white (whites-spaces n)) p refl

mutual
  unfolding flow_without items_without pairs_without pair_without among bytes

  pub flow-quiet : (l : List ℕ) {c : Context} {t : List ℕ} {r : Rep} (g : Flow c t r) → T (flow_without (bytes "'\"") l g) → Quiet t
  flow-quiet l (f_plain p s) h = q_plain p h
  flow-quiet l (f_quoted q) h = q_quoted q
  flow-quiet l (f_seq n g e) h = rw e (quiet-byte 91 tt (quiet-spaces n (quiet-items l g h)))
  flow-quiet l (f_map n g e) h = rw e (quiet-byte 123 tt (quiet-spaces n (quiet-pairs l g h)))

  quiet-items : (l : List ℕ) {t : List ℕ} {rs : Graph many} (g : FlowItems t rs) → T (items_without quotes l g) → Quiet t
  quiet-items l (s_close e) h = rw e (q_mark tt)
  quiet-items l (s_last n g e) h = rw e (quiet-part n (flow-quiet l g h) (q_mark tt))
  quiet-items l (s_more n m g gs e) h =
      let k = and_yes (flow_without quotes l g) (items_without quotes l gs) h in
      rw e (quiet-part n (flow-quiet l g k.0) (quiet-byte 44 tt (quiet-spaces m (quiet-items l gs k.1))))

  quiet-pairs : (l : List ℕ) {t : List ℕ} {ps : Graph keyed} (g : FlowPairs t ps) → T (pairs_without quotes l g) → Quiet t
  quiet-pairs l (F.m_close e) h = rw e (q_mark tt)
  quiet-pairs l (F.m_last n g e) h = rw e (quiet-part n (quiet_pair l g h) (q_mark tt))
  quiet-pairs l (F.m_more n m g gs e) h =
      let k = and_yes (pair_without quotes l g) (pairs_without quotes l gs) h in
      rw e (quiet-part n (quiet_pair l g k.0) (quiet-byte 44 tt (quiet-spaces m (quiet-pairs l gs k.1))))

  quiet_pair : (l : List ℕ) {t : List ℕ} {k v : Rep} (g : FlowPair t k v) → T (pair_without quotes l g) → Quiet t
  quiet_pair l (p_value n m g f e) h =
      let k = and_yes (flow_without quotes l g) (flow_without quotes l f) h in
      rw e (quiet-part n (flow-quiet l g k.0) (quiet-byte 58 tt (quiet-spaces (suc m) (flow-quiet l f k.1))))
  quiet_pair l (p_adjacent n g j f e) h =
      let k = and_yes (flow_without quotes l g) (flow_without quotes l f) h in
      rw e (quiet-part n (flow-quiet l g k.0) (quiet-byte 58 tt (flow-quiet l f k.1)))
  quiet_pair l (p_null n g e) h = rw e (quiet-part n (flow-quiet l g h) (q_mark tt))
