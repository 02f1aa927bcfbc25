-- How the texts of flow nodes begin and end, so that the reader's trimming leaves them as they are. Assumes nothing.
use Rattle.std.proofs.Common.{◌≡◌, refl, sym, ap, ◌∙◌, subst, ℕ, suc, ◌<◌, arith, List, [], ◌∷◌, ◌++◌, append_assoc, false, T, eqb, length, drop, length-drop}
use Rattle.std.proofs.Math.Facts.{and_yes}
use Rattle.std.proofs.Math.Option.{Option, none, some}
use Rattle.refusal.specs.Base.{maybe, ch, bytes, same}
use Rattle.utf8.specs.White.{white_at, leading_from, leading, trim_start, trim_end, trim}
use Rattle.utf8.proofs.Laws.{leading_le, end-le, first-none, white-apart}
use Rattle.utf8.proofs.TrimLaws.{end-one, end-behind}
use Rattle.item.specs.Tree.{many, keyed}
use Rattle.lines.specs.Dash.{dashed}
use Rattle.yaml.specs.Characters.{ns_char, among, white, whites, spaces}
use Rattle.yaml.specs.Scalars.{Context, flow_out, plain, plain_first, plain_safe, safe_next}
use Rattle.yaml.proofs.PlainReads.{by_first, ns-no-space}
use Rattle.yaml.proofs.Whites.{white-low}
use Rattle.yaml.specs.Represent.{Graph, Rep}
use Rattle.yaml.specs.Flow.{Flow, f_plain, f_quoted, f_seq, f_map, q_double, q_single, FlowItems, s_close, s_last, s_more, FlowPairs}
use Rattle.yaml.specs.Flow as F
use Rattle.yaml.specs.Kept.{KeptFlow}

-- ---- the start

-- what is trimmed as it stands begins with no white space
start-of-trim : (t : List ℕ) → trim t ≡ t → leading t ≡ 0
unfolding trim trim_start
start-of-trim t e = omega (arith, end-le (drop (leading t) t), ap length e, length-drop (leading t) t, leading_le t)

pub start-same : (t : List ℕ) → leading t ≡ 0 → trim_start t ≡ t
unfolding trim_start
start-same t e = rw e

lead-none : (a : ℕ) (s : List ℕ) → leading (a ∷ s) ≡ 0 → white_at a s ≡ none
unfolding leading leading_from maybe
lead-none a s e = go (white_at a s) e
  where
    go : (o : Option ℕ) → maybe o 0 (λ k. suc (leading_from k s)) ≡ 0 → o ≡ none
    go none q = refl
    go (some k) q = absurd (omega arith)

none-lead : (a : ℕ) (s : List ℕ) → white_at a s ≡ none → leading (a ∷ s) ≡ 0
unfolding leading leading_from maybe
none-lead a s e = rw e

-- nor does it with a colon or white space behind it
lead-longer : (c : ℕ) → c < 0x80 → (a : ℕ) (s u : List ℕ) → leading (a ∷ s) ≡ 0 → leading (a ∷ s ++ (c ∷ u)) ≡ 0
lead-longer c h a s u e = none-lead a (s ++ (c ∷ u)) (white-apart c (λ l _. omega arith) a s u ∙ lead-none a s e)

-- ---- the first byte of a node outside flow collections

pub record Front (t : List ℕ) : Type 0 where
  pub byte : ℕ
  pub rest : List ℕ
  pub is : t ≡ byte ∷ rest
  pub no_anchor : eqb byte 38 ≡ false
  pub no_alias : eqb byte 42 ≡ false
  pub no_bar : eqb byte 124 ≡ false
  pub no_dash : (u : List ℕ) → dashed (byte ∷ rest ++ u) ≡ false

no-dash-by : (b : ℕ) (t : List ℕ) → eqb b 45 ≡ false → dashed (b ∷ t) ≡ false
unfolding dashed same bytes
no-dash-by b t e = rw e

dash-next : (c : ℕ) (t : List ℕ) → T (ns_char c) → dashed (45 ∷ c ∷ t) ≡ false
unfolding dashed same bytes
dash-next c t h = rw (ns-no-space c h)

front-plain : (b : ℕ) (t : List ℕ) → T (plain_first flow_out b t) → Front (b ∷ t)
unfolding among bytes
front-plain b t h = by_first (λ x. Front (x ∷ t)) flow_out b t h
    (λ k out. record { byte = b; rest = t; is = refl; no_anchor = out 38 tt; no_alias = out 42 tt; no_bar = out 124 tt; no_dash = λ u. no-dash-by b (t ++ u) (out 45 tt) })
    (λ s. (
      record { byte = 63; rest = t; is = refl; no_anchor = refl; no_alias = refl; no_bar = refl; no_dash = λ u. no-dash-by 63 (t ++ u) refl },
      (
        record { byte = 58; rest = t; is = refl; no_anchor = refl; no_alias = refl; no_bar = refl; no_dash = λ u. no-dash-by 58 (t ++ u) refl },
        (dash t s, tt),
      ),
    ))
  where
    dash : (t : List ℕ) → T (safe_next flow_out t) → Front (45 ∷ t)
    dash [] h = absurd (unfold safe_next in h)
    dash (c ∷ t) h = record { byte = 45; rest = c ∷ t; is = refl; no_anchor = refl; no_alias = refl; no_bar = refl; no_dash = λ u. dash-next c (t ++ u) (unfold safe_next plain_safe in h) }

pub front_of : {t : List ℕ} {r : Rep} → Flow flow_out t r → Front t
front_of (f_plain (plain {b = b} {t = t} h p) s) = front-plain b t h
front_of (f_quoted (q_double {t = t} d e)) = record { byte = 34; rest = t ++ (34 ∷ []); is = e; no_anchor = refl; no_alias = refl; no_bar = refl; no_dash = λ u. no-dash-by 34 ((t ++ (34 ∷ [])) ++ u) refl }
front_of (f_quoted (q_single {t = t} d e)) = record { byte = 39; rest = t ++ (39 ∷ []); is = e; no_anchor = refl; no_alias = refl; no_bar = refl; no_dash = λ u. no-dash-by 39 ((t ++ (39 ∷ [])) ++ u) refl }
front_of (f_seq {t = t} n d e) = record { byte = 91; rest = spaces n ++ t; is = e; no_anchor = refl; no_alias = refl; no_bar = refl; no_dash = λ u. no-dash-by 91 ((spaces n ++ t) ++ u) refl }
front_of (f_map {t = t} n d e) = record { byte = 123; rest = spaces n ++ t; is = e; no_anchor = refl; no_alias = refl; no_bar = refl; no_dash = λ u. no-dash-by 123 ((spaces n ++ t) ++ u) refl }

-- ---- the last byte of one that is no plain text

record Last (c : ℕ) (t : List ℕ) : Type 0 where
  front : List ℕ
  is : t ≡ front ++ (c ∷ [])

last-front : (c : ℕ) (s : List ℕ) {t : List ℕ} → Last c t → Last c (s ++ t)
last-front c s {t = t} h = record { front = s ++ h.front; is = ap (λ (x : List ℕ). s ++ x) h.is ∙ sym (append_assoc s h.front (c ∷ [])) }

last-items : {t : List ℕ} {rs : Graph many} → FlowItems t rs → Last 93 t
last-items (s_close e) = record { front = []; is = e }
last-items (s_last {t = t} n d e) = subst (Last 93) (sym e) (last-front 93 t (last-front 93 (spaces n) (record { front = []; is = refl })))
last-items (s_more {t = t} n m d ds e) = subst (Last 93) (sym e) (last-front 93 t (last-front 93 (spaces n) (last-front 93 (44 ∷ spaces m) (last-items ds))))

last-pairs : {t : List ℕ} {ps : Graph keyed} → FlowPairs t ps → Last 125 t
last-pairs (F.m_close e) = record { front = []; is = e }
last-pairs (F.m_last {t = t} n d e) = subst (Last 125) (sym e) (last-front 125 t (last-front 125 (spaces n) (record { front = []; is = refl })))
last-pairs (F.m_more {t = t} n m d ds e) = subst (Last 125) (sym e) (last-front 125 t (last-front 125 (spaces n) (last-front 125 (44 ∷ spaces m) (last-pairs ds))))

-- between a first byte that opens and a last that closes nothing is trimmed
between : (b c : ℕ) (s t : List ℕ) → 0x20 < b → b < 0x80 → 0x20 < c → c < 0x80 → Last c t → s ≡ b ∷ t → trim s ≡ s
unfolding trim
between b c s t h k m n l e =
    rw e (ap trim_end (start-same (b ∷ t) (none-lead b t (first-none b t h (omega arith))))
    ∙ rw l.is (end-behind c (λ p _. omega arith) [] (end-one c m (omega arith)) (b ∷ l.front)))

-- a kept node is trimmed as it stands
pub node-trim : {c : Context} {t : List ℕ} {r : Rep} (d : Flow c t r) → KeptFlow d → trim t ≡ t
unfolding KeptFlow
node-trim (f_plain p s) k = k.0
node-trim (f_quoted (q_double {s = s} {t = t} d e)) k = between 34 34 s (t ++ (34 ∷ [])) (omega arith) (omega arith) (omega arith) (omega arith) (record { front = t; is = refl }) e
node-trim (f_quoted (q_single {s = s} {t = t} d e)) k = between 39 39 s (t ++ (39 ∷ [])) (omega arith) (omega arith) (omega arith) (omega arith) (record { front = t; is = refl }) e
node-trim (f_seq {s = s} {t = t} n d e) k = between 91 93 s (spaces n ++ t) (omega arith) (omega arith) (omega arith) (omega arith) (last-front 93 (spaces n) (last-items d)) e
node-trim (f_map {s = s} {t = t} n d e) k = between 123 125 s (spaces n ++ t) (omega arith) (omega arith) (omega arith) (omega arith) (last-front 125 (spaces n) (last-pairs d)) e

pub node-start : {t : List ℕ} {r : Rep} (d : Flow flow_out t r) → KeptFlow d → trim_start t ≡ t
node-start {t = t} d k = start-same t (start-of-trim t (node-trim d k))

-- and begins so too where white space or a colon follows
pub key-start : {t : List ℕ} {r : Rep} (d : Flow flow_out t r) → KeptFlow d → (x u : List ℕ) → T (whites x) → trim_start ((t ++ x) ++ (ch ":" ∷ u)) ≡ (t ++ x) ++ (ch ":" ∷ u)
unfolding whites
key-start {t = t} d k x u w = start-same _ (rw (append_assoc t x (58 ∷ u), f.is) (go x w (subst (λ (s : List ℕ). leading s ≡ 0) f.is (start-of-trim t (node-trim d k)))))
  where
    f : Front t
    f = front_of d

    go : (x : List ℕ) → T (whites x) → leading (f.byte ∷ f.rest) ≡ 0 → leading (f.byte ∷ f.rest ++ (x ++ (58 ∷ u))) ≡ 0
    go [] w e = lead-longer 58 (omega arith) f.byte f.rest u e
    go (b ∷ x) w e = lead-longer b (white-low b (and_yes (white b) (whites x) w).0) f.byte f.rest (x ++ (58 ∷ u)) e
