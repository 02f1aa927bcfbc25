-- What the reader trims of ordinary texts: white space behind them, and nothing of themselves. Assumes nothing.
use Rattle.std.proofs.Common.{◌≡◌, refl, sym, ap, ◌∙◌, ℕ, arith, List, [], ◌∷◌, ◌++◌, append_assoc, append-nil, false, not, T, ltb, ltb→lt}
use Rattle.std.proofs.Math.Facts.{and_yes}
use Rattle.std.proofs.Math.Option.{none}
use Rattle.refusal.specs.Base.{maybe, empty}
use Rattle.utf8.specs.White.{white_at, leading_from, leading, trim_start, all_white, trim_end, trim}
use Rattle.utf8.proofs.Laws.{first-none, end-white, end_empty}
use Rattle.utf8.proofs.TrimLaws.{end-end}
use Rattle.yaml.specs.Characters.{white, whites, ns_char}
use Rattle.yaml.specs.Scalars.{Context, flow_out, PlainRest, p_end, p_char, p_space, p_tab, Plain, plain}
use Rattle.yaml.specs.Flow.{Quoted, f_quoted}
use Rattle.yaml.specs.Kept.{KeptFlow}
use Rattle.yaml.specs.Ordinary.{ascii}
use Rattle.yaml.proofs.Tests.{is_false}
use Rattle.yaml.proofs.Whites.{white-one, one_byte}
use Rattle.yaml.proofs.NodeTexts.{node-trim}
use Rattle.yaml.proofs.OrdinaryKeys.{char-ns, first-ns}

-- ---- white space of one byte

white-all : (b : ℕ) (s : List ℕ) → T (white b) → all_white (b ∷ s) ≡ all_white s
unfolding all_white trim_start leading leading_from maybe
white-all b s h = rw (white-one b s h)

-- behind a text it is trimmed
pub end-whites : (s x : List ℕ) → T (whites x) → trim_end (s ++ x) ≡ trim_end s
unfolding whites
end-whites s [] h = ap trim_end (append-nil s)
end-whites s (b ∷ x) h =
    let k = and_yes (white b) (whites x) h in
    ap trim_end (sym (append_assoc s (b ∷ []) x)) ∙ end-whites (s ++ (b ∷ [])) x k.1 ∙ end-white s (b ∷ []) (omega arith) (one_byte b k.0)

-- ---- a text that ends in a trimmed one is trimmed

not_white : (v : List ℕ) → T (not (empty v)) → trim_end v ≡ v → all_white v ≡ false
not_white v n e = sym (end_empty v) ∙ ap empty e ∙ is_false (empty v) n

-- before a text it stays
pub end-front : (x v : List ℕ) → T (whites x) → T (not (empty v)) → trim_end v ≡ v → (trim_end (x ++ v) ≡ x ++ v) × (all_white (x ++ v) ≡ false)
unfolding whites trim_end
end-front [] v h n e = (e, not_white v n e)
end-front (b ∷ x) v h n e =
    let k = and_yes (white b) (whites x) h in
    let f = end-front x v k.1 n e in
    let w : all_white (b ∷ x ++ v) ≡ false = white-all b (x ++ v) k.0 ∙ f.1 in
    (rw (w, f.0), w)

-- ---- scalars

pub trim_end_lem : (t : List ℕ) → trim t ≡ t → trim_end t ≡ t
unfolding trim
trim_end_lem t e = ap trim_end (sym e) ∙ end-end (trim_start t) ∙ e

pub quoted-end : {s v : List ℕ} → Quoted s v → trim_end s ≡ s
quoted-end {s} q = trim_end_lem s (node-trim (f_quoted {c = flow_out} q) (unfold KeptFlow in tt))

-- a character of ASCII is no white space
ns-none : (b : ℕ) → T (ns_char b) → T (ltb b 0x80) → (s : List ℕ) → white_at b s ≡ none
ns-none b h g s = first-none b s (ltb→lt 32 b (and_yes (ltb 0x20 b) _ h).0) (omega (arith, ltb→lt b 0x80 g))

none-all : (b : ℕ) (s : List ℕ) → white_at b s ≡ none → all_white (b ∷ s) ≡ false
unfolding all_white trim_start leading leading_from maybe empty
none-all b s e = rw e

rest_end : {c : Context} {a : ℕ} {t : List ℕ} → PlainRest c a t → T (ascii t) → trim_end t ≡ t
unfolding ascii trim_end empty
rest_end p_end h = refl
rest_end {c} (p_char {a = a} {b = b} {t = t} g p) h =
    let k = and_yes (ltb b 0x80) (ascii t) h in
    rw (none-all b t (ns-none b (char-ns c a b t g).0 k.0 t), rest_end p k.1)
rest_end (p_space {b = b} {t = t} p) h = rw (white-all 32 (b ∷ t) tt ∙ not_white (b ∷ t) tt (rest_end p h), rest_end p h)
rest_end (p_tab {b = b} {t = t} p) h = rw (white-all 9 (b ∷ t) tt ∙ not_white (b ∷ t) tt (rest_end p h), rest_end p h)

-- so Kept asks of a plain text only that it has no other white space at its ends
pub plain-trim : {c : Context} {t : List ℕ} → Plain c t → T (ascii t) → trim t ≡ t
unfolding ascii trim trim_start leading leading_from maybe trim_end
plain-trim {c} (plain {b = b} {t = t} g p) h =
    let k = and_yes (ltb b 0x80) (ascii t) h in
    let e : white_at b t ≡ none = ns-none b (first-ns c b t g).0 k.0 t in
    rw (e, none-all b t e, rest_end p k.1)
