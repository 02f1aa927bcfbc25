-- Kept's condition on comments holds of ordinary texts: a comment behind a quiet text, and no more, is cut. Assumes nothing.
use Rattle.std.specs.Prelude.{if◌then◌else◌}
use Rattle.std.proofs.Common.{◌≡◌, refl, sym, ap, ◌∙◌, ◌⊎◌, inl, inr, ⊎_elim, ℕ, List, [], ◌∷◌, ◌++◌, append_assoc, Bool, true, false, ◌&&◌, not, T, eqb, eqb→eq}
use Rattle.std.proofs.Math.Facts.{and_yes, yes_and}
use Rattle.refusal.specs.Base.{bytes}
use Rattle.utf8.specs.White.{trim_end}
use Rattle.lines.specs.Lines.{after_plain, place_after, starts_comment, uncommented, strip_comment}
use Rattle.lines.specs.declared.Place.{Place}
use Rattle.lines.specs.declared.Place.TheVariants.{Fresh, Single, Double, Hidden}
use Rattle.lines.specs.declared.Place.TheVariants as P
use Rattle.yaml.specs.Characters.{white, whites, ns_char, nb_char, nb_chars, among}
use Rattle.yaml.specs.Scalars.{Context, PlainRest, p_end, p_char, p_space, p_tab, plain, DoubleText, d_end, d_char, d_escaped, SingleText, s_end, s_char, s_twice}
use Rattle.yaml.specs.Flow.{q_double, q_single}
use Rattle.yaml.specs.Rows.{comment_line, tail}
use Rattle.yaml.specs.Kept.{Cut}
use Rattle.yaml.specs.Ordinary.{without, hash_behind_space, Quiet, q_plain, q_quoted, q_white, q_mark, q_join}
use Rattle.yaml.proofs.Tests.{not-among, by-each}
use Rattle.yaml.proofs.PlainReads.{ns-no-space}
use Rattle.yaml.proofs.OrdinaryTrims.{end-whites}
use Rattle.yaml.proofs.OrdinaryKeys.{white-cases, not-of₁, char-ns, first-ns}

-- ---- the places behind texts

-- outside of quotes
data Outside : Place → Type 0 where
  fresh : Outside Fresh
  other : Outside P.Plain

-- no comment begins in it: it leads from a place to another
abbrev Leads : Place → Place → List ℕ → Type 0
Leads p p' s = (r : List ℕ) → uncommented p (s ++ r) ≡ s ++ uncommented p' r

lead-byte : (p p₁ p₂ : Place) (b : ℕ) (t : List ℕ) → starts_comment p b ≡ false → place_after p b ≡ p₁ → Leads p₁ p₂ t → Leads p p₂ (b ∷ t)
unfolding uncommented
lead-byte p p₁ p₂ b t e f l r = rw (e, f) (ap (λ (x : List ℕ). b ∷ x) (l r))

lead-join : (p p₁ p₂ : Place) (s t : List ℕ) → Leads p p₁ s → Leads p₁ p₂ t → Leads p p₂ (s ++ t)
lead-join p p₁ p₂ s t f g r = ap (uncommented p) (append_assoc s t r) ∙ f (t ++ r) ∙ ap (λ (x : List ℕ). s ++ x) (g r) ∙ sym (append_assoc s t (uncommented p₂ r))

record From (p : Place) (s : List ℕ) : Type 0 where
  to : Place
  outside : Outside to
  leads : Leads p to s

from_byte : (p p₁ : Place) (b : ℕ) (t : List ℕ) → starts_comment p b ≡ false → place_after p b ≡ p₁ → From p₁ t → From p (b ∷ t)
from_byte p p₁ b t e f g = record { to = g.to; outside = g.outside; leads = lead-byte p p₁ g.to b t e f g.leads }

from-none : (p : Place) → Outside p → From p []
from-none p o = record { to = p; outside = o; leads = λ r. refl }

outside-after : {p : Place} → Outside p → (b : ℕ) → place_after p b ≡ after_plain b
unfolding place_after
outside-after fresh b = refl
outside-after other b = refl

no-hash : {p : Place} → Outside p → (b : ℕ) → eqb b 35 ≡ false → starts_comment p b ≡ false
unfolding starts_comment
no-hash fresh b e = e
no-hash other b e = refl

-- ---- plain texts without quotes

abbrev quotes : List ℕ
quotes = bytes "'\""

-- behind a character that is no quote
after-ns : (b : ℕ) → T (ns_char b) → T (not (among b quotes)) → after_plain b ≡ P.Plain
unfolding after_plain among bytes
after-ns b h n = rw (ns-no-space b h, not-among b 39 quotes n tt, not-among b 34 quotes n tt)

module _ (c : Context) where
  char-quiet : {p : Place} → Outside p → (a b : ℕ) → (T (ns_char a) → p ≡ P.Plain) → (eqb b 35 ≡ false) ⊎ T (ns_char a) → starts_comment p b ≡ false
  unfolding starts_comment
  char-quiet o a b f (inl e) = no-hash o b e
  char-quiet o a b f (inr h) = rw (f h)

  -- a `#` stands behind a character
  rest_from : {a : ℕ} {t : List ℕ} → PlainRest c a t → T (without quotes t) → {p : Place} → Outside p → (T (ns_char a) → p ≡ P.Plain) → From p t
  unfolding without
  rest_from p_end h {p = p} o f = from-none p o
  rest_from (p_char {a = a} {b = b} {t = t} g s) h {p = p} o f =
      let k = and_yes (not (among b quotes)) (without quotes t) h in
      let m = char-ns c a b t g in
      from_byte p P.Plain b t (char-quiet o a b f m.1) (outside-after o b ∙ after-ns b m.0 k.0) (rest_from s k.1 other (λ i. refl))
  rest_from (p_space {b = b} {t = t} s) h {p = p} o f =
      from_byte p Fresh 32 (b ∷ t) (no-hash o 32 refl) (outside-after o 32 ∙ (unfold after_plain in refl))
      (rest_from s (and_yes (not (among 32 quotes)) (without quotes (b ∷ t)) h).1 fresh (λ i. absurd i))
  rest_from (p_tab {b = b} {t = t} s) h {p = p} o f =
      from_byte p P.Plain 9 (b ∷ t) (no-hash o 9 refl) (outside-after o 9 ∙ (unfold after_plain in refl))
      (rest_from s (and_yes (not (among 9 quotes)) (without quotes (b ∷ t)) h).1 other (λ i. refl))

-- ---- quoted texts

lead-double : {t v : List ℕ} → DoubleText t v → Leads Double P.Plain (t ++ (34 ∷ []))
unfolding place_after starts_comment
lead-double d_end = lead-byte Double P.Plain P.Plain 34 [] refl refl (λ r. refl)
lead-double (d_char {b = b} {t = t} h d) =
    let k = and_yes (nb_char b && not (eqb b 34)) (not (eqb b 92)) h in
    lead-byte Double Double P.Plain b (t ++ (34 ∷ [])) refl (rw (not-of₁ (nb_char b) (eqb b 34) k.0, not-of₁ true (eqb b 92) k.1)) (lead-double d)
lead-double (d_escaped {b = b} {t = t} x d) =
    lead-byte Double Hidden P.Plain 92 (b ∷ t ++ (34 ∷ [])) refl refl (lead-byte Hidden Double P.Plain b (t ++ (34 ∷ [])) refl refl (lead-double d))

lead-single : {t v : List ℕ} → SingleText t v → Leads Single P.Plain (t ++ (39 ∷ []))
unfolding place_after after_plain starts_comment
lead-single s_end = lead-byte Single P.Plain P.Plain 39 [] refl refl (λ r. refl)
lead-single (s_char {b = b} {t = t} h d) = lead-byte Single Single P.Plain b (t ++ (39 ∷ [])) refl (rw (not-of₁ (nb_char b) (eqb b 39) h)) (lead-single d)
lead-single (s_twice {t = t} d) =
    lead-byte Single P.Plain P.Plain 39 (39 ∷ t ++ (39 ∷ [])) refl refl (lead-byte P.Plain Single P.Plain 39 (t ++ (39 ∷ [])) refl refl (lead-single d))

-- ---- quiet texts

whites-from : (x : List ℕ) → T (whites x) → {p : Place} → Outside p → From p x
unfolding whites
whites-from [] h {p = p} o = from-none p o
whites-from (b ∷ x) h {p = p} o =
    let k = and_yes (white b) (whites x) h in
    ⊎_elim
    (λ e. rw e (from_byte p Fresh 32 x (no-hash o 32 refl) (outside-after o 32 ∙ (unfold after_plain in refl)) (whites-from x k.1 fresh)))
    (λ e. rw e (from_byte p P.Plain 9 x (no-hash o 9 refl) (outside-after o 9 ∙ (unfold after_plain in refl)) (whites-from x k.1 other)))
    (white-cases b k.0)

abbrev marks : List ℕ
marks = bytes "-:,[]{}|"

mark-after : (b : ℕ) → T (among b marks) → (eqb b 35 ≡ false) × (after_plain b ≡ P.Plain)
unfolding after_plain bytes
mark-after = by-each (λ b. (eqb b 35 ≡ false) × (after_plain b ≡ P.Plain)) marks
    ((refl, refl), ((refl, refl), ((refl, refl), ((refl, refl), ((refl, refl), ((refl, refl), ((refl, refl), ((refl, refl), tt))))))))

quiet-from : {s : List ℕ} → Quiet s → {p : Place} → Outside p → From p s
unfolding without
quiet-from (q_plain {c = c} (plain {b = b} {t = t} g s) h) {p = p} o =
    let k = and_yes (not (among b quotes)) (without quotes t) h in
    let m = first-ns c b t g in
    from_byte p P.Plain b t (no-hash o b m.1) (outside-after o b ∙ after-ns b m.0 k.0) (rest_from c s k.1 other (λ i. refl))
quiet-from (q_quoted (q_double {t = t} d e)) {p = p} o =
    rw e (record { to = P.Plain; outside = other; leads = lead-byte p Double P.Plain 34 (t ++ (34 ∷ [])) (no-hash o 34 refl) (outside-after o 34 ∙ (unfold after_plain in refl)) (lead-double d) })
quiet-from (q_quoted (q_single {t = t} d e)) {p = p} o =
    rw e (record { to = P.Plain; outside = other; leads = lead-byte p Single P.Plain 39 (t ++ (39 ∷ [])) (no-hash o 39 refl) (outside-after o 39 ∙ (unfold after_plain in refl)) (lead-single d) })
quiet-from (q_white {x = x} h) o = whites-from x h o
quiet-from (q_mark {b = b} h) {p = p} o = let k = mark-after b h in from_byte p P.Plain b [] (no-hash o b k.0) (outside-after o b ∙ k.1) (from-none P.Plain other)
quiet-from (q_join {s = s} {t = t} x y e) {p = p} o =
    let f = quiet-from x o in
    let g = quiet-from y f.outside in
    rw e (record { to = g.to; outside = g.outside; leads = lead-join p f.to g.to s t f.leads g.leads })

-- ---- the tail

white-outside : (a : ℕ) → T (white a) → Outside (after_plain a)
unfolding after_plain
white-outside a h = ⊎_elim (λ e. rw e fresh) (λ e. rw e other) (white-cases a h)

-- a white byte stays
white-stays : {p : Place} → Outside p → (b : ℕ) (w : List ℕ) → T (white b) → T (whites (uncommented (after_plain b) w)) → eqb b 35 ≡ false → T (whites (uncommented p (b ∷ w)))
unfolding uncommented
white-stays o b w h k e = rw (no-hash o b e, outside-after o b) (unfold whites in yes_and (white b) (whites (uncommented (after_plain b) w)) h k)

-- behind the white byte a, white space stays, and a comment goes
line-white : (a : ℕ) (w : List ℕ) → T (white a) → T (comment_line w) → T (hash_behind_space (a ∷ w)) → T (whites (uncommented (after_plain a) w))
line-white a [] h k n = unfold uncommented whites in tt
line-white a (b ∷ w) h k n = go (eqb b 35) refl (unfold comment_line in k) (unfold hash_behind_space in n) (λ i j m. line-white b w i j m)
  where
    go : (x : Bool) → eqb b 35 ≡ x → T (if x then nb_chars w else white b && comment_line w) → T (if x then eqb a 32 else hash_behind_space (b ∷ w))
        → (T (white b) → T (comment_line w) → T (hash_behind_space (b ∷ w)) → T (whites (uncommented (after_plain b) w))) → T (whites (uncommented (after_plain a) (b ∷ w)))
    go true e k n ih = rw (eqb→eq a 32 (n)) (unfold uncommented starts_comment after_plain whites in rw e tt)
    go false e k n ih =
        let m = and_yes (white b) (comment_line w) (k) in
        white-stays (white-outside a h) b w m.0 (ih m.0 m.1 (n)) e

tail-white : {p : Place} → Outside p → (w : List ℕ) → T (tail w) → T (hash_behind_space w) → T (whites (uncommented p w))
tail-white o [] h n = unfold uncommented whites in tt
tail-white o (b ∷ w) h n =
    let m = and_yes (white b) (comment_line w) (unfold tail in h) in
    white-stays o b w m.0 (line-white b w m.0 m.1 n) (⊎_elim (λ e. rw e) (λ e. rw e) (white-cases b m.0))

pub quiet-Cut : {t : List ℕ} (w : List ℕ) → Quiet t → trim_end t ≡ t → T (tail w) → T (hash_behind_space w) → Cut t w
unfolding Cut strip_comment
quiet-Cut {t} w q e h n =
    let f = quiet-from q fresh in
    ap trim_end (f.leads w) ∙ end-whites t (uncommented f.to w) (tail-white f.outside w h n) ∙ e
