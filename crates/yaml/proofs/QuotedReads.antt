-- Quoted texts of the grammar are read as what they stand for. Assumes nothing.
use Rattle.std.proofs.Common.{◌≡◌, refl, ℕ, List, [], ◌∷◌, ◌++◌, true, false, ◌&&◌, not, eqb}
use Rattle.std.proofs.Math.Facts.{and_yes}
use Rattle.std.proofs.Math.Option.{some}
use Rattle.refusal.specs.Base.{good, ch}
use Rattle.scalar.specs.Read.{double_quoted, single_quoted, escape}
use Rattle.yaml.specs.Characters.{nb_char}
use Rattle.yaml.specs.Scalars.{Escape, esc_n, esc_t, esc_r, esc_0, esc_quote, esc_back, esc_slash, DoubleText, d_end, d_char, d_escaped, SingleText, s_end, s_char, s_twice}
use Rattle.yaml.proofs.Tests.{is_false}

escape-is : {b e : ℕ} → Escape b e → escape b ≡ some e
unfolding escape
escape-is esc_n = refl
escape-is esc_t = refl
escape-is esc_r = refl
escape-is esc_0 = refl
escape-is esc_quote = refl
escape-is esc_back = refl
escape-is esc_slash = refl

-- behind the closing quote no other one stands
abbrev pub NoQuote : List ℕ → Type 0
NoQuote [] = Unit {0}
NoQuote (b ∷ bs) = eqb b (ch "'") ≡ false

module _ (cap n : ℕ) where
  pub double-reads : {t v : List ℕ} → DoubleText t v → (r : List ℕ) → double_quoted cap n false (t ++ (ch "\"" ∷ r)) ≡ good (v, r)
  unfolding double_quoted
  double-reads d_end r = refl
  double-reads (d_char {b = b} h d) r =
      let q = and_yes (nb_char b && not (eqb b (ch "\""))) (not (eqb b (ch "\\"))) h in
      rw (is_false (eqb b (ch "\"")) (and_yes (nb_char b) _ q.0).1, is_false (eqb b (ch "\\")) q.1, double-reads d r)
  double-reads (d_escaped x d) r = rw (double-reads d r, escape-is x)

  single-ends : (r : List ℕ) → NoQuote r → single_quoted cap n true r ≡ good ([], r)
  unfolding single_quoted
  single-ends [] h = refl
  single-ends (b ∷ r) h = rw h

  pub single_reads : {t v : List ℕ} → SingleText t v → (r : List ℕ) → NoQuote r → single_quoted cap n false (t ++ (ch "'" ∷ r)) ≡ good (v, r)
  unfolding single_quoted
  single_reads s_end r h = single-ends r h
  single_reads (s_char {b = b} x d) r h = rw (is_false (eqb b (ch "'")) (and_yes (nb_char b) _ x).1, single_reads d r h)
  single_reads (s_twice d) r h = rw (single_reads d r h)
