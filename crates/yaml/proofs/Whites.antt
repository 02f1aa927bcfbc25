-- White space within a line, [33] and [66]: it is spaces and tabs, and the reader trims it. Assumes nothing.
use Rattle.std.proofs.Common.{◌≡◌, refl, sym, ap, ◌∙◌, subst, ⊎_elim, ℕ, zero, suc, ◌<◌, arith, List, [], ◌∷◌, ◌++◌, append_assoc, append-nil, T, eqb, eqb→eq}
use Rattle.std.proofs.Math.Facts.{and_yes, or_yes}
use Rattle.std.proofs.Math.Option.{some}
use Rattle.refusal.specs.Base.{maybe, ch}
use Rattle.utf8.specs.Utf8.{within}
use Rattle.utf8.specs.White.{white1, white_at, white_len, trim_start, trim}
use Rattle.utf8.proofs.TrimLaws.{trim-white, start-white}
use Rattle.yaml.specs.Characters.{white, whites, spaces}

-- what holds of a space and of a tab holds of a byte of it
pub white-byte : (P : ℕ → Type 0) → P (ch " ") → P (ch "\t") → (b : ℕ) → T (white b) → P b
white-byte P p q b h = ⊎_elim (λ e. subst P (sym (eqb→eq b 32 e)) p) (λ e. subst P (sym (eqb→eq b 9 e)) q) (or_yes (eqb b 32) (eqb b 9) h)

pub whites-spaces : (n : ℕ) → T (whites (spaces n))
unfolding whites
whites-spaces zero = tt
whites-spaces (suc n) = whites-spaces n

pub white-low : (b : ℕ) → T (white b) → b < 0x80
white-low = white-byte (λ b. b < 0x80) (omega arith) (omega arith)

pub white-one : (b : ℕ) (s : List ℕ) → T (white b) → white_at b s ≡ some 0
unfolding white_at white1 within
white-one b [] = white-byte (λ b. white_at b [] ≡ some 0) refl refl b
white-one b (a ∷ []) = white-byte (λ b. white_at b (a ∷ []) ≡ some 0) refl refl b
white-one b (a ∷ c ∷ s) = white-byte (λ b. white_at b (a ∷ c ∷ s) ≡ some 0) refl refl b

pub one_byte : (b : ℕ) → T (white b) → white_len (b ∷ []) ≡ 1
unfolding white_len maybe
one_byte b h = rw (white-one b [] h)

-- before a text
start-whites : (x s : List ℕ) → T (whites x) → trim_start (x ++ s) ≡ trim_start s
unfolding whites
start-whites [] s h = refl
start-whites (b ∷ x) s h = let k = and_yes (white b) (whites x) h in start-white (b ∷ []) (x ++ s) (omega arith) (one_byte b k.0) ∙ start-whites x s k.1

pub start-front : (x s : List ℕ) → T (whites x) → trim_start (ch " " ∷ x ++ s) ≡ trim_start s
unfolding whites
start-front x s h = start-whites (32 ∷ x) s h

pub trim-front : (x s : List ℕ) → T (whites x) → trim (ch " " ∷ x ++ s) ≡ trim s
unfolding trim
trim-front x s h = rw (start-front x s h)

-- behind one
pub trim-behind : (s x : List ℕ) → T (whites x) → trim (s ++ x) ≡ trim s
unfolding whites
trim-behind s [] h = ap trim (append-nil s)
trim-behind s (b ∷ x) h =
    let k = and_yes (white b) (whites x) h in
    ap trim (sym (append_assoc s (b ∷ []) x)) ∙ trim-behind (s ++ b ∷ []) x k.1 ∙ trim-white s (b ∷ []) (omega arith) (one_byte b k.0)
