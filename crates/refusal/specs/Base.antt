-- The words that the definitions of every crate are written in: what a reading answers, byte strings, document 01's one limit on
-- bytes. Uses no other. Assumes nothing.
use Rattle.std.specs.Prelude.{ℕ, List, [], ◌∷◌, Bool, true, false, ◌&&◌, ◌||◌, eqb}
use Prim.Native.Char.{Char, code}
use Prim.Native.String as S
use Prim.Native.String.{String}
use Rattle.std.proofs.Math.Option.{Option, none, some}

-- what a reading gives, or the refusal's number with its line and its step (0 where there is none)
pub data Answer (A : Type 0) : Type 0 where
  good : A → Answer A
  refused : ℕ → ℕ → ℕ → Answer A

infixl 20 ◌>>=◌
infixl 20 ◌>>◌
unfoldable pub ◌>>=◌ : {A B : Type 0} → Answer A → (A → Answer B) → Answer B
good a >>= f = f a
refused n l s >>= f = refused n l s

unfoldable pub ◌>>◌ : {A B : Type 0} → Answer A → Answer B → Answer B
a >> b = a >>= (λ _. b)

-- what an option holds, or what stands in for nothing
unfoldable pub maybe {ℓ} : {A : Type 0} {X : Type ℓ} → Option A → X → (A → X) → X
maybe none x f = x
maybe (some a) x f = f a

-- a value that must be there, or a refusal
unfoldable pub given : {A : Type 0} → Option A → ℕ → ℕ → ℕ → Answer A
given none n l s = refused n l s
given (some a) n l s = good a

-- a test that must hold, or a refusal
unfoldable pub ensure : Bool → ℕ → ℕ → ℕ → Answer (Unit {0})
ensure true n l s = good tt
ensure false n l s = refused n l s

-- of a lent output at most so many bytes count, and a record has at most so many
abbrev pub limit : ℕ
limit = 1048576

-- a character of document 01 as its byte, and a text of it as its bytes (only ASCII is written so)
abbrev pub ch : Char → ℕ
ch c = code c

unfoldable pub bytes : String → List ℕ
bytes S.[] = []
bytes (S.◌∷◌ c s) = code c ∷ bytes s

-- whether two byte strings are equal
unfoldable pub same : List ℕ → List ℕ → Bool
same [] [] = true
same [] (b ∷ bs) = false
same (a ∷ rest) [] = false
same (a ∷ rest) (b ∷ bs) = eqb a b && same rest bs

unfoldable pub one_of : List ℕ → List (List ℕ) → Bool
one_of s [] = false
one_of s (t ∷ ts) = same s t || one_of s ts

-- whether one of the ends of a byte string is `p`
unfoldable pub ends_with : List ℕ → List ℕ → Bool
ends_with p [] = same p []
ends_with p (b ∷ bs) = same p (b ∷ bs) || ends_with p bs

unfoldable pub empty : {A : Type 0} → List A → Bool
empty [] = true
empty (a ∷ rest) = false
