-- How a proof goes through the definitions: what a good answer of a bind or of a choice tells, what a test tells, and what a refusal is that
-- is handed on. Assumes nothing.
use Rattle.std.specs.Prelude.{if◌then◌else◌, IsErrAnd, Result, Err}
use Rattle.std.proofs.Common.{◌≡◌, refl, ap, ℕ, arith, Bool, true, false}
use Rattle.std.proofs.lemmas.Result.{err_from_is_err_and}
use Rattle.std.proofs.Math.Option.{Option, none, some}
use Rattle.refusal.specs.Base.{Answer, good, refused, ◌>>=◌, ◌>>◌, maybe, given, ensure}

pub good-inj : {A : Type 0} (a b : A) → good a ≡ good b → a ≡ b
good-inj a b p = cc

pub refused≢good : {A X : Type 0} (a : A) (k l s : ℕ) → refused k l s ≡ good a → X
refused≢good a k l s p = absurd (let z : ◌≡◌ {A = ℕ} 0 1 = cc in omega arith)

-- a refusal of one thing is one of another
pub refused-as : {A B : Type 0} {n l s k i t : ℕ} → ◌≡◌ {A = Answer A} (refused n l s) (refused k i t) → ◌≡◌ {A = Answer B} (refused n l s) (refused k i t)
refused-as {n = n} {l} {s} {k} {i} {t} e = let p : n ≡ k = cc e in let q : l ≡ i = cc e in let r : s ≡ t = cc e in rw (p, q, r)

-- a refusal that `?` hands on
pub err_is : {T E : Type 0} (r : Result T E) {e : E} → IsErrAnd r (λ y. y ≡ e) → r ≡ Err e
err_is r h = let p = err_from_is_err_and r h in rw (p.1, p.2)

-- a bind that is good
pub bound : {A B X : Type 0} (a : Answer A) (f : A → Answer B) (b : B) → (a >>= f) ≡ good b → ((x : A) → a ≡ good x → f x ≡ good b → X) → X
unfolding ◌>>=◌
bound (good x) f b e k = k x refl e
bound (refused n l s) f b e k = refused≢good b n l s e

pub bound' : {A B X : Type 0} (a : Answer A) (c : Answer B) (b : B) → (a >> c) ≡ good b → (c ≡ good b → X) → X
unfolding ◌>>◌
bound' a c b e k = bound a (λ _. c) b e (λ x p q. k q)

-- a choice that is good
pub chosen : {A X : Type 0} (t : Bool) (a c : A) {b : A} → (if t then a else c) ≡ b → (t ≡ true → a ≡ b → X) → (t ≡ false → c ≡ b → X) → X
chosen true a c e taken left = taken refl e
chosen false a c e taken left = left refl e

-- an option that was looked into
pub present : {A B X : Type 0} (o : Option A) (b : B) (f : A → B) {z : B} → maybe o b f ≡ z → (o ≡ none → b ≡ z → X) → ((a : A) → o ≡ some a → f a ≡ z → X) → X
unfolding maybe
present none b f e left taken = left refl e
present (some a) b f e left taken = taken a refl e

-- an option that was asked for
pub gave : {A X : Type 0} (o : Option A) (n l s : ℕ) (a : A) → given o n l s ≡ good a → (o ≡ some a → X) → X
unfolding given
gave none n l s a e k = refused≢good a n l s e
gave (some b) n l s a e k = k (ap some (good-inj b a e))

-- a test that was asked for
pub ensured : (t : Bool) (n l s : ℕ) (x : Unit {0}) → ensure t n l s ≡ good x → t ≡ true
unfolding ensure
ensured true n l s x e = refl
ensured false n l s x e = refused≢good x n l s e

-- two binds, or two choices, that agree where it matters
pub bind-cong : {A B : Type 0} (a : Answer A) (f g : A → Answer B) → ((x : A) → a ≡ good x → f x ≡ g x) → (a >>= f) ≡ (a >>= g)
unfolding ◌>>=◌
bind-cong (good x) f g h = h x refl
bind-cong (refused n l s) f g h = refl

pub if-cong : {A : Type 0} (t : Bool) (a a' c c' : A) → (t ≡ true → a ≡ a') → (t ≡ false → c ≡ c') → (if t then a else c) ≡ (if t then a' else c')
if-cong true a a' c c' h k = h refl
if-cong false a a' c c' h k = k refl
