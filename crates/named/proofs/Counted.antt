-- Where a refusal names a line or a step, it counts from 1, and its number is one of document 01's: the words, and what follows of an answer made of
-- others. Assumes nothing.
use Rattle.std.specs.Prelude.{if◌then◌else◌}
use Rattle.std.proofs.Common.{◌≡◌, refl, sym, ◌∙◌, ℕ, ◌≤◌, Bool, true, false, ◌||◌, leb}
use Rattle.std.proofs.lemmas.Bool.{false≢true, or_parts}
use Rattle.std.proofs.Math.Option.{Option, none, some}
use Rattle.refusal.specs.Base.{Answer, good, refused, ◌>>=◌, ◌>>◌, given, ensure}
use Rattle.refusal.proofs.Tools.{refused≢good}
use Rattle.scalar.specs.Read.{charge}
use Rattle.named.specs.Named.{lined, stepped}

-- what a refusal names counts from 1; the numbers from 55 on are those of other jobs
pub record Counted (n l s : ℕ) : Type 0 where
  pub own : leb 55 n ≡ false
  pub line : lined n ≡ true → 1 ≤ l
  pub step : stepped n ≡ true → 1 ≤ s

-- so does every refusal that an answer can be
abbrev pub Counts : {A : Type 0} → Answer A → Type 0
Counts a = (n l s : ℕ) → a ≡ refused n l s → Counted n l s

pub never : {A : Type 0} {x : A} → Counts (good x)
never {x = x} n l s e = refused≢good x n l s (sym e)

pub refuses : {A : Type 0} (k i j : ℕ) → Counted k i j → Counts {A = A} (refused k i j)
refuses {A} k i j c n l s e =
    let x : k ≡ n = cc in
    let y : i ≡ l = cc in
    let z : j ≡ s = cc in
    rw (← x, ← y, ← z) c

-- no line and no step
pub plainly : {A : Type 0} {k : ℕ} → lined k || leb 55 k ≡ false → stepped k ≡ false → Counts {A = A} (refused k 0 0)
plainly {k = k} p q =
    let (p, o) = or_parts (lined k) (leb 55 k) p in
    refuses k 0 0 (record { own = o; line = λ e. absurd (false≢true (sym p ∙ e)); step = λ e. absurd (false≢true (sym q ∙ e)) })

-- a step
pub stepwise : {A : Type 0} {k l s : ℕ} → lined k || leb 55 k ≡ false → 1 ≤ s → Counts {A = A} (refused k l s)
stepwise {k = k} {l} {s} p h =
    let (p, o) = or_parts (lined k) (leb 55 k) p in
    refuses k l s (record { own = o; line = λ e. absurd (false≢true (sym p ∙ e)); step = λ _. h })

pub binds : {A B : Type 0} {a : Answer A} {f : A → Answer B} → Counts a → ((x : A) → Counts (f x)) → Counts (a >>= f)
unfolding ◌>>=◌
binds {a = a} {f} h k = go a h
  where
    go : (a : Answer _) → Counts a → Counts (a >>= f)
    go (good x) h = k x
    go (refused n i j) h = refuses n i j (h n i j refl)

pub next : {A B : Type 0} {a : Answer A} {b : Answer B} → Counts a → Counts b → Counts (a >> b)
unfolding ◌>>◌
next h k = binds h (λ _. k)

pub ifs : {A : Type 0} (t : Bool) {a b : Answer A} → Counts a → Counts b → Counts (if t then a else b)
ifs true h k = h
ifs false h k = k

pub givens : {A : Type 0} (o : Option A) {n l s : ℕ} → Counts {A = A} (refused n l s) → Counts (given o n l s)
unfolding given
givens none h = h
givens (some x) h = never

pub ensures : (t : Bool) {n l s : ℕ} → Counts {A = Unit {0}} (refused n l s) → Counts (ensure t n l s)
unfolding ensure
ensures true h = never
ensures false h = h

pub charges : (cap sum k : ℕ) → Counts (charge cap sum k)
unfolding charge lined stepped
charges cap sum k = ifs _ never (plainly refl refl)
