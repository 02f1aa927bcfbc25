-- What the code's branches tell of the definitions of the key search. Assumes nothing.
use Rattle.std.specs.Prelude.{Option, Some, None, is_some, if◌then◌else◌}
use Rattle.std.proofs.Common.{◌≡◌, refl, sym, ◌⊎◌, inl, inr, ℕ, suc, ◌+◌, ◌-◌, ◌<◌, ◌≤◌, arith, Bool, true, false, not, List, eqb, length, drop, get_or, drop_of_length-le, add-one, drop-cons, ne_eqb}
use Rattle.std.proofs.Math.Bool.{and-false}
use Rattle.std.proofs.Math.Option.{none, some}
use Rattle.scalar.specs.Key.{quote_after, depth_after, opens, closes, last_or_space, qualifies, key_end_from}
use Rattle.scalar.specs.declared.Quote.{Quote}
use Rattle.scalar.specs.declared.Quote.TheVariants.{Single, Double}
use Rattle.scalar.specs.Code.{open_of, Passes}

pub q-plain : (q b : ℕ) → q ≡ 0 → ((b ≡ 34) ⊎ (b ≡ 39) → ⊥) → 0 ≡ quote_after q b
unfolding quote_after
q-plain q b h n = rw (h, ne_eqb b 39 (λ e. n (inr e)), ne_eqb b 34 (λ e. n (inl e)))

pub q-stay : (q b : ℕ) → (q ≡ 0 → ⊥) → (b ≡ q → ⊥) → q ≡ quote_after q b
unfolding quote_after
q-stay q b h e = rw (ne_eqb q 0 h, ne_eqb b q e)

pub d-quoted : (q d b : ℕ) → (q ≡ 0 → ⊥) → d ≡ depth_after q d b
unfolding depth_after
d-quoted q d b h = rw (ne_eqb q 0 h)

pub d-other : (q d b : ℕ) → q ≡ 0 → ((b ≡ 91) ⊎ (b ≡ 123) → ⊥) → ((b ≡ 93) ⊎ (b ≡ 125) → ⊥) → d ≡ depth_after q d b
unfolding depth_after opens closes
d-other q d b h n m = rw (h, ne_eqb b 123 (λ e. n (inr e)), ne_eqb b 91 (λ e. n (inl e)), ne_eqb b 125 (λ e. m (inr e)), ne_eqb b 93 (λ e. m (inl e)))

-- one byte more
pub key_more : (s : List ℕ) (q d i : ℕ) → i < length s → qualifies q d (drop i s) ≡ false
    → key_end_from q d i (drop i s) ≡ key_end_from (quote_after q (get_or s i 0)) (depth_after q d (get_or s i 0)) (suc i) (drop (suc i) s)
unfolding key_end_from
key_more s q d i h f = rw (drop-cons s i 0 h) (rw (rw (drop-cons s i 0 h) at f))

pub key_here : (s : List ℕ) (q d i : ℕ) → i < length s → qualifies q d (drop i s) ≡ true → key_end_from q d i (drop i s) ≡ some i
unfolding key_end_from
key_here s q d i h f = rw (drop-cons s i 0 h) (rw (rw (drop-cons s i 0 h) at f))

-- no more than one bracket opens at a byte
pub depth-bound : (q d b : ℕ) → depth_after q d b ≤ suc d
unfolding depth_after
depth-bound q d b = go (eqb q 0) (opens b) (closes b)
  where
    go : (x y z : Bool) → (if not x then d else if y then suc d else if z then d - 1 else d) ≤ suc d
    go true true z = omega arith
    go true false true = omega arith
    go true false false = omega arith
    go false y z = omega arith

-- a colon at i, by the code's tests
module _ (s : List ℕ) (q d i : ℕ) (h : i < length s) where
  pub c-quoted : (q ≡ 0 → ⊥) → false ≡ qualifies q d (drop i s)
  unfolding qualifies
  c-quoted n = rw (drop-cons s i 0 h, ne_eqb q 0 n)

  pub c-other : q ≡ 0 → (get_or s i 0 ≡ 58 → ⊥) → false ≡ qualifies q d (drop i s)
  unfolding qualifies
  c-other e n = rw (drop-cons s i 0 h, e, ne_eqb (get_or s i 0) 58 n)

  pub c-deep : q ≡ 0 → get_or s i 0 ≡ 58 → (d ≡ 0 → ⊥) → false ≡ qualifies q d (drop i s)
  unfolding qualifies
  c-deep e f n = rw (drop-cons s i 0 h, e, f, ne_eqb d 0 n)

  pub c-behind : q ≡ 0 → get_or s i 0 ≡ 58 → d ≡ 0 → last_or_space (drop (suc i) s) ≡ qualifies q d (drop i s)
  unfolding qualifies
  c-behind e f g = rw (drop-cons s i 0 h, e, f, g)

pub last-is : (s : List ℕ) (i : ℕ) → i + 1 ≡ length s → true ≡ last_or_space (drop (suc i) s)
unfolding last_or_space
last-is s i e = rw (drop_of_length-le s {i = suc i} (omega arith))

pub space-is : (s : List ℕ) (i : ℕ) → i < length s → (i + 1 ≡ length s → ⊥) → eqb (get_or s (i + 1) 0) 32 ≡ last_or_space (drop (suc i) s)
unfolding last_or_space
space-is s i h n = rw (drop-cons s (suc i) 0 (omega arith), add-one i)

-- a turn of the code's loop
pub key-turn : (s : List ℕ) (q d i q' d' : ℕ) → i < length s → qualifies q d (drop i s) ≡ false
    → q' ≡ quote_after q (get_or s i 0) → d' ≡ depth_after q d (get_or s i 0) → key_end_from q' d' (i + 1) (drop (i + 1) s) ≡ key_end_from q d i (drop i s)
key-turn s q d i q' d' h f e g = rw (add-one i, e, g) (sym (key_more s q d i h f))

pub depth-turn : (q d b i d' : ℕ) → d' ≡ depth_after q d b → d ≤ i → d' ≤ i + 1
depth-turn q d b i d' e h = omega (arith, depth-bound q d b)

-- the end of the line
pub key-end : (s : List ℕ) (q d i : ℕ) → length s ≤ i → key_end_from q d i (drop i s) ≡ none
unfolding key_end_from
key-end s q d i h = rw (drop_of_length-le s {i = i} h)

-- ---- bytes that are passed

-- none of the marks, in the order of their numbers
pub passes-other : (b : ℕ) → ((b ≡ 34) ⊎ ((b ≡ 39) ⊎ ((b ≡ 58) ⊎ ((b ≡ 91) ⊎ ((b ≡ 93) ⊎ ((b ≡ 123) ⊎ (b ≡ 125)))))) → ⊥) → Passes b
unfolding qualifies
passes-other b n o d bs = (rw (ne_eqb b 58 (λ e. n (inr (inr (inl e)))), and-false (eqb (open_of o) 0)), quote o, depth o)
  where
    no-quote : (b ≡ 34) ⊎ (b ≡ 39) → ⊥
    no-quote (inl e) = n (inl e)
    no-quote (inr e) = n (inr (inl e))

    no-open : (b ≡ 91) ⊎ (b ≡ 123) → ⊥
    no-open (inl e) = n (inr (inr (inr (inl e))))
    no-open (inr e) = n (inr (inr (inr (inr (inr (inl e))))))

    no-close : (b ≡ 93) ⊎ (b ≡ 125) → ⊥
    no-close (inl e) = n (inr (inr (inr (inr (inl e)))))
    no-close (inr e) = n (inr (inr (inr (inr (inr (inr e))))))

    quote : (o : Option Quote) → open_of o ≡ quote_after (open_of o) b
    quote None = q-plain 0 b refl no-quote
    quote (Some Single) = q-stay 39 b (λ z. omega arith) (λ z. no-quote (inr z))
    quote (Some Double) = q-stay 34 b (λ z. omega arith) (λ z. no-quote (inl z))

    depth : (o : Option Quote) → d ≡ depth_after (open_of o) d b
    depth None = d-other 0 d b refl no-open no-close
    depth (Some Single) = d-quoted 39 d b (λ z. omega arith)
    depth (Some Double) = d-quoted 34 d b (λ z. omega arith)

pub passes_on : (s : List ℕ) (o : Option Quote) (d i : ℕ) → i < length s → Passes (get_or s i 0)
    → key_end_from (open_of o) d (i + 1) (drop (i + 1) s) ≡ key_end_from (open_of o) d i (drop i s)
passes_on s o d i h p =
    let q = open_of o in
    let k = p o d (drop (suc i) s) in
    key-turn s q d i q d h (rw (drop-cons s i 0 h) k.0) k.1 k.2

-- a quote that is open is a byte
pub open-some : (o : Option Quote) → is_some o ≡ true → open_of o ≡ 0 → ⊥
open-some None e z = cc
open-some (Some Single) e z = omega arith
open-some (Some Double) e z = omega arith

pub open-none : (o : Option Quote) → is_some o ≡ false → open_of o ≡ 0
open-none None e = refl
open-none (Some quote) e = cc

pub ruleset colons = (open-some, open-none, c-quoted, c-other, c-deep, c-behind, last-is, space-is)
