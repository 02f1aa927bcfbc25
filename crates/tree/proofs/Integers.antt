-- The integers of a text have 64 bits, and so those of a collection as it grows. Assumes nothing.
use Rattle.std.proofs.Common.{◌≡◌, ℕ, zero, suc, ◌≤◌, ◌<◌, ◌^◌, arith, List, [], ◌∷◌, leb, ltb, eqb, ℤ, pos, neg_ℤ, leb-true, ltb-true}
use Rattle.std.proofs.Math.Option.{Option, none, some, some-injective, none-ne-some}
use Rattle.std.specs.Int.Signed.{mag}
use Rattle.refusal.specs.Base.{ch}
use Rattle.refusal.proofs.Tools.{chosen}
use Rattle.item.specs.Tree.{Yaml, Items, end, ◌▸◌, ◌◂◌, Entries, done, pair, add, Ranged}
use Rattle.number.specs.Integers.{digits, positive, negative, integer}

pub ranged-snoc : (ys : Items) (y : Yaml) → Ranged ys → Ranged y → Ranged (ys ◂ y)
unfolding ◌◂◌
ranged-snoc end y d e = (e, tt)
ranged-snoc (x ▸ xs) y d e = (d.0, ranged-snoc xs y d.1 e)

pub ranged-add : (es : Entries) (k : List ℕ) (v : Yaml) → Ranged es → Ranged v → Ranged (add es k v)
unfolding add
ranged-add done k v d e = (e, tt)
ranged-add (pair j u es) k v d e = (d.0, ranged-add es k v d.1 e)

minus-mag : (n : ℕ) → n ≤ 2 ^ 63 → mag (neg_ℤ (pos n)) < 2 ^ 63
minus-mag zero h = omega arith
minus-mag (suc n) h = omega arith

negative-mag : (o : Option ℕ) (z : ℤ) → negative o ≡ some z → mag z < 2 ^ 63
unfolding negative
negative-mag none z e = absurd (none-ne-some z e)
negative-mag (some n) z e = chosen (leb n (2 ^ 63)) _ _ e
    (λ k p. rw (← some-injective _ _ p) (minus-mag n (leb-true n (2 ^ 63) k))) (λ _ p. absurd (none-ne-some z p))

positive-mag : (o : Option ℕ) (z : ℤ) → positive o ≡ some z → mag z < 2 ^ 63
unfolding positive
positive-mag none z e = absurd (none-ne-some z e)
positive-mag (some n) z e = chosen (ltb n (2 ^ 63)) _ _ e
    (λ k p. rw (← some-injective _ _ p) (ltb-true n (2 ^ 63) k)) (λ _ p. absurd (none-ne-some z p))

pub integer-mag : (s : List ℕ) (z : ℤ) → integer s ≡ some z → mag z < 2 ^ 63
unfolding integer
integer-mag [] z e = absurd (none-ne-some z e)
integer-mag (b ∷ s) z e = chosen (eqb b (ch "-")) _ _ e (λ _ p. negative-mag (digits s) z p) (λ _ p. positive-mag (digits (b ∷ s)) z p)
