-- Entries and items that grow at their end: what has been read, and what is still to come. Assumes nothing.
use Rattle.std.proofs.Common.{◌≡◌, refl, sym, ap, ◌∙◌, ℕ, List, false}
use Rattle.std.proofs.lemmas.Bool.{false≢true, or_parts}
use Rattle.refusal.specs.Base.{same}
use Rattle.item.specs.Tree.{Yaml, Items, end, ◌▸◌, ◌◂◌, no_item, Entries, done, pair, add, no_entry, has_key}
use Rattle.item.proofs.Same.{same_refl, same-ne}
use Rattle.item.proofs.Joined.{has-add}

-- ---- entries

pub add-some : (got : Entries) (k : List ℕ) (v : Yaml) → no_entry (add got k v) ≡ false
unfolding add no_entry
add-some done k v = refl
add-some (pair j u gs) k v = refl

-- no key of the one is a key of the other
abbrev pub Apart : Entries → Entries → Type 0
Apart got done = Unit {0}
Apart got (pair k v es) = (has_key k got ≡ false) × Apart got es

pub apart-add : (got : Entries) (k : List ℕ) (v : Yaml) (es : Entries) → has_key k es ≡ false → Apart got es → Apart (add got k v) es
unfolding has_key
apart-add got k v done h a = tt
apart-add got k v (pair j u es) h a =
    let p = or_parts (same j k) (has_key k es) h in
    (has-add got k j v ∙ rw (a.0, same-ne k j (λ e. false≢true (sym p.0 ∙ ap (same j) e ∙ same_refl j))), apart-add got k v es p.1 a.1)

pub apart-done : (es : Entries) → Apart done es
unfolding has_key
apart-done done = tt
apart-done (pair k v es) = (refl, apart-done es)

-- ---- items

unfoldable pub ◌▸▸◌ : Items → Items → Items
end ▸▸ ys = ys
(x ▸ xs) ▸▸ ys = x ▸ (xs ▸▸ ys)

infixr 30 ◌▸▸◌
pub snoc-more : (got : Items) (y : Yaml) (ys : Items) → (got ◂ y) ▸▸ ys ≡ got ▸▸ (y ▸ ys)
unfolding ◌◂◌ ◌▸▸◌
snoc-more end y ys = refl
snoc-more (x ▸ xs) y ys = ap (λ (l : Items). x ▸ l) (snoc-more xs y ys)

pub no_more : (got : Items) → got ▸▸ end ≡ got
unfolding ◌▸▸◌
no_more end = refl
no_more (x ▸ xs) = ap (λ (l : Items). x ▸ l) (no_more xs)

pub snoc-some : (got : Items) (y : Yaml) → no_item (got ◂ y) ≡ false
unfolding ◌◂◌ no_item
snoc-some end y = refl
snoc-some (x ▸ xs) y = refl
