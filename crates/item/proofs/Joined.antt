-- Entries with one more at their end, and with others behind them. Assumes nothing.
use Rattle.std.proofs.Common.{◌≡◌, refl, sym, ap, ◌∙◌, ℕ, List, Bool, ◌||◌}
use Rattle.std.proofs.Math.Bool.{or-false, or_assoc}
use Rattle.refusal.specs.Base.{same}
use Rattle.item.specs.Tree.{Yaml, Entries, done, pair, add, has_key}

pub has-add : (es : Entries) (k j : List ℕ) (v : Yaml) → has_key j (add es k v) ≡ has_key j es || same k j
unfolding has_key add
has-add done k j v = or-false (same k j)
has-add (pair i u es) k j v = ap (λ (b : Bool). same i j || b) (has-add es k j v) ∙ sym (or_assoc (same i j) (has_key j es) (same k j))

unfoldable pub ◌⋈◌ : Entries → Entries → Entries
done ⋈ es = es
(pair k v gs) ⋈ es = pair k v (gs ⋈ es)

infixr 30 ◌⋈◌
pub add-more : (got : Entries) (k : List ℕ) (v : Yaml) (es : Entries) → (add got k v) ⋈ es ≡ got ⋈ (pair k v es)
unfolding add ◌⋈◌
add-more done k v es = refl
add-more (pair j u gs) k v es = ap (λ (l : Entries). pair j u l) (add-more gs k v es)

pub none_more : (got : Entries) → got ⋈ done ≡ got
unfolding ◌⋈◌
none_more done = refl
none_more (pair k v es) = ap (λ (l : Entries). pair k v l) (none_more es)
