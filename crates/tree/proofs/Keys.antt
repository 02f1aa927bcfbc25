-- Trees in whose mappings no key stands twice. Assumes nothing.
use Rattle.std.proofs.Common.{◌≡◌, refl, sym, ap, ◌∙◌, List, ℕ, false}
use Rattle.std.proofs.lemmas.Bool.{false≢true, or_parts}
use Rattle.refusal.specs.Base.{same}
use Rattle.item.specs.Tree.{Shape, Node, Yaml, null, bool, int, str, seq, dict, Items, end, ◌▸◌, ◌◂◌, Entries, done, pair, add, has_key}
use Rattle.item.proofs.Joined.{has-add}
use Rattle.item.proofs.Same.{same_refl, same-ne}

abbrev pub Differing : {s : Shape} → Node s → Type 0
Differing null = Unit {0}
Differing (bool b) = Unit {0}
Differing (int z) = Unit {0}
Differing (str s) = Unit {0}
Differing (seq ys) = Differing ys
Differing (dict es) = Differing es
Differing end = Unit {0}
Differing (y ▸ ys) = Differing y × Differing ys
Differing done = Unit {0}
Differing (pair k v es) = (has_key k es ≡ false) × Differing v × Differing es

pub differing-snoc : (ys : Items) (y : Yaml) → Differing ys → Differing y → Differing (ys ◂ y)
unfolding ◌◂◌
differing-snoc end y d e = (e, tt)
differing-snoc (x ▸ xs) y d e = (d.0, differing-snoc xs y d.1 e)

other_way : (a b : List ℕ) → same a b ≡ false → same b a ≡ false
other_way a b h = same-ne b a (λ e. false≢true (sym h ∙ ap (same a) e ∙ same_refl a))

-- a key that is not there yet is added behind the others
pub differing-add : (es : Entries) (k : List ℕ) (v : Yaml) → Differing es → has_key k es ≡ false → Differing v → Differing (add es k v)
unfolding has_key add
differing-add done k v d h e = (refl, e, tt)
differing-add (pair j u es) k v d h e =
    let p = or_parts (same j k) (has_key k es) h in
    (rw (has-add es k j v, d.0, other_way j k p.0), d.1, differing-add es k v d.2 p.1 e)
