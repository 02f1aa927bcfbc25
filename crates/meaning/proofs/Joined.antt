-- Parts one behind another, and more parts behind them. Assumes nothing.
use Rattle.std.proofs.Common.{◌≡◌, refl, sym, ap, ◌∙◌, ℕ, List, [], ◌∷◌, ◌++◌, append_assoc, append-nil}
use Rattle.meaning.specs.Record.{joined}

pub joined-append : (a b : List (List ℕ)) → joined (a ++ b) ≡ joined a ++ joined b
unfolding joined
joined-append [] b = refl
joined-append (p ∷ a) b = ap (λ (s : List ℕ). p ++ s) (joined-append a b) ∙ sym (append_assoc p (joined a) (joined b))

-- one part more
pub joined-last : (a : List (List ℕ)) (p : List ℕ) → joined (a ++ p ∷ []) ≡ joined a ++ p
unfolding joined
joined-last a p = joined-append a (p ∷ []) ∙ ap (λ (s : List ℕ). joined a ++ s) (append-nil p)
