-- What the inner functions promise. Uses Share of this crate. Assumes nothing.
use Rattle.std.specs.Prelude.{◌≡◌, ◌⊎◌, List, ℕ, suc, ◌-◌, ◌≤◌, ◌<◌}
use Rattle.share.specs.Share.{gots, sum, up_to, greatest}

-- so many whole rounds, from nothing, are all that the supply allows, or all that any drum wants
pub record Whole (wishes : List ℕ) (allowed n rest : ℕ) : Type 0 where
  pub fits : sum (gots (up_to n wishes)) ≤ allowed
  pub left : rest ≡ allowed - sum (gots (up_to n wishes))
  pub small : n ≤ greatest wishes
  pub last : (n ≡ greatest wishes) ⊎ (allowed < sum (gots (up_to (suc n) wishes)))
