-- What the table of UTF-8 says of a first byte, by where the byte lies. The rows are in the order of their first bytes, so those
-- before a row and those behind it need one comparison each, which computes. Assumes nothing.
use Rattle.std.proofs.Common.{◌≡◌, refl, ap, ◌∙◌, List, [], ◌∷◌, Bool, true, ◌&&◌, ℕ, zero, suc, ◌≤◌, ◌<◌, arith, leb, ltb, drop, leb-true, ltb-true}
use Rattle.std.proofs.lemmas.Bool.{and_parts}
use Rattle.std.proofs.Math.Option.{none, some}
use Rattle.utf8.specs.Utf8.{Row, table, behind_in, tails_of}
use Rattle.utf8.proofs.Ranges.{inside, below, above}

-- the first bytes of the first n rows are all less than `top`
abbrev pub passed : ℕ → List Row → ℕ → Bool
passed zero rows top = true
passed (suc n) [] top = true
passed (suc n) (r ∷ rows) top = ltb r.first.high top && passed n rows top

pass : (n : ℕ) (rows : List Row) (top b : ℕ) → passed n rows top ≡ true → top ≤ b → behind_in rows b ≡ behind_in (drop n rows) b
unfolding behind_in
pass zero rows top b t h = refl
pass (suc n) [] top b t h = refl
pass (suc n) (r ∷ rows) top b t h =
    let w = and_parts (ltb r.first.high top) (passed n rows top) t in
    rw (above r.first b (omega (arith, ltb-true r.first.high top w.0))) (pass n rows top b w.1 h)

-- the first bytes of all rows are at least `bottom`
abbrev over : List Row → ℕ → Bool
over [] bottom = true
over (r ∷ rows) bottom = leb bottom r.first.low && over rows bottom

under : (rows : List Row) (bottom b : ℕ) → over rows bottom ≡ true → b < bottom → behind_in rows b ≡ none
unfolding behind_in
under [] bottom b t h = refl
under (r ∷ rows) bottom b t h =
    let w = and_parts (leb bottom r.first.low) (over rows bottom) t in
    rw (below r.first b (omega (arith, leb-true bottom r.first.low w.0))) (under rows bottom b w.1 h)

fit : (r : Row) (rows : List Row) (b : ℕ) → r.first.low ≤ b → b ≤ r.first.high → behind_in (r ∷ rows) b ≡ some r.behind
unfolding behind_in
fit r rows b h k = rw (inside r.first b h k)

-- a first byte of the row behind the first n
pub in_row : (n : ℕ) (r : Row) (rows : List Row) (b : ℕ) → drop n table ≡ r ∷ rows → passed n table r.first.low ≡ true → r.first.low ≤ b → b ≤ r.first.high → tails_of b ≡ some r.behind
unfolding tails_of
in_row n r rows b e t h k = pass n table r.first.low b t h ∙ ap (λ (l : List Row). behind_in l b) e ∙ fit r rows b h k

-- and one of no row: a tail, an overlong form's, or one beyond the last row
pub no_row : (b : ℕ) → 0x80 ≤ b → b < 0xc2 → tails_of b ≡ none
unfolding table tails_of
no_row b h k = pass 1 table 0x80 b refl h ∙ under (drop 1 table) 0xc2 b refl k

pub past-rows : (b : ℕ) → 0xf4 < b → tails_of b ≡ none
unfolding table tails_of behind_in
past-rows b h = pass 9 table 0xf5 b refl h
