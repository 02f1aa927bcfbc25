-- Document 02, P11: how the drums of a tower share one supply in a beat, and what is promised of it. Uses Base and Told of `refusal`.
-- Assumes nothing.
use Rattle.std.specs.Prelude.{◌≡◌, ℕ, zero, suc, ◌+◌, ◌-◌, ◌/◌, ◌≤◌, ◌<◌, min, max, List, [], ◌∷◌, ◌++◌, map, ◌&&◌, leb, ltb, length, get_or, replicate, if◌then◌else◌}
use Rattle.refusal.specs.Base.{Answer, good, refused, ◌>>◌, ensure}
use Rattle.refusal.specs.Told.{refusal}
use Rattle.share.specs.declared.ShareAnswer.{ShareAnswer}
use Rattle.share.specs.declared.ShareAnswer.TheVariants.{Given, Refused}

-- a drum in a beat: the strokes that it wishes, and those that it has got
pub record Drum : Type 0 where
  pub wish : ℕ
  pub got : ℕ

unfoldable pub gots : List Drum → List ℕ
gots = map (λ d. d.got)

unfoldable pub sum : List ℕ → ℕ
sum [] = 0
sum (n ∷ ns) = n + sum ns

-- drums that have each got the smaller of their wish and a number
unfoldable pub up_to : ℕ → List ℕ → List Drum
up_to n = map (λ w. record { wish = w; got = min w n })

-- each of n drums first gets the smaller of its wish and L divided by n, rounded down
unfoldable pub first_shares : List ℕ → ℕ → List Drum
first_shares wishes allowed = up_to (allowed / length wishes) wishes

-- a stroke for a drum that still wants one, if any remain
unfoldable pub stroke : ℕ → Drum → ℕ
stroke rest d = if ltb 0 rest && ltb d.got d.wish then 1 else 0

-- a round: what remains goes out one stroke at a time, in drum order
unfoldable pub round : ℕ → List Drum → List Drum
round rest [] = []
round rest (d ∷ ds) = record { wish = d.wish; got = d.got + stroke rest d } ∷ round (rest - stroke rest d) ds

-- round after round, each with what remains of L then
unfoldable pub rounds : ℕ → ℕ → List Drum → List Drum
rounds zero allowed ds = ds
rounds (suc more) allowed ds = rounds more allowed (round (allowed - sum (gots ds)) ds)

-- after 255 rounds nothing remains or no drum still wants, since none wished for more
unfoldable pub shares : List ℕ → ℕ → List ℕ
shares wishes allowed = gots (rounds 255 allowed (first_shares wishes allowed))

-- eight numbers in drum order, 0 for drums that aren't there
unfoldable pub eight : List ℕ → List ℕ
eight ns = ns ++ replicate (8 - length ns) 0

unfoldable pub greatest : List ℕ → ℕ
greatest [] = 0
greatest (w ∷ ws) = max w (greatest ws)

-- 61: no drum, over 8 drums, or a wish above 255. 62: L below n
unfoldable pub share : List ℕ → ℕ → Answer (List ℕ)
share wishes allowed =
    ensure (leb 1 (length wishes)) 61 0 0
    >> ensure (leb (length wishes) 8) 61 0 0
    >> ensure (leb (greatest wishes) 255) 61 0 0
    >> ensure (leb (length wishes) allowed) 62 0 0
    >> good (eight (shares wishes allowed))

-- the eight numbers are 0 on a refusal
unfoldable pub numbers_of : Answer (List ℕ) → List ℕ
numbers_of (good ns) = ns
numbers_of (refused n l s) = replicate 8 0

-- ---- what is promised, in every beat that isn't refused

pub record Fair (wishes : List ℕ) (allowed : ℕ) (ns : List ℕ) : Type 0 where
  -- no drum gets less than its first share, or more than it wished
  pub least : (i : ℕ) → i < length wishes → min (get_or wishes i 0) (allowed / length wishes) ≤ get_or ns i 0
  pub most : (i : ℕ) → i < length wishes → get_or ns i 0 ≤ get_or wishes i 0
  pub total : sum ns ≡ min allowed (sum wishes)
  -- eight numbers, 0 for drums that aren't there
  pub places : length ns ≡ 8
  pub absent : (i : ℕ) → length wishes ≤ i → get_or ns i 0 ≡ 0

pub record Beat : Type 0 where
  pub wishes : List ℕ
  pub allowed : ℕ

-- of every beat of a list, if it isn't refused
unfoldable pub AllFair : List Beat → Type 0
AllFair [] = Unit
AllFair (b ∷ bs) = ((ns : List ℕ) → share b.wishes b.allowed ≡ good ns → Fair b.wishes b.allowed ns) × AllFair bs

-- ---- the answer of the code

abbrev pub answer_of : ShareAnswer → List ℕ → Answer (List ℕ)
answer_of Given ns = good ns
answer_of (Refused e) ns = refusal e
