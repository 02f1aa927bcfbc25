-- Section 5 of document 01, for contracts: the item at a place of some bytes, by its header. Uses Encode of this crate. Assumes
-- nothing.
use Rattle.std.specs.Prelude.{ℕ, ◌+◌, List, Result, Ok, Err, ltb, length, take, drop, if◌then◌else◌}
use Rattle.item.specs.Encode.{number}
use Rattle.item.specs.declared.Item.{Item}
use Rattle.item.specs.declared.Broken.{Broken}
use Rattle.item.specs.declared.Broken.TheVariants.{Cut, PastEnd}

-- the item at a place: its kind, and the places where its content begins and ends
unfoldable pub header_at : List ℕ → ℕ → Result Item Broken
header_at s at =
    if ltb (length s) (at + 6) then Err Cut
    else if ltb (length s) (at + 6 + number (take 4 (drop at s))) then Err PastEnd
    else Ok (record { kind = number (take 2 (drop (at + 4) s)); from = at + 6; to = at + 6 + number (take 4 (drop at s)) })
