-- For the contracts inside the crate: what the code's answers say in the words of the definitions, and plain text by its length. Uses Base
-- and Told of `refusal`; Tree and Encode of `item`; Key and Read of this crate. Assumes nothing.
use Rattle.std.specs.Prelude.{◌≡◌, ℕ, suc, ◌+◌, ◌≤◌, ◌<◌, List, [], ◌∷◌, Bool, false, ◌&&◌, length, drop, Option as Chance, Some, None, Result, Ok, Err, if◌then◌else◌}
use Rattle.std.proofs.Math.Option.{Option, none, some}
use Rattle.refusal.specs.Base.{Answer, good, ch}
use Rattle.refusal.specs.Told.{refusal}
use Rattle.refusal.specs.declared.Refusal.{Refusal}
use Rattle.item.specs.Tree.{Yaml, null, bool, int, str}
use Rattle.item.specs.Encode.{signed}
use Rattle.item.specs.declared.Found.{Found}
use Rattle.item.specs.declared.Found.TheVariants.{At, Nothing}
use Rattle.scalar.specs.declared.Quote.{Quote}
use Rattle.scalar.specs.declared.Quote.TheVariants.{Single, Double}
use Rattle.scalar.specs.declared.plain_text.Said.{Said}
use Rattle.scalar.specs.declared.plain_text.Said.TheVariants as said
use Rattle.scalar.specs.declared.quoted_text.Piece.{Piece}
use Rattle.scalar.specs.declared.quoted_text.Piece.TheVariants.{Byte, Shut}
use Rattle.scalar.specs.declared.quoted_text.Span.{Span}
use Rattle.scalar.specs.Key.{quote_after, depth_after, qualifies}
use Rattle.scalar.specs.Read.{stops_plain, onto_good}

abbrev pub found_of : Option ℕ → Found
found_of none = Nothing
found_of (some n) = At n

-- ---- the search for a key's end

abbrev pub byte_of : Quote → ℕ
byte_of Single = ch "'"
byte_of Double = ch "\""

-- the byte of the quote that is open, 0 for none
abbrev pub open_of : Chance Quote → ℕ
open_of None = 0
open_of (Some quote) = byte_of quote

-- a byte at which the search does nothing, whatever is open
abbrev pub Passes : ℕ → Type 0
Passes b = (quote : Chance Quote) (depth : ℕ) (bs : List ℕ) → let q = open_of quote in
    (qualifies q depth (b ∷ bs) ≡ false) × (q ≡ quote_after q b) × (depth ≡ depth_after q depth b)

-- ---- scalars

-- what a text says
abbrev pub yaml_of : Said → Yaml
yaml_of said.Null = null
yaml_of (said.Bool b) = bool b
yaml_of (said.Int n) = int (signed n.negative n.magnitude)
yaml_of (said.Text t) = str t.now

-- how many bytes plain text has
unfoldable pub plain_len : Bool → List ℕ → ℕ
plain_len in_flow [] = 0
plain_len in_flow (b ∷ bs) = if in_flow && stops_plain b bs then 0 else suc (plain_len in_flow bs)

-- ---- quoted strings

abbrev pub escape_of : Option ℕ → Chance ℕ
escape_of none = None
escape_of (some b) = Some b

abbrev pub Content : Type 0
Content = Answer (List ℕ × List ℕ)

-- what stands at `i`, of a string that is read by `f`, and behind its first byte by `g`
abbrev pub ReadsPiece : (List ℕ → Content) → (List ℕ → Content) → ℕ → ℕ → List ℕ → ℕ → Result Piece Refusal → Type 0
ReadsPiece f g cap line s i (Ok (Byte b)) = (f (drop i s) ≡ onto_good cap line b.byte (g (drop b.next s))) × (i < b.next) × (b.next ≤ length s)
ReadsPiece f g cap line s i (Ok (Shut n)) = (f (drop i s) ≡ good ([], drop n s)) × (n ≤ length s)
ReadsPiece f g cap line s i (Err e) = f (drop i s) ≡ refusal e

-- a string from `i` on of `size` bytes, which ends at `next`
pub record Spanned (f : List ℕ → Content) (s : List ℕ) (i next size : ℕ) : Type 0 where
  pub content : List ℕ
  pub is : f (drop i s) ≡ good (content, drop next s)
  pub long : length content ≡ size
  pub forward : next ≤ length s
  pub within : i + size ≤ length s

abbrev pub Spans : (List ℕ → Content) → List ℕ → ℕ → Result Span Refusal → Type 0
Spans f s i (Ok span) = Spanned f s i span.next span.size
Spans f s i (Err e) = f (drop i s) ≡ refusal e
