-- The lines of a text, each cut into the parts that the productions of chapters 6 and 8 of YAML 1.2.2 name. Uses Base of `refusal`;
-- Characters of this crate. Assumes nothing.
use Rattle.std.specs.Prelude.{ℕ, List, [], ◌∷◌, ◌++◌, Bool, true, false, ◌&&◌, ◌||◌, not, T, eqb, take, drop, if◌then◌else◌}
use Rattle.refusal.specs.Base.{ch, bytes, same, empty}
use Rattle.yaml.specs.Characters.{white, nb_chars, spaces}

-- [28] b-break, of which the carriage return alone is left out, and the end of the input, which [76] and [165] allow in its place
pub data Break : Type 0 where
  lf crlf eof : Break

pub data Row : Type 0 where
  node : ℕ → List ℕ → List ℕ → Break → Row  -- s-indent(n), what holds (a part of) a node, and s-b-comment without its break
  note : List ℕ → Break → Row  -- l-comment: white space, a comment or nothing
  body : ℕ → List ℕ → Break → Row  -- a literal's s-indent(n) nb-char+
  blank : ℕ → Break → Row  -- a literal's l-empty: so many spaces

unfoldable pub raw : Row → List ℕ
raw (node n t w b) = spaces n ++ (t ++ w)
raw (note s b) = s
raw (body n t b) = spaces n ++ t
raw (blank k b) = spaces k

unfoldable pub break_of : Row → Break
break_of (node n t w b) = b
break_of (note s b) = b
break_of (body n t b) = b
break_of (blank k b) = b

unfoldable pub break_text : Break → List ℕ
break_text lf = ch "\n" ∷ []
break_text crlf = ch "\r" ∷ ch "\n" ∷ []
break_text eof = []

unfoldable pub text_of : List Row → List ℕ
text_of [] = []
text_of (r ∷ rs) = raw r ++ (break_text (break_of r) ++ text_of rs)

unfoldable pub is_eof : Break → Bool
is_eof lf = false
is_eof crlf = false
is_eof eof = true

-- only behind the last row the input ends, and then that row has a character
unfoldable pub ends_last : List Row → Bool
ends_last [] = true
ends_last (r ∷ []) = not (is_eof (break_of r) && empty (raw r))
ends_last (r ∷ s ∷ rs) = not (is_eof (break_of r)) && ends_last (s ∷ rs)

-- [206] c-forbidden: a line that begins with `---` or `...` and then white space or nothing
unfoldable pub marker : List ℕ → Bool
marker s = (same (take 3 s) (bytes "---") || same (take 3 s) (bytes "...")) && ends (drop 3 s)
  where
    ends : List ℕ → Bool
    ends [] = true
    ends (b ∷ bs) = white b

unfoldable pub no_marker : List Row → Bool
no_marker [] = true
no_marker (r ∷ rs) = not (marker (raw r)) && no_marker rs

-- [75] c-nb-comment-text behind any white space, or white space alone
unfoldable pub comment_line : List ℕ → Bool
comment_line [] = true
comment_line (b ∷ bs) = if eqb b (ch "#") then nb_chars bs else white b && comment_line bs

-- [77] s-b-comment without its break: before a comment there is white space
unfoldable pub tail : List ℕ → Bool
tail [] = true
tail (b ∷ bs) = white b && comment_line bs

-- [78] l-comment, [79] s-l-comments behind its first line
pub data Comments : List Row → Type 0 where
  c_end : Comments []
  c_more : {s : List ℕ} {b : Break} {rs : List Row} → T (comment_line s) → Comments rs → Comments (note s b ∷ rs)
