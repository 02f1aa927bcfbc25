-- Where document 01, with P3 and P4 of document 02, parts from YAML 1.2.2 on texts that the grammar has: conditions on a derivation under which
-- they agree. Each names the smallest text that it rules out. Uses Base of `refusal`; White of `utf8`; Tree of `item`; Lines of `lines`; Key
-- of `scalar`; Scalars, Represent, Core, Flow, Rows and Block of this crate. Assumes nothing.
use Rattle.std.specs.Prelude.{◌≡◌, ℕ, ◌+◌, ◌≤◌, ◌<◌, List, [], ◌∷◌, ◌++◌, Bool, true, false, T, eqb, ltb, length, drop, if◌then◌else◌}
use Rattle.std.proofs.Math.Option.{Option, none, some}
use Rattle.refusal.specs.Base.{ch}
use Rattle.utf8.specs.White.{trim, trim_end, all_white}
use Rattle.lines.specs.Lines.{indent_of, tabbed, strip_comment, is_marker, opens_literal}
use Rattle.scalar.specs.Key.{key_end}
use Rattle.item.specs.Tree.{many, keyed}
use Rattle.yaml.specs.Scalars.{Context}
use Rattle.yaml.specs.Represent.{Graph, Rep}
use Rattle.yaml.specs.Core.{matches, json_decimal_text, Core, to_null, to_true, to_false, to_decimal, to_octal, to_hex, to_float, to_str}
use Rattle.yaml.specs.Flow.{Flow, f_plain, f_quoted, f_seq, f_map, FlowItems, s_close, s_last, s_more, FlowPairs, FlowPair, p_value, p_adjacent, p_null}
use Rattle.yaml.specs.Flow as F
use Rattle.yaml.specs.Rows.{Break, lf, crlf, eof, Row, node, note, body, blank}
use Rattle.yaml.specs.Block.{Chomp, strip, clip, mark, Literal, l_lines, l_nothing, Key, key, Block, b_flow, b_seq, b_map, Items, i_last, i_more, Item, i_flow, i_null, i_block, i_map, Pairs, Entry, e_flow, e_null, e_block, e_literal, Document, d_none, d_one, Stream}
use Rattle.yaml.specs.Block as B

-- ---- scalars and flow nodes

-- `0o17` and `0x1F` are texts to document 01; `+1` and `00` to P4, which leaves the integers of the JSON schema
unfoldable pub KeptCore : {t : List ℕ} {r : Rep} → Core t r → Type 0
KeptCore (to_null h) = Unit {0}
KeptCore (to_true h) = Unit {0}
KeptCore (to_false h) = Unit {0}
KeptCore (to_decimal {t = t} h) = T (matches json_decimal_text t)
KeptCore (to_octal h) = ⊥
KeptCore (to_hex h) = ⊥
KeptCore (to_float g h) = Unit {0}
KeptCore (to_str h) = Unit {0}

unfoldable mutual
  pub KeptFlow : {c : Context} {t : List ℕ} {r : Rep} → Flow c t r → Type 0
  -- `NBa`: a plain text has no Unicode white space at its ends
  KeptFlow (f_plain {t = t} p s) = (trim t ≡ t) × KeptCore s
  KeptFlow (f_quoted q) = Unit {0}
  KeptFlow (f_seq n d e) = KeptItems d
  KeptFlow (f_map n d e) = KeptPairs d

  pub KeptItems : {t : List ℕ} {rs : Graph many} → FlowItems t rs → Type 0
  KeptItems (s_close e) = Unit {0}
  KeptItems (s_last n d e) = KeptFlow d
  KeptItems (s_more n m d ds e) = KeptFlow d × KeptItems ds

  pub KeptPairs : {t : List ℕ} {ps : Graph keyed} → FlowPairs t ps → Type 0
  KeptPairs (F.m_close e) = Unit {0}
  KeptPairs (F.m_last n d e) = KeptPair d
  KeptPairs (F.m_more n m d ds e) = KeptPair d × KeptPairs ds

  pub KeptPair : {t : List ℕ} {k v : Rep} → FlowPair t k v → Type 0
  KeptPair (p_value n m d e q) = KeptFlow d × KeptFlow e
  KeptPair (p_adjacent n d j e q) = KeptFlow d × KeptFlow e
  KeptPair (p_null n d q) = KeptFlow d

-- ---- block nodes

-- `a: |⏎ x` at the end of the input: document 01 adds the newline that clip does not
unfoldable pub KeptLast : Chomp → Break → Type 0
KeptLast strip b = Unit {0}
KeptLast clip lf = Unit {0}
KeptLast clip crlf = Unit {0}
KeptLast clip eof = ⊥

unfoldable pub KeptLiteral : {n : ℕ} {c : Chomp} {rs : List Row} {v : List ℕ} → Literal n c rs v → Type 0
KeptLiteral (l_lines {c = c} {b = b} h d s t e x) = KeptLast c b
KeptLiteral (l_nothing m t) = Unit {0}

unfoldable pub starts : ℕ → List ℕ → Bool
starts b [] = false
starts b (c ∷ t) = eqb c b

-- `?a: 1`: a block key does not begin with `?`
unfoldable pub KeptKey : {s : List ℕ} {r : Rep} → Key s r → Type 0
KeptKey (key {s = s} x d w e h) = KeptFlow d × (starts (ch "?") s ≡ false)

-- `it's: 1`, `a[: 1`, `"a\"b": 1`: document 01 finds the end of the key `s` before the text `t` where it is
unfoldable pub KeyFound : List ℕ → List ℕ → Type 0
KeyFound s t = key_end (s ++ (ch ":" ∷ t)) ≡ some (length s)

-- `"\": "`: and none in a flow node that is a whole line, or all that is behind a dash
unfoldable pub NoKey : List ℕ → Type 0
NoKey t = key_end t ≡ none

unfoldable mutual
  pub KeptBlock : {m : ℕ} {rs : List Row} {r : Rep} → Block m rs r → Type 0
  -- ` ---`: no line, however deep, is a mark of documents
  KeptBlock (b_flow {t = t} d w c e) = KeptFlow d × NoKey t × (is_marker t ≡ false)
  KeptBlock (b_seq d) = KeptSeq d
  KeptBlock (b_map d) = KeptMap d

  pub KeptSeq : {m : ℕ} {rs : List Row} {xs : Graph many} → Items m rs xs → Type 0
  KeptSeq (i_last d) = KeptItem d
  KeptSeq (i_more d ds e) = KeptItem d × KeptSeq ds

  pub KeptItem : {m : ℕ} {rs : List Row} {r : Rep} → Item m rs r → Type 0
  KeptItem (i_flow {t = t} x h d w c e) = KeptFlow d × NoKey t
  KeptItem (i_null w c e) = Unit {0}
  KeptItem (i_block w c h d e) = KeptBlock d
  KeptItem (i_map j h d e) = KeptMap d

  pub KeptMap : {n : ℕ} {rs : List Row} {ps : Graph keyed} → Pairs n rs ps → Type 0
  KeptMap (B.m_last d) = KeptEntry d
  KeptMap (B.m_more d ds e) = KeptEntry d × KeptMap ds

  pub KeptEntry : {n : ℕ} {rs : List Row} {k v : Rep} → Entry n rs k v → Type 0
  KeptEntry (e_flow {s = s} {t = t} x k h d w c e) = KeptKey k × KeyFound s (ch " " ∷ x ++ t) × KeptFlow d
  KeptEntry (e_null {s = s} k w c e) = KeptKey k × KeyFound s []
  KeptEntry (e_block {s = s} k w c h d e) = KeptKey k × KeyFound s [] × KeptBlock d
  KeptEntry (e_literal {s = s} x c k h w d e) = KeptKey k × KeyFound s (ch " " ∷ x ++ (ch "|" ∷ mark c)) × KeptLiteral d

-- ---- lines: section 1 of document 01 takes the same rows for comments, and cuts the same tails

-- no literal open; one open behind a row with the indentation d, blank rows waiting or not
pub data State : Type 0 where
  closed : State
  under gap : ℕ → State

unfoldable pub opened : ℕ → List ℕ → State
opened n t = if opens_literal t then under n else closed

-- `it's #1`, `a: 1⇥# c`: the comment of a row, and no more, is cut
unfoldable pub Cut : List ℕ → List ℕ → Type 0
Cut t w = trim_end (strip_comment (t ++ w)) ≡ t

-- a row of a literal: `a: |⏎ x ⏎`, its end has no white space; `a: |⏎ ⇥x⏎`, no tab leads it
unfoldable pub Trimmed : List ℕ → Type 0
Trimmed t = (trim_end t ≡ t) × (tabbed t ≡ false)

-- what such a row has behind its spaces
abbrev pub inner : List ℕ → List ℕ
inner t = drop (indent_of t) t

unfoldable pub KeptRows : List Row → State → Type 0
KeptRows [] s = Unit {0}
KeptRows (node n t w b ∷ rs) closed = Cut t w × KeptRows rs (opened n t)
-- `- a: |⏎  b: 1 # c⏎`, `- a: |⏎⏎  b: 1⏎`: a literal of a first key lasts up to the next dash, so no comment and no blank line there
KeptRows (node n t w b ∷ rs) (under d) = elim (ltb d n) [ true ↦ ((trim_end (t ++ w) ≡ t) × KeptRows rs (under d)) | false ↦ (Cut t w × KeptRows rs (opened n t)) ]
KeptRows (node n t w b ∷ rs) (gap d) = (n ≤ d) × Cut t w × KeptRows rs (opened n t)
-- `⇥# c`: no tab before a comment, or on a blank line outside literals
KeptRows (note s b ∷ rs) closed = (tabbed s ≡ false) × KeptRows rs closed
-- `a: |⏎  x⏎ # c⏎`: the first comment behind a literal is no deeper than the line that opened it
KeptRows (note s b ∷ rs) (under d) = elim (all_white s) [ true ↦ KeptRows rs (gap d) | false ↦ ((indent_of s ≤ d) × (tabbed s ≡ false) × KeptRows rs closed) ]
KeptRows (note s b ∷ rs) (gap d) = elim (all_white s) [ true ↦ KeptRows rs (gap d) | false ↦ ((indent_of s ≤ d) × (tabbed s ≡ false) × KeptRows rs closed) ]
-- a `|` behind more white space than one space opens nothing here, and the rows of its literal are read as any others. `a:  |⏎ #⏎`: none has a
-- comment to cut; `a:  |⏎ ---⏎`: none is a mark of documents; and one that ends in `: |` opens a literal
KeptRows (body m t b ∷ rs) closed = Trimmed t × (strip_comment (inner t) ≡ inner t) × (is_marker (inner t) ≡ false) × KeptRows rs (opened (m + indent_of t) (inner t))
-- `a:  |⏎ b: |⏎ x⏎`: behind such a row comes no other of its literal
KeptRows (body m t b ∷ rs) (under d) = (d < m) × Trimmed t × KeptRows rs (under d)
KeptRows (body m t b ∷ rs) (gap d) = (d < m) × Trimmed t × KeptRows rs (under d)
-- `a:  |⏎⏎ x⏎`: a literal with a blank row opens behind one space
KeptRows (blank k b ∷ rs) closed = ⊥
KeptRows (blank k b ∷ rs) (under d) = KeptRows rs (gap d)
KeptRows (blank k b ∷ rs) (gap d) = KeptRows rs (gap d)

-- ---- the whole

unfoldable pub KeptDocument : {rs : List Row} {r : Option Rep} → Document rs r → Type 0
KeptDocument (d_none c) = Unit {0}
KeptDocument (d_one c d e) = KeptBlock d

pub record Kept {t : List ℕ} {r : Option Rep} (d : Stream t r) : Type 0 where
  pub document : KeptDocument d.document
  pub lines : KeptRows d.rows closed
