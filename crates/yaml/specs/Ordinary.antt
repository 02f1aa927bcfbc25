-- Ordinary texts, in YAML's words. The proofs of this name show that they meet those conditions of Kept that speak through the reader's
-- functions. Uses Base of `refusal`; Tree of `item`; Characters, Scalars, Represent, Flow, Block and Kept of this crate. Assumes nothing.
use Rattle.std.specs.Prelude.{◌≡◌, ℕ, List, [], ◌∷◌, ◌++◌, Bool, true, false, ◌&&◌, not, T, eqb, ltb, if◌then◌else◌}
use Rattle.refusal.specs.Base.{ch, bytes}
use Rattle.item.specs.Tree.{many, keyed}
use Rattle.yaml.specs.Characters.{among, whites}
use Rattle.yaml.specs.Scalars.{Context, flow_out, Plain}
use Rattle.yaml.specs.Represent.{Graph, Rep}
use Rattle.yaml.specs.Flow.{Quoted, q_double, q_single, Flow, f_plain, f_quoted, f_seq, f_map, FlowItems, s_close, s_last, s_more, FlowPairs, FlowPair, p_value, p_adjacent, p_null}
use Rattle.yaml.specs.Flow as F
use Rattle.yaml.specs.Block.{Chomp, mark}
use Rattle.yaml.specs.Kept.{starts, KeptFlow}

-- ---- scalars

-- a text with none of the bytes l
unfoldable pub without : List ℕ → List ℕ → Bool
without l [] = true
without l (b ∷ t) = not (among b l) && without l t

-- a text of ASCII alone
unfoldable pub ascii : List ℕ → Bool
ascii [] = true
ascii (b ∷ t) = ltb b 0x80 && ascii t

-- single-quoted, or double-quoted with none of the bytes m between the quotes
unfoldable pub quoted_without : List ℕ → {s v : List ℕ} → Quoted s v → Bool
quoted_without m (q_double {t = t} d e) = without m t
quoted_without m (q_single d e) = true

-- no `\"`
abbrev pub no_escaped_quote : {s v : List ℕ} → Quoted s v → Bool
no_escaped_quote q = quoted_without (bytes "\"") q

-- a flow node whose plain texts have none of l, and whose double-quoted texts none of m
unfoldable mutual
  pub flow_without : List ℕ → List ℕ → {c : Context} {t : List ℕ} {r : Rep} → Flow c t r → Bool
  flow_without l m (f_plain {t = t} p s) = without l t
  flow_without l m (f_quoted q) = quoted_without m q
  flow_without l m (f_seq n d e) = items_without l m d
  flow_without l m (f_map n d e) = pairs_without l m d

  pub items_without : List ℕ → List ℕ → {t : List ℕ} {rs : Graph many} → FlowItems t rs → Bool
  items_without l m (s_close e) = true
  items_without l m (s_last n d e) = flow_without l m d
  items_without l m (s_more n k d ds e) = flow_without l m d && items_without l m ds

  pub pairs_without : List ℕ → List ℕ → {t : List ℕ} {ps : Graph keyed} → FlowPairs t ps → Bool
  pairs_without l m (F.m_close e) = true
  pairs_without l m (F.m_last n d e) = pair_without l m d
  pairs_without l m (F.m_more n k d ds e) = pair_without l m d && pairs_without l m ds

  pub pair_without : List ℕ → List ℕ → {t : List ℕ} {k v : Rep} → FlowPair t k v → Bool
  pair_without l m (p_value n k d e q) = flow_without l m d && flow_without l m e
  pair_without l m (p_adjacent n d j e q) = flow_without l m d && flow_without l m e
  pair_without l m (p_null n d q) = flow_without l m d

-- its plain texts have no quotes
abbrev pub no_quotes : {c : Context} {t : List ℕ} {r : Rep} → Flow c t r → Bool
no_quotes d = flow_without (bytes "'\"") [] d

-- nor have its double-quoted texts a `\"`
abbrev pub no_inner_quotes : {c : Context} {t : List ℕ} {r : Rep} → Flow c t r → Bool
no_inner_quotes d = flow_without (bytes "'\"") (bytes "\"") d

-- ---- keys

-- what stands behind the colon of a key: nothing, or a space
pub data LastOrSpace : List ℕ → Type 0 where
  last : LastOrSpace []
  space : {u : List ℕ} → LastOrSpace (ch " " ∷ u)

-- `a`, `it is`, `"a: b"`; not `it's`, `a[0]`, `?a`, `"\""`
pub data KeyText : List ℕ → Type 0 where
  k_plain : {t : List ℕ} → Plain flow_out t → T (without (bytes "'\"[{") t) → starts (ch "?") t ≡ false → KeyText t
  k_quoted : {s v : List ℕ} (q : Quoted s v) → T (no_escaped_quote q) → KeyText s

-- ---- comments

-- the first `#`, if there is one, stands behind a space
unfoldable pub hash_behind_space : List ℕ → Bool
hash_behind_space [] = true
hash_behind_space (a ∷ []) = true
hash_behind_space (a ∷ b ∷ w) = if eqb b (ch "#") then eqb a (ch " ") else hash_behind_space (b ∷ w)

-- texts that a comment can follow: outside of quoted texts there is no quote, and no `#` first or behind white space
pub data Quiet : List ℕ → Type 0 where
  q_plain : {c : Context} {t : List ℕ} → Plain c t → T (without (bytes "'\"") t) → Quiet t
  q_quoted : {s v : List ℕ} → Quoted s v → Quiet s
  q_white : {x : List ℕ} → T (whites x) → Quiet x
  q_mark : {b : ℕ} → T (among b (bytes "-:,[]{}|")) → Quiet (b ∷ [])
  q_join : {s t u : List ℕ} → Quiet s → Quiet t → u ≡ s ++ t → Quiet u

-- ---- rows of block nodes: `v`, `k: v`, `k:`, `k: |`, `-`, and each of them behind a dash

pub data RowText : List ℕ → Type 0 where
  r_flow : {t : List ℕ} {r : Rep} (d : Flow flow_out t r) → KeptFlow d → T (no_quotes d) → RowText t
  r_entry : {s k t : List ℕ} {r : Rep} (y x : List ℕ) → KeyText k → T (whites y) → T (whites x) → (d : Flow flow_out t r) → KeptFlow d → T (no_quotes d)
      → s ≡ (k ++ y) ++ (ch ":" ∷ ch " " ∷ x ++ t) → RowText s
  r_key : {s k : List ℕ} (y : List ℕ) → KeyText k → T (whites y) → s ≡ (k ++ y) ++ (ch ":" ∷ []) → RowText s
  r_literal : {s k : List ℕ} (y x : List ℕ) (c : Chomp) → KeyText k → T (whites y) → T (whites x)
      → s ≡ (k ++ y) ++ (ch ":" ∷ ch " " ∷ x ++ (ch "|" ∷ mark c)) → RowText s
  r_dash : RowText (ch "-" ∷ [])
  r_item : {s t : List ℕ} (x : List ℕ) → T (whites x) → RowText t → s ≡ ch "-" ∷ ch " " ∷ x ++ t → RowText s
