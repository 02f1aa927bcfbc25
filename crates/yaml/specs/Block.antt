-- YAML 1.2.2, chapters 8 and 9: literals, block collections, a stream of at most one bare document, over rows. The numbers in brackets are
-- its productions. Left out are those that document 01 drops whole; docs/DIFFERENCES.md has them with their smallest texts. Uses Base of
-- `refusal`; Tree of `item`; Scalars, Characters, Represent, Flow and Rows of this crate. Assumes nothing.
use Rattle.std.specs.Prelude.{◌≡◌, ℕ, suc, ◌+◌, ◌≤◌, ◌<◌, List, [], ◌∷◌, ◌++◌, Bool, true, false, not, T, eqb, leb}
use Rattle.std.proofs.Math.Option.{Option, none, some}
use Rattle.refusal.specs.Base.{ch, empty}
use Rattle.item.specs.Tree.{many, keyed}
use Rattle.yaml.specs.Scalars.{flow_out}
use Rattle.yaml.specs.Characters.{spaces, whites, nb_chars, characters, Printable}
use Rattle.yaml.specs.Represent.{Graph, Rep, null, str, seq, map, end, ◌▸◌, done, pair}
use Rattle.yaml.specs.Flow.{Flow}
use Rattle.yaml.specs.Rows.{Break, lf, crlf, eof, Row, node, note, body, blank, text_of, ends_last, no_marker, tail, Comments}

-- ---- literals

-- [164] c-chomping-indicator; `+` is left out
pub data Chomp : Type 0 where
  strip clip : Chomp

unfoldable pub mark : Chomp → List ℕ
mark strip = ch "-" ∷ []
mark clip = []

-- [165] b-chomped-last: the line feed of the last line, which there is none of at the end of the input
unfoldable pub chomped : Chomp → Break → List ℕ
chomped strip b = []
chomped clip lf = ch "\n" ∷ []
chomped clip crlf = ch "\n" ∷ []
chomped clip eof = []

-- [70] l-empty(m), any number of them
pub data Blanks (m : ℕ) : List Row → List ℕ → Type 0 where
  l_none : Blanks m [] []
  l_empty : {k : ℕ} {b : Break} {rs : List Row} {v : List ℕ} → k ≤ m → Blanks m rs v → Blanks m (blank k b ∷ rs) (ch "\n" ∷ v)

-- [171] l-nb-literal-text(m), with the break of its last line
pub data Line (m : ℕ) : List Row → List ℕ → Break → Type 0 where
  l_text : {v x : List ℕ} {b : Break} {rs bs : List Row} (t : List ℕ) → Blanks m bs v → T (nb_chars t) → T (not (empty t)) → rs ≡ bs ++ (body m t b ∷ [])
      → x ≡ v ++ t → Line m rs x b

-- [172], and the first part of [173]
pub data Lines (m : ℕ) : List Row → List ℕ → Break → Type 0 where
  l_last : {rs : List Row} {v : List ℕ} {b : Break} → Line m rs v b → Lines m rs v b
  l_next : {rs xs ys : List Row} {v u x : List ℕ} {a b : Break} → Line m xs v a → Lines m ys u b → rs ≡ xs ++ ys
      → x ≡ v ++ (ch "\n" ∷ u) → Lines m rs x b

-- 8.1.1.1: the first line that is not empty shows the indentation, so it begins with no further space
unfoldable pub shown : List Row → Bool
shown [] = true
shown (node n t w b ∷ rs) = false
shown (note s b ∷ rs) = false
shown (body n [] b ∷ rs) = false
shown (body n (c ∷ t) b ∷ rs) = not (eqb c (ch " "))
shown (blank k b ∷ rs) = shown rs

-- [167] l-strip-empty, [169] l-trail-comments: lines of at most m spaces, then maybe a comment less indented than j and any comments
pub data Trail (m j : ℕ) : List Row → Type 0 where
  t_none : Trail m j []
  t_blank : {s : List ℕ} {b : Break} {rs : List Row} (k : ℕ) → k ≤ m → Trail m j rs → s ≡ spaces k → Trail m j (note s b ∷ rs)
  t_comment : {s : List ℕ} {b : Break} {rs : List Row} (k : ℕ) (t : List ℕ) → k < j → T (nb_chars t) → Comments rs → s ≡ spaces k ++ (ch "#" ∷ t)
      → Trail m j (note s b ∷ rs)

-- [170] c-l+literal(n), [173] l-literal-content behind its header. Without a line the literal is empty
pub data Literal (n : ℕ) : Chomp → List Row → List ℕ → Type 0 where
  l_lines : {c : Chomp} {rs xs ys : List Row} {v x : List ℕ} {m : ℕ} {b : Break} → n < m → Lines m xs v b → T (shown xs) → Trail m m ys → rs ≡ xs ++ ys
      → x ≡ v ++ chomped c b → Literal n c rs x
  l_nothing : {c : Chomp} {rs : List Row} (m : ℕ) → Trail m (suc n) rs → Literal n c rs []

-- ---- block nodes

-- [193], [154], [155]: an implicit key with the white space before its colon, [66] s-separate-in-line, of at most 1024 characters
pub data Key : List ℕ → Rep → Type 0 where
  key : {s t : List ℕ} {r : Rep} (x : List ℕ) → Flow flow_out t r → T (whites x) → s ≡ t ++ x → T (leb (characters s) 1024) → Key s r

mutual
  -- [196] s-l+block-node from the line on that its own text begins on, at the indentation m
  pub data Block : ℕ → List Row → Rep → Type 0 where
    b_flow : {m : ℕ} {rs cs : List Row} {t w : List ℕ} {b : Break} {r : Rep} → Flow flow_out t r → T (tail w) → Comments cs
        → rs ≡ node m t w b ∷ cs → Block m rs r
    b_seq : {m : ℕ} {rs : List Row} {xs : Graph many} → Items m rs xs → Block m rs (seq xs)
    b_map : {m : ℕ} {rs : List Row} {ps : Graph keyed} → Pairs m rs ps → Block m rs (map ps)

  -- [183] l+block-sequence
  pub data Items : ℕ → List Row → Graph many → Type 0 where
    i_last : {m : ℕ} {rs : List Row} {r : Rep} → Item m rs r → Items m rs (r ▸ end)
    i_more : {m : ℕ} {rs xs ys : List Row} {r : Rep} {zs : Graph many} → Item m xs r → Items m ys zs → rs ≡ xs ++ ys → Items m rs (r ▸ zs)

  -- [184] c-l-block-seq-entry, [185] s-l+block-indented: a flow node, nothing, a node on deeper lines, a compact mapping. Before a flow node stands
  -- [66] s-separate-in-line, here with a space first (`-⇥a` is left out); before a compact mapping s-indent, which is spaces
  pub data Item : ℕ → List Row → Rep → Type 0 where
    i_flow : {m : ℕ} {rs cs : List Row} {t w : List ℕ} {b : Break} {r : Rep} (x : List ℕ) → T (whites x) → Flow flow_out t r → T (tail w) → Comments cs
        → rs ≡ node m (ch "-" ∷ ch " " ∷ x ++ t) w b ∷ cs → Item m rs r
    i_null : {m : ℕ} {rs cs : List Row} {w : List ℕ} {b : Break} → T (tail w) → Comments cs → rs ≡ node m (ch "-" ∷ []) w b ∷ cs → Item m rs null
    i_block : {m k : ℕ} {rs cs xs : List Row} {w : List ℕ} {b : Break} {r : Rep} → T (tail w) → Comments cs → m < k → Block k xs r
        → rs ≡ node m (ch "-" ∷ []) w b ∷ cs ++ xs → Item m rs r
    i_map : {m k : ℕ} {rs xs : List Row} {t w : List ℕ} {b : Break} {ps : Graph keyed} (j : ℕ) → k ≡ m + (2 + j) → Pairs k (node k t w b ∷ xs) ps
        → rs ≡ node m (ch "-" ∷ spaces (suc j) ++ t) w b ∷ xs → Item m rs (map ps)

  -- [187] l+block-mapping, [195] ns-l-compact-mapping
  pub data Pairs : ℕ → List Row → Graph keyed → Type 0 where
    m_last : {n : ℕ} {rs : List Row} {k v : Rep} → Entry n rs k v → Pairs n rs (pair k v done)
    m_more : {n : ℕ} {rs xs ys : List Row} {k v : Rep} {ps : Graph keyed} → Entry n xs k v → Pairs n ys ps → rs ≡ xs ++ ys → Pairs n rs (pair k v ps)

  -- [192] ns-l-block-map-implicit-entry, [194]: a flow node, nothing, a node on deeper lines, a literal. Before a flow node and before `|` stands
  -- [66] s-separate-in-line, here with a space first (`a:⇥1` is left out)
  pub data Entry : ℕ → List Row → Rep → Rep → Type 0 where
    e_flow : {n : ℕ} {rs cs : List Row} {s t w : List ℕ} {b : Break} {k v : Rep} (x : List ℕ) → Key s k → T (whites x) → Flow flow_out t v → T (tail w) → Comments cs
        → rs ≡ node n (s ++ (ch ":" ∷ ch " " ∷ x ++ t)) w b ∷ cs → Entry n rs k v
    e_null : {n : ℕ} {rs cs : List Row} {s w : List ℕ} {b : Break} {k : Rep} → Key s k → T (tail w) → Comments cs
        → rs ≡ node n (s ++ (ch ":" ∷ [])) w b ∷ cs → Entry n rs k null
    e_block : {n m : ℕ} {rs cs xs : List Row} {s w : List ℕ} {b : Break} {k v : Rep} → Key s k → T (tail w) → Comments cs → n < m → Block m xs v
        → rs ≡ node n (s ++ (ch ":" ∷ [])) w b ∷ cs ++ xs → Entry n rs k v
    e_literal : {n : ℕ} {rs xs : List Row} {s w v : List ℕ} {b : Break} {k : Rep} (x : List ℕ) (c : Chomp) → Key s k → T (whites x) → T (tail w) → Literal n c xs v
        → rs ≡ node n (s ++ (ch ":" ∷ ch " " ∷ x ++ (ch "|" ∷ mark c))) w b ∷ xs → Entry n rs k (str v)

-- ---- a stream

-- [207] l-bare-document behind [202] l-document-prefix, or no document [211]
pub data Document : List Row → Option Rep → Type 0 where
  d_none : {rs : List Row} → Comments rs → Document rs none
  d_one : {rs cs xs : List Row} {m : ℕ} {r : Rep} → Comments cs → Block m xs r → rs ≡ cs ++ xs → Document rs (some r)

pub record Stream (t : List ℕ) (r : Option Rep) : Type 0 where
  pub rows : List Row
  pub is : t ≡ text_of rows
  pub ends : T (ends_last rows)
  pub bare : T (no_marker rows)
  pub printable : Printable t
  pub document : Document rows r
