-- YAML 1.2.2, chapter 7: flow nodes that stand on one line, without properties and aliases. The numbers in brackets are its productions.
-- Uses Base of `refusal`; Tree of `item`; Characters, Scalars, Represent and Core of this crate. Assumes nothing.
use Rattle.std.specs.Prelude.{◌≡◌, ℕ, suc, List, [], ◌∷◌, ◌++◌, Bool, false, T}
use Rattle.refusal.specs.Base.{ch, bytes}
use Rattle.yaml.specs.Characters.{among, spaces}
use Rattle.yaml.specs.Scalars.{Context, flow_in, Plain, DoubleText, SingleText}
use Rattle.yaml.specs.Represent.{Graph, Rep, null, str, seq, map, end, ◌▸◌, done, pair}
use Rattle.yaml.specs.Core.{Core}
use Rattle.item.specs.Tree.{many, keyed}

-- [109] c-double-quoted, [120] c-single-quoted: the text with its quotes, and what it stands for
pub data Quoted : List ℕ → List ℕ → Type 0 where
  q_double : {s t v : List ℕ} → DoubleText t v → s ≡ ch "\"" ∷ t ++ (ch "\"" ∷ []) → Quoted s v
  q_single : {s t v : List ℕ} → SingleText t v → s ≡ ch "'" ∷ t ++ (ch "'" ∷ []) → Quoted s v

-- [160] c-flow-json-node, by its first character
unfoldable pub json_like : List ℕ → Bool
json_like [] = false
json_like (b ∷ bs) = among b (bytes "\"'[{")

mutual
  -- [161] ns-flow-node
  pub data Flow : Context → List ℕ → Rep → Type 0 where
    f_plain : {c : Context} {t : List ℕ} {r : Rep} → Plain c t → Core t r → Flow c t r
    f_quoted : {c : Context} {s v : List ℕ} → Quoted s v → Flow c s (str v)
    f_seq : {c : Context} {s t : List ℕ} {rs : Graph many} (n : ℕ) → FlowItems t rs → s ≡ ch "[" ∷ spaces n ++ t → Flow c s (seq rs)
    f_map : {c : Context} {s t : List ℕ} {ps : Graph keyed} (n : ℕ) → FlowPairs t ps → s ≡ ch "{" ∷ spaces n ++ t → Flow c s (map ps)

  -- [137], [138]: what stands behind `[` and white space, `]` included
  pub data FlowItems : List ℕ → Graph many → Type 0 where
    s_close : {s : List ℕ} → s ≡ ch "]" ∷ [] → FlowItems s end
    s_last : {s t : List ℕ} {r : Rep} (n : ℕ) → Flow flow_in t r → s ≡ t ++ (spaces n ++ (ch "]" ∷ [])) → FlowItems s (r ▸ end)
    s_more : {s t u : List ℕ} {r : Rep} {rs : Graph many} (n m : ℕ) → Flow flow_in t r → FlowItems u rs
        → s ≡ t ++ (spaces n ++ (ch "," ∷ (spaces m ++ u))) → FlowItems s (r ▸ rs)

  -- [140], [141]: what stands behind `{` and white space
  pub data FlowPairs : List ℕ → Graph keyed → Type 0 where
    m_close : {s : List ℕ} → s ≡ ch "}" ∷ [] → FlowPairs s done
    m_last : {s t : List ℕ} {k v : Rep} (n : ℕ) → FlowPair t k v → s ≡ t ++ (spaces n ++ (ch "}" ∷ [])) → FlowPairs s (pair k v done)
    m_more : {s t u : List ℕ} {k v : Rep} {ps : Graph keyed} (n m : ℕ) → FlowPair t k v → FlowPairs u ps
        → s ≡ t ++ (spaces n ++ (ch "," ∷ (spaces m ++ u))) → FlowPairs s (pair k v ps)

  -- [144] to [149]: an implicit key, `:`, and a value or none. A value needs white space before it, but not behind a key that is like JSON
  pub data FlowPair : List ℕ → Rep → Rep → Type 0 where
    p_value : {s t u : List ℕ} {k v : Rep} (n m : ℕ) → Flow flow_in t k → Flow flow_in u v
        → s ≡ t ++ (spaces n ++ (ch ":" ∷ (spaces (suc m) ++ u))) → FlowPair s k v
    p_adjacent : {s t u : List ℕ} {k v : Rep} (n : ℕ) → Flow flow_in t k → T (json_like t) → Flow flow_in u v
        → s ≡ t ++ (spaces n ++ (ch ":" ∷ u)) → FlowPair s k v
    p_null : {s t : List ℕ} {k : Rep} (n : ℕ) → Flow flow_in t k → s ≡ t ++ (spaces n ++ (ch ":" ∷ [])) → FlowPair s k null
