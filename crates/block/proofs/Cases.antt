-- What each definition comes to, by the lines at its place. Assumes nothing.
use Rattle.std.proofs.Common.{Result, Ok, Err, if◌then◌else◌, ◌≡◌, refl, ap, ◌∙◌, ℕ, zero, suc, ◌+◌, ◌-◌, ◌≤◌, ◌<◌, arith, List, [], ◌∷◌, Bool, true, false, length, take, drop, lt-ltb, le-ltb, le-leb}
use Rattle.std.proofs.Math.Option.{Option, none, some}
use Rattle.std.proofs.lemmas.Bool.{lt-leb}
use Rattle.refusal.specs.Base.{Answer, good, refused, ◌>>=◌, given, maybe, bytes, same, empty}
use Rattle.refusal.specs.declared.Refusal.{Refusal}
use Rattle.utf8.specs.White.{trim}
use Rattle.item.specs.Tree.{Shape, Node, Yaml, null}
use Rattle.writer.specs.declared.Writer.{Writer}
use Rattle.lines.specs.Lines.{Line}
use Rattle.lines.specs.Dash.{dashed}
use Rattle.scalar.specs.Key.{key_end}
use Rattle.scalar.specs.Read.{charge}
use Rattle.scalar.specs.Contract.{Refuses}
use Rattle.literal.specs.Literal.{Read, leaf, literal}
use Rattle.literal.specs.declared.Chomping.{Chomping}
use Rattle.literal.specs.declared.Chomping.TheVariants.{Clip, Strip}
use Rattle.literal.specs.Contract.{strips, WroteBlock, AgreesBlock}
use Rattle.block.specs.declared.Opening.{Opening}
use Rattle.block.specs.declared.Opening.TheVariants.{Dash, Key, Flow}
use Rattle.block.specs.declared.Behind.{Behind}
use Rattle.block.specs.declared.Behind.TheVariants.{Nothing, Literal, Value}
use Rattle.block.specs.Block.{Inside, line_value, child, block_key, value_behind, entry_at, entries_of, block_map, inline_map, item_behind, block_seq, block_of, inline_of, inside_of, within, block}
use Rattle.block.specs.Contract.{opening_of, behind_of, WroteEntry}

-- an answer that is equal to another, from an earlier line on
pub agrees-block : {s : Shape} (x y : Read (Node s)) (ls : List Line) (j i : ℕ) (old new : Writer) (r : Result ℕ Refusal) → x ≡ y → j ≤ i
    → AgreesBlock y ls i old new r → AgreesBlock x ls j old new r
agrees-block x y ls j i old new (Ok n) e h w = record { tree = w.tree; is = e ∙ w.is; appends = w.appends; on = omega (arith, w.on); within = w.within }
agrees-block x y ls j i old new (Err z) e h w = record { is = e ∙ w.is; keeps = w.keeps }

pub wrote-block : {s : Shape} (x y : Read (Node s)) (ls : List Line) (i : ℕ) (old new : Writer) (n : ℕ) → x ≡ y → WroteBlock y ls i old new n → WroteBlock x ls i old new n
wrote-block x y ls i old new n e w = record { tree = w.tree; is = e ∙ w.is; appends = w.appends; on = w.on; within = w.within }

pub refuses-as : {A : Type 0} (x y : Answer A) (old new : Writer) (z : Refusal) → x ≡ y → Refuses y old new z → Refuses x old new z
refuses-as x y old new z e r = record { is = e ∙ r.is; keeps = r.keeps }

-- the entries of a mapping, by the code's numbers
pub entries-as : (c d levels x y sum : ℕ) (ls : List Line) → c ≡ d → x ≡ y → entries_of d (within d levels) y sum ls ≡ entries_of c (within c levels) x sum ls
entries-as c d levels x y sum ls p q = rw (p, q)

pub wrote-entry : (x y : Read (List ℕ × Yaml)) (ls : List Line) (i : ℕ) (old new : Writer) (n k : ℕ) → x ≡ y → WroteEntry y ls i old new n k → WroteEntry x ls i old new n k
wrote-entry x y ls i old new n k e v = record { key = v.key; tree = v.tree; is = e ∙ v.is; appends = v.appends; ends = v.ends; on = v.on; within = v.within }

pub within-levels : (cap n : ℕ) → (within cap n).levels ≡ n
unfolding within inside_of
within-levels cap zero = refl
within-levels cap (suc n) = refl

-- what may be read inside a collection that is opened where `levels` more may be
inside_at : ℕ → ℕ → Option Inside
inside_at cap zero = none
inside_at cap (suc n) = some (within cap n)

within-is : (cap n : ℕ) → within cap n ≡ inside_of cap n (inside_at cap n)
unfolding within inside_at
within-is cap zero = refl
within-is cap (suc n) = refl

inside-none : (cap n : ℕ) → n ≡ 0 → inside_at cap n ≡ none
unfolding inside_at
inside-none cap zero e = refl
inside-none cap (suc n) e = absurd (omega arith)

inside-some : (cap n : ℕ) → (n ≡ 0 → ⊥) → inside_at cap n ≡ some (within cap (n - 1))
unfolding inside_at
inside-some cap zero e = absurd (e refl)
inside-some cap (suc n) e = let k : suc n - 1 ≡ n = omega arith in rw k

-- ---- a block

module _ (cap levels sum : ℕ) where
  block-is : (ls : List Line) → block cap levels sum ls ≡ block_of cap levels (inside_at cap levels) sum ls
  unfolding block inside_of
  block-is ls = ap (λ (i : Inside). i.block sum ls) (within-is cap levels)

  pub block-end : (ls : List Line) → ls ≡ [] → block cap levels sum ls ≡ leaf cap sum null ls
  unfolding block_of
  block-end ls e = rw e (block-is [])

  module _ (l : Line) (rest : List Line) where
    abbrev opened : (Inside → Read Yaml) → Read Yaml
    opened f = given (inside_at cap levels) 20 l.number 0 >>= f

    by_opening : Opening → Read Yaml
    by_opening Dash = opened λ i. block_seq cap i l.indent sum (l ∷ rest)
    by_opening (Key split) = opened λ i. block_map cap i l.indent sum (l ∷ rest)
    by_opening Flow = line_value cap levels l.number sum l.text rest

    by_opening_lem : block cap levels sum (l ∷ rest) ≡ by_opening (opening_of l.text)
    unfolding block_of opening_of by_opening maybe
    by_opening_lem = block-is (l ∷ rest) ∙ go (dashed l.text) (key_end l.text)
      where
        go : (d : Bool) (k : Option ℕ)
            → (if d then by_opening Dash else maybe k (by_opening Flow) λ split. by_opening (Key split)) ≡ by_opening (if d then Dash else maybe k Flow Key)
        go true k = refl
        go false none = refl
        go false (some split) = refl

  module _ (ls : List Line) (l : Line) (rest : List Line) (e : ls ≡ l ∷ rest) where
    pub block-line : opening_of l.text ≡ Flow → block cap levels sum ls ≡ line_value cap levels l.number sum l.text rest
    unfolding by_opening
    block-line o = rw e (by_opening_lem l rest ∙ ap (by_opening l rest) o)

    module _ (o : opening_of l.text ≡ Dash) where
      pub sequence-deep : levels ≡ 0 → block cap levels sum ls ≡ refused 20 l.number 0
      unfolding by_opening given ◌>>=◌
      sequence-deep z = rw e (by_opening_lem l rest ∙ ap (by_opening l rest) o ∙ rw (inside-none cap levels z))

      pub block-sequence : (levels ≡ 0 → ⊥) → block cap levels sum ls ≡ block_seq cap (within cap (levels - 1)) l.indent sum ls
      unfolding by_opening given ◌>>=◌
      block-sequence z = rw e (by_opening_lem l rest ∙ ap (by_opening l rest) o ∙ rw (inside-some cap levels z))

    module _ (split : ℕ) (o : opening_of l.text ≡ Key split) where
      pub mapping-deep : levels ≡ 0 → block cap levels sum ls ≡ refused 20 l.number 0
      unfolding by_opening given ◌>>=◌
      mapping-deep z = rw e (by_opening_lem l rest ∙ ap (by_opening l rest) o ∙ rw (inside-none cap levels z))

      pub block-mapping : (levels ≡ 0 → ⊥) → block cap levels sum ls ≡ block_map cap (within cap (levels - 1)) l.indent sum ls
      unfolding by_opening given ◌>>=◌
      block-mapping z = rw e (by_opening_lem l rest ∙ ap (by_opening l rest) o ∙ rw (inside-some cap levels z))

-- ---- a child

module _ (cap levels indent sum : ℕ) (ls : List Line) where
  pub child-end : ls ≡ [] → child cap (within cap levels) indent sum ls ≡ leaf cap sum null ls
  unfolding child
  child-end e = rw e

  module _ (l : Line) (rest : List Line) (e : ls ≡ l ∷ rest) where
    pub child-deeper : indent < l.indent → child cap (within cap levels) indent sum ls ≡ block cap levels sum ls
    unfolding child block
    child-deeper h = rw (e, lt-ltb indent l.indent h)

    pub child-none : l.indent ≤ indent → child cap (within cap levels) indent sum ls ≡ leaf cap sum null ls
    unfolding child
    child-none h = rw (e, le-ltb indent l.indent h)

-- ---- the value behind a colon

module _ (cap levels n indent sum : ℕ) (t : List ℕ) (ls : List Line) where
  by_kind : Behind → Read Yaml
  by_kind Nothing = child cap (within cap levels) indent sum ls
  by_kind (Literal chomping) = literal cap (strips chomping) indent sum ls
  by_kind Value = line_value cap levels n sum t ls

  by_kind_lem : value_behind cap (within cap levels) n indent sum t ls ≡ by_kind (behind_of t)
  unfolding value_behind behind_of by_kind within
  by_kind_lem = rw (within-levels cap levels) (go (empty t) (same t (bytes "|")) (same t (bytes "|-")))
    where
      go : (a b c : Bool)
          → (if a then child cap (within cap levels) indent sum ls else if b then literal cap false indent sum ls else if c then literal cap true indent sum ls else line_value cap levels n sum t ls)
          ≡ by_kind (if a then Nothing else if b then Literal Clip else if c then Literal Strip else Value)
      go true b c = refl
      go false true c = refl
      go false false true = refl
      go false false false = refl

  pub value-nothing : behind_of t ≡ Nothing → value_behind cap (within cap levels) n indent sum t ls ≡ child cap (within cap levels) indent sum ls
  unfolding by_kind
  value-nothing e = by_kind_lem ∙ ap by_kind e

  pub value-literal : (c : Chomping) → behind_of t ≡ Literal c → value_behind cap (within cap levels) n indent sum t ls ≡ literal cap (strips c) indent sum ls
  unfolding by_kind
  value-literal c e = by_kind_lem ∙ ap by_kind e

  pub value_line : behind_of t ≡ Value → value_behind cap (within cap levels) n indent sum t ls ≡ line_value cap levels n sum t ls
  unfolding by_kind
  value_line e = by_kind_lem ∙ ap by_kind e

-- ---- an entry

module _ (cap levels n indent : ℕ) (t : List ℕ) (split sum : ℕ) (ls : List Line) where
  key-is : (a : Answer (List ℕ × ℕ)) → block_key cap levels n sum (trim (take split t)) ≡ a → block_key cap (within cap levels).levels n sum (trim (take split t)) ≡ a
  key-is a e = ap (λ (m : ℕ). block_key cap m n sum (trim (take split t))) (within-levels cap levels) ∙ e

  pub entry-unkeyed : (k l s : ℕ) → block_key cap levels n sum (trim (take split t)) ≡ refused k l s → entry_at cap (within cap levels) n indent t split sum ls ≡ refused k l s
  unfolding entry_at ◌>>=◌
  entry-unkeyed k l s e = rw (key-is (refused k l s) e)

  pub entry-unvalued : (key : List ℕ) (u k l s : ℕ) → block_key cap levels n sum (trim (take split t)) ≡ good (key, u)
      → value_behind cap (within cap levels) n indent u (trim (drop (suc split) t)) ls ≡ refused k l s → entry_at cap (within cap levels) n indent t split sum ls ≡ refused k l s
  unfolding entry_at ◌>>=◌
  entry-unvalued key u k l s e f = rw (key-is (good (key, u)) e, f)

  pub entry_whole : (key : List ℕ) (u : ℕ) (v : Yaml) (w : ℕ) (rest : List Line) → block_key cap levels n sum (trim (take split t)) ≡ good (key, u)
      → value_behind cap (within cap levels) n indent u (trim (drop (suc split) t)) ls ≡ good (v, w, rest) → entry_at cap (within cap levels) n indent t split sum ls ≡ good ((key, v), w, rest)
  unfolding entry_at ◌>>=◌
  entry_whole key u v w rest e f = rw (key-is (good (key, u)) e, f)

-- ---- collections, as they are opened

pub charged : (cap sum : ℕ) → sum + 6 ≤ cap → charge cap sum 6 ≡ good (sum + 6)
unfolding charge
charged cap sum h = rw (le-leb (sum + 6) cap h)

pub uncharged : (cap sum : ℕ) → cap < sum + 6 → charge cap sum 6 ≡ refused 50 0 0
unfolding charge
uncharged cap sum h = rw (lt-leb (sum + 6) cap h)

-- ---- an item

module _ (cap levels : ℕ) (l : Line) (sum : ℕ) (t : List ℕ) (ls : List Line) where
  pub item-child : t ≡ [] → item_behind cap (within cap levels) l sum t ls ≡ child cap (within cap levels) l.indent sum ls
  unfolding item_behind empty
  item-child e = rw e

  module _ (h : 0 < length t) where
    filled : empty t ≡ false
    unfolding empty
    filled = go t h
      where
        go : (s : List ℕ) → 0 < length s → empty s ≡ false
        go [] p = absurd (omega arith)
        go (b ∷ bs) p = refl

    pub item-line : key_end t ≡ none → item_behind cap (within cap levels) l sum t ls ≡ line_value cap levels l.number sum t ls
    unfolding item_behind maybe
    item-line k = rw (filled, k, within-levels cap levels)

    module _ (split : ℕ) (k : key_end t ≡ some split) where
      item-inline-is : item_behind cap (within cap levels) l sum t ls
          ≡ inline_of cap (inside_at cap levels) l.number (l.indent + (length l.text - length t)) t split sum ls
      unfolding item_behind maybe inside_of
      item-inline-is = rw (filled, k, within-is cap levels)

      pub item-deep : levels ≡ 0 → item_behind cap (within cap levels) l sum t ls ≡ refused 20 l.number 0
      unfolding inline_of given ◌>>=◌
      item-deep z = item-inline-is ∙ rw (inside-none cap levels z)

      pub item-inline : (levels ≡ 0 → ⊥) → item_behind cap (within cap levels) l sum t ls
          ≡ inline_map cap (within cap (levels - 1)) l.number (l.indent + (length l.text - length t)) t split sum ls
      unfolding inline_of given ◌>>=◌
      item-inline z = item-inline-is ∙ rw (inside-some cap levels z)
