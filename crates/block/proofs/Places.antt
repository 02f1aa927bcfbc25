-- The definitions at a line, by the numbers that the code reads there. Assumes nothing.
use Rattle.std.proofs.Common.{◌≡◌, refl, sym, ap, ◌∙◌, ℕ, suc, ◌+◌, ◌-◌, ◌≤◌, ◌<◌, add-one, arith, List, [], ◌∷◌, true, eqb, length, take, drop, length-drop, take_all, eqb-true}
use Rattle.std.proofs.lemmas.Bool.{false≢true, and_parts}
use Rattle.std.proofs.Math.Option.{none, some}
use Rattle.refusal.specs.Base.{Answer, refused}
use Rattle.refusal.specs.Told.{told_of}
use Rattle.refusal.proofs.Tools.{chosen}
use Rattle.refusal.specs.declared.Refusal.{Refusal}
use Rattle.refusal.specs.declared.Refusal.TheVariants.{TooDeep}
use Rattle.utf8.specs.Part.{part}
use Rattle.utf8.proofs.Laws.{part-all, part_length}
use Rattle.utf8.specs.White.{leading, trim, trim_start}
use Rattle.item.specs.Tree.{Yaml, null}
use Rattle.item.proofs.Exact.{none≢}
use Rattle.item.proofs.Size.{item-length}
use Rattle.writer.specs.declared.Writer.{Writer}
use Rattle.writer.proofs.Laws.{appends_more, keeps_appended, keeps_same, keeps_more}
use Rattle.lines.specs.Lines.{Line}
use Rattle.lines.specs.Table.{line_at}
use Rattle.lines.specs.Dash.{dashed}
use Rattle.lines.proofs.Laws.{dashed-filled}
use Rattle.lines.proofs.Rows.{lines_end, lines_next}
use Rattle.scalar.specs.Key.{key_end}
use Rattle.scalar.specs.Contract.{Refuses}
use Rattle.literal.specs.Literal.{Read, leaf, literal}
use Rattle.literal.specs.declared.Chomping.{Chomping}
use Rattle.literal.specs.Contract.{strips, WroteBlock}
use Rattle.block.specs.declared.Opening.TheVariants.{Dash, Key, Flow}
use Rattle.block.specs.declared.Behind.{Behind}
use Rattle.block.specs.declared.Behind.TheVariants.{Nothing, Literal, Value}
use Rattle.block.specs.Block.{key_at, line_value, child, block_key, value_behind, entry_at, block_map, inline_map, item_behind, block_seq, within, block}
use Rattle.block.specs.Contract.{opening_of, behind_of, key_here, dash_here, column_at, text_at, WroteKey, WroteEntry}
use Rattle.block.proofs.Parts.{key-end-within, key-opened, key-on, trim-start-part, dash-from-le}
use Rattle.block.proofs.Cases.{block-line, sequence-deep, block-sequence, mapping-deep, block-mapping, child-deeper, child-none, value-nothing, value-literal, value_line, entry-unkeyed, entry-unvalued, entry_whole, item-child, item-line, item-deep, item-inline}

-- a line that goes on a mapping
key-line : (indent : ℕ) (l : Line) (split : ℕ) → key_at indent l ≡ some split → (l.indent ≡ indent) × (key_end l.text ≡ some split)
unfolding key_at
key-line indent l split e =
    chosen (eqb l.indent indent) (key_end l.text) none e
    (λ q r. (eqb-true l.indent indent q, r))
    (λ q r. none≢ split r)

-- the end of a text
part_tail : (t : List ℕ) (from : ℕ) → part t from (length t) ≡ drop from t
part_tail t from = take_all (length t - from) (drop from t) (omega (arith, length-drop from t))

module _ (ls : List Line) where
  -- a line is there where one goes on
  pub key-there : (i indent split : ℕ) → i ≤ length ls → key_here indent (drop i ls) ≡ some split → i < length ls
  unfolding key_here
  key-there i indent split h k = omega (arith, h, other)
    where
      other : i ≡ length ls → ⊥
      other e = none≢ split (ap (key_here indent) (sym (lines_end ls i e)) ∙ k)

  pub dash-there : (i indent : ℕ) → i ≤ length ls → dash_here indent (drop i ls) ≡ true → i < length ls
  unfolding dash_here
  dash-there i indent h k = omega (arith, h, other)
    where
      other : i ≡ length ls → ⊥
      other e = false≢true (ap (dash_here indent) (sym (lines_end ls i e)) ∙ k)

  pub dash-text : (i indent : ℕ) → i < length ls → dash_here indent (drop i ls) ≡ true → 0 < length (line_at ls i).text
  unfolding dash_here
  dash-text i indent h k =
      let l = line_at ls i in
      dashed-filled l.text (and_parts (eqb l.indent indent) (dashed l.text) (ap (dash_here indent) (sym (lines_next ls i h)) ∙ k)).1

  module _ (i : ℕ) (h : i < length ls) where
    abbrev l : Line
    l = line_at ls i

    abbrev rest : List Line
    rest = drop (i + 1) ls

    -- the entry of a line that goes on a mapping
    module _ (indent split : ℕ) (k : key_here indent (drop i ls) ≡ some split) where
      key-facts : (l.indent ≡ indent) × (key_end l.text ≡ some split)
      unfolding key_here
      key-facts = key-line indent l split (ap (key_here indent) (sym (lines_next ls i h)) ∙ k)

      pub key-splits : 0 + split < length l.text
      key-splits = omega (arith, key-end-within l.text split key-facts.1)

      pub entry-as : (c d levels sum : ℕ) → c ≡ d
          → entry_at d (within d levels) l.number indent l.text split sum rest
          ≡ entry_at c (within c levels) l.number (column_at l 0) (text_at l 0) split sum rest
      entry-as c d levels sum e =
          ap (λ (m : ℕ). entry_at m (within m levels) l.number indent l.text split sum rest) (sym e)
          ∙ ap (λ (m : ℕ). entry_at c (within c levels) l.number m l.text split sum rest)
          (let m : indent ≡ column_at l 0 = omega (arith, key-facts.0) in m)

    -- the key that a line begins with goes on a mapping at its indentation
    pub key-first : (t : List ℕ) → t ≡ l.text → (d : ℕ) → d ≡ l.indent → (split : ℕ) → Key split ≡ opening_of t → key_here d (drop i ls) ≡ some split
    key-first t e d q split o = sym (key-on ls i d h (sym q)) ∙ ap key_end (sym e) ∙ key-opened t split (sym o)

    module _ (cap levels sum : ℕ) where
      abbrev blocked : Read Yaml
      blocked = block cap levels sum (drop i ls)

      -- a line's value, by the code's number
      valued : (n : ℕ) → n ≡ l.number → (t : List ℕ) → line_value cap levels l.number sum t rest ≡ line_value cap levels n sum t rest
      valued n e t = ap (λ (m : ℕ). line_value cap levels m sum t rest) (sym e)

      -- and 20, before anything is written
      refuse : {answer : Read Yaml} {b : Writer} (n : ℕ) → n ≡ l.number → answer ≡ refused 20 l.number 0 → Refuses answer b b (TooDeep n)
      refuse n p e = record { is = e ∙ ap (λ (m : ℕ). refused 20 m 0) (sym p); keeps = keeps_same refl }

      -- by what the line begins with
      module _ (t : List ℕ) (e : t ≡ l.text) where
        pub block-line-at : (n : ℕ) → n ≡ l.number → Flow ≡ opening_of t → blocked ≡ line_value cap levels n sum t rest
        block-line-at n p o =
            block-line cap levels sum (drop i ls) l rest (lines_next ls i h) (ap opening_of (sym e) ∙ sym o) ∙ valued n p l.text ∙ ap (λ (b : List ℕ). line_value cap levels n sum b rest) (sym e)

        module _ (o : Dash ≡ opening_of t) where
          pub sequence-deep-at : {b : Writer} (n : ℕ) → n ≡ l.number → levels ≡ 0 → Refuses blocked b b (TooDeep n)
          sequence-deep-at n p z = refuse n p (sequence-deep cap levels sum (drop i ls) l rest (lines_next ls i h) (ap opening_of (sym e) ∙ sym o) z)

          pub block-sequence-at : (d : ℕ) → d ≡ l.indent → (levels ≡ 0 → ⊥) → blocked ≡ block_seq cap (within cap (levels - 1)) d sum (drop i ls)
          block-sequence-at d p z =
              block-sequence cap levels sum (drop i ls) l rest (lines_next ls i h) (ap opening_of (sym e) ∙ sym o) z
              ∙ ap (λ (k : ℕ). block_seq cap (within cap (levels - 1)) k sum (drop i ls)) (sym p)

        module _ (split : ℕ) (o : Key split ≡ opening_of t) where
          pub mapping-deep-at : {b : Writer} (n : ℕ) → n ≡ l.number → levels ≡ 0 → Refuses blocked b b (TooDeep n)
          mapping-deep-at n p z = refuse n p (mapping-deep cap levels sum (drop i ls) l rest (lines_next ls i h) split (ap opening_of (sym e) ∙ sym o) z)

          pub block-mapping-at : (d : ℕ) → d ≡ l.indent → (levels ≡ 0 → ⊥) → blocked ≡ block_map cap (within cap (levels - 1)) d sum (drop i ls)
          block-mapping-at d p z =
              block-mapping cap levels sum (drop i ls) l rest (lines_next ls i h) split (ap opening_of (sym e) ∙ sym o) z
              ∙ ap (λ (k : ℕ). block_map cap (within cap (levels - 1)) k sum (drop i ls)) (sym p)

      pub child-deeper-at : (indent : ℕ) → indent < l.indent → child cap (within cap levels) indent sum (drop i ls) ≡ blocked
      child-deeper-at indent k = child-deeper cap levels indent sum (drop i ls) l rest (lines_next ls i h) k

      pub child-none-at : (indent : ℕ) → l.indent ≤ indent → child cap (within cap levels) indent sum (drop i ls) ≡ leaf cap sum null (drop i ls)
      child-none-at indent k = child-none cap levels indent sum (drop i ls) l rest (lines_next ls i h) k

      -- ---- behind a colon

      module _ (from split : ℕ) (t : List ℕ) (e : t ≡ l.text) (b : List ℕ)
          (q : b ≡ trim (part (part t from (length t)) (split + 1) (length (part t from (length t))))) (d : ℕ) (c : d ≡ column_at l from) where
        abbrev behind : List ℕ
        behind = trim (drop (suc split) (text_at l from))

        behind-is : b ≡ behind
        behind-is = q ∙ rw (part_tail (part t from (length t)) (split + 1), part_tail t from, e, add-one split)

        abbrev stands : Read Yaml
        stands = value_behind cap (within cap levels) l.number (column_at l from) sum behind rest

        told : {k : Behind} → k ≡ behind_of b → behind_of behind ≡ k
        told p = sym (p ∙ ap behind_of behind-is)

        pub value-nothing-at : Nothing ≡ behind_of b → stands ≡ child cap (within cap levels) d sum rest
        value-nothing-at p = value-nothing cap levels l.number (column_at l from) sum behind rest (told p) ∙ ap (λ (k : ℕ). child cap (within cap levels) k sum rest) (sym c)

        pub value-literal-at : (k : Chomping) → Literal k ≡ behind_of b → stands ≡ literal cap (strips k) d sum rest
        value-literal-at k p = value-literal cap levels l.number (column_at l from) sum behind rest k (told p) ∙ ap (λ (m : ℕ). literal cap (strips k) m sum rest) (sym c)

        pub value-line-at : Value ≡ behind_of b → (n : ℕ) → n ≡ l.number → stands ≡ line_value cap levels n sum b rest
        value-line-at p n m =
            value_line cap levels l.number (column_at l from) sum behind rest (told p) ∙ valued n m behind ∙ ap (λ (s : List ℕ). line_value cap levels n sum s rest) (sym behind-is)

      -- ---- an entry

      module _ (from split : ℕ) (t : List ℕ) (e : t ≡ l.text) (n : ℕ) (p : n ≡ l.number) where
        abbrev entered : Read (List ℕ × Yaml)
        entered = entry_at cap (within cap levels) l.number (column_at l from) (text_at l from) split sum rest

        abbrev keyed : Answer (List ℕ × ℕ)
        keyed = block_key cap levels n sum (trim (part t from (from + split)))

        keyed-is : block_key cap levels l.number sum (trim (take split (text_at l from))) ≡ keyed
        keyed-is = let k : from + split - from ≡ split = omega arith in rw (p, e, k)

        pub entry-unkeyed-at : {old new : Writer} (z : Refusal) → Refuses keyed old new z → Refuses entered old new z
        entry-unkeyed-at z r =
            record {
              is = entry-unkeyed cap levels l.number (column_at l from) (text_at l from) split sum rest (told_of z).number (told_of z).line (told_of z).step (keyed-is ∙ r.is);
              keeps = r.keeps;
            }

        module _ (old mid : Writer) (w : WroteKey keyed old mid) where
          abbrev behind-key : ℕ → Read Yaml
          behind-key c = value_behind c (within c levels) l.number (column_at l from) mid.used (trim (drop (suc split) (text_at l from))) rest

          pub entry-unvalued-at : {new : Writer} (c : ℕ) → c ≡ cap → (z : Refusal) → Refuses (behind-key c) mid new z → Refuses entered old new z
          entry-unvalued-at {new} c q z r =
              record {
                is = entry-unvalued cap levels l.number (column_at l from) (text_at l from) split sum rest w.key mid.used
                    (told_of z).number (told_of z).line (told_of z).step (keyed-is ∙ w.is) (ap behind-key (sym q) ∙ r.is);
                keeps = keeps_more (keeps_appended w.appends) r.keeps;
              }

          pub entry-done-at : (new : Writer) (c : ℕ) → c ≡ cap → (k : ℕ) → k ≡ mid.used → (j : ℕ) → WroteBlock (behind-key c) ls (i + 1) mid new j → WroteEntry entered ls (i + 1) old new j k
          entry-done-at new c g k m j v =
              record {
                key = w.key;
                tree = v.tree;
                is = entry_whole cap levels l.number (column_at l from) (text_at l from) split sum rest w.key mid.used v.tree new.used (drop j ls) (keyed-is ∙ w.is) (ap behind-key (sym g) ∙ v.is);
                appends = appends_more w.appends v.appends;
                ends = omega (arith, m, w.appends.used, item-length 3 w.key);
                on = v.on;
                within = v.within;
              }

      -- ---- behind a dash

      module _ (t : List ℕ) (g : t ≡ l.text) (some_text : 0 < length t) (from : ℕ) (e : from ≡ 1 + leading (part t 1 (length t))) where
        abbrev item : Read Yaml
        item = item_behind cap (within cap levels) l sum (trim_start (drop 1 l.text)) rest

        pub item-high : from ≤ length t
        item-high = dash-from-le t 0 (length t) from some_text (omega arith) e

        behind-dash : part t from (length t) ≡ trim_start (drop 1 l.text)
        behind-dash = trim-start-part t 0 (length t) from some_text (omega arith) e ∙ ap (λ (b : List ℕ). trim_start (drop 1 b)) (part-all t ∙ g)

        it-is : item ≡ item_behind cap (within cap levels) l sum (part t from (length t)) rest
        it-is = ap (λ (b : List ℕ). item_behind cap (within cap levels) l sum b rest) (sym behind-dash)

        long : length (part t from (length t)) ≡ length t - from
        long = part_length t from (length t) item-high (omega arith)

        pub item-child-at : from ≡ length t → (d : ℕ) → d ≡ l.indent → item ≡ child cap (within cap levels) d sum rest
        item-child-at z d p =
            it-is
            ∙ item-child cap levels l sum (part t from (length t)) rest (nothing (part t from (length t)) (omega (arith, long)))
            ∙ ap (λ (k : ℕ). child cap (within cap levels) k sum rest) (sym p)
          where
            nothing : (b : List ℕ) → length b ≡ 0 → b ≡ []
            nothing [] p = refl
            nothing (c ∷ b) p = absurd (omega arith)

        module _ (n : from ≡ length t → ⊥) where
          more : 0 < length (part t from (length t))
          more = omega (arith, long, item-high)

          pub item-line-at : key_end (part t from (length t)) ≡ none → (m : ℕ) → m ≡ l.number → item ≡ line_value cap levels m sum (part t from (length t)) rest
          item-line-at k m p = it-is ∙ item-line cap levels l sum (part t from (length t)) rest more k ∙ valued m p (part t from (length t))

          module _ (split : ℕ) (k : key_end (part t from (length t)) ≡ some split) where
            pub item-splits : from + split < length l.text
            item-splits = omega (arith, key-end-within (part t from (length t)) split k, long, ap length g)

            pub item-deep-at : {b : Writer} (m : ℕ) → m ≡ l.number → levels ≡ 0 → Refuses item b b (TooDeep m)
            item-deep-at m p z = refuse m p (it-is ∙ item-deep cap levels l sum (part t from (length t)) rest more split k z)

            pub item-inline-at : (levels ≡ 0 → ⊥)
                → item ≡ inline_map cap (within cap (levels - 1)) l.number (column_at l from) (text_at l from) split sum rest
            item-inline-at z =
                it-is ∙ item-inline cap levels l sum (part t from (length t)) rest more split k z
                ∙ ap (λ (d : ℕ). inline_map cap (within cap (levels - 1)) l.number (l.indent + d) (part t from (length t)) split sum rest) column
                ∙ ap (λ (b : List ℕ). inline_map cap (within cap (levels - 1)) l.number (column_at l from) b split sum rest) (part_tail t from ∙ ap (drop from) g)
              where
                column : length l.text - length (part t from (length t)) ≡ from
                column = omega (arith, long, ap length g, item-high)
