-- What one line more tells of a literal, and what is written for it. Assumes nothing.
use Rattle.std.proofs.Common.{◌≡◌, refl, sym, ap, ◌∙◌, subst, ℕ, ◌+◌, ◌*◌, ◌-◌, ◌≤◌, ◌<◌, arith, List, [], ◌∷◌, ◌++◌, append_assoc, append-nil, length, take, drop, replicate, length-append, take_all, take_at, ne_eqb, le-leb}
use Rattle.std.proofs.lemmas.List.{length-replicate}
use Rattle.std.proofs.Math.Seq.{take-append-add}
use Rattle.std.proofs.lemmas.Bool.{lt-leb}
use Rattle.refusal.specs.Base.{ch, empty, ◌>>=◌}
use Rattle.refusal.specs.declared.Refusal.{Refusal}
use Rattle.item.specs.Tree.{Yaml}
use Rattle.item.specs.Encode.{encode}
use Rattle.writer.specs.declared.Writer.{Writer}
use Rattle.writer.specs.Writing.{cap_of, Appends, Lacks}
use Rattle.writer.proofs.Laws.{appends_more, len_appended, keeps_same}
use Rattle.lines.specs.Lines.{Line}
use Rattle.lines.specs.Table.{line_at}
use Rattle.lines.specs.Ready.{Ended, AreLines}
use Rattle.lines.proofs.Rows.{lines_next, lines_end}
use Rattle.lines.proofs.Ends.{ended-drop}
use Rattle.scalar.specs.declared.Role.TheVariants.{AsValue}
use Rattle.scalar.specs.Read.{cost, charge}
use Rattle.scalar.specs.Contract.{written, Refuses}
use Rattle.scalar.proofs.Laws.{Flat, written-cost}
use Rattle.literal.specs.Literal.{leaf, onto, literal_line, literal_lines}
use Rattle.literal.specs.Walk.{body_from, rest_from, extra_spaces, Extent}
use Rattle.literal.specs.Contract.{WroteBlock}
use Rattle.literal.proofs.Blanks.{bare, line-full}

-- ---- lines

module _ (indent : ℕ) (l : Line) (ls : List Line) where
  pub lines-stop : l.indent < indent → literal_lines indent (l ∷ ls) ≡ ([], l ∷ ls)
  unfolding literal_lines
  lines-stop h = rw (lt-leb indent l.indent h)

  pub lines_more : indent ≤ l.indent → literal_lines indent (l ∷ ls) ≡ onto (literal_line indent l ls) (literal_lines indent ls)
  unfolding literal_lines
  lines_more h = rw (le-leb indent l.indent h)

-- ---- the lines one by one

module _ (ls : List Line) (indent : ℕ) where
  -- what line `i` gives
  abbrev pub row_bytes : ℕ → List ℕ
  row_bytes i = literal_line indent (line_at ls i) (drop (i + 1) ls)

  pub row-end : (i : ℕ) → i ≡ length ls → literal_lines indent (drop i ls) ≡ ([], drop i ls)
  unfolding literal_lines
  row-end i e = rw (lines_end ls i e)

  module _ (i : ℕ) (h : i < length ls) where
    pub row-stop : (line_at ls i).indent < indent → literal_lines indent (drop i ls) ≡ ([], drop i ls)
    row-stop k = rw (lines_next ls i h) (lines-stop indent (line_at ls i) (drop (i + 1) ls) k)

    module _ (k : indent ≤ (line_at ls i).indent) where
      pub row_more : literal_lines indent (drop i ls) ≡ onto (row_bytes i) (literal_lines indent (drop (i + 1) ls))
      row_more = ap (literal_lines indent) (lines_next ls i h) ∙ lines_more indent (line_at ls i) (drop (i + 1) ls) k

      pub row-body : body_from ls indent i ≡ row_bytes i ++ body_from ls indent (i + 1)
      row-body = ap (λ (b : List ℕ × List Line). b.0) row_more

      pub row-rest : rest_from ls indent i ≡ rest_from ls indent (i + 1)
      row-rest = ap (λ (b : List ℕ × List Line). b.1) row_more

      -- what a line gives, by its text and the spaces before it
      module _ (are : AreLines ls) (text : List ℕ) (is : text ≡ (line_at ls i).text) (spaces : ℕ) (x : spaces ≡ extra_spaces (length text) ((line_at ls i).indent - indent)) where
        pub row_line : replicate spaces (ch " ") ++ text ++ (ch "\n" ∷ []) ≡ row_bytes i
        row_line = go text is x
          where
            l : Line
            l = line_at ls i

            go : (t : List ℕ) → t ≡ l.text → spaces ≡ extra_spaces (length t) (l.indent - indent) → replicate spaces (ch " ") ++ t ++ (ch "\n" ∷ []) ≡ row_bytes i
            go [] e q = rw q (sym (bare indent l (drop (i + 1) ls) (subst Ended (lines_next ls i h) (ended-drop i are.ended)) (sym e)))
            go (b ∷ t) e q =
                let z : spaces ≡ l.indent - indent = q ∙ rw (ne_eqb (length (b ∷ t)) 0 (λ p. omega arith)) in
                rw (z, e) (sym (line-full indent l (drop (i + 1) ls) (rw (← e) (unfold empty in refl))))

        pub row_length : length (row_bytes i) ≡ spaces + length text + 1
        row_length = sym (ap length row_line) ∙ simp (length-append, length-replicate)

        pub row-size : length (body_from ls indent i) ≡ spaces + length text + 1 + length (body_from ls indent (i + 1))
        row-size = omega (arith, row_length, ap length row-body, length-append (row_bytes i) (body_from ls indent (i + 1)))

-- ---- the walk that counts

-- what is known of a literal from `first` on before the line `i`
pub record Counted (ls : List Line) (indent first i len : ℕ) : Type 0 where
  pub size : length (body_from ls indent first) ≡ len + length (body_from ls indent i)
  pub rest : rest_from ls indent first ≡ rest_from ls indent i
  pub small : len ≤ 131071 * i

-- there are no more lines of it
pub extent_of : (ls : List Line) (indent first i len : ℕ) → Counted ls indent first i len → first ≤ i → i ≤ length ls → length ls ≤ 2048 → literal_lines indent (drop i ls) ≡ ([], drop i ls)
    → Extent ls first indent (record { next = i; len = len })
extent_of ls indent first i len b h k f none = record {
  on = h;
  within = k;
  small = omega (arith, b.small);
  size = omega (arith, b.size, ap (λ (r : List ℕ × List Line). length r.0) none);
  left = b.rest ∙ ap (λ (r : List ℕ × List Line). r.1) none;
}

-- ---- what is written

-- a line: its spaces, its text, and its newline unless that would stand at `to`
module _ (old out : Writer) (line : List ℕ) (spaces to : ℕ) where
  abbrev front : List ℕ
  front = replicate spaces (ch " ") ++ line

  front_length : length front ≡ spaces + length line
  front_length = simp (length-append, length-replicate)

  pub line-whole : Appends old out (replicate spaces (ch " ") ++ line) → old.used + spaces + length line < to
      → {new : Writer} → Appends out new (ch "\n" ∷ []) → Appends old new (take (to - old.used) (replicate spaces (ch " ") ++ line ++ (ch "\n" ∷ [])))
  line-whole p h q =
      rw (take_all (to - old.used) (front ++ (ch "\n" ∷ [])) (omega (arith, front_length, length-append front (ch "\n" ∷ []))))
      (appends_more p q)

  pub line-cut : Appends old out (replicate spaces (ch " ") ++ line) → old.used + spaces + length line ≡ to
      → Appends old out (take (to - old.used) (replicate spaces (ch " ") ++ line ++ (ch "\n" ∷ [])))
  line-cut p h = rw (take_at front (ch "\n" ∷ []) (to - old.used) (omega (arith, front_length))) p

-- the lines of a literal before `i` are written, up to the place `to`
pub record Put (ls : List Line) (indent first i to : ℕ) (old now : Writer) : Type 0 where
  pub front : List ℕ
  pub is : body_from ls indent first ≡ front ++ body_from ls indent i
  pub appends : Appends old now (take (to - old.used) front)

module _ (ls : List Line) (indent first i to : ℕ) (old now : Writer) (v : Put ls indent first i to old now) where
  pub put_end : literal_lines indent (drop i ls) ≡ ([], drop i ls) → Appends old now (take (to - old.used) (body_from ls indent first))
  put_end e =
      let f : body_from ls indent first ≡ v.front = v.is ∙ ap (λ (b : List ℕ × List Line). v.front ++ b.0) e ∙ append-nil v.front in
      rw f v.appends

  module _ (h : i < length ls) (k : indent ≤ (line_at ls i).indent) (are : AreLines ls) (text : List ℕ) (is : text ≡ (line_at ls i).text)
      (spaces : ℕ) (x : spaces ≡ extra_spaces (length text) ((line_at ls i).indent - indent)) (most : old.used + length (body_from ls indent first) ≤ to + 1) where
    all_front : length v.front + (spaces + length text + 1) + length (body_from ls indent (i + 1)) ≡ length (body_from ls indent first)
    all_front = omega (arith, ap length v.is, length-append v.front (body_from ls indent i), row-size ls indent i h k are text is spaces x)

    -- what stands before the line is all that is written
    not_cut : take (to - old.used) v.front ≡ v.front
    not_cut = take_all (to - old.used) v.front (omega (arith, all_front))

    used_front : now.used ≡ old.used + length v.front
    used_front = v.appends.used ∙ ap (λ (l : List ℕ). old.used + length l) not_cut

    pub put_room : now.used + spaces + length text ≤ to
    put_room = omega (arith, all_front, used_front)

    pub put_more : (new : Writer) → Appends now new (take (to - now.used) (replicate spaces (ch " ") ++ text ++ (ch "\n" ∷ []))) → Put ls indent first (i + 1) to old new
    put_more new p =
        let row : List ℕ = row_bytes ls indent i in
        let d : to - now.used ≡ to - old.used - length v.front = omega (arith, used_front) in
        let e : length v.front + (to - old.used - length v.front) ≡ to - old.used = omega (arith, all_front) in
        let q : Appends now new (take (to - old.used - length v.front) row) = rw (row_line ls indent i h k are text is spaces x, d) at p in
        record {
          front = v.front ++ row;
          is = v.is ∙ ap (λ (l : List ℕ). v.front ++ l) (row-body ls indent i h k) ∙ sym (append_assoc v.front row (body_from ls indent (i + 1)));
          appends =
              let f : take (to - old.used) (v.front ++ row) ≡ take (to - old.used) v.front ++ take (to - old.used - length v.front) row
              = ap (λ (n : ℕ). take n (v.front ++ row)) (sym e) ∙ take-append-add v.front row (to - old.used - length v.front)
              ∙ ap (λ (l : List ℕ). l ++ take (to - old.used - length v.front) row) (sym not_cut) in
              rw f (appends_more v.appends q);
        }

-- ---- the string that is answered

-- a scalar whose item is put, or has no room, is read as the definition says
module _ (y : Yaml) (flat : Flat y) (old new : Writer) (ls : List Line) where
  -- what is put for it
  put-cost : length (encode y) ≡ cost AsValue y
  put-cost = unfold written in written-cost AsValue y flat

  pub leaf_wrote : (i next : ℕ) → i ≤ next → next ≤ length ls → Appends old new (encode y)
      → WroteBlock (leaf (cap_of old) old.used y (drop next ls)) ls i old new next
  unfolding leaf charge ◌>>=◌
  leaf_wrote i next o w p =
      let u : new.used ≡ old.used + cost AsValue y = p.used ∙ ap (λ (x : ℕ). old.used + x) put-cost in
      record {
        tree = y;
        is = rw (u, le-leb (old.used + cost AsValue y) (cap_of old) (omega (arith, u, new.within, len_appended p)));
        appends = p;
        on = o;
        within = w;
      }

  pub leaf_refused : (e : Refusal) → Lacks old new (encode y) e → Refuses (leaf (cap_of old) old.used y ls) old new e
  unfolding leaf charge ◌>>=◌
  leaf_refused e p = record {
    is = rw (p.is, lt-leb (old.used + cost AsValue y) (cap_of old) (omega (arith, p.short, put-cost)));
    keeps = keeps_same p.same;
  }

pub ruleset counts = (row-end, row-stop, row-rest, row-size, extent_of)

pub ruleset line_puts = (len_appended, length-replicate)

pub ruleset lines_puts = (put_more, len_appended)
