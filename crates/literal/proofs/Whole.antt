-- What is answered for a literal of a text's lines. Assumes nothing.
use Rattle.std.proofs.Common.{if◌then◌else◌, ◌≡◌, refl, sym, ap, ◌∙◌, ℕ, ◌+◌, ◌-◌, ◌≤◌, ◌<◌, arith, List, [], Bool, true, false, length, take, drop, length-append, length-take-le, lt-ltb, le-ltb}
use Rattle.refusal.specs.declared.Refusal.{Refusal}
use Rattle.refusal.specs.declared.Refusal.TheVariants.{WorkTooShort}
use Rattle.item.specs.Tree.{Yaml, str}
use Rattle.item.specs.Encode.{head, encode}
use Rattle.item.proofs.Size.{encode-size}
use Rattle.writer.specs.declared.Writer.{Writer}
use Rattle.writer.specs.Writing.{cap_of, room_of, Appends}
use Rattle.writer.proofs.Laws.{appends_item}
use Rattle.lines.specs.Lines.{Line}
use Rattle.lines.specs.Table.{line_at}
use Rattle.lines.specs.Ready.{AreLines}
use Rattle.lines.proofs.Rows.{lines_next, lines_end}
use Rattle.lines.proofs.Ends.{ended-drop}
use Rattle.literal.specs.declared.Body.{Body}
use Rattle.scalar.specs.Contract.{Refuses}
use Rattle.literal.specs.Literal.{Read, leaf, literal_line, literal_lines, literal_under, drop_newlines, literal}
use Rattle.literal.specs.Contract.{WroteBlock}
use Rattle.literal.specs.Walk.{body_from, rest_from, Extent, whole}
use Rattle.literal.proofs.Blanks.{line-some}
use Rattle.literal.proofs.Laws.{row-body, leaf_wrote, leaf_refused}
use Rattle.literal.proofs.Ends.{kept-front}

-- ---- a key with no literal below it, or with one

nothing-kept : (strip : Bool) → (if strip then drop_newlines [] else []) ≡ []
unfolding drop_newlines
nothing-kept true = refl
nothing-kept false = refl

module _ (ls : List Line) (cap : ℕ) (strip : Bool) (under sum : ℕ) where
  pub literal-none : (i : ℕ) → i ≡ length ls → literal cap strip under sum (drop i ls) ≡ leaf cap sum (str []) (drop i ls)
  unfolding literal literal_under
  literal-none i e = rw (lines_end ls i e, nothing-kept strip)

  module _ (i : ℕ) (h : i < length ls) where
    pub literal-beside : (line_at ls i).indent ≤ under → literal cap strip under sum (drop i ls) ≡ leaf cap sum (str []) (drop i ls)
    unfolding literal literal_under
    literal-beside k = rw (lines_next ls i h, le-ltb under (line_at ls i).indent k, nothing-kept strip)

    pub literal_under_lem : under < (line_at ls i).indent → literal cap strip under sum (drop i ls) ≡ whole cap strip sum (literal_lines (line_at ls i).indent (drop i ls))
    unfolding literal literal_under
    literal_under_lem k = rw (lines_next ls i h, lt-ltb under (line_at ls i).indent k)

-- ---- the literal below a key

pub kept-range : (strip : Bool) (n r : ℕ) → 1 ≤ n → r ≡ (if strip then n - 1 else n) → (n ≤ r + 1) × (r ≤ n)
kept-range true n r h e = (omega arith, omega arith)
kept-range false n r h e = (omega arith, omega arith)

module _ (ls : List Line) (i indent : ℕ) (are : AreLines ls) (h : i < length ls) (k : indent ≡ (line_at ls i).indent) (b : Body) (x : Extent ls i indent b) where
  abbrev all : List ℕ
  all = body_from ls indent i

  pub extent_some : 1 ≤ b.len
  extent_some =
      let l = line_at ls i in
      omega (arith, x.size, ap length (row-body ls indent i h (omega arith)), length-append (literal_line indent l (drop (i + 1) ls)) (body_from ls indent (i + 1)), line-some indent l (drop (i + 1) ls))

  module _ (strip : Bool) (len : ℕ) (e : len ≡ (if strip then b.len - 1 else b.len)) where
    abbrev kept : List ℕ
    kept = if strip then drop_newlines all else all

    kept-is : kept ≡ take len all
    kept-is =
        kept-front strip indent (drop i ls) (ended-drop i are.ended) (omega (arith, x.size, extent_some))
        ∙ ap (λ (n : ℕ). take n all) (ap (λ (n : ℕ). if strip then n - 1 else n) x.size ∙ sym e)

    kept-length : length kept ≡ len
    kept-length = ap length kept-is ∙ length-take-le len all (omega (arith, x.size, (kept-range strip b.len len extent_some e).1))

    module _ (old : Writer) where
      abbrev answer : Read Yaml
      answer = whole (cap_of old) strip old.used (literal_lines indent (drop i ls))

      pub literal-refused : (new : Writer) (e : Refusal) → room_of old < 6 + len → e ≡ WorkTooShort → new ≡ old → Refuses answer old new e
      literal-refused new e m k same =
          leaf_refused (str kept) tt old new (rest_from ls indent i) e
          (record { is = k; short = omega (arith, m, kept-length, encode-size (str kept)); same = same })

      pub literal-wrote : (mid new : Writer) (to : ℕ) → to ≡ mid.used + len → Appends old mid (head 3 len) → Appends mid new (take (to - mid.used) all)
          → WroteBlock answer ls i old new b.next
      unfolding encode
      literal-wrote mid new to m p q =
          let d : to - mid.used ≡ len = omega (arith, m) in
          let c : Appends mid new kept = rw (d, ← kept-is) at q in
          rw x.left (leaf_wrote (str kept) tt old new ls i b.next x.on x.within (appends_item 3 len p c (sym kept-length)))

pub ruleset wholes = (extent_some, literal-refused, literal-wrote)

pub ruleset literals = (literal-none, literal-beside, literal_under_lem, leaf_wrote, leaf_refused)
