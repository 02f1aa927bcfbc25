-- What a line of the text gives, by its places. Assumes nothing.
use Rattle.std.specs.Prelude.{if◌then◌else◌}
use Rattle.std.proofs.Common.{◌≡◌, refl, sym, ap, ◌∙◌, ℕ, suc, ◌+◌, ◌≤◌, ◌<◌, add-one, arith, List, [], ◌∷◌, ◌++◌, append_assoc, append-nil, Bool, true, false, eqb, ltb, length, drop, drop_of_length-le, eqb-true}
use Rattle.std.proofs.lemmas.Bool.{eqb-false}
use Rattle.lines.specs.declared.Row.{Row}
use Rattle.refusal.specs.Base.{Answer, good, refused, ◌>>=◌, bytes, same, ends_with, empty}
use Rattle.utf8.specs.Part.{part}
use Rattle.utf8.specs.White.{leading, all_white, trim_end}
use Rattle.utf8.proofs.Laws.{part-white, part-not-white, part-empty, part-cons, part-drop, part-take, end-part}
use Rattle.lines.specs.declared.RawLine.{RawLine}
use Rattle.lines.specs.declared.Literal.{Literal}
use Rattle.lines.specs.declared.Literal.TheVariants.{Closed, Under}
use Rattle.lines.specs.Lines.{Line, split_lines, significant_lines, indent_of, tabbed, strip_comment, significant, is_marker, opens_literal, literal_of, literal_after, Event, entry, bad, events_of, blanks_before, body_of, scan, collect}
use Rattle.lines.specs.declared.Way.{Way}
use Rattle.lines.specs.declared.Way.TheVariants.{Normal, Blank, Body}
use Rattle.lines.specs.Raw.{raw_text, way_of}
use Rattle.lines.specs.declared.LineTaken.{LineTaken}
use Rattle.lines.specs.Table.{row_of, line_of, table_lines, AllLieIn, behind}
use Rattle.lines.specs.Filling.{reading}
use Rattle.lines.proofs.Laws.{strip-take, indent-tab, indent-white}
use Rattle.lines.proofs.TableLaws.{collect-bad}

module _ (raw : RawLine) where
  abbrev text : List ℕ
  text = raw.text.now

  abbrev whole : List ℕ
  whole = raw_text raw

  abbrev inner : List ℕ
  inner = part raw.text.now raw.start raw.to

  inside : raw.to ≤ length text
  inside = omega (arith, raw.high, raw.inside)

  behind-indent : drop (indent_of whole) whole ≡ inner
  behind-indent = part-drop text raw.from raw.to (indent_of whole) ∙ ap (λ (k : ℕ). part text k raw.to) (sym raw.starts)

  pub raw_tab : tabbed inner ≡ tabbed whole
  raw_tab = ap tabbed (sym behind-indent) ∙ indent-tab whole

  raw-white : all_white inner ≡ all_white whole
  raw-white = ap all_white (sym behind-indent) ∙ indent-white whole

  pub raw_blank : (e : ℕ) → e ≡ raw.start + leading inner → eqb e raw.to ≡ all_white whole
  raw_blank e p = go (eqb e raw.to) refl ∙ raw-white
    where
      go : (x : Bool) → eqb e raw.to ≡ x → x ≡ all_white inner
      go true q = sym (part-white text raw.start raw.to raw.low inside (sym p ∙ eqb-true e raw.to q))
      go false q = sym (part-not-white text raw.start raw.to raw.low inside (λ h. eqb-false e raw.to q (p ∙ h)))

  -- what is left of it, read normally, by its places
  pub raw_significant : (c e : ℕ) → c ≡ raw.start + length (strip_comment inner) → c ≤ raw.to → e ≡ raw.start + length (trim_end (part text raw.start c))
      → significant whole ≡ part text raw.start e
  unfolding significant
  raw_significant c e p h q =
      let k : raw.to ≤ length text = inside in
      let cut : strip_comment inner ≡ part text raw.start c = strip-take inner ∙ part-take text raw.start raw.to (length (strip_comment inner)) (omega arith) ∙ ap (part text raw.start) (sym p) in
      rw (behind-indent, cut) (end-part text raw.start c (omega arith) (omega arith) ∙ ap (part text raw.start) (sym q))

  -- ---- read normally

  module _ (t : tabbed whole ≡ false) (e : ℕ) (p : significant whole ≡ part text raw.start e) where
    module _ (s : e ≡ raw.start) where
      nothing : significant whole ≡ []
      nothing = p ∙ ap (part text raw.start) s ∙ part-empty text raw.start

      pub no-events : events_of raw.number whole ≡ []
      unfolding events_of empty
      no-events = rw (t, nothing)

      pub opens-none : Closed ≡ literal_after whole
      unfolding literal_after literal_of opens_literal ends_with bytes same
      opens-none = rw nothing

    pub opens : (i : ℕ) → i ≡ indent_of whole → literal_of (part text raw.start e) i ≡ literal_after whole
    unfolding literal_after
    opens i q = rw (p, q)

    module _ (h : raw.start < e) (k : e ≤ length text) where
      some : empty (part text raw.start e) ≡ false
      unfolding empty
      some = rw (part-cons text raw.start e h k)

      pub is-marked : is_marker (part text raw.start e) ≡ true → events_of raw.number whole ≡ bad 5 raw.number ∷ []
      unfolding events_of
      is-marked m = rw (t, p, some, m)

      pub is-entry : (r : Row) → r ≡ row_of (indent_of whole) raw.start e raw.number → is_marker (part text raw.start e) ≡ false → events_of raw.number whole ≡ entry (line_of text r) ∷ []
      unfolding events_of
      is-entry r q m = rw (t, p, some, m, q)

  -- ---- a body line, behind the blank lines that wait

  pub is-body : (waiting e : ℕ) → tabbed whole ≡ false → e ≡ raw.start + length (trim_end inner) → (es : List Event)
      → body_of waiting raw.number whole ++ es ≡ blanks_before waiting raw.number (indent_of whole) ++ entry (line_of text (row_of (indent_of whole) raw.start e raw.number)) ∷ es
  unfolding body_of
  is-body waiting e t p es =
      let cut : trim_end inner ≡ part text raw.start e = end-part text raw.start raw.to raw.low inside ∙ ap (part text raw.start) (sym p) in
      rw (t, behind-indent, cut, append_assoc)

-- ---- which of these a line is

module _ (n : ℕ) (raw : List ℕ) (waiting : ℕ) (raws : List (List ℕ)) where
  unfoldable read_by : Way → List Event
  read_by Normal = events_of n raw ++ scan (literal_after raw) 0 (n + 1) raws
  read_by (Blank under) = scan (Under under) (waiting + 1) (n + 1) raws
  read_by (Body under) = body_of waiting n raw ++ scan (Under under) 0 (n + 1) raws

  by_way : (lit : Literal) → scan lit waiting n (raw ∷ raws) ≡ read_by (way_of lit raw)
  unfolding scan way_of read_by
  by_way Closed = rw add-one
  by_way (Under under) = go (all_white raw) (ltb under (indent_of raw))
    where
      go : (blank deep : Bool) → (if blank then scan (Under under) (suc waiting) (suc n) raws
          else if deep then body_of waiting n raw ++ scan (Under under) 0 (suc n) raws
          else events_of n raw ++ scan (literal_after raw) 0 (suc n) raws)
          ≡ read_by (if blank then Blank under else if deep then Body under else Normal)
      go true deep = rw (add-one waiting, add-one n)
      go false true = rw (add-one n)
      go false false = rw (add-one n)

  module _ (lit : Literal) where
    pub scan-normal : (way : Way) → way_of lit raw ≡ way → ((under : ℕ) → way ≡ Blank under → ⊥) → ((under : ℕ) → way ≡ Body under → ⊥)
        → scan lit waiting n (raw ∷ raws) ≡ events_of n raw ++ scan (literal_after raw) 0 (n + 1) raws
    unfolding read_by
    scan-normal Normal w k l = by_way lit ∙ ap read_by w
    scan-normal (Blank under) w k l = absurd (k under refl)
    scan-normal (Body under) w k l = absurd (l under refl)

    pub scan-blank : (under : ℕ) → way_of lit raw ≡ Blank under → scan lit waiting n (raw ∷ raws) ≡ scan (Under under) (waiting + 1) (n + 1) raws
    unfolding read_by
    scan-blank under w = by_way lit ∙ ap read_by w

    pub scan-body : (under : ℕ) → way_of lit raw ≡ Body under → scan lit waiting n (raw ∷ raws) ≡ body_of waiting n raw ++ scan (Under under) 0 (n + 1) raws
    unfolding read_by
    scan-body under w = by_way lit ∙ ap read_by w

    -- a tab stops a line that is not blank
    pub tab-stops : (way : Way) → way_of lit raw ≡ way → ((under : ℕ) → way ≡ Blank under → ⊥) → (room : ℕ) → tabbed raw ≡ true
        → collect room (scan lit waiting n (raw ∷ raws)) ≡ refused 4 n 0
    unfolding read_by events_of body_of
    tab-stops Normal w k room t = ap (collect room) (by_way lit ∙ ap read_by w) ∙ rw t (collect-bad room 4 n (scan (literal_after raw) 0 (n + 1) raws))
    tab-stops (Blank under) w k room t = absurd (k under refl)
    tab-stops (Body under) w k room t = ap (collect room) (by_way lit ∙ ap read_by w) ∙ rw t (collect-bad room 4 n (scan (Under under) 0 (n + 1) raws))

-- ---- the whole text

pub lines_start : (text : List ℕ) → significant_lines text ≡ reading text [] (scan Closed 0 1 (split_lines text))
unfolding significant_lines behind ◌>>=◌
lines_start text = go (collect 2048 (scan Closed 0 1 (split_lines text)))
  where
    go : (a : Answer (List Line)) → a ≡ behind [] a
    go (good ls) = refl
    go (refused k l s) = refl

pub lines_end : (text : List ℕ) (rows : List Row) (lit : Literal) (waiting n at : ℕ) → length text ≤ at
    → reading text rows (scan lit waiting n (split_lines (drop at text))) ≡ good (table_lines text rows)
unfolding split_lines scan collect behind ◌>>=◌
lines_end text rows lit waiting n at h = rw (drop_of_length-le text {i = at} h) (go lit)
  where
    go : (lit : Literal) → reading text rows (scan lit waiting n []) ≡ good (table_lines text rows)
    go Closed = ap good (append-nil (table_lines text rows))
    go (Under u) = ap good (append-nil (table_lines text rows))

-- what holds between two lines: the text from `at` on is still to be read
pub record Scanned (text : List ℕ) (rows : List Row) (at number : ℕ) (taken : LineTaken) : Type 0 where
  pub place : at ≤ length text + 1
  pub numbered : number ≤ at + 1
  pub some : 0 < number
  pub waits : taken.waiting < number
  pub lines : significant_lines text ≡ reading text rows (scan taken.literal taken.waiting number (split_lines (drop at text)))
  pub placed : AllLieIn text rows
