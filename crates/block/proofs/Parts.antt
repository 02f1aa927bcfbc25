-- What the small readers of blocks come to, by the places of the code. Assumes nothing.
use Rattle.std.proofs.Common.{◌≡◌, refl, sym, ap, ◌∙◌, ℕ, suc, ◌+◌, ◌≤◌, ◌<◌, arith, List, [], ◌∷◌, Bool, true, false, length, drop, eq-eqb, ne_eqb}
use Rattle.std.proofs.Math.Option.{Option, none, some, some-injective}
use Rattle.refusal.specs.Base.{Answer, ◌>>=◌, ◌>>◌, ensure, given, maybe, bytes, empty}
use Rattle.refusal.proofs.Tools.{chosen, present}
use Rattle.refusal.specs.declared.Refusal.{Refusal}
use Rattle.refusal.specs.declared.Refusal.TheVariants.{EmptyKey, ComplexKey, KeyNotScalar}
use Rattle.utf8.specs.Part.{part}
use Rattle.utf8.specs.White.{leading, trim_start}
use Rattle.utf8.proofs.Laws.{part-drop, start-part, start-le}
use Rattle.item.proofs.Same.{same_length}
use Rattle.item.proofs.Exact.{none≢}
use Rattle.item.specs.Tree.{Yaml}
use Rattle.writer.specs.declared.Writer.{Writer}
use Rattle.writer.specs.Writing.{cap_of}
use Rattle.writer.proofs.Laws.{keeps_appended, keeps_same}
use Rattle.lines.specs.Lines.{Line}
use Rattle.lines.specs.Table.{line_at}
use Rattle.lines.specs.Dash.{dashed, is_dash}
use Rattle.lines.proofs.Rows.{lines_end, lines_next}
use Rattle.scalar.specs.declared.Role.TheVariants.{AsValue, AsKey}
use Rattle.item.specs.declared.Found.TheVariants.{At, Nothing as NotFound}
use Rattle.scalar.specs.Key.{quote_after, depth_after, qualifies, key_end_from, key_end}
use Rattle.scalar.specs.Contract.{written, Refuses}
use Rattle.scalar.specs.Code.{found_of}
use Rattle.flow.specs.Flow.{flow}
use Rattle.flow.specs.Contract.{WroteWhole}
use Rattle.flow.proofs.Values.{Named, named, unnamed}
use Rattle.literal.specs.Contract.{WroteBlock}
use Rattle.block.specs.declared.Opening.TheVariants.{Dash, Key, Flow}
use Rattle.block.specs.declared.Behind.TheVariants.{Value}
use Rattle.block.specs.Block.{key_at, starts_complex, line_value, block_key}
use Rattle.block.specs.Contract.{opening_of, behind_of, key_here, dash_here, WroteKey}

-- ---- where a key ends

key-from : (q d at : ℕ) (t : List ℕ) (k : ℕ) → key_end_from q d at t ≡ some k → k < at + length t
unfolding key_end_from
key-from q d at [] k e = none≢ k e
key-from q d at (b ∷ t) k e =
    chosen (qualifies q d (b ∷ t)) (some at) (key_end_from (quote_after q b) (depth_after q d b) (suc at) t) e
    (λ x p. omega (arith, some-injective at k p))
    (λ x p. omega (arith, key-from (quote_after q b) (depth_after q d b) (suc at) t k p))

-- a key ends at a byte of its line
pub key-end-within : (t : List ℕ) (k : ℕ) → key_end t ≡ some k → k < length t
unfolding key_end
key-end-within t k e = omega (arith, key-from 0 0 0 t k e)

-- what the code found is what there is
pub found_at : (o : Option ℕ) (k : ℕ) → At k ≡ found_of o → o ≡ some k
found_at none k e = absurd (let z : ◌≡◌ {A = ℕ} 0 1 = cc in omega arith)
found_at (some n) k e = let z : n ≡ k = cc in ap some z

pub found_nothing : (o : Option ℕ) → NotFound ≡ found_of o → o ≡ none
found_nothing none e = refl
found_nothing (some n) e = absurd (let z : ◌≡◌ {A = ℕ} 0 1 = cc in omega arith)

-- ---- what stands behind the dash of a line

module _ (text : List ℕ) (start end from : ℕ) (h : start < end) (k : end ≤ length text) (e : from ≡ start + 1 + leading (part text (start + 1) end)) where
  pub dash-from-le : from ≤ end
  dash-from-le = omega (arith, start-le text (start + 1) end (omega arith) k)

  pub trim-start-part : part text from end ≡ trim_start (drop 1 (part text start end))
  trim-start-part =
      ap (λ (n : ℕ). part text n end) e
      ∙ sym (start-part text (start + 1) end (omega arith) k)
      ∙ ap trim_start (sym (part-drop text start end 1))

-- ---- how a line begins

module _ (t : List ℕ) where
  pub opens_dash : dashed t ≡ true → Dash ≡ opening_of t
  unfolding opening_of
  opens_dash e = rw e

  pub opens_key : dashed t ≡ false → (k : ℕ) → At k ≡ found_of (key_end t) → Key k ≡ opening_of t
  unfolding opening_of maybe
  opens_key e k f = rw (e, found_at (key_end t) k f)

  pub opens_flow : dashed t ≡ false → NotFound ≡ found_of (key_end t) → Flow ≡ opening_of t
  unfolding opening_of maybe
  opens_flow e f = rw (e, found_nothing (key_end t) f)

  pub key-opened : (k : ℕ) → opening_of t ≡ Key k → key_end t ≡ some k
  unfolding opening_of
  key-opened k e =
      chosen (dashed t) _ _ e (λ _ p. absurd (let z : ◌≡◌ {A = ℕ} 0 1 = cc in omega arith))
      λ _ p. present (key_end t) Flow Key p (λ _ q. absurd (let z : ◌≡◌ {A = ℕ} 0 1 = cc in omega arith))
      λ n f q. let z : n ≡ k = cc in f ∙ ap some z

-- ---- texts

pub is-empty : (t : List ℕ) → length t ≡ 0 → empty t ≡ true
unfolding empty
is-empty [] e = refl
is-empty (b ∷ t) e = absurd (omega arith)

pub not-empty : (t : List ℕ) → 0 < length t → empty t ≡ false
unfolding empty
not-empty [] h = absurd (omega arith)
not-empty (b ∷ t) h = refl

-- a text that is longer than the words behind a colon
pub behind_long : (t : List ℕ) → 3 ≤ length t → Value ≡ behind_of t
unfolding behind_of bytes
behind_long t h = rw (not-empty t (omega arith), same_length t (bytes "|") (λ e. omega arith), same_length t (bytes "|-") (λ e. omega arith))

-- ---- one value of a line

pub line_refused : (t : List ℕ) (n levels : ℕ) (old new : Writer) (z : Refusal) → Refuses (flow (cap_of old) n levels AsValue old.used t) old new z
    → (ls : List Line) → Refuses (line_value (cap_of old) levels n old.used t ls) old new z
unfolding line_value ◌>>=◌
line_refused t n levels old new z r ls = record { is = rw r.is; keeps = r.keeps }

pub line-done : (t : List ℕ) (n levels : ℕ) (old new : Writer) (key : Bool) → WroteWhole AsValue (flow (cap_of old) n levels AsValue old.used t) old new key
    → (i : ℕ) (ls : List Line) → i ≤ length ls → WroteBlock (line_value (cap_of old) levels n old.used t (drop i ls)) ls i old new i
unfolding line_value written ◌>>=◌
line-done t n levels old new key v i ls h = record { tree = v.tree; is = rw v.is; appends = v.appends; on = omega arith; within = h }

-- ---- a key

module _ (t : List ℕ) (n levels : ℕ) (old : Writer) where
  abbrev read : Answer (List ℕ × ℕ)
  read = block_key (cap_of old) levels n old.used t

  abbrev whole : Answer (Yaml × ℕ)
  whole = flow (cap_of old) n levels AsKey old.used t

  pub key-empty : length t ≡ 0 → Refuses read old old (EmptyKey n)
  unfolding block_key ensure ◌>>◌ ◌>>=◌
  key-empty e = record { is = rw (is-empty t e); keeps = keeps_same refl }

  module _ (h : 0 < length t) where
    pub key-complex : starts_complex t ≡ true → Refuses read old old (ComplexKey n)
    unfolding block_key ensure ◌>>◌ ◌>>=◌
    key-complex e = record { is = rw (not-empty t h, e); keeps = keeps_same refl }

    module _ (simple : starts_complex t ≡ false) where
      pub key-refused : (new : Writer) (z : Refusal) → Refuses whole old new z → Refuses read old new z
      unfolding block_key ensure ◌>>◌ ◌>>=◌
      key-refused new z r = record { is = rw (not-empty t h, simple, r.is); keeps = r.keeps }

      module _ (new : Writer) (key : Bool) (w : WroteWhole AsKey whole old new key) where
        pub key-unnamed : key ≡ false → Refuses read old new (KeyNotScalar n)
        unfolding block_key ensure given ◌>>◌ ◌>>=◌
        key-unnamed k = record { is = rw (not-empty t h, simple, w.is, unnamed w.tree (sym w.keyed ∙ k)); keeps = keeps_appended w.appends }

        pub key-done : key ≡ true → WroteKey read old new
        unfolding block_key ensure given ◌>>◌ ◌>>=◌
        key-done k =
            let m : Named w.tree = named w.tree (sym w.keyed ∙ k) in
            record {
              key = m.name;
              is = rw (not-empty t h, simple, w.is, m.says);
              appends = rw (← m.put) w.appends;
            }

-- ---- the lines

module _ (ls : List Line) (i indent : ℕ) where
  pub dash_end : i ≡ length ls → false ≡ dash_here indent (drop i ls)
  unfolding dash_here
  dash_end e = sym (ap (dash_here indent) (lines_end ls i e))

  pub key_none : i ≡ length ls → NotFound ≡ found_of (key_here indent (drop i ls))
  unfolding key_here
  key_none e = sym (ap (λ (l : List Line). found_of (key_here indent l)) (lines_end ls i e))

  module _ (h : i < length ls) where
    pub dash_on : is_dash indent (line_at ls i) ≡ dash_here indent (drop i ls)
    unfolding dash_here
    dash_on = sym (ap (dash_here indent) (lines_next ls i h))

    pub key_elsewhere : ((line_at ls i).indent ≡ indent → ⊥) → NotFound ≡ found_of (key_here indent (drop i ls))
    unfolding key_here key_at
    key_elsewhere n = sym (ap (λ (l : List Line). found_of (key_here indent l)) (lines_next ls i h) ∙ rw (ne_eqb (line_at ls i).indent indent n))

    pub key-on : (line_at ls i).indent ≡ indent → key_end (line_at ls i).text ≡ key_here indent (drop i ls)
    unfolding key_here key_at
    key-on e = sym (ap (key_here indent) (lines_next ls i h) ∙ rw (eq-eqb (line_at ls i).indent indent e))

    pub key_read : (line_at ls i).indent ≡ indent → (t : List ℕ) → t ≡ (line_at ls i).text → found_of (key_end t) ≡ found_of (key_here indent (drop i ls))
    key_read e t p = ap (λ (b : List ℕ). found_of (key_end b)) p ∙ ap found_of (key-on e)

-- what the search tries
pub ruleset openings = (opens_dash, opens_key, opens_flow)

pub ruleset dashes = (dash_end, dash_on)

pub ruleset keys = (key_none, key_elsewhere, key_read)

pub ruleset line_values = (line_refused, line-done)

pub ruleset block_keys = (key-empty, key-complex, key-refused, key-unnamed, key-done)
