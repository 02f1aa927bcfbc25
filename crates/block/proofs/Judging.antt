-- Entries whose keys are judged once, behind the last of them. Assumes nothing.
use Rattle.std.proofs.Common.{◌≡◌, refl, sym, ◌∙◌, ℕ, arith, List, Bool, true, false, ◌||◌, Result, Ok, Err}
use Rattle.std.proofs.lemmas.Bool.{false≢true}
use Rattle.refusal.specs.Base.{◌>>=◌, ◌>>◌, ensure}
use Rattle.refusal.proofs.Tools.{refused≢good}
use Rattle.item.specs.Tree.{Yaml, Entries, done, add, has_key}
use Rattle.writer.specs.declared.Writer.{Writer}
use Rattle.writer.specs.Writing.{Keeps, CutsBack}
use Rattle.writer.proofs.Laws.{keeps_appended, keeps_more, keeps_cut}
use Rattle.entries.specs.Entries.{key_twice}
use Rattle.lines.specs.Lines.{Line}
use Rattle.flow.specs.Flow.{fresh}
use Rattle.flow.proofs.Invariants.{twice-add}
use Rattle.literal.specs.Literal.{Read}
use Rattle.refusal.specs.declared.Refusal.{Refusal}
use Rattle.literal.specs.Contract.{AgreesBlock}
use Rattle.block.specs.Contract.{Twice, Judged, Ran}
use Rattle.block.proofs.Cases.{agrees-block}

-- ---- what was told, unless a key stands twice

pub judged-none : {a : Read Entries} {exact : Bool} → Judged a a exact done
unfolding key_twice
judged-none = record { single = λ _. refl; twice = λ e. absurd (false≢true e); sure = λ _. refl }

pub judged-as : {a x y : Read Entries} {exact : Bool} {got : Entries} → Judged a x exact got → x ≡ y → Judged a y exact got
judged-as j e = record { single = λ s. j.single s ∙ e; twice = j.twice; sure = j.sure }

pub judged-add : {a : Read Entries} {exact : Bool} {got : Entries} (cap n : ℕ) (k : List ℕ) (v : Yaml) (more : Read Entries)
    → Judged a (fresh cap n k got >> more) exact got → (exact ≡ true → has_key k got ≡ false) → Judged a more exact (add got k v)
unfolding fresh ensure ◌>>◌ ◌>>=◌
judged-add {a} {exact} {got} cap n k v more j new =
    record { single = λ s. single (has_key k got) (key_twice got) refl refl (sym now ∙ s); twice = λ t. twice (has_key k got) (key_twice got) refl refl (sym now ∙ t); sure = λ x. now ∙ rw (new x, j.sure x) }
  where
    now : key_twice (add got k v) ≡ has_key k got || key_twice got
    now = twice-add got k v

    single : (h d : Bool) → has_key k got ≡ h → key_twice got ≡ d → has_key k got || key_twice got ≡ false → a ≡ more
    single true d e f s = absurd (false≢true (sym s ∙ rw e))
    single false true e f s = absurd (false≢true (sym s ∙ rw (e, f)))
    single false false e f s = j.single f ∙ rw e

    twice : (h d : Bool) → has_key k got ≡ h → key_twice got ≡ d → has_key k got || key_twice got ≡ true → Twice a
    twice h true e f t = j.twice f
    twice true false e f t = record { line = n; is = j.single f ∙ rw e }
    twice false false e f t = absurd (false≢true (let z : false ≡ has_key k got || key_twice got = rw (e, f) in z ∙ t))

-- ---- a run, and the next one that compares each key

agrees-keeps : (x : Read Entries) (ls : List Line) (i : ℕ) (old new : Writer) (r : Result ℕ Refusal) → AgreesBlock x ls i old new r → Keeps old new
agrees-keeps x ls i old new (Ok n) w = keeps_appended w.appends
agrees-keeps x ls i old new (Err z) w = w.keeps

module _ {a : Read Entries} {ls : List Line} {i : ℕ} {old mid : Writer} {r : Result ℕ Refusal} (w : Ran a ls i false old mid r) where
  pub ran-keeps : Keeps old mid
  ran-keeps = agrees-keeps w.told ls i old mid r w.agrees

  pub ran-once : key_twice w.got ≡ false → AgreesBlock a ls i old mid r
  ran-once e = agrees-block a w.told ls i i old mid r (w.judged.single e) (omega arith) w.agrees

  pub ran-again : key_twice w.got ≡ true → {b : Read Entries} (cut new : Writer) (s : Result ℕ Refusal) → a ≡ b → CutsBack mid cut old.used → Ran b ls i true cut new s → AgreesBlock a ls i old new s
  ran-again t cut new (Ok n) e k x = let y = w.judged.twice t in refused≢good _ 18 y.line 0 (sym y.is ∙ e ∙ x.judged.single (x.judged.sure refl) ∙ x.agrees.is)
  ran-again t cut new (Err z) e k x =
      record { is = e ∙ x.judged.single (x.judged.sure refl) ∙ x.agrees.is; keeps = keeps_more (keeps_cut ran-keeps k) x.agrees.keeps }
