-- The record of a meaning: the fields before the steps, the steps, the header. Assumes nothing.
use Rattle.std.proofs.Common.{◌≡◌, ℕ, List, ◌++◌, append_assoc, append-nil}
use Rattle.refusal.specs.Base.{good, refused, ◌>>=◌}
use Rattle.item.specs.Tree.{Yaml}
use Rattle.meaning.specs.Meaning.{Step}
use Rattle.meaning.specs.Record.{joined, steps_item, fields, record_of}
use Rattle.meaning.specs.Meanings.{steps_from, Top, top_of, with_steps, meaning_of}
use Rattle.nodes.specs.declared.output.RecordWriter.{RecordWriter}
use Rattle.nodes.specs.Writing.{Writes, Opens, Closes}
use Rattle.nodes.proofs.Writing.{writes_is, writes_more, writes_item}
use Rattle.top.specs.Contract.{top_fields}
use Rattle.scenario.specs.Contract.{WroteSteps}

-- 21 to 31
pub top-refused : (lines : List ℕ) (y : Yaml) {k l s : ℕ} → top_of y ≡ refused k l s → meaning_of lines y ≡ refused k l s
unfolding meaning_of ◌>>=◌
top-refused lines y e = rw e

fields-joined : (t : Top) (ss : List Step) → joined (top_fields t) ++ steps_item ss ≡ joined (fields (with_steps t ss))
unfolding top_fields with_steps fields joined
fields-joined t ss = simp (append_assoc, append-nil)

module _ (lines : List ℕ) (y : Yaml) {t : Top} (e : top_of y ≡ good t) where
  -- 32 to 35
  pub steps-refused : {k l s : ℕ} → steps_from 1 lines t.steps ≡ refused k l s → meaning_of lines y ≡ refused k l s
  unfolding meaning_of ◌>>=◌
  steps-refused h = rw (e, h)

  pub record-wrote : {o a b c d : RecordWriter} {header : ℕ} {places filled : List ℕ} {count : ℕ} → Opens o a header → Writes a b (joined (top_fields t))
      → WroteSteps (steps_from 1 lines t.steps) steps_item (λ ss. ss) lines b c places filled count → Closes c d header 16
      → WroteSteps (meaning_of lines y) record_of (λ m. m.steps) lines o d places filled count
  unfolding meaning_of ◌>>=◌ with_steps record_of
  record-wrote opened fields w closed = record {
    read = with_steps t w.read;
    is = rw (e, w.is);
    writes = writes_item opened (writes_is (fields-joined t w.read) (writes_more fields w.writes)) closed;
    lined = w.lined;
    many = w.many;
  }
