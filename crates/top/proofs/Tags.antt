-- The walk along the tags. Assumes nothing.
use Rattle.std.proofs.Common.{◌≡◌, refl, sym, ap, ◌∙◌, ℕ, ◌≤◌, List, ◌++◌, map, append_assoc, append-nil}
use Rattle.std.proofs.Math.Option.{none, some}
use Rattle.item.specs.Tree.{Yaml, Items, ◌▸◌}
use Rattle.item.specs.Encode.{item, encode}
use Rattle.item.specs.declared.Item.{Item}
use Rattle.scalar.specs.Scalars as scalar
use Rattle.entries.specs.Entries.{Holds}
use Rattle.entries.proofs.Walking.{no-more-items}
use Rattle.nodes.specs.declared.output.RecordWriter.{RecordWriter}
use Rattle.nodes.specs.Writing.{Writes, Opens, Closes}
use Rattle.nodes.proofs.Items.{ItemTurn}
use Rattle.nodes.proofs.Writing.{writes_is, writes_more, writes_item}
use Rattle.meaning.specs.Record.{joined, text_item, tags_item}
use Rattle.meaning.specs.Meanings.{cons_text, texts_of}

abbrev tags_of : Items → List ℕ
tags_of ys = joined (map text_item (texts_of ys))

-- the tags before those that are left are written
pub record TagsRest (s : List ℕ) (to at : ℕ) (ys : Items) (old new : RecordWriter) : Type 0 where
  pub rest : Items
  pub front : List ℕ
  pub holds : Holds s at to rest
  pub is : tags_of ys ≡ front ++ tags_of rest
  pub writes : Writes old new front

with-tag : (y : Yaml) (ys : Items) (t : List ℕ) → some t ≡ scalar.key_text y → tags_of (y ▸ ys) ≡ item 3 t ++ tags_of ys
unfolding texts_of cons_text joined text_item encode
with-tag y ys t q = rw (← q) refl

without-tag : (y : Yaml) (ys : Items) → none ≡ scalar.key_text y → tags_of (y ▸ ys) ≡ tags_of ys
unfolding texts_of cons_text
without-tag y ys q = rw (← q) refl

module _ {s : List ℕ} {old mid : RecordWriter} {to at : ℕ} {i : Item} {ys : Items} (k : TagsRest s to at ys old mid) (t : ItemTurn s at to k.rest i) where
  left_is : tags_of ys ≡ k.front ++ tags_of (t.first.y ▸ t.first.others)
  left_is = k.is ∙ ap (λ (zs : Items). k.front ++ tags_of zs) t.first.is

  pub tag-on : {new : RecordWriter} {text : List ℕ} → some text ≡ scalar.key_text t.first.y → Writes mid new (item 3 text) → TagsRest s to i.to ys old new
  tag-on {new} {text} q w = record {
    rest = t.first.others;
    front = k.front ++ item 3 text;
    holds = t.behind;
    is = left_is ∙ ap (λ (b : List ℕ). k.front ++ b) (with-tag t.first.y t.first.others text q) ∙ sym (append_assoc k.front (item 3 text) (tags_of t.first.others));
    writes = writes_more k.writes w;
  }

  pub no-tag-on : none ≡ scalar.key_text t.first.y → TagsRest s to i.to ys old mid
  no-tag-on q = record {
    rest = t.first.others;
    front = k.front;
    holds = t.behind;
    is = left_is ∙ ap (λ (b : List ℕ). k.front ++ b) (without-tag t.first.y t.first.others q);
    writes = k.writes;
  }

pub tags-done : {s : List ℕ} {a old mid new : RecordWriter} {header to at : ℕ} {ys : Items} → to ≤ at → Opens a old header → TagsRest s to at ys old mid → Closes mid new header 4 → Writes a new (tags_item (texts_of ys))
unfolding tags_item joined texts_of
tags-done {ys = ys} m o k c =
    let e : k.front ≡ tags_of ys = sym (k.is ∙ ap (λ (zs : Items). k.front ++ tags_of zs) (no-more-items k.rest m k.holds) ∙ append-nil k.front) in
    writes_is (ap (item 4) e) (writes_item o k.writes c)
