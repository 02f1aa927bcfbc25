-- Where the key and the value of a step stand in its item, and how far a walk over items has come. Assumes nothing.
use Rattle.std.proofs.Common.{◌≡◌, sym, ap, ◌∙◌, ℕ, ◌+◌, ◌-◌, ◌^◌, ◌≤◌, List, length, take, drop, None, Some, arith}
use Rattle.item.specs.Encode.{encode}
use Rattle.item.specs.declared.Item.{Item}
use Rattle.item.specs.declared.walk.Walk.{Walk}
use Rattle.item.proofs.Size.{item-length}
use Rattle.item.proofs.Turns.{Turn}
use Rattle.entries.specs.Entries.{Stands, nth_item}
use Rattle.entries.specs.declared.Span.{Span}
use Rattle.entries.proofs.Standing.{stands_at, stands-part, item-content}
use Rattle.meaning.specs.Meaning.{Step}
use Rattle.meaning.specs.Record.{text_item, step_parts, step_item}
use Rattle.record.proofs.StepPlaces.{step_part, no_part, value-part}

pub record StepAt (s : List ℕ) (x : Step) (start end : ℕ) : Type 0 where
  pub key : take (end - (start + 6)) (drop (start + 6) s) ≡ x.key
  pub value : Stands s end (encode x.value)

-- the key is the third part
module _ {s : List ℕ} {at from : ℕ} (x : Step) (q : from ≡ at + 6) (w : length s ≤ 2 ^ 20) (st : Stands s at (step_item x)) where
  pub step-at : {span : Span} → Some span ≡ nth_item s from 2 → StepAt s x span.start span.end
  unfolding step_parts text_item encode
  step-at {span} e =
      let p = step_part x st w 2 (omega arith) (e ∙ ap (λ (k : ℕ). nth_item s k 2) q) in
      record {
        key = stands-part (item-content 3 x.key p.stands) (span.end - (span.start + 6)) (omega (arith, p.ends, item-length 3 x.key));
        value = stands_at (sym p.next) (value-part x st);
      }

  pub step_lost : {X : Type 0} → None ≡ nth_item s from 2 → X
  step_lost e = no_part x st w 2 (omega arith) (e ∙ ap (λ (k : ℕ). nth_item s k 2) q)

-- a walk over the items of a part, which has given so many: none is empty, so they are no more than the bytes behind it
pub record Onward (s : List ℕ) (from to : ℕ) (walk : Walk Item) (given : ℕ) : Type 0 where
  pub bytes : walk.bytes.now ≡ s
  pub ends : walk.to ≡ to
  pub forward : from ≤ walk.at
  pub few : given ≤ walk.at - from

pub onward : {s : List ℕ} {from to n k : ℕ} {old new : Walk Item} {item : Item} → Onward s from to old n → Turn s old.at to item new → k ≤ n + 1 → Onward s from to new k
onward w t h = record {
  bytes = t.bytes;
  ends = t.end;
  forward = omega (arith, w.forward, t.next, t.places.start, t.places.order);
  few = omega (arith, h, w.forward, w.few, t.next, t.places.start, t.places.order);
}
