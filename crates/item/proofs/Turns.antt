-- A turn of a `for` over what stands in some bytes, and over items. Assumes nothing.
use Rattle.std.proofs.Common.{◌≡◌, ℕ, ◌<◌, List, Result, Ok, Err, Some, Bor, sym, ap, ◌∙◌, subst, arith}
use Rattle.item.specs.Places.{header_at}
use Rattle.item.specs.Walk.{Gives}
use Rattle.item.specs.declared.Broken.{Broken}
use Rattle.item.specs.declared.Item.{Item}
use Rattle.item.specs.declared.walk.Walk.{Walk}
use Rattle.item.proofs.Headers.{Spans, spans}

module _ {T : Type 0} (reads : List ℕ → ℕ → Result T Broken) (ends : T → ℕ) where
  -- it gives what stands there, whose places are known, and goes on behind it
  pub record Step (Places : List ℕ → ℕ → T → Type 0) (s : List ℕ) (at to : ℕ) (placed : T) (new : Walk T) : Type 0 where
    pub before : at < to
    pub is : Ok placed ≡ reads s at
    pub places : Places s at placed
    pub bytes : new.bytes.now ≡ s
    pub end : new.to ≡ to
    pub next : new.at ≡ ends placed

  -- nothing can be read there
  pub record Stop (s : List ℕ) (at to : ℕ) (broken : Broken) : Type 0 where
    pub before : at < to
    pub is : Err broken ≡ reads s at

  module _ (old new : Walk T) {s : List ℕ} {to : ℕ} (b : old.bytes.now ≡ s) (t : old.to ≡ to) where
    pub step_of : {Places : List ℕ → ℕ → T → Type 0} → ((s : List ℕ) (at : ℕ) (placed : T) → Ok placed ≡ reads s at → Places s at placed)
        → {r : Result T Broken} {placed : T} → Gives reads ends old (Some r) new → r ≡ Ok placed → Step Places s old.at to placed new
    step_of places {placed = placed} g e =
        let h = subst (λ (x : Result T Broken). Gives reads ends old (Some x) new) e g in
        let is : Ok placed ≡ reads s old.at = rw (← b) (sym h.1) in
        record {
          before = omega (arith, h.0, t);
          is = is;
          places = places s old.at placed is;
          bytes = ap (λ (x : Bor (List ℕ)). x.now) h.2.bytes ∙ b;
          end = h.2.to ∙ t;
          next = h.3;
        }

    pub stop_of : {r : Result T Broken} {broken : Broken} → Gives reads ends old (Some r) new → r ≡ Err broken → Stop s old.at to broken
    stop_of g e =
        let h = subst (λ (x : Result T Broken). Gives reads ends old (Some x) new) e g in
        record { before = omega (arith, h.0, t); is = rw (← b) (sym h.1) }

-- ---- over items

pub placed : (s : List ℕ) (at : ℕ) {item : Item} → header_at s at ≡ Ok item → Spans s at item.from item.to
placed s at e = spans s at (sym e)

abbrev pub end_of : Item → ℕ
end_of item = item.to

abbrev pub Turn : List ℕ → ℕ → ℕ → Item → Walk Item → Type 0
Turn = Step header_at end_of (λ s at item. Spans s at item.from item.to)

module _ (old new : Walk Item) {s : List ℕ} {to : ℕ} (b : old.bytes.now ≡ s) (t : old.to ≡ to) where
  pub turn : {r : Result Item Broken} {item : Item} → Gives header_at end_of old (Some r) new → r ≡ Ok item → Turn s old.at to item new
  turn g e = step_of header_at end_of old new b t (λ s at item h. spans s at h) g e

  pub stop : {r : Result Item Broken} {broken : Broken} → Gives header_at end_of old (Some r) new → r ≡ Err broken → Stop header_at end_of s old.at to broken
  stop g e = stop_of header_at end_of old new b t g e
