-- The walk over the steps: what each turn knows, and what is left behind it. Assumes nothing.
use Rattle.std.proofs.Common.{◌≡◌, refl, sym, ap, ◌∙◌, ℕ, suc, ◌+◌, ◌-◌, ◌≤◌, ◌<◌, ◌^◌, arith, List, [], ◌∷◌, ◌++◌, map, append_assoc, append-nil, length, drop, set, length-append}
use Rattle.std.proofs.lemmas.List.{map-append}
use Rattle.std.proofs.lemmas.List.Edits.{sets}
use Rattle.refusal.specs.Base.{Answer, good, refused, ◌>>=◌}
use Rattle.refusal.specs.Told.{refusal}
use Rattle.refusal.specs.declared.Refusal.{Refusal}
use Rattle.item.specs.Tree.{Yaml, Items, Ranged}
use Rattle.lines.specs.Lines.{Line}
use Rattle.meaning.specs.Meaning.{Step}
use Rattle.meaning.specs.Record.{joined, step_item, steps_item}
use Rattle.meaning.specs.Meanings.{step_at, steps_from}
use Rattle.meaning.proofs.Joined.{joined-last}
use Rattle.step_lines.specs.StepLines.{dashes_at, tail_lines}
use Rattle.step_lines.specs.declared.StepLine.{StepLine}
use Rattle.step_lines.specs.Contract.{Next}
use Rattle.entries.specs.Entries.{Holds}
use Rattle.entries.proofs.Walking.{no-more-items}
use Rattle.item.specs.declared.Item.{Item}
use Rattle.item.proofs.Runs.{sets-append}
use Rattle.nodes.specs.declared.output.RecordWriter.{RecordWriter}
use Rattle.nodes.specs.Writing.{Writes, Opens, Closes}
use Rattle.nodes.specs.Contract.{IsItem, WrotePart}
use Rattle.nodes.proofs.Items.{ItemTurn}
use Rattle.nodes.proofs.Writing.{writes_is, writes_more, writes_none, writes_item}
use Rattle.scenario.specs.Scenario.{lines_for}
use Rattle.scenario.specs.Contract.{Numbered, WroteSteps}

-- ---- what a step adds

one_more : (x : Answer (List Step)) (got : List Step) (s : Step) → (x >>= (λ ss. good (s ∷ ss)) >>= (λ ss. good (got ++ ss))) ≡ (x >>= λ ss. good ((got ++ (s ∷ [])) ++ ss))
unfolding ◌>>=◌
one_more (good ss) got s = ap good (sym (append_assoc got (s ∷ []) ss))
one_more (refused k l n) got s = refl

joined-more : (got : List Step) (s : Step) → joined (map step_item got) ++ step_item s ≡ joined (map step_item (got ++ (s ∷ [])))
joined-more got s = sym (ap joined (map-append step_item got (s ∷ [])) ∙ joined-last (map step_item got) (step_item s))

numbered-nothing : {places : List ℕ} → Numbered places places [] 0
numbered-nothing = record { many = refl; stored = λ h. refl; kept = refl }

numbered_is : {old new a b : List ℕ} {count : ℕ} → a ≡ b → Numbered old new a count → Numbered old new b count
numbered_is e k = rw (← e) k

one-more-number : {places filled lines told : List ℕ} {count : ℕ} (n : ℕ) → Numbered places filled told count → (count < length filled → lines ≡ set filled count n) → length lines ≡ length filled
    → Numbered places lines (told ++ (n ∷ [])) (count + 1)
one-more-number {places} {filled} {lines} {told} {count} n k put kept = record {
  many = omega (arith, k.many, length-append told (n ∷ []));
  stored = λ h.
      put (omega (arith, k.kept))
      ∙ ap (λ (l : List ℕ). set l count n) (k.stored (omega arith))
      ∙ ap (λ (m : ℕ). set (sets places 0 told) m n) (let e : count ≡ 0 + length told = omega (arith, k.many) in e)
      ∙ sets-append told (n ∷ []) places 0;
  kept = kept ∙ k.kept;
}

-- ---- the steps so far, and those that are left

pub record Walked (s : List ℕ) (to at : ℕ) (ys : Items) (first dashes : List ℕ) (old new : RecordWriter) (places filled : List ℕ) (steps : ℕ) : Type 0 where
  pub got : List Step
  pub told : List ℕ
  pub rest : Items
  pub holds : Holds s at to rest
  pub same : steps_from 1 first ys ≡ (steps_from (suc steps) dashes rest >>= λ ss. good (got ++ ss))
  pub writes : Writes old new (joined (map step_item got))
  pub numbered : Numbered places filled told steps
  pub lined : (ss : List Step) → lines_for (got ++ ss) first ≡ told ++ lines_for ss dashes
  pub many : steps ≡ length got

itself : (x : Answer (List Step)) → x ≡ (x >>= λ ss. good ss)
unfolding ◌>>=◌
itself (good ss) = refl
itself (refused k l n) = refl

pub walk_start : {s places first dashes : List ℕ} {to at : ℕ} {w : RecordWriter} (ys : Items) → w.end ≤ 2 ^ 64 - 1 → first ≡ dashes → Holds s at to ys → Walked s to at ys first dashes w w places places 0
unfolding joined
walk_start {first = first} ys small e h = record {
  got = [];
  told = [];
  rest = ys;
  holds = h;
  same = itself (steps_from 1 first ys) ∙ ap (λ (l : List ℕ). steps_from 1 l ys >>= λ ss. good ss) e;
  writes = writes_none small;
  numbered = numbered-nothing;
  lined = λ ss. ap (lines_for ss) e;
  many = refl;
}

module _ {s first places filled : List ℕ} {old mid : RecordWriter} {to at steps count indent d : ℕ} {i : Item} {ys : Items} {ls : List Line} {l : StepLine}
    (k : Walked s to at ys first (dashes_at indent (drop d ls)) old mid places filled steps) (n : Next ls count indent d l) (t : ItemTurn s at to k.rest i) where
  abbrev dashes : List ℕ
  dashes = dashes_at indent (drop d ls)

  abbrev y : Yaml
  y = t.first.y

  abbrev others : Items
  others = t.first.others

  -- what the rest of the steps makes of this one
  abbrev behind : Answer Step → Answer (List Step)
  behind a = a >>= (λ x. steps_from (suc (suc steps)) (tail_lines dashes) others >>= λ ss. good (x ∷ ss)) >>= (λ ss. good (k.got ++ ss))

  turn : steps_from 1 first ys ≡ behind (step_at l.line (steps + 1) y)
  unfolding steps_from
  turn =
      k.same
      ∙ ap (λ (zs : Items). steps_from (suc steps) dashes zs >>= λ ss. good (k.got ++ ss)) t.first.is
      ∙ ap (λ (h : ℕ). behind (step_at h (suc steps) y)) (sym n.is)
      ∙ ap (λ (h : ℕ). behind (step_at l.line h y)) (omega arith)

  pub walk_refused : (z : Refusal) → ((y : Yaml) → Ranged y → IsItem s y i → step_at l.line (steps + 1) y ≡ refusal z) → steps_from 1 first ys ≡ refusal z
  unfolding ◌>>=◌
  walk_refused z promise = turn ∙ ap behind (promise y t.first.ranged t.item_is)

  pub walk-on : {new : RecordWriter} {lines : List ℕ} → ((y : Yaml) → Ranged y → IsItem s y i → WrotePart (step_at l.line (steps + 1) y) step_item mid new)
      → (steps < length filled → lines ≡ set filled steps l.line) → length lines ≡ length filled
      → Walked s to i.to ys first (dashes_at indent (drop l.next ls)) old new places lines (steps + 1)
  unfolding ◌>>=◌ lines_for
  walk-on promise put kept =
      let w = promise y t.first.ranged t.item_is in
      record {
        got = k.got ++ (w.read ∷ []);
        told = k.told ++ (l.line ∷ []);
        rest = others;
        holds = t.behind;
        same =
            turn
            ∙ ap behind w.is
            ∙ one_more (steps_from (suc (suc steps)) (tail_lines dashes) others) k.got w.read
            ∙ ap (λ (z : List ℕ). steps_from (suc (suc steps)) z others >>= λ ss. good ((k.got ++ (w.read ∷ [])) ++ ss)) (sym n.others)
            ∙ ap (λ (j : ℕ). steps_from (suc j) (dashes_at indent (drop l.next ls)) others >>= λ ss. good ((k.got ++ (w.read ∷ [])) ++ ss)) (let u : suc steps ≡ steps + 1 = omega arith in u);
        writes = writes_is (joined-more k.got w.read) (writes_more k.writes w.writes);
        numbered = one-more-number l.line k.numbered put kept;
        lined = λ ss.
            ap (λ (z : List Step). lines_for z first) (append_assoc k.got (w.read ∷ []) ss)
            ∙ k.lined (w.read ∷ ss)
            ∙ ap (λ (h : ℕ). k.told ++ (h ∷ lines_for ss (tail_lines dashes))) (sym n.is)
            ∙ ap (λ (z : List ℕ). k.told ++ (l.line ∷ lines_for ss z)) (sym n.others)
            ∙ sym (append_assoc k.told (l.line ∷ []) (lines_for ss (dashes_at indent (drop l.next ls))));
        many = omega (arith, k.many, length-append k.got (w.read ∷ []));
      }

pub walk-done : {s first dashes places filled : List ℕ} {a old mid new : RecordWriter} {header to at steps : ℕ} {ys : Items} → to ≤ at → Opens a old header
    → Walked s to at ys first dashes old mid places filled steps → Closes mid new header 18
    → WroteSteps (steps_from 1 first ys) steps_item (λ ss. ss) first a new places filled steps
unfolding steps_from steps_item lines_for ◌>>=◌
walk-done {first = first} {dashes = dashes} {steps = steps} m o k c = record {
  read = k.got;
  is = k.same ∙ ap (λ (zs : Items). steps_from (suc steps) dashes zs >>= λ ss. good (k.got ++ ss)) (no-more-items k.rest m k.holds) ∙ ap good (append-nil k.got);
  writes = writes_item o k.writes c;
  lined = numbered_is (sym (ap (λ (z : List Step). lines_for z first) (sym (append-nil k.got)) ∙ k.lined [] ∙ append-nil k.told)) k.numbered;
  many = k.many;
}
