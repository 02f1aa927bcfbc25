-- From what the jobs promise to what the demands say. Assumes nothing.
use Rattle.std.proofs.Common.{◌≡◌, refl, sym, ap, arith, ◌≤◌, ◌∙◌, subst, ℕ, List, Bool, true, false, inl, inr, length, take, length-take-le, eq-eqb}
use Rattle.std.proofs.lemmas.Bool.{false≢true}
use Rattle.refusal.specs.Base.{Answer, good, refused, same}
use Rattle.refusal.specs.Told.{told, told_of, refusal}
use Rattle.refusal.specs.declared.Told.{Told}
use Rattle.refusal.specs.declared.Refusal.{Refusal}
use Rattle.refusal.proofs.Tools.{good-inj, refused≢good}
use Rattle.item.specs.Tree.{Yaml}
use Rattle.item.proofs.Same.{same_refl, same-eq}
use Rattle.tree.specs.Tree.{tree, size_of, left}
use Rattle.tree.specs.Tree.{answer_of as tree_answer}
use Rattle.tree.specs.declared.TreeAnswer.{TreeAnswer}
use Rattle.tree.specs.declared.TreeAnswer.TheVariants.{Read as TreeRead, Refused as TreeRefused}
use Rattle.tree.proofs.ReadTree as ReadTree
use Rattle.meaning.specs.Meaning.{Meaning}
use Rattle.meaning.specs.Rules.{IsRecord}
use Rattle.record.specs.Jobs.{Found}
use Rattle.scenario.specs.Scenario.{scenario_of, answer_of, sizes_of, output, tree_bytes, record_bytes, step_numbers}
use Rattle.scenario.specs.Told.{text_meaning, ScenarioTold, ScenarioLeft, ScenarioEnds}
use Rattle.scenario.specs.declared.ScenarioAnswer.{ScenarioAnswer}
use Rattle.scenario.specs.declared.ScenarioAnswer.TheVariants.{Read, Refused}
use Rattle.scenario.proofs.Demand.{accepted-record, same-records}
use Rattle.scenario.proofs.Lent.{Lacks, accepted-reading, accepted-meaning, refused-itself}
use Rattle.scenario.proofs.ReadScenario.{ends, told-check}
use Rattle.demands.specs.Contract.{IsRead}
use Rattle.meaning.specs.Record.{record_of}
use Rattle.demands.specs.declared.Compared.TheVariants.{Same, Different}
use Rattle.demands.specs.Demands.{TreeLeft, TreeEnds, lacks, TellsRefusal, Compares, good_with, is_good, nth, ItemShown, TextItem}

-- ---- a tree

module _ (text work new : List ℕ) where
  pub tree_told : (r : TreeAnswer) → tree_answer r ≡ size_of (tree (length work) text) → new ≡ left (tree (length work) text) work → TreeEnds text work new r
  unfolding size_of left
  tree_told (TreeRead n) p q =
      let t = ReadTree.told text work new (TreeRead n) n (record { answer = p; bytes = q }) refl in
      record { read = t.read; is = t.is; size = t.size; fits = t.room; written = t.written; kept = t.kept }
  tree_told (TreeRefused e) p q = go (tree (length work) text) refl
    where
      go : (x : Answer Yaml) → tree (length work) text ≡ x → TreeLeft text work new e
      go (good y) t = refused≢good _ _ _ _ (p ∙ ap size_of t)
      go (refused k i s) t =
          let r = p ∙ ap size_of t in
          let x : (told_of e).number ≡ k = cc in
          let y : (told_of e).line ≡ i = cc in
          let z : (told_of e).step ≡ s = cc in
          record { is = t ∙ rw (x, y, z); zeros = q ∙ ap (λ (a : Answer Yaml). left a work) t }

-- ---- a scenario

pub scenario_told : (text work room places : List ℕ) {tree bytes lines : List ℕ} (r : ScenarioAnswer) → answer_of r ≡ sizes_of (scenario_of work room places text)
    → tree ≡ output tree_bytes (scenario_of work room places text) work → bytes ≡ output record_bytes (scenario_of work room places text) room
    → lines ≡ output step_numbers (scenario_of work room places text) places → ScenarioEnds text work tree room bytes places lines r
scenario_told text work room places r a t b l = ends text work _ room _ places _ r (record { answer = a; tree_left = t; record_left = b; lines_left = l })

-- of what `read_scenario` ensures, clause by clause
module _ (text work room places : List ℕ) {tree bytes lines : List ℕ} {r : ScenarioAnswer} (p : record {
  answer : answer_of r ≡ sizes_of (scenario_of work room places text);
  tree : tree ≡ output tree_bytes (scenario_of work room places text) work;
  bytes : bytes ≡ output record_bytes (scenario_of work room places text) room;
  numbers : lines ≡ output step_numbers (scenario_of work room places text) places;
}) where
  module _ {e : Refusal} (is : r ≡ Refused e) where
    abbrev left-by : ScenarioLeft text work tree room bytes places lines e
    left-by = subst (ScenarioEnds text work tree room bytes places lines) is (scenario_told text work room places r p.answer p.tree p.bytes p.numbers)

    pub refused-record : scenario_of work room places text ≡ refusal e
    refused-record = left-by.is

    pub tells-refusal : {t : Told} → t ≡ told_of e → TellsRefusal (scenario_of work room places text) work tree room bytes places lines t
    tells-refusal q = rw left-by.is (q, left-by.tree_zeros, left-by.record_zeros, left-by.lines_zeros)

  module _ {t b l n : ℕ} (is : r ≡ Read t b l n) where
    abbrev told-by : ScenarioTold text work tree room bytes places lines t b l n
    told-by = subst (ScenarioEnds text work tree room bytes places lines) is (scenario_told text work room places r p.answer p.tree p.bytes p.numbers)

    pub own-record : IsRead text work room places (take b bytes)
    own-record = record { read = told-by.read; is = told-by.is; bytes = told-by.record_is }

    pub tells-nothing : {t : Told} → t.number ≡ 0 → t.line ≡ 0 → t.step ≡ 0 → TellsRefusal (scenario_of work room places text) work tree room bytes places lines t
    tells-nothing {t} n l s =
        let e : told t.number t.line t.step ≡ told 0 0 0 = rw (n, l, s) refl in
        rw told-by.is e

    pub record-fits : length bytes ≡ length room → b ≤ length bytes
    record-fits h = omega (arith, told-by.record_fits, h)

    pub record-long : length bytes ≡ length room → b ≡ length (take b bytes)
    record-long h = sym (length-take-le b bytes (record-fits h))

    pub told-good : is_good (take b bytes) n ≡ true
    unfolding is_good good_with
    told-good = rw (told-check told-by) (eq-eqb n n refl)

-- ---- the records of texts

module _ {text work room places b : List ℕ} (g : IsRead text work room places b) where
  own-meaning : text_meaning text ≡ good g.read.meaning
  own-meaning = accepted-meaning (length work) (length room) (length places) text g.read g.is

  -- two texts
  module _ {text' work' room' places' b' : List ℕ} (g' : IsRead text' work' room' places' b') where
    alike : (record_of g.read.meaning ≡ record_of g'.read.meaning → g.read.meaning ≡ g'.read.meaning) × (g.read.meaning ≡ g'.read.meaning → record_of g.read.meaning ≡ record_of g'.read.meaning)
    alike = same-records (length work) (length room) (length places) text g.read g.is (length work') (length room') (length places') text' g'.read g'.is

    other-meaning : text_meaning text' ≡ good g'.read.meaning
    other-meaning = accepted-meaning (length work') (length room') (length places') text' g'.read g'.is

    pub compared_same : same b b' ≡ true → Compares (scenario_of work room places text) (scenario_of work' room' places' text') text text' Same
    compared_same e =
        ((g.read, g.is), (g'.read, g'.is), own-meaning ∙ ap good (alike.0 (sym g.bytes ∙ same-eq _ _ e ∙ g'.bytes)) ∙ sym other-meaning)

    pub alike-bytes : text_meaning text ≡ text_meaning text' → same b b' ≡ true
    alike-bytes m =
        let q = g.bytes ∙ alike.1 (good-inj _ _ (sym own-meaning ∙ m ∙ other-meaning)) ∙ sym g'.bytes in
        ap (λ (x : List ℕ). same x b') q ∙ same_refl b'

    pub compared-different : same b b' ≡ false → Compares (scenario_of work room places text) (scenario_of work' room' places' text') text text' Different
    compared-different e = ((g.read, g.is), (g'.read, g'.is), λ m. false≢true (sym e ∙ alike-bytes m))

  -- one text, with two lendings: a refusal that does not say that too little was lent would be the text's own
  pub only-lacks : (work' room' places' : List ℕ) (e : Refusal) → scenario_of work' room' places' text ≡ refusal e → lacks (told_of e).number ≡ true
  unfolding lacks
  only-lacks work' room' places' e w = go (lacks (told_of e).number) refl
    where
      lacking : (k : ℕ) → Lacks k → lacks k ≡ true
      lacking k (inl q) = rw q
      lacking k (inr (inl q)) = rw q
      lacking k (inr (inr q)) = rw q

      go : (x : Bool) → lacks (told_of e).number ≡ x → x ≡ true
      go true q = refl
      go false q = refused≢good g.read _ _ _
          (sym (refused-itself (length work') (length room') (length places') text _ _ _ w (λ k. false≢true (sym q ∙ lacking _ k)))
          ∙ accepted-reading (length work) (length room) (length places) text g.read g.is)

  pub text_item : {lookup : List ℕ → ℕ → Answer Found} {items : Meaning → List (List ℕ)} {number : ℕ} {found : List ℕ} → ItemShown lookup items b number found
      → TextItem items (scenario_of work room places text) text number found
  text_item {items = items} {number = number} f = record {
    item = λ m _ q. f.item g.read.meaning its-record ∙ ap (λ (k : Meaning). nth (items k) number) (good-inj _ _ (sym own-meaning ∙ q));
    nothing = λ no. absurd (no (g.read, g.is));
  }
    where
      its-record : IsRecord b g.read.meaning
      its-record = rw g.bytes (accepted-record (length work) (length room) (length places) text g.read g.is)

pub ruleset one_text = (only-lacks, alike-bytes)
