-- What each step of reading a scenario comes to. Assumes nothing.
use Rattle.std.proofs.Common.{◌≡◌, refl, sym, ap, ◌∙◌, ℕ, ◌+◌, ◌*◌, ◌≤◌, ◌<◌, min, ◌^◌, arith, List, ◌++◌, append_assoc, length, take, drop, replicate, Ok, length-append, length-drop, take-append-drop, length-take-le, le-leb}
use Rattle.std.proofs.Math.Seq.{length_front}
use Rattle.std.proofs.lemmas.List.Edits.{sets, sets-eq}
use Rattle.std.proofs.lemmas.List.{drop-append-le}
use Rattle.std.proofs.lemmas.Bool.{lt-leb}
use Rattle.refusal.specs.Base.{Answer, good, refused, ◌>>=◌, ◌>>◌, ensure}
use Rattle.refusal.specs.Told.{told_of, refusal}
use Rattle.refusal.proofs.Tools.{bound, refused-as}
use Rattle.refusal.specs.declared.Refusal.{Refusal}
use Rattle.item.specs.Tree.{Yaml, Ranged}
use Rattle.item.specs.Encode.{encode}
use Rattle.lines.specs.Lines.{Line, significant_lines}
use Rattle.lines.specs.declared.Row.{Row}
use Rattle.step_lines.specs.StepLines.{step_lines}
use Rattle.entries.specs.Entries.{Stands}
use Rattle.meaning.specs.Meanings.{meaning_of}
use Rattle.meaning.specs.Meaning.{Meaning, Step}
use Rattle.meaning.specs.Record.{record_of}
use Rattle.tree.specs.Tree.{admitted, tree_of, tree}
use Rattle.tree.specs.Contract.{WroteTree, WroteLined}
use Rattle.tree.proofs.Sound.{tree-integers}
use Rattle.nodes.specs.declared.output.RecordWriter.{RecordWriter}
use Rattle.scenario.specs.declared.Sizes.{Sizes}
use Rattle.scenario.specs.declared.ScenarioAnswer.{ScenarioAnswer}
use Rattle.scenario.specs.declared.ScenarioAnswer.TheVariants.{Read, Refused as Unread}
use Rattle.scenario.specs.Scenario.{Reading, lines_for, reading_of, scenario, output, tree_bytes, record_bytes, step_numbers, answer_of, sizes_of}
use Rattle.scenario.specs.Contract.{WroteSteps, WroteScenario, AgreesScenario}

-- what holds of any tree in range that stands in the work holds of the one that was read
module _ {text old new : List ℕ} {rows : List Row} {bytes : ℕ} (w : WroteLined (tree (length old) text) text rows old new bytes) where
  abbrev whole : List ℕ
  whole = encode w.wrote.tree

  fits : length whole ≤ length old
  fits = omega (arith, w.wrote.size, w.wrote.fits)

  stands : Stands new 0 whole
  stands =
      let here : new ≡ whole ++ drop (0 + length whole) old = w.wrote.stored ∙ sets-eq whole old 0 (omega (arith, fits)) in
      record {
        rest = drop (0 + length whole) old;
        here = here;
        within = omega (arith, fits, ap length here ∙ length-append whole (drop (0 + length whole) old), length-drop (0 + length whole) old);
      }

  pub of_tree : {P : Yaml → Type 0} → ((y : Yaml) → Ranged y → Stands new 0 (encode y) → P y) → P w.wrote.tree
  of_tree f = f w.wrote.tree (tree-integers (length old) text w.wrote.tree w.wrote.is) stands

good≢refused : {A X : Type 0} (a : A) (k l s : ℕ) → good a ≡ refused k l s → X
good≢refused a k l s e = absurd (let z : ◌≡◌ {A = ℕ} 0 1 = cc in omega arith)

-- what refuses a tree refuses what is made of it
untree : {A B C : Type 0} (a : Answer (Unit {0})) (b : Answer A) (f : A → Answer B) (g : A → B → Answer C) (k l s : ℕ)
    → (a >> (b >>= f)) ≡ refused k l s → (a >> (b >>= λ x. f x >>= g x)) ≡ refused k l s
unfolding ◌>>◌ ◌>>=◌
untree (refused n i t) b f g k l s e = refused-as e
untree (good u) (refused n i t) f g k l s e = refused-as e
untree {B = B} (good u) (good x) f g k l s e = go (f x) e
  where
    go : (c : Answer B) → c ≡ refused k l s → (c >>= g x) ≡ refused k l s
    go (refused n i t) p = refused-as p
    go (good y) p = good≢refused y k l s p

module _ (work room places : ℕ) (text : List ℕ) where
  abbrev it : Answer Reading
  it = scenario work room places text

  unread : (k l s : ℕ) → reading_of work text ≡ refused k l s → it ≡ refused k l s
  unfolding scenario ◌>>=◌
  unread k l s e = rw e

  pub scenario-untree : (z : Refusal) → tree work text ≡ refusal z → it ≡ refusal z
  unfolding tree reading_of
  scenario-untree z e =
      unread (told_of z).number (told_of z).line (told_of z).step
      (untree (admitted text) (significant_lines text) (tree_of (min work (2 ^ 20)))
      (λ ls y. meaning_of (step_lines ls) y >>= λ m. good (record { tree = y; meaning = m; lines = lines_for m.steps (step_lines ls) }))
      (told_of z).number (told_of z).line (told_of z).step e)

  module _ (ls : List Line) (y : Yaml) (l : significant_lines text ≡ good ls) (t : tree work text ≡ good y) where
    reading-by : (u : Unit {0}) → admitted text ≡ good u → tree_of (min work (2 ^ 20)) ls ≡ good y
        → reading_of work text ≡ (meaning_of (step_lines ls) y >>= λ m. good (record { tree = y; meaning = m; lines = lines_for m.steps (step_lines ls) }))
    unfolding reading_of ◌>>◌ ◌>>=◌
    reading-by u a q = rw (a, l, q)

    reading-is : reading_of work text ≡ (meaning_of (step_lines ls) y >>= λ m. good (record { tree = y; meaning = m; lines = lines_for m.steps (step_lines ls) }))
    unfolding tree ◌>>◌ tree_of ◌>>=◌
    reading-is = bound (admitted text) _ y t λ u a p. reading-by u a (sym (ap (λ (b : Answer (List Line)). b >>= tree_of (min work (2 ^ 20))) l) ∙ p)

    pub scenario-unread : (z : Refusal) → meaning_of (step_lines ls) y ≡ refusal z → it ≡ refusal z
    unfolding ◌>>=◌
    scenario-unread z e = unread (told_of z).number (told_of z).line (told_of z).step (reading-is ∙ rw e)

    module _ (m : Meaning) (e : meaning_of (step_lines ls) y ≡ good m) where
      abbrev made : Reading
      made = record { tree = y; meaning = m; lines = lines_for m.steps (step_lines ls) }

      made-is : reading_of work text ≡ good made
      unfolding ◌>>=◌
      made-is = reading-is ∙ rw e

      pub scenario-few : places ≤ 2 ^ 18 → places < length m.steps → it ≡ refused 51 0 0
      unfolding scenario ◌>>=◌ ◌>>◌ ensure
      scenario-few p h = let k : min places (2 ^ 18) ≡ places = omega arith in rw (made-is, k, lt-leb (length m.steps) places h)

      module _ (p : places ≤ 2 ^ 18) (h : length m.steps ≤ places) (r : room ≤ 2 ^ 20) where
        pub scenario-long : room < length (record_of m) → it ≡ refused 52 0 0
        unfolding scenario ◌>>=◌ ◌>>◌ ensure
        scenario-long q =
            let k : min places (2 ^ 18) ≡ places = omega arith in
            let j : min room (2 ^ 20) ≡ room = omega arith in
            rw (made-is, k, le-leb (length m.steps) places h, j, lt-leb (length (record_of m)) room q)

        pub scenario-read : length (record_of m) ≤ room → it ≡ good made
        unfolding scenario ◌>>=◌ ◌>>◌ ensure
        scenario-read q =
            let k : min places (2 ^ 18) ≡ places = omega arith in
            let j : min room (2 ^ 20) ≡ room = omega arith in
            rw (made-is, k, le-leb (length m.steps) places h, j, le-leb (length (record_of m)) room q)

-- a record written from the front, as long as the writer counted
record-long : {A : Type 0} {answer : Answer A} {write : A → List ℕ} {steps : A → List Step} {ls places filled : List ℕ} {old new : RecordWriter} {count : ℕ} (v : WroteSteps answer write steps ls old new places filled count)
    → old.end ≡ 0 → new.end ≤ length old.out.now → new.end ≡ length (write v.read)
record-long {old = old} v z h = omega (arith, v.writes.ends, old.counted)

-- a reading whose outputs all fit
wrote-whole : (text work tree' places lines : List ℕ) (old new : RecordWriter) (ls : List Line) (t n : ℕ) (answer : Answer Yaml) (w : WroteTree answer work tree' t)
    → answer ≡ tree (length work) text → significant_lines text ≡ good ls → length places ≤ 2 ^ 18 → old.end ≡ 0
    → (v : WroteSteps (meaning_of (step_lines ls) w.tree) record_of (λ m. m.steps) (step_lines ls) old new places lines n) → n ≤ length places → new.end ≤ length old.out.now
    → WroteScenario (scenario (length work) (length old.out.now) (length places) text) work tree' old.out.now new.out.now places lines t new.end (4 * n) n
wrote-whole text work tree' places lines old new ls t n answer w a l p z v h k =
    let size : new.end ≡ length (record_of v.read) = record-long v z k in
    record {
      read = record { tree = w.tree; meaning = v.read; lines = lines_for v.read.steps (step_lines ls) };
      is = scenario-read (length work) (length old.out.now) (length places) text ls w.tree l (sym a ∙ w.is) v.read v.is p (omega (arith, v.many)) old.counted (omega arith);
      tree_stored = w.stored;
      tree_size = w.size;
      tree_fits = w.fits;
      record_stored = v.writes.stored (omega (arith, size, z)) ∙ ap (λ (i : ℕ). sets old.out.now i (record_of v.read)) z;
      record_size = size;
      record_fits = k;
      lines_stored = v.lined.stored h;
      lines_many = v.lined.many;
      steps_many = v.many;
      lines_fit = h;
      lines_size = refl;
    }

pub wrote-all : (text work tree' room bytes places lines : List ℕ) (old new : RecordWriter) (ls : List Line) (t n : ℕ) (answer : Answer Yaml) (w : WroteTree answer work tree' t)
    → answer ≡ tree (length work) text → significant_lines text ≡ good ls → length places ≤ 2 ^ 18 → old.end ≡ 0 → old.out.now ≡ room → new.out.now ≡ bytes
    → (v : WroteSteps (meaning_of (step_lines ls) w.tree) record_of (λ m. m.steps) (step_lines ls) old new places lines n) → n ≤ length places → new.end ≤ length room
    → WroteScenario (scenario (length work) (length room) (length places) text) work tree' room bytes places lines t new.end (4 * n) n
wrote-all text work tree' room bytes places lines old new ls t n answer w a l p z o b v h k =
    rw (← o, ← b) (wrote-whole text work tree' places lines old new ls t n answer w a l p z v h (omega (arith, k, ap length o)))

-- ---- the lent outputs, of which the first places count

-- what counts of each is lent
pub same-lent : (text work room places : List ℕ) (w r p : ℕ) → w ≡ min (length work) (2 ^ 20) → r ≡ min (length room) (2 ^ 20) → p ≡ min (length places) (2 ^ 18)
    → scenario (length (take w work)) (length (take r room)) (length (take p places)) text ≡ scenario (length work) (length room) (length places) text
unfolding scenario reading_of
same-lent text work room places w r p a b c =
    let i : min (length (take w work)) (2 ^ 20) ≡ min (length work) (2 ^ 20) = omega (arith, length-take-le w work (omega arith)) in
    let j : min (length (take r room)) (2 ^ 20) ≡ min (length room) (2 ^ 20) = omega (arith, length-take-le r room (omega arith)) in
    let k : min (length (take p places)) (2 ^ 18) ≡ min (length places) (2 ^ 18) = omega (arith, length-take-le p places (omega arith)) in
    rw (i, j, k)

-- an output whose first places were lent, written from the front
pub output-is : (old b : List ℕ) (n : ℕ) → n ≤ length old → length b ≤ n → sets (take n old) 0 b ++ drop n old ≡ b ++ drop (length b) old
output-is old b n h f =
    let long : length (take n old) ≡ n = length-take-le n old h in
    let zero : 0 + length b ≡ length b = omega arith in
    let one : sets (take n old) 0 b ≡ b ++ drop (length b) (take n old) = sets-eq b (take n old) 0 (omega arith) ∙ ap (λ (k : ℕ). b ++ drop k (take n old)) zero in
    let rest : drop (length b) (take n old) ++ drop n old ≡ drop (length b) old =
    sym (drop-append-le (length b) (take n old) (drop n old) (omega arith)) ∙ ap (drop (length b)) (take-append-drop n old) in
    ap (λ (l : List ℕ). l ++ drop n old) one ∙ append_assoc b (drop (length b) (take n old)) (drop n old) ∙ ap (λ (l : List ℕ). b ++ l) rest

-- what is said of all that was lent: the answer, and each output as it is left
pub record LentTold (x : Answer Reading) (work tree' room bytes places lines : List ℕ) (w r p : ℕ) (told : ScenarioAnswer) : Type 0 where
  pub answer : answer_of told ≡ sizes_of x
  pub tree_left : tree' ++ drop w work ≡ output tree_bytes x work
  pub record_left : bytes ++ drop r room ≡ output record_bytes x room
  pub lines_left : lines ++ drop p places ≡ output step_numbers x places

pub lent-read : (text work tree' room bytes places lines : List ℕ) (w r p : ℕ) → w ≡ min (length work) (2 ^ 20) → r ≡ min (length room) (2 ^ 20) → p ≡ min (length places) (2 ^ 18)
    → (z : Sizes) → AgreesScenario (scenario (length (take w work)) (length (take r room)) (length (take p places)) text) (take w work) tree' (take r room) bytes (take p places) lines (Ok z)
    → LentTold (scenario (length work) (length room) (length places) text) work tree' room bytes places lines w r p (Read z.tree_bytes z.record_bytes z.line_bytes z.steps)
unfolding sizes_of output tree_bytes record_bytes step_numbers
lent-read text work tree' room bytes places lines w r p i j k z got =
    let is = sym (same-lent text work room places w r p i j k) ∙ got.is in
    let hw : w ≤ length work = omega (arith, i) in
    let hr : r ≤ length room = omega (arith, j) in
    let hp : p ≤ length places = omega (arith, k) in
    record {
      answer = rw (is, got.lines_size, got.tree_size, got.record_size)
          (ap (λ (k : ℕ). good (length (encode got.read.tree), length (record_of got.read.meaning), 4 * k, z.steps)) got.lines_many
          ∙ ap (λ (k : ℕ). good (length (encode got.read.tree), length (record_of got.read.meaning), 4 * length got.read.lines, k)) got.steps_many);
      tree_left = rw is (ap (λ (b : List ℕ). b ++ drop w work) got.tree_stored ∙ output-is work (encode got.read.tree) w hw (omega (arith, got.tree_size, got.tree_fits, length-take-le w work hw)));
      record_left = rw is (ap (λ (b : List ℕ). b ++ drop r room) got.record_stored ∙ output-is room (record_of got.read.meaning) r hr (omega (arith, got.record_size, got.record_fits, length-take-le r room hr)));
      lines_left = rw is (ap (λ (b : List ℕ). b ++ drop p places) got.lines_stored ∙ output-is places got.read.lines p hp (omega (arith, got.lines_many, got.lines_fit, length-take-le p places hp)));
    }

module _ (x : Answer Reading) (z : Refusal) (s : x ≡ refusal z) where
  pub refused_told : answer_of (Unread z) ≡ sizes_of x
  unfolding sizes_of
  refused_told = rw s

  pub zeros-out : (write : Reading → List ℕ) (old new : List ℕ) (n : ℕ) → length new ≡ length (take n old) → replicate (length (new ++ drop n old)) 0 ≡ output write x old
  unfolding output
  zeros-out write old new n h = rw (s, length_front old new n h)
