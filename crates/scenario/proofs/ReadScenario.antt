-- What follows from the contract of `read_scenario` for whoever calls it, for all that was lent and whatever it held before. Assumes nothing.
use Rattle.std.proofs.Common.{◌≡◌, refl, sym, ap, ◌∙◌, ℕ, ◌*◌, ◌≤◌, arith, List, length, take, drop, take_at, drop_at}
use Rattle.std.proofs.Math.Option.{some}
use Rattle.refusal.specs.Base.{Answer, good, refused}
use Rattle.refusal.specs.Told.{told_of}
use Rattle.refusal.specs.declared.Refusal.{Refusal}
use Rattle.refusal.proofs.Tools.{good-inj, refused≢good}
use Rattle.item.specs.Encode.{encode}
use Rattle.meaning.specs.Record.{record_of}
use Rattle.record.specs.Read.{fields_in}
use Rattle.record.specs.Jobs.{check_record}
use Rattle.scenario.specs.declared.ScenarioAnswer.{ScenarioAnswer}
use Rattle.scenario.specs.declared.ScenarioAnswer.TheVariants.{Read, Refused as Unread}
use Rattle.scenario.specs.Scenario.{Reading, scenario_of, output, tree_bytes, record_bytes, step_numbers, answer_of, sizes_of}
use Rattle.scenario.specs.Told.{ScenarioTold, ScenarioLeft, ScenarioEnds}
use Rattle.scenario.proofs.Demand.{accepted-check, meaning-found, looked_up, same-records, lines-length}
use Rattle.scenario.proofs.Lent.{accepted-meaning, accepted-enough}

-- the four promises of a call: of the text, of each output before and behind it, and of its answer. The proofs of `demands` make one from
-- the contract
pub record Promised (text work tree room bytes places lines : List ℕ) (r : ScenarioAnswer) : Type 0 where
  pub answer : answer_of r ≡ sizes_of (scenario_of work room places text)
  pub tree_left : tree ≡ output tree_bytes (scenario_of work room places text) work
  pub record_left : bytes ≡ output record_bytes (scenario_of work room places text) room
  pub lines_left : lines ≡ output step_numbers (scenario_of work room places text) places

-- what an output holds of a reading, in front and behind
module _ (write : Reading → List ℕ) (m : Reading) (old new : List ℕ) (n : ℕ) (size : n ≡ length (write m)) (e : new ≡ output write (good m) old) where
  front : take n new ≡ write m
  unfolding output
  front = ap (take n) e ∙ take_at (write m) (drop (length (write m)) old) n (sym size)

  behind : drop n new ≡ drop n old
  unfolding output
  behind = ap (drop n) e ∙ drop_at (write m) (drop (length (write m)) old) n (sym size) ∙ ap (λ (k : ℕ). drop k old) (sym size)

module _ (text work tree room bytes places lines : List ℕ) where
  told_of_promised : (t b l n : ℕ) → Promised text work tree room bytes places lines (Read t b l n) → ScenarioTold text work tree room bytes places lines t b l n
  unfolding sizes_of tree_bytes record_bytes step_numbers
  told_of_promised t b l n p = go (scenario_of work room places text) refl
    where
      go : (x : Answer Reading) → scenario_of work room places text ≡ x → ScenarioTold text work tree room bytes places lines t b l n
      go (refused k i s) q = refused≢good (t, b, l, n) k i s (sym (p.answer ∙ ap sizes_of q))
      go (good m) q =
          let s = good-inj _ _ (p.answer ∙ ap sizes_of q) in
          let st : t ≡ length (encode m.tree) = ap (λ (x : ℕ × ℕ × ℕ × ℕ). x.0) s in
          let sb : b ≡ length (record_of m.meaning) = ap (λ (x : ℕ × ℕ × ℕ × ℕ). x.1) s in
          let sl : l ≡ 4 * length m.lines = ap (λ (x : ℕ × ℕ × ℕ × ℕ). x.2) s in
          let sn : n ≡ length m.meaning.steps = ap (λ (x : ℕ × ℕ × ℕ × ℕ). x.3) s in
          let many : length m.lines ≡ length m.meaning.steps = lines-length (length work) (length room) (length places) text m q in
          let f = accepted-enough (length work) (length room) (length places) text m q in
          let lt = p.tree_left ∙ ap (λ (x : Answer Reading). output tree_bytes x work) q in
          let lb = p.record_left ∙ ap (λ (x : Answer Reading). output record_bytes x room) q in
          let ll = p.lines_left ∙ ap (λ (x : Answer Reading). output step_numbers x places) q in
          record {
            read = m;
            is = q;
            meaning_is = accepted-meaning (length work) (length room) (length places) text m q;
            tree_size = st;
            tree_fits = omega (arith, f.tree);
            tree_is = front tree_bytes m work tree t st lt;
            tree_kept = behind tree_bytes m work tree t st lt;
            record_size = sb;
            record_fits = omega (arith, f.bytes);
            record_is = front record_bytes m room bytes b sb lb;
            record_kept = behind record_bytes m room bytes b sb lb;
            steps = sn;
            lines_fit = omega (arith, f.steps);
            lines_size = omega arith;
            lines_are = front step_numbers m places lines n (sn ∙ sym many) ll;
            lines_kept = behind step_numbers m places lines n (sn ∙ sym many) ll;
          }

  left-of : (e : Refusal) → Promised text work tree room bytes places lines (Unread e) → ScenarioLeft text work tree room bytes places lines e
  unfolding sizes_of output
  left-of e p = go (scenario_of work room places text) refl
    where
      go : (x : Answer Reading) → scenario_of work room places text ≡ x → ScenarioLeft text work tree room bytes places lines e
      go (good m) q = refused≢good _ _ _ _ (p.answer ∙ ap sizes_of q)
      go (refused k i s) q =
          let r = p.answer ∙ ap sizes_of q in
          let x : (told_of e).number ≡ k = cc in
          let y : (told_of e).line ≡ i = cc in
          let z : (told_of e).step ≡ s = cc in
          record {
            is = q ∙ rw (x, y, z);
            tree_zeros = p.tree_left ∙ ap (λ (x : Answer Reading). output tree_bytes x work) q;
            record_zeros = p.record_left ∙ ap (λ (x : Answer Reading). output record_bytes x room) q;
            lines_zeros = p.lines_left ∙ ap (λ (x : Answer Reading). output step_numbers x places) q;
          }

  -- every call ends in one of the two
  pub ends : (r : ScenarioAnswer) → Promised text work tree room bytes places lines r → ScenarioEnds text work tree room bytes places lines r
  ends (Read t b l n) p = told_of_promised t b l n p
  ends (Unread e) p = left-of e p

-- the sizes told lie within the outputs
pub sizes-fit : (text work room places : List ℕ) (r : ScenarioAnswer) (t b l n : ℕ) → r ≡ Read t b l n → answer_of r ≡ sizes_of (scenario_of work room places text) → (t ≤ length work) × (b ≤ length room) × (n ≤ length places)
unfolding sizes_of
sizes-fit text work room places r t b l n e p = go (scenario_of work room places text) refl
  where
    go : (x : Answer Reading) → scenario_of work room places text ≡ x → (t ≤ length work) × (b ≤ length room) × (n ≤ length places)
    go (refused k i s) q = refused≢good (t, b, l, n) k i s (sym (ap answer_of (sym e) ∙ p ∙ ap sizes_of q))
    go (good m) q =
        let s = good-inj _ _ (ap answer_of (sym e) ∙ p ∙ ap sizes_of q) in
        let f = accepted-enough (length work) (length room) (length places) text m q in (
          omega (arith, f.tree, ap (λ (x : ℕ × ℕ × ℕ × ℕ). x.0) s),
          omega (arith, f.bytes, ap (λ (x : ℕ × ℕ × ℕ × ℕ). x.1) s),
          omega (arith, f.steps, ap (λ (x : ℕ × ℕ × ℕ × ℕ). x.3) s),
        )

module _ {text work tree room bytes places lines : List ℕ} {t b l n : ℕ} (g : ScenarioTold text work tree room bytes places lines t b l n) where
  -- the check accepts the record of every accepted text, with the count of its steps: no made-up count
  pub told-check : check_record (take b bytes) ≡ good n
  told-check = ap check_record g.record_is ∙ accepted-check (length work) (length room) (length places) text g.read g.is ∙ ap good (sym g.steps)

  -- what the lookups by place and by number give of it, put together, is the text's meaning
  pub told-meaning : fields_in (looked_up (take b bytes) n) ≡ some g.read.meaning
  told-meaning =
      ap (λ (c : List ℕ). fields_in (looked_up c n)) g.record_is
      ∙ meaning-found (length work) (length room) (length places) text g.read g.is n (ap check_record (sym g.record_is) ∙ told-check)

-- two accepted texts, however written and whatever was lent: the same record exactly for equal meanings
module _ {text work tree room bytes places lines : List ℕ} {t b l n : ℕ} (g : ScenarioTold text work tree room bytes places lines t b l n)
    {text' work' tree' room' bytes' places' lines' : List ℕ} {t' b' l' n' : ℕ} (g' : ScenarioTold text' work' tree' room' bytes' places' lines' t' b' l' n') where
  alike : (record_of g.read.meaning ≡ record_of g'.read.meaning → g.read.meaning ≡ g'.read.meaning) × (g.read.meaning ≡ g'.read.meaning → record_of g.read.meaning ≡ record_of g'.read.meaning)
  alike =
      same-records (length work) (length room) (length places) text g.read g.is (length work') (length room') (length places') text' g'.read g'.is

  pub same-bytes-same-meaning : take b bytes ≡ take b' bytes' → g.read.meaning ≡ g'.read.meaning
  same-bytes-same-meaning e = alike.0 (sym g.record_is ∙ e ∙ g'.record_is)

  pub same-meaning-same-bytes : g.read.meaning ≡ g'.read.meaning → take b bytes ≡ take b' bytes'
  same-meaning-same-bytes e = g.record_is ∙ alike.1 e ∙ sym g'.record_is
