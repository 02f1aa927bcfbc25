-- The item behind others, found by the lengths in their headers, is the one that the definition names. Assumes nothing.
use Rattle.std.proofs.Common.{◌≡◌, refl, sym, ap, ◌∙◌, subst, ℕ, zero, suc, ◌+◌, ◌-◌, ◌^◌, ◌≤◌, ◌<◌, arith, List, [], ◌∷◌, ◌++◌, append_assoc, append-nil, map, length, take, drop, length-append, length-drop, drop_at, drop-drop, lt-ltb, le-ltb}
use Rattle.std.proofs.Math.Option.{Option, none, some}
use Rattle.refusal.specs.Base.{Answer, good, refused, ◌>>=◌, ◌>>◌, given, ensure, limit}
use Rattle.item.specs.Tree.{Yaml, str, seq}
use Rattle.item.specs.Encode.{head, item, encode, kind_of, Bytes}
use Rattle.item.proofs.Size.{head-length, item-length}
use Rattle.item.specs.Places.{header_at}
use Rattle.item.proofs.HeaderPlaces.{item-at}
use Rattle.std.specs.Prelude.{Ok}
use Rattle.meaning.specs.Meaning.{Step, Meaning}
use Rattle.meaning.specs.Record.{joined, text_item, step_item, defaults_item, tags_item, steps_item, fields, record_of}
use Rattle.meaning.specs.Rules.{Each, IsRecord}
use Rattle.record.specs.Read.{meaning_in}
use Rattle.record.specs.Jobs as job
use Rattle.record.specs.Jobs.{part, opened, check_record, part_at, numbered, steps_start}
use Rattle.record.specs.Contract.{span_of}
use Rattle.record.proofs.Exact.{meaning-exact}
use Rattle.entries.specs.Entries.{content, span_at, nth_item}
use Rattle.entries.proofs.Standing.{value-item, kind-small}
use Rattle.entries.proofs.Counting.{nth_on}

-- ---- items one behind another

-- a part that is one item
pub record OneItem (p : List ℕ) : Type 0 where
  pub kind : ℕ
  pub content : List ℕ
  pub small : kind < 256 ^ 2
  pub is : p ≡ item kind content

an_item : (k : ℕ) (c : List ℕ) → k < 256 ^ 2 → OneItem (item k c)
an_item k c h = record { kind = k; content = c; small = h; is = refl }

pub tree-item : (y : Yaml) → OneItem (encode y)
tree-item y = record { kind = kind_of y; content = content y; small = kind-small y; is = value-item y }

fields-items : (m : Meaning) → Each OneItem (fields m)
unfolding fields text_item tags_item defaults_item steps_item
fields-items m =
    (tree-item (str m.name), (tree-item (str m.description), (an_item 4 _ (omega arith), (tree-item (str m.image), (tree-item m.setup, (an_item 17 _ (omega arith), (tree-item (seq m.fail_on), (an_item 18 _ (omega arith), tt))))))))

steps-items : (ss : List Step) → Each OneItem (map step_item ss)
unfolding step_item
steps-items [] = tt
steps-items (s ∷ ss) = (an_item 19 _ (omega arith), steps-items ss)

pub length-steps : (ss : List Step) → length (map step_item ss) ≡ length ss
length-steps [] = refl
length-steps (s ∷ ss) = ap suc (length-steps ss)

module _ (s r : List ℕ) where
  -- what is left behind some of the parts
  pub skip-parts : (ps : List (List ℕ)) (i at : ℕ) → drop at s ≡ joined ps ++ r → drop (at + length (joined (take i ps))) s ≡ joined (drop i ps) ++ r
  unfolding joined
  skip-parts ps zero at e = let n : at + 0 ≡ at = omega arith in rw n e
  skip-parts [] (suc i) at e = let n : at + 0 ≡ at = omega arith in rw n e
  skip-parts (p ∷ ps) (suc i) at e =
      let n : at + length (p ++ joined (take i ps)) ≡ at + length p + length (joined (take i ps)) = omega (arith, length-append p (joined (take i ps))) in
      ap (λ (k : ℕ). drop k s) n
      ∙ skip-parts ps i (at + length p) (sym (drop-drop (length p) at s) ∙ ap (drop (length p)) (e ∙ append_assoc p (joined ps) r) ∙ drop_at p (joined ps ++ r) (length p) refl)

  pub nth-part : (ps : List (List ℕ)) → Each OneItem ps → length s ≤ limit → (i at : ℕ) → at ≤ length s → drop at s ≡ joined ps ++ r → i < length ps → span_of (nth_item s at i) ≡ good (part_at at ps i)
  unfolding joined part_at nth_item span_at
  nth-part [] g small i at h e n = absurd (omega arith)
  nth-part (p ∷ ps) g small i at h e n = go i n (λ j to. nth-part ps g.1 small j to)
    where
      o : OneItem p
      o = g.0

      long : length p ≡ 6 + length o.content
      long = ap length o.is ∙ item-length o.kind o.content

      size : length s - at ≡ length p + length (joined ps ++ r)
      size = sym (length-drop at s) ∙ ap length (e ∙ append_assoc p (joined ps) r) ∙ length-append p (joined ps ++ r)

      head-is : header_at s at ≡ Ok (record { kind = o.kind; from = at + 6; to = at + 6 + length o.content })
      head-is = item-at s at o.kind o.content (joined ps ++ r) o.small (omega (arith, long, size)) h (e ∙ append_assoc p (joined ps) r ∙ ap (λ (q : List ℕ). q ++ (joined ps ++ r)) o.is)

      next : drop (at + 6 + length o.content) s ≡ joined ps ++ r
      next =
          let n : at + 6 + length o.content ≡ at + length p = omega (arith, long) in
          ap (λ (k : ℕ). drop k s) n ∙ sym (drop-drop (length p) at s) ∙ ap (drop (length p)) (e ∙ append_assoc p (joined ps) r) ∙ drop_at p (joined ps ++ r) (length p) refl

      go : (i : ℕ) → i < suc (length ps)
          → ((j to : ℕ) → to ≤ length s → drop to s ≡ joined ps ++ r → j < length ps → span_of (nth_item s to j) ≡ good (part (to + length (joined (take j ps))) (to + length (joined (take (suc j) ps)))))
          → span_of (nth_item s at i) ≡ good (part (at + length (joined (take i (p ∷ ps)))) (at + length (joined (take (suc i) (p ∷ ps)))))
      go zero n more =
          let a : at ≡ at + 0 = omega arith in
          let b : at + 6 + length o.content ≡ at + length (p ++ []) = omega (arith, long, length-append p []) in
          ap span_of (ap (span_at at) head-is) ∙ ap good (ap (λ (k : ℕ). part k (at + 6 + length o.content)) a ∙ ap (λ (k : ℕ). part (at + 0) k) b)
      go (suc i) n more =
          let to = at + 6 + length o.content in
          let q : length (p ++ joined (take i ps)) ≡ length p + length (joined (take i ps)) = length-append p (joined (take i ps)) in
          let q' : length (p ++ joined (take (suc i) ps)) ≡ length p + length (joined (take (suc i) ps)) = length-append p (joined (take (suc i) ps)) in
          let a : to + length (joined (take i ps)) ≡ at + length (p ++ joined (take i ps)) = omega (arith, long) in
          let b : to + length (joined (take (suc i) ps)) ≡ at + length (p ++ joined (take (suc i) ps)) = omega (arith, long) in
          ap span_of (nth_on s at (sym (ap (span_at at) head-is)) (suc i) i refl)
          ∙ more i to (omega (arith, long, size)) next (omega arith)
          ∙ ap good (ap (λ (k : ℕ). part k (to + length (joined (take (suc i) ps)))) a ∙ ap (λ (k : ℕ). part (at + length (p ++ joined (take i ps))) k) b)

-- ---- in a record

module _ (b : List ℕ) (m : Meaning) (w : IsRecord b m) where
  small : length b ≤ limit
  small = subst (λ (s : List ℕ). length s ≤ limit) w.written w.kept.size

  pub fields-start : drop 6 b ≡ joined (fields m) ++ []
  unfolding record_of item
  fields-start =
      ap (drop 6) (sym w.written) ∙ drop_at (head 16 (length (joined (fields m)))) (joined (fields m)) 6 (head-length 16 (length (joined (fields m)))) ∙ sym (append-nil (joined (fields m)))

  pub header-fits : 6 ≤ length b
  unfolding record_of
  header-fits = omega (arith, ap length (sym w.written), item-length 16 (joined (fields m)))

  pub field_found : (i : ℕ) → i < 8 → span_of (nth_item b 6 i) ≡ good (part_at 6 (fields m) i)
  unfolding fields
  field_found i h = nth-part b [] (fields m) (fields-items m) small i 6 header-fits fields-start h

  -- the steps stand behind seven fields and two headers
  last-field : drop (6 + length (joined (take 7 (fields m)))) b ≡ steps_item m.steps ++ []
  unfolding fields joined
  last-field = skip-parts b [] (fields m) 7 6 fields-start ∙ append-nil _

  pub steps_start_lem : drop (steps_start m) b ≡ joined (map step_item m.steps) ++ []
  unfolding steps_start steps_item item
  steps_start_lem =
      let c = joined (map step_item m.steps) in
      sym (drop-drop 6 (6 + length (joined (take 7 (fields m)))) b) ∙ ap (drop 6) (last-field ∙ append_assoc (head 18 (length c)) c []) ∙ drop_at (head 18 (length c)) (c ++ []) 6 (head-length 18 (length c))

  pub steps-fit : steps_start m ≤ length b
  unfolding steps_start steps_item
  steps-fit =
      let c = joined (map step_item m.steps) in
      omega (arith, sym (length-drop (6 + length (joined (take 7 (fields m)))) b) ∙ ap length last-field ∙ length-append (item 18 c) [] ∙ ap (λ (k : ℕ). k + 0) (item-length 18 c))

  pub step-found : (i : ℕ) → i < length m.steps → span_of (nth_item b (steps_start m) i) ≡ good (part_at (steps_start m) (map step_item m.steps) i)
  step-found i h = nth-part b [] (map step_item m.steps) (steps-items m.steps) small i (steps_start m) steps-fit steps_start_lem (subst (λ (n : ℕ). i < n) (sym (length-steps m.steps)) h)

-- ---- the answers

-- a refusal of the check is one of every lookup
module _ (b : List ℕ) (n l s : ℕ) (e : refused n l s ≡ check_record b) where
  pub closed : {A : Type 0} (f : Meaning → Answer A) → refused n l s ≡ (opened b >>= f)
  unfolding check_record opened given ◌>>=◌
  closed {A} f = go (meaning_in b) e
    where
      go : (o : Option Meaning) → refused n l s ≡ (given o 40 0 0 >>= λ m. good (length m.steps)) → refused n l s ≡ (given o 40 0 0 >>= f)
      go none e = let x : n ≡ 40 = cc in let y : l ≡ 0 = cc in let z : s ≡ 0 = cc in rw (x, y, z)
      go (some m) e = let z : ◌≡◌ {A = ℕ} 0 1 = cc in absurd (omega arith)

  pub field-refused : (place : ℕ) → refused n l s ≡ job.field b place
  unfolding job.field
  field-refused place = closed (λ m. numbered 6 (fields m) place)

  pub step-refused : (number : ℕ) → refused n l s ≡ job.step b number
  unfolding job.step
  step-refused number = closed (λ m. numbered (steps_start m) (map step_item m.steps) number)

-- the meaning of a good record
pub record Opened (b : List ℕ) (n : ℕ) : Type 0 where
  pub meaning : Meaning
  pub is : meaning_in b ≡ some meaning
  pub count : n ≡ length meaning.steps
  pub record_is : IsRecord b meaning

pub opening : (b : List ℕ) → Bytes b → (n : ℕ) → good n ≡ check_record b → Opened b n
unfolding check_record opened given ◌>>=◌
opening b h n e = go (meaning_in b) refl e
  where
    go : (o : Option Meaning) → meaning_in b ≡ o → good n ≡ (given o 40 0 0 >>= λ m. good (length m.steps)) → Opened b n
    go none p e = let z : ◌≡◌ {A = ℕ} 0 1 = cc in absurd (omega arith)
    go (some m) p e = record { meaning = m; is = p; count = cc; record_is = meaning-exact b m h p }

module _ {b : List ℕ} {n : ℕ} (w : Opened b n) where
  pub field_is : (place : ℕ) → job.field b place ≡ numbered 6 (fields w.meaning) place
  unfolding job.field opened given ◌>>=◌
  field_is place = rw w.is

  pub step_is : (number : ℕ) → job.step b number ≡ numbered (steps_start w.meaning) (map step_item w.meaning.steps) number
  unfolding job.step opened given ◌>>=◌
  step_is number = rw w.is

  pub field-zero : (place : ℕ) → place ≡ 0 → refused 53 0 0 ≡ job.field b place
  unfolding numbered
  field-zero place e = sym (field_is place ∙ rw e)

  pub step-zero : (number : ℕ) → number ≡ 0 → refused 53 0 0 ≡ job.step b number
  unfolding numbered
  step-zero number e = sym (step_is number ∙ rw e)

module _ (from : ℕ) (ps : List (List ℕ)) (number i : ℕ) (e : number ≡ suc i) where
  pub numbered-in : i < length ps → numbered from ps number ≡ good (part_at from ps i)
  unfolding numbered ensure ◌>>◌ ◌>>=◌
  numbered-in h = rw (e, lt-ltb i (length ps) h)

  pub numbered-out : length ps ≤ i → numbered from ps number ≡ refused 53 0 0
  unfolding numbered ensure ◌>>◌ ◌>>=◌
  numbered-out h = rw (e, le-ltb i (length ps) h)
