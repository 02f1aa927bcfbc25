-- How calls on a writer add up: bytes behind bytes, and an item whose header is filled in behind its content. Assumes nothing.
use Rattle.std.proofs.Common.{◌≡◌, refl, ap, ◌∙◌, ℕ, ◌+◌, ◌-◌, ◌≤◌, ◌^◌, arith, List, [], ◌++◌, length, length-append}
use Rattle.std.proofs.lemmas.List.Edits.{sets}
use Rattle.item.specs.Encode.{head, item}
use Rattle.item.proofs.Size.{head-length, item-length}
use Rattle.item.proofs.Runs.{sets-append, sets-before}
use Rattle.nodes.specs.declared.output.RecordWriter.{RecordWriter}
use Rattle.nodes.specs.Writing.{Goes, GoesAtMost, Writes, Opens, Closes}

pub goes_more : {a b c : RecordWriter} → Goes a b → Goes b c → Goes a c
goes_more p q = record { same_reference = q.same_reference ∙ p.same_reference; len = q.len ∙ p.len; grows = omega (arith, p.grows, q.grows) }

pub goes_opened : {a b : RecordWriter} {header : ℕ} → Opens a b header → Goes a b
goes_opened p = record { same_reference = p.same_reference; len = ap length p.out; grows = p.grows }

pub goes_closed : {a b : RecordWriter} {header kind : ℕ} → Closes a b header kind → Goes a b
goes_closed p = record { same_reference = p.same_reference; len = p.len; grows = omega (arith, p.ends) }

pub writes_is : {a b : RecordWriter} {x y : List ℕ} → x ≡ y → Writes a b x → Writes a b y
writes_is e p = rw (← e) p

pub writes_more : {a b c : RecordWriter} {x y : List ℕ} → Writes a b x → Writes b c y → Writes a c (x ++ y)
writes_more {a} {b} {c} {x} {y} p q =
    let long : length (x ++ y) ≡ length x + length y = length-append x y in
    record {
      goes = goes_more p.goes q.goes;
      ends = omega (arith, long, p.ends, q.ends);
      stored = λ fits.
          let first : b.end ≡ a.end + length x = omega (arith, long, p.ends, a.counted) in
          q.stored (omega (arith, long, first, p.goes.len))
          ∙ ap (λ (l : List ℕ). sets l b.end y) (p.stored (omega (arith, long)))
          ∙ ap (λ (n : ℕ). sets (sets a.out.now a.end x) n y) first
          ∙ sets-append x y a.out.now a.end;
    }

-- a header that is filled in once its content stands behind it
pub writes_item : {a b c d : RecordWriter} {header kind : ℕ} {content : List ℕ} → Opens a b header → Writes b c content → Closes c d header kind → Writes a d (item kind content)
unfolding item
writes_item {a} {b} {c} {d} {header} {kind} {content} p q r =
    let long : length (item kind content) ≡ 6 + length content = item-length kind content in
    record {
      goes = goes_more (goes_opened p) (goes_more q.goes (goes_closed r));
      ends = omega (arith, long, p.ends, q.ends, r.ends);
      stored = λ fits.
          let first : b.end ≡ a.end + 6 = omega (arith, long, p.ends, a.counted) in
          let size : c.end - (header + 6) ≡ length content = omega (arith, long, first, p.at, q.ends, a.counted) in
          let behind : b.end ≡ a.end + length (head kind (length content)) = omega (arith, first, head-length kind (length content)) in
          r.stored (omega (arith, long, first, q.ends, q.goes.len, ap length p.out, a.counted))
          ∙ ap (λ (n : ℕ). sets c.out.now n (head kind (c.end - (header + 6)))) p.at
          ∙ ap (λ (n : ℕ). sets c.out.now a.end (head kind n)) size
          ∙ ap (λ (l : List ℕ). sets l a.end (head kind (length content)))
          (q.stored (omega (arith, long, first, ap length p.out)) ∙ ap (λ (l : List ℕ). sets l b.end content) p.out ∙ ap (λ (n : ℕ). sets a.out.now n content) behind)
          ∙ sets-before (head kind (length content)) content a.out.now a.end;
    }

pub writes_none : {w : RecordWriter} → w.end ≤ 2 ^ 64 - 1 → Writes w w []
writes_none h = record { goes = record { same_reference = refl; len = refl; grows = omega arith }; ends = omega arith; stored = λ _. refl }

-- an item with no content
pub writes_empty : {a b c : RecordWriter} {header kind : ℕ} → Opens a b header → Closes b c header kind → Writes a c (item kind [])
writes_empty p r = writes_item p (writes_none (omega (arith, p.ends))) r

-- ---- how far at most

pub most_less : {a b : RecordWriter} {m : ℕ} (most : ℕ) → GoesAtMost m a b → m ≤ most → GoesAtMost most a b
most_less most p h = record { goes = p.goes; near = omega (arith, p.near) }

pub most_more : {a b c : RecordWriter} {m n : ℕ} → GoesAtMost m a b → GoesAtMost n b c → GoesAtMost (m + n) a c
most_more p q = record { goes = goes_more p.goes q.goes; near = omega (arith, p.near, q.near) }

pub writes_most : {a b : RecordWriter} {x : List ℕ} (most : ℕ) → Writes a b x → length x ≤ most → GoesAtMost most a b
writes_most most p h = record { goes = p.goes; near = omega (arith, p.ends) }

pub item_most : {a b : RecordWriter} (most kind : ℕ) (content : List ℕ) → Writes a b (item kind content) → 6 + length content ≤ most → GoesAtMost most a b
item_most most kind content p h = writes_most most p (omega (arith, item-length kind content))

-- the header and the content of an item
pub item_less : {a b c d : RecordWriter} {header kind m : ℕ} (most : ℕ) → Opens a b header → GoesAtMost m b c → Closes c d header kind → 6 + m ≤ most → GoesAtMost most a d
item_less most p q r h = record { goes = goes_more (goes_opened p) (goes_more q.goes (goes_closed r)); near = omega (arith, p.ends, q.near, r.ends) }
