-- How calls on a writer add up: bytes behind bytes, an item's content behind its header, a header filled in behind its content. Assumes
-- nothing.
use Rattle.std.proofs.Common.{◌≡◌, refl, sym, ap, ◌∙◌, ℕ, suc, ◌+◌, ◌-◌, ◌≤◌, add-zero, arith, List, [], ◌∷◌, ◌++◌, length, set, take, length-append, length-take-le, take-take}
use Rattle.std.proofs.Math.Seq.{sets, length-sets, take-set-le}
use Rattle.item.specs.Encode.{head, item}
use Rattle.item.proofs.Size.{head-length, item-length}
use Rattle.item.proofs.Runs.{sets-append, sets-before, sets_item}
use Rattle.writer.specs.declared.Writer.{Writer}
use Rattle.writer.specs.Writing.{Appends, Begins, Fills, Keeps, CutsBack}

-- the bytes that are used, lent as bytes of their own
pub written_length : (w : Writer) {bytes : List ℕ} → bytes ≡ take w.used w.out.now → length bytes ≡ w.used
written_length w e = ap length e ∙ length-take-le w.used w.out.now w.within

pub appends_none : (w : Writer) → Appends w w []
appends_none w = record { same_reference = refl; out = refl; used = sym (add-zero w.used) }

pub appends_more : {a b c : Writer} {x y : List ℕ} → Appends a b x → Appends b c y → Appends a c (x ++ y)
appends_more {a} {b} {c} {x} {y} p q = record {
  same_reference = q.same_reference ∙ p.same_reference;
  out = q.out ∙ ap (λ (l : List ℕ). sets l b.used y) p.out ∙ ap (λ (n : ℕ). sets (sets a.out.now a.used x) n y) p.used ∙ sets-append x y a.out.now a.used;
  used = omega (arith, p.used, q.used, length-append x y);
}

-- the output keeps its length
pub len_appended : {a b : Writer} {x : List ℕ} → Appends a b x → length b.out.now ≡ length a.out.now
len_appended {a} {b} {x} p = ap length p.out ∙ length-sets a.out.now a.used x

-- a header takes six bytes
pub header_used : {a b : Writer} (kind size : ℕ) → Appends a b (head kind size) → b.used ≡ a.used + 6
header_used {a} kind size p = p.used ∙ ap (λ (k : ℕ). a.used + k) (head-length kind size)

-- a header, and then the content behind it
pub appends_item : {a b c : Writer} (kind size : ℕ) {content : List ℕ} → Appends a b (head kind size) → Appends b c content → size ≡ length content → Appends a c (item kind content)
appends_item {a} {b} {c} kind size {content} p q e =
    let n : b.used ≡ a.used + 6 = header_used kind size p in record {
      same_reference = q.same_reference ∙ p.same_reference;
      out = q.out ∙ ap (λ (l : List ℕ). sets l b.used content) (p.out ∙ ap (λ (k : ℕ). sets a.out.now a.used (head kind k)) e)
          ∙ ap (λ (k : ℕ). sets (sets a.out.now a.used (head kind (length content))) k content) n ∙ sets_item a.out.now a.used kind content;
      used = omega (arith, n, q.used, item-length kind content);
    }

-- a header that is filled in once its content stands behind it
pub filled : {a b c d : Writer} {header : ℕ} (kind : ℕ) {content : List ℕ} → Begins a b header → Appends b c content
    → Fills c d header (head kind (c.used - (header + 6))) → Appends a d (item kind content)
unfolding item
filled {a} {b} {c} {d} {header} kind {content} p q r =
    let n : c.used - (header + 6) ≡ length content = omega (arith, p.at, p.used, q.used) in
    let h : b.used ≡ a.used + length (head kind (length content)) = omega (arith, p.used, head-length kind (length content)) in record {
      same_reference = r.same_reference ∙ q.same_reference ∙ p.same_reference;
      out = r.out ∙ ap (λ (k : ℕ). sets c.out.now k (head kind (c.used - (header + 6)))) p.at ∙ ap (λ (k : ℕ). sets c.out.now a.used (head kind k)) n
          ∙ ap (λ (l : List ℕ). sets l a.used (head kind (length content)))
          (q.out ∙ ap (λ (l : List ℕ). sets l b.used content) p.out ∙ ap (λ (k : ℕ). sets a.out.now k content) h)
          ∙ sets-before (head kind (length content)) content a.out.now a.used;
      used = omega (arith, p.used, q.used, r.used, item-length kind content);
    }

-- ---- what is kept

kept-before : (n : ℕ) (l : List ℕ) (i : ℕ) (vs : List ℕ) → n ≤ i → take n (sets l i vs) ≡ take n l
kept-before n l i [] h = refl
kept-before n l i (v ∷ vs) h = kept-before n (set l i v) (suc i) vs (omega arith) ∙ take-set-le n l i v h

-- where the bytes in front of a place are kept, so are those in front of an earlier one
kept_less : (m n : ℕ) (old new : List ℕ) → m ≤ n → take n new ≡ take n old → take m new ≡ take m old
kept_less m n old new h e = sym (take-take m n new h) ∙ ap (take m) e ∙ take-take m n old h

pub keeps_appended : {a b : Writer} {x : List ℕ} → Appends a b x → Keeps a b
keeps_appended {a} {b} {x} p = record {
  same_reference = p.same_reference;
  len = ap length p.out ∙ length-sets a.out.now a.used x;
  grows = omega (arith, p.used);
  kept = ap (take a.used) p.out ∙ kept-before a.used a.out.now a.used x (omega arith);
}

pub keeps_begun : {a b : Writer} {header : ℕ} → Begins a b header → Keeps a b
keeps_begun {a} p = record { same_reference = p.same_reference; len = ap length p.out; grows = omega (arith, p.used); kept = ap (take a.used) p.out }

pub keeps_same : {a b : Writer} → b ≡ a → Keeps a b
keeps_same {a} {b} e = rw e (record { same_reference = refl; len = refl; grows = omega arith; kept = refl })

pub keeps_more : {a b c : Writer} → Keeps a b → Keeps b c → Keeps a c
keeps_more {a} {b} {c} p q = record {
  same_reference = q.same_reference ∙ p.same_reference;
  len = q.len ∙ p.len;
  grows = omega (arith, p.grows, q.grows);
  kept = kept_less a.used b.used b.out.now c.out.now p.grows q.kept ∙ p.kept;
}

-- what was put since is taken back
pub keeps_cut : {a b c : Writer} → Keeps a b → CutsBack b c a.used → Keeps a c
keeps_cut {a} {b} {c} p q = record {
  same_reference = q.same_reference ∙ p.same_reference;
  len = ap length q.out ∙ p.len;
  grows = omega (arith, q.used);
  kept = ap (take a.used) q.out ∙ p.kept;
}
