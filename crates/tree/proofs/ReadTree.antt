-- What follows from the contract of `read_tree` for whoever calls it. Assumes nothing.
use Rattle.std.proofs.Common.{◌≡◌, refl, sym, ap, ◌∙◌, ℕ, ◌≤◌, min, ◌^◌, arith, List, ◌++◌, length, take, drop, take_at, drop_at}
use Rattle.refusal.specs.Base.{Answer, good, refused}
use Rattle.refusal.proofs.Tools.{good-inj, refused≢good}
use Rattle.item.specs.Tree.{Yaml}
use Rattle.item.specs.Encode.{encode}
use Rattle.tree.specs.declared.TreeAnswer.{TreeAnswer}
use Rattle.tree.specs.Tree.{tree, answer_of, size_of, left}
use Rattle.tree.proofs.Sound.{Sound, tree-sound, tree-size}

-- the two promises: of a text, of the work before and behind a call, and of its answer
pub record Promised (text old new : List ℕ) (r : TreeAnswer) : Type 0 where
  pub answer : answer_of r ≡ size_of (tree (length old) text)
  pub bytes : new ≡ left (tree (length old) text) old

-- a tree that was told: the size told is the size written, what stands behind it is kept, and the tree is sound
pub record TreeTold (text old new : List ℕ) (n : ℕ) : Type 0 where
  pub read : Yaml
  pub is : tree (length old) text ≡ good read
  pub size : n ≡ length (encode read)
  pub written : take n new ≡ encode read
  pub kept : drop n new ≡ drop n old
  pub room : n ≤ min (length old) (2 ^ 20)
  pub sound : Sound read

pub told : (text old new : List ℕ) (r : TreeAnswer) (n : ℕ) → Promised text old new r → answer_of r ≡ good n → TreeTold text old new n
unfolding size_of left
told text old new r n p e = go (tree (length old) text) refl
  where
    go : (t : Answer Yaml) → tree (length old) text ≡ t → TreeTold text old new n
    go (refused k l s) q = refused≢good n k l s (ap size_of (sym q) ∙ sym p.answer ∙ e)
    go (good y) q =
        let m : n ≡ length (encode y) = sym (good-inj _ _ (ap size_of (sym q) ∙ sym p.answer ∙ e)) in
        let b : new ≡ encode y ++ drop n old = p.bytes ∙ ap (λ (t : Answer Yaml). left t old) q ∙ ap (λ (k : ℕ). encode y ++ drop k old) (sym m) in
        record {
          read = y;
          is = q;
          size = m;
          written = ap (take n) b ∙ take_at (encode y) (drop n old) n (sym m);
          kept = ap (drop n) b ∙ drop_at (encode y) (drop n old) n (sym m);
          room = omega (arith, tree-size (length old) text y q);
          sound = tree-sound (length old) text y q;
        }

-- two calls with as much work, whatever it held before
module _ (text old old' new new' : List ℕ) (r r' : TreeAnswer) (h : length old ≡ length old') (p : Promised text old new r) (p' : Promised text old' new' r') where
  same-tree : tree (length old) text ≡ tree (length old') text
  same-tree = ap (λ (n : ℕ). tree n text) h

  pub same_answer : answer_of r ≡ answer_of r'
  same_answer = p.answer ∙ ap size_of same-tree ∙ sym p'.answer

  pub same_bytes : (n : ℕ) → answer_of r ≡ good n → take n new ≡ take n new'
  same_bytes n e =
      let t = told text old new r n p e in
      let t' = told text old' new' r' n p' (sym same_answer ∙ e) in
      t.written ∙ ap encode (good-inj _ _ (sym t.is ∙ same-tree ∙ t'.is)) ∙ sym t'.written
