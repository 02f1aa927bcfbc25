-- What holds of every tree that is read from a text. Assumes nothing.
use Rattle.std.proofs.Common.{◌≡◌, ℕ, ◌≤◌, min, ◌^◌, arith, List, leb, length}
use Rattle.refusal.specs.Base.{good, ◌>>◌, ensure}
use Rattle.refusal.proofs.Tools.{ensured, good-inj, bound, bound'}
use Rattle.utf8.specs.Utf8.{is_utf8, Utf8}
use Rattle.item.specs.Tree.{Yaml, Ranged}
use Rattle.item.specs.Encode.{encode}
use Rattle.lines.specs.Lines.{Line, significant_lines}
use Rattle.block.specs.Block.{block}
use Rattle.tree.specs.Tree.{tree, tree_of, admitted, nothing_left}
use Rattle.tree.proofs.Parts.{Lines, lines-utf8}
use Rattle.tree.proofs.Fit.{Fit}
use Rattle.tree.proofs.BlockFit.{block-fine}
use Rattle.tree.proofs.Sums.{block-sum}

-- at most 32 levels, differing keys in each mapping, UTF-8 strings and keys, integers of 64 bits
abbrev pub Sound : Yaml → Type 0
Sound y = Fit 32 y

admitted-utf8 : (text : List ℕ) (x : Unit {0}) → admitted text ≡ good x → Utf8 text
unfolding admitted
admitted-utf8 text x e = bound' (ensure (leb (length text) 65535) 1 0 0) _ x e λ p. ensured (is_utf8 text) 2 0 0 x p

module _ (work : ℕ) (text : List ℕ) (y : Yaml) (e : tree work text ≡ good y) where
  -- a tree is the block of the text's lines
  read : {X : Type 0} → ((ls : List Line) (g : Yaml × ℕ × List Line) → Lines ls → block (min work (2 ^ 20)) 32 0 ls ≡ good g → g.0 ≡ y → X) → X
  unfolding tree tree_of ◌>>◌
  read k = bound (admitted text) _ y e
      λ x a p. bound (significant_lines text) _ y p
      λ ls l p. bound (block (min work (2 ^ 20)) 32 0 ls) _ y p
      λ g b p. bound' (nothing_left g.2) _ y p
      λ p. k ls g (lines-utf8 text ls (admitted-utf8 text x a) l) b (good-inj _ _ p)

  pub tree-sound : Sound y
  tree-sound = read λ ls g u b q. rw (← q) (block-fine (min work (2 ^ 20)) 32 0 ls g u b).tree

  -- every integer has 64 bits
  pub tree-integers : Ranged y
  tree-integers = tree-sound.integers

  -- what the tree is written as has room in the work, and takes at most 1,048,576 bytes
  pub tree-size : length (encode y) ≤ min work (2 ^ 20)
  tree-size = read λ ls g u b q. rw (← q) (omega (arith, (block-fine (min work (2 ^ 20)) 32 0 ls g u b).sum, block-sum (min work (2 ^ 20)) 32 0 ls g b))
