-- Sections 1 to 3 of document 01 in their order: the tree of a whole text, or its refusal. Uses Base and Told of `refusal`; Utf8 of `utf8`;
-- Tree and Encode of `item`; Lines of `lines`; Block of `block`. Assumes nothing.
use Rattle.std.specs.Prelude.{ℕ, min, List, [], ◌∷◌, ◌++◌, leb, length, drop, replicate}
use Rattle.refusal.specs.Base.{Answer, good, refused, ◌>>=◌, ◌>>◌, ensure, limit}
use Rattle.utf8.specs.Utf8.{is_utf8}
use Rattle.item.specs.Tree.{Yaml}
use Rattle.item.specs.Encode.{encode}
use Rattle.lines.specs.Lines.{Line, significant_lines}
use Rattle.block.specs.Block.{block}
use Rattle.refusal.specs.Told.{refusal}
use Rattle.tree.specs.declared.TreeAnswer.{TreeAnswer}
use Rattle.tree.specs.declared.TreeAnswer.TheVariants.{Read, Refused}

-- 1, 2
unfoldable pub admitted : List ℕ → Answer (Unit {0})
admitted text = do
  ensure (leb (length text) 65535) 1 0 0
  ensure (is_utf8 text) 2 0 0

-- 6
unfoldable pub nothing_left : List Line → Answer (Unit {0})
nothing_left [] = good tt
nothing_left (l ∷ ls) = refused 6 l.number 0

-- the value of all lines; the outermost collection is level 1 of 32
unfoldable pub tree_of : ℕ → List Line → Answer Yaml
tree_of cap ls = do
  (y, sum, rest) ← block cap 32 0 ls
  nothing_left rest
  good y

-- the tree of a text that `work` bytes are lent for, of which at most 1,048,576 count
unfoldable pub tree : ℕ → List ℕ → Answer Yaml
tree work text = do
  admitted text
  ls ← significant_lines text
  tree_of (min work limit) ls

-- ---- what is told and left

-- what the code's answer says: the bytes of the tree, or the refusal
abbrev pub answer_of : TreeAnswer → Answer ℕ
answer_of (Read n) = good n
answer_of (Refused e) = refusal e

-- what it should say
unfoldable pub size_of : Answer Yaml → Answer ℕ
size_of (good y) = good (length (encode y))
size_of (refused k l s) = refused k l s

-- what is left in the work bytes: the tree, and behind it what was there; or zeros
unfoldable pub left : Answer Yaml → List ℕ → List ℕ
left (good y) old = encode y ++ drop (length (encode y)) old
left (refused k l s) old = replicate (length old) 0
