-- Section 5 of document 01, kinds 16 to 19: the record of a meaning, its one kind 16 item, nothing before or behind. Uses Tree and Encode
-- of `item`; Meaning of this crate. Assumes nothing.
use Rattle.std.specs.Prelude.{ℕ, List, [], ◌∷◌, ◌++◌, map}
use Rattle.std.proofs.Math.Option.{Option, none, some}
use Rattle.item.specs.Tree.{Yaml, Entries, null, bool, str, seq, dict}
use Rattle.item.specs.Encode.{item, encode}
use Rattle.meaning.specs.Meaning.{Defaults, Step, Meaning}

-- parts one behind another
unfoldable pub joined : List (List ℕ) → List ℕ
joined [] = []
joined (p ∷ ps) = p ++ joined ps

-- 0 or 3
unfoldable pub optional : Option (List ℕ) → Yaml
optional none = null
optional (some s) = str s

-- 0 or 5
unfoldable pub expected : Option Entries → Yaml
expected none = null
expected (some es) = dict es

unfoldable pub text_item : List ℕ → List ℕ
text_item s = encode (str s)

-- 19 step: name, id, key, value, timeout (0 or 3), continue (1), expect (0 or 5)
unfoldable pub step_parts : Step → List (List ℕ)
step_parts s =
    text_item s.name ∷ text_item s.id ∷ text_item s.key ∷ encode s.value ∷ encode (optional s.timeout) ∷ encode (bool s.continue) ∷ encode (expected s.expect) ∷ []

unfoldable pub step_item : Step → List ℕ
step_item s = item 19 (joined (step_parts s))

-- 17 defaults: timeout, wall budget, each 0 or 3
unfoldable pub defaults_parts : Defaults → List (List ℕ)
defaults_parts d = encode (optional d.timeout) ∷ encode (optional d.wall_budget) ∷ []

unfoldable pub defaults_item : Defaults → List ℕ
defaults_item d = item 17 (joined (defaults_parts d))

-- 4 of 3
unfoldable pub tags_item : List (List ℕ) → List ℕ
tags_item ts = item 4 (joined (map text_item ts))

-- 18 steps
unfoldable pub steps_item : List Step → List ℕ
steps_item ss = item 18 (joined (map step_item ss))

-- 16 scenario: name, description, tags (4 of 3), image, setup, defaults, fail_on (4), steps
unfoldable pub fields : Meaning → List (List ℕ)
fields m =
    text_item m.name ∷ text_item m.description ∷ tags_item m.tags ∷ text_item m.image ∷ encode m.setup ∷ defaults_item m.defaults ∷ encode (seq m.fail_on) ∷ steps_item m.steps ∷ []

unfoldable pub record_of : Meaning → List ℕ
record_of m = item 16 (joined (fields m))
