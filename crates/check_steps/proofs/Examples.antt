-- Small records with names, checked: the steps are a scenario's behind `schema` and `name`, so they stand in lines 4 and 5. Assumes nothing.
use Rattle.std.proofs.Common.{◌≡◌, refl, ℕ, pos, false, List, [], ◌∷◌, ◌++◌}
use Rattle.std.proofs.Math.Option.{none}
use Rattle.refusal.specs.Base.{Answer, good, refused, bytes}
use Rattle.refusal.proofs.Open.{Base-open}
use Rattle.utf8.proofs.Open.{Utf8-open}
use Rattle.item.specs.Tree.{Yaml, null, int, str, seq, dict, end, ◌▸◌, done, pair}
use Rattle.item.proofs.Open as item
use Rattle.item.specs.Encode.{encode}
use Rattle.item.proofs.Open.{Encode-open, Decode-open}
use Rattle.step_lines.proofs.Open.{StepLines-open}
use Rattle.meaning.proofs.Open.{Sound-open, Meanings-open, Record-open}
use Rattle.meaning.specs.Meaning.{Step, Meaning, step_fields, built_in_steps}
use Rattle.meaning.specs.Record.{record_of}
use Rattle.value.proofs.Open as value
use Rattle.record.proofs.Open.{Read-open, Jobs-open}
use Rattle.check_steps.specs.Names.{names_in}
use Rattle.check_steps.specs.CheckSteps.{check_steps}
use Rattle.check_steps.proofs.Open.{CheckSteps-open}

unfoldable one : Yaml
one = int (pos 1)

unfoldable command : List ℕ → Yaml → Step
command key value = record { name = []; id = []; key = key; value = value; timeout = none; continue = false; expect = none }

unfoldable meaning : List Step → Meaning
meaning steps = record {
  name = bytes "n";
  description = [];
  tags = [];
  image = [];
  setup = null;
  defaults = record { timeout = none; wall_budget = none };
  fail_on = end;
  steps = steps;
}

-- `strike`, `wait`
unfoldable names : List ℕ
names = encode (seq (str (bytes "strike") ▸ str (bytes "wait") ▸ end))

unfoldable answer : List Step → Answer ℕ
answer steps = check_steps (record_of (meaning steps)) (4 ∷ 5 ∷ []) names

-- a mapping of one entry, and a `repeat` of such steps
unfoldable entry : List ℕ → Yaml → Yaml
entry key value = dict (pair key value done)

unfoldable repeating : Yaml → Step
repeating steps = command (bytes "repeat") (entry (bytes "steps") steps)

unfoldable open-all : Unit {0}
unfolding one command meaning names answer entry repeating Base-open Utf8-open item.Tree-open Encode-open Decode-open StepLines-open Sound-open step_fields built_in_steps Meanings-open Record-open value.Tree-open Read-open Jobs-open names_in CheckSteps-open
open-all = tt

passed : answer (command (bytes "wait") one ∷ repeating (seq (entry (bytes "repeat") one ▸ end)) ∷ []) ≡ good 2
unfolding open-all
passed = refl

unknown : answer (command (bytes "x") one ∷ command (bytes "repeat") one ∷ []) ≡ refused 36 4 1
unfolding open-all
unknown = refl

empty-key : answer (command [] one ∷ []) ≡ refused 36 4 1
unfolding open-all
empty-key = refl

without-steps : answer (command (bytes "wait") one ∷ command (bytes "repeat") one ∷ []) ≡ refused 37 0 2
unfolding open-all
without-steps = refl

null-steps : answer (repeating null ∷ []) ≡ good 1
unfolding open-all
null-steps = refl

other-steps : answer (repeating one ∷ []) ≡ refused 31 0 0
unfolding open-all
other-steps = refl

-- 32 of the second inner step before 36 of the first
inner_first : answer (repeating (seq (entry (bytes "x") one ▸ one ▸ end)) ∷ []) ≡ refused 32 0 2
unfolding open-all
inner_first = refl

inner-expect : answer (repeating (seq (entry (bytes "expect") null ▸ end)) ∷ []) ≡ refused 33 0 1
unfolding open-all
inner-expect = refl

inner_unknown : answer (command (bytes "wait") one ∷ repeating (seq (entry (bytes "wait") one ▸ entry (bytes "x") one ▸ end)) ∷ []) ≡ refused 36 5 2
unfolding open-all
inner_unknown = refl

-- a step beyond the lines
no_line : check_steps (record_of (meaning (command (bytes "x") one ∷ []))) [] names ≡ refused 36 0 1
unfolding open-all
no_line = refl

-- a list with a byte behind it, and one of something else than strings
byte-behind : check_steps (record_of (meaning [])) [] (names ++ (0 ∷ [])) ≡ refused 40 0 0
unfolding open-all
byte-behind = refl

no_names : check_steps (record_of (meaning [])) [] (encode (seq (one ▸ end))) ≡ refused 40 0 0
unfolding open-all
no_names = refl
