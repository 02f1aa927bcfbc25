-- Small records, computed. Assumes nothing.
use Rattle.std.proofs.Common.{◌≡◌, refl, ℕ, List, [], ◌∷◌, ◌++◌, false, length, pos}
use Rattle.std.proofs.Math.Option.{Option, none, some}
use Rattle.refusal.specs.Base.{good, refused, bytes}
use Rattle.refusal.proofs.Open.{Base-open}
use Rattle.utf8.proofs.Open.{Utf8-open}
use Rattle.item.specs.Tree.{Entries, null, int, end, done, pair}
use Rattle.item.proofs.Open as item
use Rattle.item.proofs.Open.{Encode-open, Decode-open}
use Rattle.meaning.proofs.Open.{Sound-open, Record-open}
use Rattle.value.proofs.Open as value
use Rattle.meaning.specs.Meaning.{Meaning, step_fields, built_in_steps}
use Rattle.meaning.specs.Record.{record_of}
use Rattle.record.proofs.Open.{Read-open, Jobs-open}
use Rattle.record.specs.Jobs.{part, check_record, field, step}

-- one step with this command and the value 5, and perhaps expect
unfoldable noon : List ℕ → Option Entries → Meaning
noon key expect = record {
  name = bytes "noon";
  description = [];
  tags = [];
  image = [];
  setup = null;
  defaults = record { timeout = none; wall_budget = none };
  fail_on = end;
  steps = record { name = []; id = []; key = key; value = int (pos 5); timeout = none; continue = false; expect = expect } ∷ [];
}

unfoldable striking : Meaning
striking = noon (bytes "strike") none

unfoldable open-all : Unit {0}
unfolding noon striking Base-open Utf8-open item.Tree-open Encode-open Decode-open Sound-open value.Tree-open step_fields built_in_steps Record-open Read-open Jobs-open
open-all = tt

-- drumread's record of 133 bytes, its one step, its first field, and what stands outside
size : length (record_of striking) ≡ 133
unfolding open-all
size = refl

checked : check_record (record_of striking) ≡ good 1
unfolding open-all
checked = refl

first_step : step (record_of striking) 1 ≡ good (part 70 133)
unfolding open-all
first_step = refl

first_field : field (record_of striking) 1 ≡ good (part 6 16)
unfolding open-all
first_field = refl

no_step : step (record_of striking) 2 ≡ refused 53 0 0
unfolding open-all
no_step = refl

-- a byte behind it, a command that is a step's field, expect beside a command and beside a built-in
behind : check_record (record_of striking ++ 0 ∷ []) ≡ refused 40 0 0
unfolding open-all
behind = refl

step_field : check_record (record_of (noon (bytes "id") none)) ≡ refused 40 0 0
unfolding open-all
step_field = refl

expecting : check_record (record_of (noon (bytes "strike") (some (pair (bytes "a") null done)))) ≡ good 1
unfolding open-all
expecting = refl

beside-delay : check_record (record_of (noon (bytes "delay") (some done))) ≡ refused 40 0 0
unfolding open-all
beside-delay = refl

key_twice : check_record (record_of (noon (bytes "strike") (some (pair (bytes "a") null (pair (bytes "a") null done))))) ≡ refused 40 0 0
unfolding open-all
key_twice = refl
