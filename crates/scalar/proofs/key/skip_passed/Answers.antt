use Rattle.std.proofs.Common.{rules, tests, sym, drop, get_or}
use Rattle.utf8.proofs.Places.{kept_to}
use Rattle.scalar.specs.Key.{key_end_from}
use Rattle.scalar.specs.Code.{open_of}
use Rattle.scalar.proofs.KeyLaws.{passes-other, passes_on}
use Rattle.scalar.proofs.key.skip_passed.Goals as goal

pub returns-clause-same : goal.returns-clause-same
returns-clause-same c = λ o d. let s = c.args.s.now in
    sym (kept_to (λ k. key_end_from (open_of o) d k (drop k s)) c.first_place.ensures (λ k h n. sym (passes_on s o d k h (passes-other (get_or s k 0) (search (rules, tests))))))
