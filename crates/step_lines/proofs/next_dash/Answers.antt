-- By a search among the lines that are not less indented. Assumes nothing.
use Rattle.std.specs.Prelude.{MatchOption}
use Rattle.std.specs.List.{AllWithin, HoldsAt}
use Rattle.std.proofs.Common.{rules, tests, ◌≡◌, refl, true, false, length, ℕ, ◌<◌}
use Rattle.std.proofs.lemmas.Iterator.{YieldsList-from_range, first_from_find}
use Rattle.std.proofs.lemmas.Iterator.Search.{YieldsList-from_take_while}
use Rattle.lines.specs.Table.{line_at}
use Rattle.lines.specs.Dash.{is_dash}
use Rattle.step_lines.proofs.Laws.{goes_on, deep_from, search-none, found-inside, search-some}
use Rattle.step_lines.proofs.next_dash.Goals as goal
use Rattle.step_lines.proofs.next_dash.Goals.{After-find-dash}

abbrev dash : After-find-dash → ℕ → Type 0
dash c d = is_dash c.args.indent (line_at c.args.lines.now d) ≡ true

abbrev other : After-find-dash → ℕ → Type 0
other c d = is_dash c.args.indent (line_at c.args.lines.now d) ≡ false

found : (c : After-find-dash) → let all = deep_from c.args.lines.now c.args.indent c.args.i in
    MatchOption c.find-dash.result (AllWithin (other c) all 0 (length all)) (λ d. dash c d × (k : ℕ) × (k < length all) × HoldsAt (λ y. y ≡ d) all k × AllWithin (other c) all 0 k)
found c =
    let a = c.args in
    first_from_find _ _ c.find-dash.result (dash c) (other c) c.find-dash.ensures.ran
    (YieldsList-from_take_while _ (goes_on a.lines.now a.indent a.i) (YieldsList-from_range a.i (length a.lines.now) _ (search rules) refl) c.take_while.ensures.closure c.take_while.ensures.done (λ x b q k. search (rules, tests)))
    (λ x q k. search (rules, tests)) (λ x q k. search (rules, tests))

pub number-requires : goal.number-requires
number-requires c =
    let f = rw c.in-Some.is at (found (goal.at.number-requires c).After-find-dash) in
    found-inside c.args.lines.now c.args.indent c.args.i c.in-Some.d f.1 f.2 f.3

pub overflow_add-result : goal.overflow_add-result
overflow_add-result c =
    let f = rw c.in-Some.is at (found (goal.at.overflow_add-result c).After-find-dash) in
    let h = found-inside c.args.lines.now c.args.indent c.args.i c.in-Some.d f.1 f.2 f.3 in
    search rules

pub returns-in-Some : goal.returns-in-Some
returns-in-Some c =
    let a = c.args in
    let f = rw c.in-Some.is at (found (goal.at.returns-in-Some c).After-find-dash) in
    search-some a.lines.now a.indent a.i c.in-Some.d f.1 f.2 f.3 f.0 f.4 _ c.number.ensures.value refl

pub returns-in-None : goal.returns-in-None
returns-in-None c =
    let a = c.args in
    search-none a.lines.now a.indent a.i c.requires (rw c.in-None.is at (found (goal.at.returns-in-None c).After-find-dash)) _ refl c.len-count.ensures.value
