-- Every refusal names what document 01's sentence says, and every answer of every job is one of these or good. Assumes nothing.
use Rattle.std.proofs.Common.{◌≡◌, refl, sym, ◌∙◌, ℕ, List, true, false, leb}
use Rattle.std.proofs.lemmas.Bool.{false≢true}
use Rattle.refusal.specs.Base.{good}
use Rattle.refusal.specs.Told.{told_of, refusal}
use Rattle.refusal.proofs.Tools.{refused≢good}
use Rattle.refusal.specs.declared.Refusal.{Refusal}
use Rattle.refusal.specs.declared.Refusal.TheVariants.{TooManyLines, TabInIndentation, DocumentMarker, LinesLeft, AnchorAliasOrTag, TextAfterValue, FlowMappingOpen, FlowSequenceOpen, EscapeCut, UnknownEscape, QuoteOpen, EmptyKey, ComplexKey}
use Rattle.refusal.specs.declared.Refusal.TheVariants.{KeyNotScalar, KeyWithoutColon, KeyTwice, StuckSequence, TooDeep}
use Rattle.refusal.specs.declared.Refusal.TheVariants.{StepNotMapping, ExpectNotMapping, NotOneCommand, ExpectBesideBuiltIn, UnknownCommand, RepeatWithoutSteps, TimesNotPositive, TimesTooLarge, NotForPanel, WishesOutOfRange, SupplyTooSmall, LogFalls, LogTooLong, ListTooShort}
use Rattle.tree.specs.Tree as trees
use Rattle.tree.specs.declared.TreeAnswer.{TreeAnswer}
use Rattle.tree.specs.declared.TreeAnswer.TheVariants as tree_answer
use Rattle.scenario.specs.Scenario as scenarios
use Rattle.scenario.specs.declared.ScenarioAnswer.{ScenarioAnswer}
use Rattle.scenario.specs.declared.ScenarioAnswer.TheVariants as scenario_answer
use Rattle.record.specs.Jobs as records
use Rattle.record.specs.declared.RecordAnswer.{RecordAnswer}
use Rattle.record.specs.declared.RecordAnswer.TheVariants as record_answer
use Rattle.record.specs.declared.Lookup.{Lookup}
use Rattle.record.specs.declared.Lookup.TheVariants as lookup
use Rattle.check_steps.specs.CheckSteps as steps
use Rattle.check_steps.specs.declared.StepsAnswer.{StepsAnswer}
use Rattle.check_steps.specs.declared.StepsAnswer.TheVariants as steps_answer
use Rattle.lookups.specs.Lookups as lookups
use Rattle.lookups.specs.declared.TimesAnswer.{TimesAnswer}
use Rattle.lookups.specs.declared.TimesAnswer.TheVariants as times_answer
use Rattle.named.specs.Named.{given, lineless, stepped, Names}
use Rattle.named.proofs.Counted.{Counts}
use Rattle.named.proofs.Trees.{tree-counted}
use Rattle.named.proofs.Jobs.{scenario-counted, record-counted, field-counted, number-counted, check-counted, id-counted, value-counted, times-counted}

-- what a refusal does not name is 0: the type says so; below 55 its number is one of document 01's
record Zeros (n l s : ℕ) : Type 0 where
  is_given : leb 55 n ≡ false → given n ≡ true
  no_line : lineless n ≡ true → l ≡ 0
  no_step : stepped n ≡ false → s ≡ 0

nothing-named : (n : ℕ) → given n ≡ true → Zeros n 0 0
nothing-named n k = record { is_given = λ _. k; no_line = λ _. refl; no_step = λ _. refl }

line-named : (n l : ℕ) → given n ≡ true → lineless n ≡ false → Zeros n l 0
line-named n l k h = record { is_given = λ _. k; no_line = λ e. absurd (false≢true (sym h ∙ e)); no_step = λ _. refl }

step-named : (n s : ℕ) → given n ≡ true → stepped n ≡ true → Zeros n 0 s
step-named n s k h = record { is_given = λ _. k; no_line = λ _. refl; no_step = λ e. absurd (false≢true (sym e ∙ h)) }

both-named : (n l s : ℕ) → given n ≡ true → lineless n ≡ false → stepped n ≡ true → Zeros n l s
both-named n l s k h i = record { is_given = λ _. k; no_line = λ e. absurd (false≢true (sym h ∙ e)); no_step = λ e. absurd (false≢true (sym e ∙ i)) }

of-another : (n : ℕ) → leb 55 n ≡ true → Zeros n 0 0
of-another n k = record { is_given = λ e. absurd (false≢true (sym e ∙ k)); no_line = λ _. refl; no_step = λ _. refl }

zeros : (e : Refusal) → Zeros (told_of e).number (told_of e).line (told_of e).step
unfolding given lineless stepped
zeros (TooManyLines line) = line-named 3 line refl refl
zeros (TabInIndentation line) = line-named 4 line refl refl
zeros (DocumentMarker line) = line-named 5 line refl refl
zeros (LinesLeft line) = line-named 6 line refl refl
zeros (AnchorAliasOrTag line) = line-named 7 line refl refl
zeros (TextAfterValue line) = line-named 8 line refl refl
zeros (FlowMappingOpen line) = line-named 9 line refl refl
zeros (FlowSequenceOpen line) = line-named 10 line refl refl
zeros (EscapeCut line) = line-named 11 line refl refl
zeros (UnknownEscape line) = line-named 12 line refl refl
zeros (QuoteOpen line) = line-named 13 line refl refl
zeros (EmptyKey line) = line-named 14 line refl refl
zeros (ComplexKey line) = line-named 15 line refl refl
zeros (KeyNotScalar line) = line-named 16 line refl refl
zeros (KeyWithoutColon line) = line-named 17 line refl refl
zeros (KeyTwice line) = line-named 18 line refl refl
zeros (StuckSequence line) = line-named 19 line refl refl
zeros (TooDeep line) = line-named 20 line refl refl
zeros (StepNotMapping step) = step-named 32 step refl refl
zeros (ExpectNotMapping line step) = both-named 33 line step refl refl refl
zeros (NotOneCommand step) = step-named 34 step refl refl
zeros (ExpectBesideBuiltIn line step) = both-named 35 line step refl refl refl
zeros (UnknownCommand line step) = both-named 36 line step refl refl refl
zeros (RepeatWithoutSteps step) = step-named 37 step refl refl
zeros (TimesNotPositive step) = step-named 38 step refl refl
zeros (TimesTooLarge step) = step-named 39 step refl refl
zeros NotForPanel = of-another 55 refl
zeros WishesOutOfRange = of-another 61 refl
zeros SupplyTooSmall = of-another 62 refl
zeros LogFalls = of-another 63 refl
zeros LogTooLong = of-another 64 refl
zeros ListTooShort = of-another 65 refl
zeros _ = nothing-named _ refl

-- a refusal that is answered, and counts from 1
refusal-names : {A : Type 0} (e : Refusal) → Counts {A = A} (refusal e) → Names {A = A} (refusal e)
refusal-names e h n l s q =
    let x : (told_of e).number ≡ n = cc in
    let y : (told_of e).line ≡ l = cc in
    let z : (told_of e).step ≡ s = cc in
    let k : Zeros n l s = rw (← x, ← y, ← z) (zeros e) in
    let c = h n l s q in
    record { is_given = k.is_given c.own; no_line = k.no_line; line = c.line; no_step = k.no_step; step = c.step }

good-names : {A : Type 0} {x : A} → Names (good x)
good-names {x = x} n l s e = refused≢good x n l s (sym e)

-- ---- the answers of each job

pub tree_named : (r : TreeAnswer) (work : ℕ) (text : List ℕ) → trees.answer_of r ≡ trees.size_of (trees.tree work text) → Names (trees.answer_of r)
tree_named (tree_answer.Read n) work text e = good-names
tree_named (tree_answer.Refused k) work text e = refusal-names k (rw e (tree-counted work text))

pub scenario_named : (r : ScenarioAnswer) (work room places : ℕ) (text : List ℕ) → scenarios.answer_of r ≡ scenarios.sizes_of (scenarios.scenario work room places text)
    → Names (scenarios.answer_of r)
scenario_named (scenario_answer.Read t b l n) work room places text e = good-names
scenario_named (scenario_answer.Refused k) work room places text e = refusal-names k (rw e (scenario-counted work room places text))

pub record_named : (r : RecordAnswer) (b : List ℕ) → records.answer_of r ≡ records.check_record b → Names (records.answer_of r)
record_named (record_answer.Good n) b e = good-names
record_named (record_answer.Refused k) b e = refusal-names k (rw e (record-counted b))

pub steps_named : (r : StepsAnswer) (b lines names : List ℕ) → steps.answer_of r ≡ steps.check_steps b lines names → Names (steps.answer_of r)
steps_named (steps_answer.Good n) b lines names e = good-names
steps_named (steps_answer.Refused k) b lines names e = refusal-names k (rw e (check-counted b lines names))

pub times_named : (r : TimesAnswer) (b : List ℕ) (number : ℕ) → lookups.times_of r ≡ lookups.times b number → Names (lookups.times_of r)
times_named (times_answer.Times n) b number e = good-names
times_named (times_answer.Refused k) b number e = refusal-names k (rw e (times-counted b number))

lookup-names : (r : Lookup) → Counts (records.lookup_of r) → Names (records.lookup_of r)
lookup-names (lookup.Found start end) h = good-names
lookup-names lookup.Nothing h = good-names
lookup-names (lookup.Refused k) h = refusal-names k h

pub field_named : (r : Lookup) (b : List ℕ) (place : ℕ) → records.lookup_of r ≡ records.field b place → Names (records.lookup_of r)
field_named r b place e = lookup-names r (rw e (field-counted b place))

pub number_named : (r : Lookup) (b : List ℕ) (number : ℕ) → records.lookup_of r ≡ records.step b number → Names (records.lookup_of r)
number_named r b number e = lookup-names r (rw e (number-counted b number))

pub id_named : (r : Lookup) (b id : List ℕ) → records.lookup_of r ≡ lookups.step_by_id b id → Names (records.lookup_of r)
id_named r b id e = lookup-names r (rw e (id-counted b id))

pub key_named : (r : Lookup) (b : List ℕ) (number : ℕ) (key : List ℕ) → records.lookup_of r ≡ lookups.value_by_key b number key → Names (records.lookup_of r)
key_named r b number key e = lookup-names r (rw e (value-counted b number key))

pub ruleset jobs = (tree_named, scenario_named, record_named, steps_named, times_named, field_named, number_named, id_named, key_named)
