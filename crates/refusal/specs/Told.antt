-- Document 01, "Answers", P11 and P12 of document 02: the number, the line and the step that an answer names of each refusal. Uses Base of
-- this crate. Assumes nothing.
use Rattle.std.specs.Prelude.{ℕ}
use Rattle.refusal.specs.Base.{Answer, refused}
use Rattle.refusal.specs.declared.Told.{Told}
use Rattle.refusal.specs.declared.Refusal.{Refusal}
use Rattle.refusal.specs.declared.Refusal.TheVariants.{TextTooLong, NotUtf8, TooManyLines, TabInIndentation, DocumentMarker, LinesLeft, AnchorAliasOrTag}
use Rattle.refusal.specs.declared.Refusal.TheVariants.{TextAfterValue, FlowMappingOpen, FlowSequenceOpen, EscapeCut, UnknownEscape, QuoteOpen, EmptyKey}
use Rattle.refusal.specs.declared.Refusal.TheVariants.{ComplexKey, KeyNotScalar, KeyWithoutColon, KeyTwice, StuckSequence, TooDeep, DocumentNotMapping}
use Rattle.refusal.specs.declared.Refusal.TheVariants.{UnknownTopKey, OtherSchema, NoSchema, NoName, TagsNotSequence, FailOnNotSequence}
use Rattle.refusal.specs.declared.Refusal.TheVariants.{DefaultsNotMapping, UnknownDefault, DefaultNotScalar, StepsNotSequence, StepNotMapping}
use Rattle.refusal.specs.declared.Refusal.TheVariants.{ExpectNotMapping, NotOneCommand, ExpectBesideBuiltIn, UnknownCommand, RepeatWithoutSteps}
use Rattle.refusal.specs.declared.Refusal.TheVariants.{TimesNotPositive, TimesTooLarge, Malformed, WorkTooShort, TooFewLinePlaces, RecordTooLong}
use Rattle.refusal.specs.declared.Refusal.TheVariants.{OutOfRange, NotForPanel, WishesOutOfRange, SupplyTooSmall, LogFalls, LogTooLong, ListTooShort}

abbrev pub told : ℕ → ℕ → ℕ → Told
told n l s = record { number = n; line = l; step = s }

abbrev pub told_of : Refusal → Told
told_of TextTooLong = told 1 0 0
told_of NotUtf8 = told 2 0 0
told_of (TooManyLines line) = told 3 line 0
told_of (TabInIndentation line) = told 4 line 0
told_of (DocumentMarker line) = told 5 line 0
told_of (LinesLeft line) = told 6 line 0
told_of (AnchorAliasOrTag line) = told 7 line 0
told_of (TextAfterValue line) = told 8 line 0
told_of (FlowMappingOpen line) = told 9 line 0
told_of (FlowSequenceOpen line) = told 10 line 0
told_of (EscapeCut line) = told 11 line 0
told_of (UnknownEscape line) = told 12 line 0
told_of (QuoteOpen line) = told 13 line 0
told_of (EmptyKey line) = told 14 line 0
told_of (ComplexKey line) = told 15 line 0
told_of (KeyNotScalar line) = told 16 line 0
told_of (KeyWithoutColon line) = told 17 line 0
told_of (KeyTwice line) = told 18 line 0
told_of (StuckSequence line) = told 19 line 0
told_of (TooDeep line) = told 20 line 0
told_of DocumentNotMapping = told 21 0 0
told_of UnknownTopKey = told 22 0 0
told_of OtherSchema = told 23 0 0
told_of NoSchema = told 24 0 0
told_of NoName = told 25 0 0
told_of TagsNotSequence = told 26 0 0
told_of FailOnNotSequence = told 27 0 0
told_of DefaultsNotMapping = told 28 0 0
told_of UnknownDefault = told 29 0 0
told_of DefaultNotScalar = told 30 0 0
told_of StepsNotSequence = told 31 0 0
told_of (StepNotMapping step) = told 32 0 step
told_of (ExpectNotMapping line step) = told 33 line step
told_of (NotOneCommand step) = told 34 0 step
told_of (ExpectBesideBuiltIn line step) = told 35 line step
told_of (UnknownCommand line step) = told 36 line step
told_of (RepeatWithoutSteps step) = told 37 0 step
told_of (TimesNotPositive step) = told 38 0 step
told_of (TimesTooLarge step) = told 39 0 step
told_of Malformed = told 40 0 0
told_of WorkTooShort = told 50 0 0
told_of TooFewLinePlaces = told 51 0 0
told_of RecordTooLong = told 52 0 0
told_of OutOfRange = told 53 0 0
told_of NotForPanel = told 55 0 0
told_of WishesOutOfRange = told 61 0 0
told_of SupplyTooSmall = told 62 0 0
told_of LogFalls = told 63 0 0
told_of LogTooLong = told 64 0 0
told_of ListTooShort = told 65 0 0

-- a refusal as the answer of a definition
abbrev pub refusal : {A : Type 0} → Refusal → Answer A
refusal e = refused (told_of e).number (told_of e).line (told_of e).step
