-- Why something is refused, and 01's numbers of the causes ("Refused input").
use Rattle.std.specs.Prelude.{ℕ}
use Rattle.verdict.specs.declared.Cause.{Cause}
use Rattle.verdict.specs.declared.Cause.TheVariants.{
  Cut,
  UnknownMark,
  OutOfOrder,
  TooMany,
  OutOfRange,
  NotInFile,
  PriorityUsed,
  PeriodsDiffer,
  MessageRepeated,
  HyperperiodTooLarge,
  Missing,
  ShortAnswer,
  PlacementLength,
  UnknownProcessor,
  NoConflictMask,
}
use Rattle.table.specs.declared.Refusal.{Refusal}

-- the number of a cause
abbrev pub cause_number : Cause → ℕ
cause_number Cut = 1
cause_number UnknownMark = 2
cause_number OutOfOrder = 3
cause_number TooMany = 4
cause_number OutOfRange = 5
cause_number NotInFile = 6
cause_number PriorityUsed = 7
cause_number PeriodsDiffer = 8
cause_number MessageRepeated = 9
cause_number HyperperiodTooLarge = 10
cause_number Missing = 11
cause_number ShortAnswer = 12
cause_number PlacementLength = 13
cause_number UnknownProcessor = 14
cause_number NoConflictMask = 15

-- a refusal for a cause, at a place
abbrev pub refusal : Cause → ℕ → Refusal
refusal cause at = record { cause = cause; place = at }
