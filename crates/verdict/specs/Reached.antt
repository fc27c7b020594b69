-- What is known between two records, and parts of the verdict that functions of their own give.
use Rattle.std.specs.Prelude.{◌≡◌, List, ℕ, ◌+◌, ◌≤◌, length, Result}
use Rattle.wire.specs.Wire.{number}
use Rattle.layout.specs.declared.Kind.{Kind}
use Rattle.layout.specs.declared.Kind.TheVariants.{Task, Message}
use Rattle.verdict.specs.declared.Cause.{Cause}
use Rattle.verdict.specs.declared.Cause.TheVariants.{NotInFile, PeriodsDiffer, MessageRepeated}
use Rattle.verdict.specs.declared.Taken.{Taken}
use Rattle.layout.specs.declared.Progress.{Progress}
use Rattle.layout.specs.Format.{count, end, sender, receiver, Counted}
use Rattle.verdict.specs.Faults.{refuse, taken, bad_group, bad_pair, periods_differ, message_repeated}

-- the records taken stand before the place, with nothing between them
pub record Reached (s : List ℕ) (at : ℕ) (x : Progress) : Type 0 where
  pub counted : Counted x
  pub inside : at ≤ length s
  pub ends : at ≡ end x
  pub least : 1 ≤ x.hyperperiod
  pub most : x.hyperperiod ≤ 1000000000

-- 5 to 10 for a group
abbrev pub group_verdict : List ℕ → ℕ → Progress → Kind → Result Taken Cause
group_verdict s at x k = refuse (bad_group (count x Task) (number s (at + 2) 4)) NotInFile (taken k x.hyperperiod)

-- 6 to 10 for a message
abbrev pub pair_verdict : List ℕ → ℕ → Progress → Result Taken Cause
pair_verdict s at x =
    refuse (bad_pair (count x Task) (sender s at) (receiver s at)) NotInFile
    (refuse (periods_differ s at x Message) PeriodsDiffer
    (refuse (message_repeated s at x Message) MessageRepeated
    (taken Message x.hyperperiod)))
