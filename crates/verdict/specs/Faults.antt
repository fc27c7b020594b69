-- The causes for which a record is refused (01, "Refused input"), a test for each, and their order.
use Rattle.std.specs.Prelude.{Bool, true, false, not, cond, ◌&&◌, ◌||◌, List, ℕ, ◌+◌, leb, ltb, eqb, length, Option, Some, None, Result, Ok, Err}
use Rattle.finite.specs.Finite.{some_below}
use Rattle.mask.specs.Mask as mask
use Rattle.lcm.specs.Lcm.{lcm}
use Rattle.layout.specs.declared.Kind.{Kind}
use Rattle.layout.specs.declared.Kind.TheVariants.{Network, Processor, Task, CoResident, Exclusive, Message}
use Rattle.verdict.specs.declared.Cause.{Cause}
use Rattle.verdict.specs.declared.Cause.TheVariants.{Cut, UnknownMark, OutOfOrder, TooMany, OutOfRange, NotInFile, PriorityUsed, PeriodsDiffer, MessageRepeated, HyperperiodTooLarge}
use Rattle.verdict.specs.declared.Taken.{Taken}
use Rattle.layout.specs.declared.Progress.{Progress}
use Rattle.layout.specs.Format.{row, size, field, kind_at, limit, execution_time, period, deadline, priority, residence, sender, receiver, amount, count, place}

-- the record is of the kind that a test concerns
abbrev pub is : Kind → Kind → Bool
is k j = eqb (row k).order (row j).order

-- ---- the tests, in the order of the causes; s is the file, at the record's place, x what was taken before it

-- 1: the bytes run out within the mark, or within the record
unfoldable pub mark_cut : List ℕ → ℕ → Bool
mark_cut s at = ltb (length s) (at + 2)

unfoldable pub record_cut : List ℕ → ℕ → Kind → Bool
record_cut s at k = ltb (length s) (at + size k)

-- 2: the mark is none of the six: `kind_at` of the format

-- 3: a mark earlier in the order than the record before it, or a second NT
unfoldable pub out_of_order : Progress → Kind → Bool
out_of_order x k = ltb (row k).order x.next

-- 4: one more of a kind than allowed
unfoldable pub too_many : Progress → Kind → Bool
too_many x k = leb (row k).most (count x k)

-- 5: a number outside its range
abbrev pub in_range : ℕ → ℕ → ℕ → Bool
in_range low high v = leb low v && leb v high

unfoldable pub out_of_range : List ℕ → ℕ → Kind → Bool
out_of_range s at Network = false
out_of_range s at Processor = not (in_range 1 1000 (limit s at))
out_of_range s at Task = not (leb 1 (execution_time s at) && leb (execution_time s at) (deadline s at) && leb (deadline s at) (period s at) && leb (period s at) 1000000)
out_of_range s at CoResident = false
out_of_range s at Exclusive = false
out_of_range s at Message = not (in_range 1 1000000 (amount s at))

-- 6: a task or processor not in the file, an empty residence, a group below two, sender equal to receiver
unfoldable pub bad_residence : ℕ → ℕ → Bool
bad_residence processors r = eqb r 0 || not (mask.below processors r)

unfoldable pub bad_group : ℕ → ℕ → Bool
bad_group tasks g = not (mask.below tasks g) || not (leb 2 (mask.cardinality 32 g))

unfoldable pub bad_pair : ℕ → ℕ → ℕ → Bool
bad_pair tasks a b = leb tasks a || leb tasks b || eqb a b

unfoldable pub not_in_file : List ℕ → ℕ → Progress → Kind → Bool
not_in_file s at x Network = false
not_in_file s at x Processor = false
not_in_file s at x Task = bad_residence (count x Processor) (residence s at)
not_in_file s at x CoResident = bad_group (count x Task) (field CoResident 0 s at)
not_in_file s at x Exclusive = bad_group (count x Task) (field Exclusive 0 s at)
not_in_file s at x Message = bad_pair (count x Task) (sender s at) (receiver s at)

-- 7: the priority of an earlier task
unfoldable pub priority_used : List ℕ → ℕ → Progress → Kind → Bool
priority_used s at x k = is k Task && some_below (count x Task) (λ j. eqb (priority s (place x Task j)) (priority s at))

-- 8: sender and receiver differ in period
unfoldable pub periods_differ : List ℕ → ℕ → Progress → Kind → Bool
periods_differ s at x k = is k Message && not (eqb (period s (place x Task (sender s at))) (period s (place x Task (receiver s at))))

-- 9: sender and receiver of an earlier message
unfoldable pub message_repeated : List ℕ → ℕ → Progress → Kind → Bool
message_repeated s at x k =
    is k Message && some_below (count x Message) (λ j. eqb (sender s (place x Message j)) (sender s at) && eqb (receiver s (place x Message j)) (receiver s at))

-- 10: the least common multiple of the periods, this one among them, passes its limit
abbrev pub hyperperiod_with : List ℕ → ℕ → Progress → Kind → ℕ
hyperperiod_with s at x k = cond (is k Task) (lcm x.hyperperiod (period s at)) x.hyperperiod

unfoldable pub hyperperiod_too_large : List ℕ → ℕ → Progress → Kind → Bool
hyperperiod_too_large s at x k = is k Task && ltb 1000000000 (hyperperiod_with s at x k)

-- ---- the order: "mark cut (1), 2, record cut (1), then 3 to 10 rising"

abbrev pub refuse : Bool → Cause → Result Taken Cause → Result Taken Cause
refuse true c v = Err c
refuse false c v = v

-- no test refuses: the record's kind, and the hyperperiod with it
abbrev pub taken : Kind → ℕ → Result Taken Cause
taken k h = Ok (record { kind = k; hyperperiod = h })

unfoldable pub content_verdict : List ℕ → ℕ → Progress → Kind → Result Taken Cause
content_verdict s at x k =
    refuse (out_of_range s at k) OutOfRange
    (refuse (not_in_file s at x k) NotInFile
    (refuse (priority_used s at x k) PriorityUsed
    (refuse (periods_differ s at x k) PeriodsDiffer
    (refuse (message_repeated s at x k) MessageRepeated
    (refuse (hyperperiod_too_large s at x k) HyperperiodTooLarge
    (taken k (hyperperiod_with s at x k)))))))

unfoldable pub record_verdict : List ℕ → ℕ → Progress → Kind → Result Taken Cause
record_verdict s at x k =
    refuse (record_cut s at k) Cut
    (refuse (out_of_order x k) OutOfOrder
    (refuse (too_many x k) TooMany
    (content_verdict s at x k)))

abbrev pub mark_verdict : List ℕ → ℕ → Progress → Option Kind → Result Taken Cause
mark_verdict s at x None = Err UnknownMark
mark_verdict s at x (Some k) = record_verdict s at x k

unfoldable pub verdict : List ℕ → ℕ → Progress → Result Taken Cause
verdict s at x = refuse (mark_cut s at) Cut (mark_verdict s at x (kind_at s at))
