-- The judgement on a file and a placement (01, "Judging a placement"; "Refused input" for 1 to 11, 13 and 14).
use Rattle.std.specs.Prelude.{◌≡◌, Bool, cond, Option, Some, None, Result, Ok, Err, List, ℕ, ◌<◌, leb, ltb, eqb, ℤ, pos, length, get_or}
use Rattle.std.specs.List.{position}
use Rattle.finite.specs.Finite.{tabulate}
use Rattle.verdict.specs.declared.Cause.{Cause}
use Rattle.verdict.specs.declared.Cause.TheVariants.{PlacementLength, UnknownProcessor}
use Rattle.table.specs.declared.Refusal.{Refusal}
use Rattle.table.specs.declared.Table.{Table}
use Rattle.table.specs.Refusal.{cause_number}
use Rattle.table.specs.Table.{column, read_of}
use Rattle.schedule.specs.Periodic.{Tasks}
use Rattle.schedule.specs.Response.{response}
use Rattle.schedule.specs.Margin.{margin_of}
use Rattle.timing.specs.Timing.{tasks_in}
use Rattle.rules.specs.Placement.{placed}
use Rattle.rules.specs.Rules.{rule_number, Check, first_broken}
use Rattle.rules.specs.Sets.{missed}
use Rattle.judge.specs.declared.Judged.{Judged}

-- 01: a placement is n bytes, byte k the processor of task k
pub record PlacementOf (t : Table) (q : List ℕ) : Type 0 where
  pub long : length q ≡ t.tasks.count
  pub known : (k : ℕ) → k < length q → get_or q k 0 < t.processors.count

-- 14: the index of the first byte that names none of the m processors
unfoldable pub first_unknown : ℕ → List ℕ → Option ℕ
first_unknown m q = position (leb m) q

-- task j stands on the processor of task k
abbrev pub alongside : List ℕ → ℕ → ℕ → Bool
alongside q k j = placed q j (get_or q k 0)

-- the response of task k among the tasks that stand on its processor
abbrev pub response_of : Tasks → List ℕ → ℕ → ℕ
response_of s q k = response s (alongside q k) k

-- 01: n responses, one for each task; places beyond n hold 0
unfoldable pub responses_of : Table → List ℕ → List ℕ
responses_of t q = column 24 t.tasks.count (response_of (tasks_in t) q)

-- 02: places past the n tasks hold a known 0
abbrev pub known_zero : Option ℤ
known_zero = Some (pos 0)

-- 02: the margin of task k among the tasks that stand on its processor
abbrev pub margin_at : ℕ → Tasks → List ℕ → ℕ → Option ℤ
margin_at n s q k = cond (ltb k n) (margin_of s (alongside q k) k) known_zero

-- 02: beside each response the margin, whatever is broken
unfoldable pub margins_of : Table → List ℕ → List (Option ℤ)
margins_of t q = tabulate 24 (margin_at t.tasks.count (tasks_in t) q)

-- the answer on a file and a placement: judged, or refused with the cause and its place
abbrev pub Judgement : Type 0
Judgement = Result Judged Refusal

-- a placement that isn't refused: the first broken rule, 107 by a response of 0; beside it the responses and the margins, whatever is broken
abbrev pub judged_placement : Table → List ℕ → Judged
judged_placement t q = record { check = first_broken t (placed q) (missed (responses_of t q)); responses = responses_of t q; margins = margins_of t q }

-- a refusal: the cause and its place, without responses and margins
abbrev pub refused_judgement : Cause → ℕ → Judgement
refused_judgement cause place = Err (record { cause = cause; place = place })

-- 14 where a byte is unknown, and else the rules
abbrev pub judged_unless : Option ℕ → Table → List ℕ → Judgement
judged_unless (Some place) t q = refused_judgement UnknownProcessor place
judged_unless None t q = Ok (judged_placement t q)

-- on a table that was read: 13, then 14, then the rules
unfoldable pub judged_on : Table → List ℕ → Judgement
judged_on t q = cond (eqb (length q) t.tasks.count) (judged_unless (first_unknown t.processors.count q) t q) (refused_judgement PlacementLength 0)

-- the file's refusals come first
abbrev pub judged_by : Result Table Refusal → List ℕ → Judgement
judged_by (Ok t) q = judged_on t q
judged_by (Err r) q = Err r

unfoldable pub judge_of : List ℕ → List ℕ → Judgement
judge_of file q = judged_by (read_of file) q

-- 01: the number of a check: 0, or the broken rule's
abbrev pub check_number : Check → ℕ
check_number (Ok x) = 0
check_number (Err b) = rule_number b.rule

-- the number concerned, 0 beside answer 0
abbrev pub check_concerned : Check → ℕ
check_concerned (Ok x) = 0
check_concerned (Err b) = b.number

-- 01: one number: the refusal's, or 0, or the broken rule's
abbrev pub judgement_number : Judgement → ℕ
judgement_number (Ok j) = check_number j.check
judgement_number (Err r) = cause_number r.cause

-- the refusal's place, or the number concerned, 0 beside answer 0
abbrev pub concerned_of : Judgement → ℕ
concerned_of (Ok j) = check_concerned j.check
concerned_of (Err r) = r.place
