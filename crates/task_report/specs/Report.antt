-- The judgement on a placement, the responses and the margins, as numbers in the caller's buffer (02, 2026-01; 01, "Judging a placement"; "Refused input" for 1 to 14).
use Rattle.std.specs.Prelude.{cond, Option, Some, None, Result, Ok, Err, List, ◌∷◌, ◌++◌, map, ℕ, ◌+◌, ◌*◌, ltb, ℤ, pos, negsuc, length, take, drop}
use Rattle.verdict.specs.declared.Cause.TheVariants.{ShortAnswer}
use Rattle.table.specs.declared.Refusal.{Refusal}
use Rattle.table.specs.declared.Table.{Table}
use Rattle.table.specs.Table.{read_of}
use Rattle.judge.specs.declared.Judged.{Judged}
use Rattle.judge.specs.Judge.{Judgement, judge_of, check_number, check_concerned}

-- 02: a margin, a signed number; -2^31 is the mark for "beyond"
abbrev pub margin_number : Option ℤ → ℤ
margin_number (Some x) = x
margin_number None = negsuc 2147483647

-- 01: the answer's number and the number concerned; beside them stand n responses, one for each task; 02: and beside each response the margin
abbrev pub numbers_of : ℕ → Judged → List ℤ
numbers_of n j = pos (check_number j.check) ∷ pos (check_concerned j.check) ∷ map pos (take n j.responses) ++ map margin_number (take n j.margins)

-- 12: the buffer has fewer than 2n + 2 places; else 2n + 2 numbers are written
abbrev pub written_in : ℕ → ℕ → Result ℕ Refusal
written_in n room = cond (ltb room (2 * n + 2)) (Err (record { cause = ShortAnswer; place = 0 })) (Ok (2 * n + 2))

-- what is answered on a judgement of n tasks: how many numbers are written; the judgement's refusals come before 12
abbrev pub report_on : ℕ → Judgement → ℕ → Result ℕ Refusal
report_on n (Ok j) room = written_in n room
report_on n (Err r) room = Err r

-- 01: a refusal writes nothing; else the numbers stand at the start, and later places keep their contents
abbrev pub report_buffer_by : Result ℕ Refusal → List ℤ → List ℤ → List ℤ
report_buffer_by (Ok count) numbers old = numbers ++ drop count old
report_buffer_by (Err r) numbers old = old

-- what a buffer that held old holds then
abbrev pub report_buffer_on : ℕ → Judgement → List ℤ → List ℤ
report_buffer_on n (Ok j) old = report_buffer_by (written_in n (length old)) (numbers_of n j) old
report_buffer_on n (Err r) old = old

-- how many tasks a file has, where it is read
abbrev pub tasks_read : Result Table Refusal → ℕ
tasks_read (Ok t) = t.tasks.count
tasks_read (Err r) = 0

-- the same on a file and a placement, by the judgement that also gives the one number for C
unfoldable pub report_answer : List ℕ → List ℕ → ℕ → Result ℕ Refusal
report_answer file q room = report_on (tasks_read (read_of file)) (judge_of file q) room

unfoldable pub report_buffer : List ℕ → List ℕ → List ℤ → List ℤ
report_buffer file q old = report_buffer_on (tasks_read (read_of file)) (judge_of file q) old
