-- The conflict check on a file (01: the file's refusals, then 15; else 0, 1, 2).
use Rattle.std.specs.Prelude.{◌≡◌, cond, List, ℕ, Result, Ok, Err}
use Rattle.verdict.specs.declared.Cause.TheVariants.{NoConflictMask}
use Rattle.verdict.specs.Faults.{bad_group}
use Rattle.table.specs.declared.Table.{Table}
use Rattle.table.specs.declared.Refusal.{Refusal}
use Rattle.table.specs.Refusal.{refusal}
use Rattle.table.specs.Table.{read_of}
use Rattle.timing.specs.Timing.{tasks_in}
use Rattle.conflict.specs.declared.Finding.{Finding}
use Rattle.conflict.specs.Conflict.{Right, finding_of}

-- 15: a mask with an unknown task or fewer than two; place 0
abbrev pub table_answer : Table → ℕ → Result Finding Refusal
table_answer t mask = cond (bad_group t.tasks.count mask) (Err (refusal NoConflictMask 0)) (Ok (finding_of (tasks_in t) mask))

-- after the file's own refusals
abbrev pub answer_by : Result Table Refusal → ℕ → Result Finding Refusal
answer_by (Err r) mask = Err r
answer_by (Ok t) mask = table_answer t mask

abbrev pub answer_of : List ℕ → ℕ → Result Finding Refusal
answer_of s mask = answer_by (read_of s) mask

-- what is found is right of the tick run
abbrev pub RightAnswer : Table → ℕ → Result Finding Refusal → Type 0
RightAnswer t mask (Err r) = Unit {0}
RightAnswer t mask (Ok finding) = Right (tasks_in t) mask finding

pub record AnsweredFor (t : Table) (mask : ℕ) (r : Result Finding Refusal) : Type 0 where
  pub value : r ≡ table_answer t mask
  pub right : RightAnswer t mask r

-- the answer of a conflict check: the definition's, and right of the tick run of the table that was read
pub record Answered (s : List ℕ) (mask : ℕ) (r : Result Finding Refusal) : Type 0 where
  pub value : r ≡ answer_of s mask
  pub right : (t : Table) → read_of s ≡ Ok t → RightAnswer t mask r
