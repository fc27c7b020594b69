-- The search on a file (01, "The search answer"; "Refused input" for 1 to 11 and 12; demand 3).
use Rattle.std.specs.Prelude.{◌≡◌, Bool, true, false, List, ℕ, ◌+◌, ◌≤◌, ltb, length, Result, Ok, Err}
use Rattle.verdict.specs.declared.Cause.TheVariants.{ShortAnswer}
use Rattle.table.specs.declared.Table.{Table}
use Rattle.table.specs.declared.Refusal.{Refusal}
use Rattle.table.specs.Refusal.{refusal}
use Rattle.table.specs.Table.{read_of}
use Rattle.answer.specs.Answer.{places, count_of, answer_bytes}
use Rattle.goal.specs.Goal.{head_of, mark_of, Listed}

-- an answer that is written: with the conflicts that it lists all bytes follow. Free is only which conflicts are listed, and their order.
pub record Lists (t : Table) (old new : List ℕ) (r : Result ℕ Refusal) : Type 0 where
  pub conflicts : List ℕ
  pub listed : Listed t conflicts
  -- 01: as many as there are places for; as many as that where the list is cut
  pub room : length conflicts ≤ places t.tasks.count (length old)
  pub full : mark_of t conflicts ≡ false → length conflicts ≡ places t.tasks.count (length old)
  -- 01: head, conflicts, end; later bytes keep their contents; the count of bytes written is returned
  pub buffer : new ≡ answer_bytes t.tasks.count (head_of t) conflicts (mark_of t conflicts) old
  pub count : r ≡ Ok (count_of t.tasks.count (length conflicts))

-- 12: the answer buffer is below n + 5 bytes; place 0. A refusal writes nothing.
abbrev pub AnsweredBy : Bool → Table → List ℕ → List ℕ → Result ℕ Refusal → Type 0
AnsweredBy true t old new r = (r ≡ Err (refusal ShortAnswer 0)) × (new ≡ old)
AnsweredBy false t old new r = Lists t old new r

abbrev pub AnsweredOn : Table → List ℕ → List ℕ → Result ℕ Refusal → Type 0
AnsweredOn t old new r = AnsweredBy (ltb (length old) (t.tasks.count + 5)) t old new r

-- the file's refusals come first
abbrev pub SearchedBy : Result Table Refusal → List ℕ → List ℕ → Result ℕ Refusal → Type 0
SearchedBy (Err e) old new r = (r ≡ Err e) × (new ≡ old)
SearchedBy (Ok t) old new r = AnsweredOn t old new r

-- what the search leaves of a buffer that held old, and what it answers
abbrev pub Searched : List ℕ → List ℕ → List ℕ → Result ℕ Refusal → Type 0
Searched file old new r = SearchedBy (read_of file) old new r
