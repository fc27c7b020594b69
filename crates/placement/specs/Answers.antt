-- The numbers that C takes back.
use Rattle.std.specs.Prelude.{◌≡◌, List, ℕ, ◌+◌, ◌*◌, ◌^◌, ◌<◌, Result, Ok, Err}
use Rattle.table.specs.declared.Refusal.{Refusal}
use Rattle.table.specs.declared.Table.{Table}
use Rattle.table.specs.Refusal.{cause_number}
use Rattle.conflict.specs.declared.Finding.{Finding}
use Rattle.conflict.specs.Conflict.{finding_number}
use Rattle.search.specs.Search.{Searched}

-- a refusal: its number times 2 ^ 32, and its place
abbrev pub refused_as : Refusal → ℕ
refused_as r = cause_number r.cause * 4294967296 + r.place

-- a reading: 0, or the refusal
abbrev pub read_as : Result Table Refusal → ℕ
read_as (Ok t) = 0
read_as (Err r) = refused_as r

-- a conflict check: 0, 1 or 2, or the refusal
abbrev pub conflict_as : Result Finding Refusal → ℕ
conflict_as (Ok finding) = finding_number finding
conflict_as (Err r) = refused_as r

-- a judgement task by task, or a search: the count of numbers or bytes written, or the refusal
abbrev pub written_as : Result ℕ Refusal → ℕ
written_as (Ok count) = count
written_as (Err r) = refused_as r

-- a search: what it leaves of the buffer, and the number that stands for its answer; a count is below 2 ^ 32, so that it is never taken for a refusal
pub record SearchedAs (file old new : List ℕ) (r : ℕ) : Type 0 where
  pub answer : Result ℕ Refusal
  pub searched : Searched file old new answer
  pub number : r ≡ written_as answer
  pub below : (count : ℕ) → answer ≡ Ok count → r < 2 ^ 32
