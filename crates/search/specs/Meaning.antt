-- What the search's answer means: demand 3 in the words of 01 ("The search answer"), with the tick run of "Response and run"; "Refused input" for the refusals.
use Rattle.std.specs.Prelude.{◌≡◌, Bool, true, false, List, ◌++◌, ℕ, ◌+◌, ◌^◌, ◌≤◌, ◌<◌, length, get_or, drop, Result, Ok, Err}
use Rattle.verdict.specs.declared.Cause.{Cause}
use Rattle.verdict.specs.declared.Cause.TheVariants.{ShortAnswer}
use Rattle.table.specs.declared.Refusal.{Refusal}
use Rattle.table.specs.Refusal.{refusal}
use Rattle.table.specs.declared.Table.{Table}
use Rattle.table.specs.Sound.{Sound}
use Rattle.table.specs.Table.{read_of}
use Rattle.timing.specs.Timing.{tasks_in}
use Rattle.rules.specs.Placement.{placed}
use Rattle.rules.specs.Rules.{Keeps}
use Rattle.conflict.specs.Conflict.{Minimal}
use Rattle.judge.specs.Judge.{PlacementOf}
use Rattle.judge.specs.Good.{Good}
use Rattle.judge.specs.Meaning.{Reads}
use Rattle.answer.specs.Answer.{found_head, none_head, records, end_bytes, places, count_of}
use Rattle.goal.specs.Order.{Earlier}
use Rattle.goal.specs.Goal.{Resides, OnOne, HoldsListed}

-- 01: the file's own refusal; after the file is read 12, an answer buffer below n + 5 bytes, place 0
pub data SearchRefuses (file old : List ℕ) : Cause → ℕ → Type 0 where
  unreadable : {cause : Cause} {place : ℕ} → read_of file ≡ Err (refusal cause place) → SearchRefuses file old cause place
  too_short : Reads file (λ t. length old < t.tasks.count + 5) → SearchRefuses file old ShortAnswer 0

-- what the head says: a placement, or that there is none
pub data Head : Type 0 where
  AL : List ℕ → Head
  NO : Head

-- 01: the head is `AL` and n processor bytes, or `NO` and n bytes 255
abbrev pub head_bytes : ℕ → Head → List ℕ
head_bytes n (AL q) = found_head q
head_bytes n NO = none_head n

-- 01: a placement that keeps the placement rules and has no late job is the first if every earlier one breaks a placement rule or has a late job;
-- demand 3: none exactly where there is none
abbrev pub RightHead : Table → Head → Type 0
RightHead t (AL q) = Good t q × ((e : List ℕ) → Earlier e q → Good t e → ⊥)
RightHead t NO = (e : List ℕ) → Good t e → ⊥

-- 01: with `NO`, every placement counts as earlier
abbrev pub CountsAsEarlier : Head → List ℕ → Type 0
CountsAsEarlier (AL q) e = Earlier e q
CountsAsEarlier NO e = Unit {0}

-- an earlier placement of the table's tasks that has the property P
pub record SomeEarlier (t : Table) (head : Head) (P : List ℕ → Type 0) : Type 0 where
  pub placement : List ℕ
  pub whole : PlacementOf t placement
  pub earlier : CountsAsEarlier head placement
  pub has : P placement

-- 01: 1 complete: every earlier placement that keeps the placement rules has all tasks of a listed conflict on one processor;
-- 0 cut: no place is free, and some earlier placement that keeps them has all tasks of no listed conflict on one processor
abbrev pub RightMark : Table → Head → ℕ → List ℕ → Bool → Type 0
RightMark t head room cs true = (e : List ℕ) → PlacementOf t e → CountsAsEarlier head e → Keeps t (placed e) → HoldsListed t cs e
RightMark t head room cs false = (length cs ≡ room) × SomeEarlier t head (λ e. Keeps t (placed e) × (HoldsListed t cs e → ⊥))

-- an answer of so many bytes in a buffer that held old and now holds new
pub record RightSearch (file old new : List ℕ) (count : ℕ) : Type 0 where
  -- the file is read as a table, and the buffer is long enough
  pub table : Table
  pub read : read_of file ≡ Ok table
  pub sound : Sound table
  pub long : table.tasks.count + 5 ≤ length old
  -- the first placement, or none
  pub head : Head
  pub first : RightHead table head
  -- the conflicts: sets of the table's tasks, all different, no more than there are places for
  pub conflicts : List ℕ
  pub room : length conflicts ≤ places table.tasks.count (length old)
  pub known : (j : ℕ) → j < length conflicts → get_or conflicts j 0 < 2 ^ table.tasks.count
  pub different : (i j : ℕ) → i < length conflicts → j < length conflicts → get_or conflicts i 0 ≡ get_or conflicts j 0 → i ≡ j
  -- each is late in the tick run, and not late with any one task left out
  pub minimal : (j : ℕ) → j < length conflicts → Minimal (tasks_in table) (get_or conflicts j 0)
  -- for each some earlier placement, every task in its residence, has all its tasks on one processor
  pub held : (j : ℕ) → j < length conflicts → SomeEarlier table head (λ e. Resides table e × OnOne table e (get_or conflicts j 0))
  -- the mark: 1 complete, 0 cut
  pub complete : Bool
  pub mark : RightMark table head (places table.tasks.count (length old)) conflicts complete
  -- the bytes: head, conflict records, end, and then what the buffer held; the count is n + 5 + 6 × the number of conflicts
  pub bytes : new ≡ head_bytes table.tasks.count head ++ records conflicts ++ end_bytes complete
      ++ drop (count_of table.tasks.count (length conflicts)) old
  pub counted : count ≡ count_of table.tasks.count (length conflicts)

-- what the search answers on a file and a buffer that held old and now holds new; a refusal writes nothing
abbrev pub SearchMeans : List ℕ → List ℕ → List ℕ → Result ℕ Refusal → Type 0
SearchMeans file old new (Err r) = SearchRefuses file old r.cause r.place × (new ≡ old)
SearchMeans file old new (Ok count) = RightSearch file old new count
