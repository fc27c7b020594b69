-- What the functions of the search begin with.
use Rattle.std.specs.Prelude.{◌≡◌, false, List, ℕ, ◌<◌, T, get_or}
use Rattle.mask.specs.Mask.{has, Subset}
use Rattle.table.specs.declared.Table.{Table}
use Rattle.timing.specs.Timing.{tasks_in}
use Rattle.schedule.specs.Periodic.{LateSet}
use Rattle.rules.specs.Placement.{and_task}
use Rattle.rules.specs.Sets.{standing}
use Rattle.nogoods.specs.declared.Mode.{Mode}
use Rattle.nogoods.specs.Nogoods.{Nogoods, Clear}
use Rattle.partial.specs.declared.State.{State}
use Rattle.partial.specs.Partial.{Fits}
use Rattle.region.specs.Region.{Within, Refuted}

-- open tasks that may reside on p
pub record Eligible (t : Table) (s : State) (p set : ℕ) : Type 0 where
  pub waits : Subset set s.left
  pub resides : (k : ℕ) → T (has set k) → T (has (get_or t.tasks.residence k 0) p)

-- no placement with another open task on p is good
abbrev pub OthersRefuted : Table → State → ℕ → ℕ → Type 0
OthersRefuted t s p set = (k : ℕ) → T (has s.left k) → (T (has set k) → ⊥) → Refuted t (LateSet (tasks_in t)) (Within (and_task (standing s.on) k p))

-- open tasks that may reside on p, and no others may stand there
pub record Narrowed (t : Table) (s : State) (p set : ℕ) : Type 0 where
  pub eligible : Eligible t s p set
  pub others : OthersRefuted t s p set

-- the state with other tasks that may still stand on each processor
abbrev pub with_may : State → List ℕ → State
with_may s may = record { on = s.on; left = s.left; may = may; memory = s.memory; load = s.load; traffic = s.traffic }

-- what the state says of each processor, which tasks may still stand there, is so
abbrev pub AllNarrowed : Table → State → Type 0
AllNarrowed t s = (p : ℕ) → p < t.processors.count → Narrowed t s p (get_or s.may p 0)

-- a state whose sets may all stand, and the list of conflicts so far
pub record Stands (t : Table) (mode : Mode) (s : State) (list : List ℕ) (count : ℕ) : Type 0 where
  pub fits : Fits t s
  pub nogoods : Nogoods (tasks_in t) list count
  pub clear : (p : ℕ) → Clear (tasks_in t) mode.listing list count (has (get_or s.on p 0))

-- the same; and where nothing is listed, the tasks that may still stand on each processor. Where conflicts are listed, these only guide the search.
pub record Begins (t : Table) (mode : Mode) (s : State) (list : List ℕ) (count : ℕ) : Type 0 where
  pub fits : Fits t s
  pub nogoods : Nogoods (tasks_in t) list count
  pub clear : (p : ℕ) → Clear (tasks_in t) mode.listing list count (has (get_or s.on p 0))
  pub narrowed : mode.listing ≡ false → AllNarrowed t s

-- a state that fits the table, and the list of conflicts so far
pub record Opens (t : Table) (s : State) (list : List ℕ) (count : ℕ) : Type 0 where
  pub fits : Fits t s
  pub nogoods : Nogoods (tasks_in t) list count

-- a state none of whose sets is late
pub record Ready (t : Table) (s : State) : Type 0 where
  pub fits : Fits t s
  pub in_time : (p : ℕ) → LateSet (tasks_in t) (has (get_or s.on p 0)) → ⊥

-- the same, with the tasks that may still stand on each processor
pub record Prepared (t : Table) (s : State) : Type 0 where
  pub fits : Fits t s
  pub in_time : (p : ℕ) → LateSet (tasks_in t) (has (get_or s.on p 0)) → ⊥
  pub narrowed : AllNarrowed t s
