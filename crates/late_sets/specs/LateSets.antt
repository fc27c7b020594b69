-- The late sets that could stand on a processor in a region, each with a listed conflict.
use Rattle.std.specs.Prelude.{◌≡◌, Bool, true, ◌&&◌, List, ℕ, ◌≤◌, ◌<◌, T, get_or}
use Rattle.finite.specs.Finite.{only, sum_to}
use Rattle.mask.specs.Mask.{has}
use Rattle.table.specs.declared.Table.{Table}
use Rattle.schedule.specs.Periodic.{LateSet}
use Rattle.timing.specs.Timing.{tasks_in}
use Rattle.rules.specs.Placement.{placed}
use Rattle.rules.specs.Rules.{Keeps}
use Rattle.rules.specs.Sets.{standing}
use Rattle.judge.specs.Judge.{PlacementOf}
use Rattle.rows.specs.Rows.{loads_of}
use Rattle.partial.specs.declared.State.{State}
use Rattle.nogoods.specs.Nogoods.{Nogoods, Extended, Covered}
use Rattle.region.specs.Region.{Within, Met}
use Rattle.subsets.specs.declared.Subset.{Subset}
use Rattle.subsets.specs.Subsets.{can_stand, Small}
use Rattle.late_sets.specs.declared.Covering.{Covering}
use Rattle.rows.specs.declared.Rows.{Rows}

-- what the open tasks of a set take, by a row
unfoldable pub open_sum : Table → State → List ℕ → ℕ → ℕ
open_sum t s row set = sum_to t.tasks.count (λ k. only (has set k && has s.left k) (get_or row k 0))

-- a placement of the region that keeps the rules
pub record Kept (t : Table) (s : State) (q : List ℕ) : Type 0 where
  pub whole : PlacementOf t q
  pub inside : Within (standing s.on) q
  pub keeps : Keeps t (placed q)

-- what the recursion begins with: a set of tasks before the next one, and the list of conflicts so far
pub record Continues (t : Table) (x : Subset) (list : List ℕ) (count : ℕ) : Type 0 where
  pub nogoods : Nogoods (tasks_in t) list count
  pub upto : x.next ≤ t.tasks.count
  pub before : (k : ℕ) → T (has x.set k) → k < x.next
  pub small : Small x

-- where the set could stand: each task of it on each of its processors; and each processor on which a placement has all of it is one of them
pub record Possible (t : Table) (rows : Rows) (s : State) (x : Subset) : Type 0 where
  pub memory : x.memory ≡ open_sum t s t.tasks.memory x.set
  pub load : x.load ≡ open_sum t s (loads_of t) x.set
  pub processor : (p : ℕ) → T (has x.processors p) → p < t.processors.count
  pub stands : (p : ℕ) → T (has x.processors p) → (k : ℕ) → T (has x.set k) → T (can_stand rows s k p)
  pub reached : (q : List ℕ) → Kept t s q → (p : ℕ) → p < t.processors.count → ((k : ℕ) → T (has x.set k) → T (placed q k p)) → T (has x.processors p)

-- the set is not late
abbrev pub InTime : Table → Subset → Type 0
InTime t x = LateSet (tasks_in t) (has x.set) → ⊥

-- the tasks y are those of the subset and, beside them, only tasks from the next one on
pub record BeginsWith (x : Subset) (y : ℕ → Bool) : Type 0 where
  pub has_all : (k : ℕ) → T (has x.set k) → T (y k)
  pub no_other : (k : ℕ) → k < x.next → T (y k) → T (has x.set k)

-- what is left by a listing for sets of the kind K: where it is complete, each late set of that kind holds a listed conflict,
-- on whatever processor a placement of the region that keeps the rules has it
pub record CoversAs (t : Table) (s : State) (K : (ℕ → Bool) → Type 0) (old : List ℕ) (before : ℕ) (new : List ℕ) (r : Covering) : Type 0 where
  pub list : Extended (Met t (Within (standing s.on))) (tasks_in t) old before new r.count
  pub covers : r.complete ≡ true → (q : List ℕ) → Kept t s q → (p : ℕ) → K (λ k. placed q k p) → LateSet (tasks_in t) (λ k. placed q k p)
      → Covered new r.count (λ k. placed q k p)
