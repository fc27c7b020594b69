-- What a bound on the region below a state leaves.
use Rattle.std.specs.Prelude.{◌≡◌, true, List, ℕ}
use Rattle.table.specs.declared.Table.{Table}
use Rattle.rules.specs.Sets.{standing}
use Rattle.timing.specs.Timing.{tasks_in}
use Rattle.nogoods.specs.declared.Mode.{Mode}
use Rattle.nogoods.specs.Nogoods.{Extended, Bad}
use Rattle.partial.specs.declared.State.{State}
use Rattle.region.specs.Region.{Within, Refuted, Met}
use Rattle.capacity_bound.specs.declared.Bounded.{Bounded}

-- where it calls the region hopeless, no placement stands there; the list may have grown by conflicts of the region
pub record BoundedAs (t : Table) (mode : Mode) (s : State) (old : List ℕ) (before : ℕ) (new : List ℕ) (r : Bounded) : Type 0 where
  pub list : Extended (Met t (Within (standing s.on))) (tasks_in t) old before new r.count
  pub answer : r.hopeless ≡ true → Refuted t (Bad (tasks_in t) mode.listing new r.count) (Within (standing s.on))
