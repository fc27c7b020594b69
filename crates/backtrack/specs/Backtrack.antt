-- What the functions of the search below a given partial placement leave.
use Rattle.std.specs.Prelude.{◌≡◌, Bool, true, ◌⊎◌, List, ℕ, ◌<◌}
use Rattle.table.specs.declared.Table.{Table}
use Rattle.rules.specs.Placement.{and_task}
use Rattle.rules.specs.Sets.{standing}
use Rattle.timing.specs.Timing.{tasks_in}
use Rattle.nogoods.specs.declared.Mode.{Mode}
use Rattle.nogoods.specs.Nogoods.{Extended, Bad, Clear}
use Rattle.partial.specs.declared.State.{State}
use Rattle.region.specs.Region.{Within, Refuted, Met, Witness}
use Rattle.symmetry.specs.Symmetry.{Interchangeable}
use Rattle.backtrack.specs.declared.Backtracked.{Backtracked}
use Rattle.backtrack.specs.declared.Outcome.{Outcome}
use Rattle.backtrack.specs.declared.Outcome.TheVariants.{Found, Nothing, GaveUp}

-- the answer on the region of `on`: a placement all of whose sets may stand, or none, as `None` says of the list; only a search that is limited gives up
abbrev pub EndsAs : (List ℕ → ℕ → Type 0) → Table → Mode → (ℕ → ℕ → Bool) → List ℕ → ℕ → Outcome → Type 0
EndsAs None t mode on list count (Found sets) = Witness t (Clear (tasks_in t) mode.listing list count) on sets
EndsAs None t mode on list count Nothing = None list count
EndsAs None t mode on list count GaveUp = mode.limited ≡ true

-- the answer, and the list as it is then
pub record BacktrackedAs (None : List ℕ → ℕ → Type 0) (t : Table) (mode : Mode) (on : ℕ → ℕ → Bool) (old : List ℕ) (before : ℕ) (new : List ℕ) (r : Backtracked) : Type 0 where
  pub list : Extended (Met t (Within on)) (tasks_in t) old before new r.count
  pub answer : EndsAs None t mode on new r.count r.outcome

-- no placement of the region may stand
abbrev pub BacktrackedIn : Table → Mode → (ℕ → ℕ → Bool) → List ℕ → ℕ → List ℕ → Backtracked → Type 0
BacktrackedIn t mode on = BacktrackedAs (λ list count. Refuted t (Bad (tasks_in t) mode.listing list count) (Within on)) t mode on

-- task k on processor p is passed over: no placement there may stand, or a lower processor can stand in for p
abbrev pub Passed : Table → Mode → State → ℕ → ℕ → List ℕ → ℕ → Type 0
Passed t mode s k p list count =
    Refuted t (Bad (tasks_in t) mode.listing list count) (Within (and_task (standing s.on) k p)) ⊎ ((q : ℕ) × (q < p) × Interchangeable t s q p)

abbrev pub ExploredAs : Table → Mode → State → ℕ → ℕ → List ℕ → ℕ → List ℕ → Backtracked → Type 0
ExploredAs t mode s k p = BacktrackedAs (Passed t mode s k p) t mode (and_task (standing s.on) k p)
