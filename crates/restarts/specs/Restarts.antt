-- What the two ways to search a region leave.
use Rattle.std.specs.Prelude.{◌≡◌, Bool, true, false, Option, Some, None, List, ℕ}
use Rattle.table.specs.declared.Table.{Table}
use Rattle.schedule.specs.Periodic.{LateSet}
use Rattle.timing.specs.Timing.{tasks_in}
use Rattle.nogoods.specs.Nogoods.{Extended, Covered, Clear}
use Rattle.region.specs.Region.{Within, Refuted, Met, Witness}
use Rattle.backtrack.specs.declared.Outcome.{Outcome}
use Rattle.backtrack.specs.declared.Outcome.TheVariants.{Found, Nothing, GaveUp}
use Rattle.restarts.specs.declared.Listed.{Listed}

-- each placement of the region of `on` that keeps the rules has a late set on a processor
abbrev pub NoneGood : Table → (ℕ → ℕ → Bool) → Type 0
NoneGood t on = Refuted t (LateSet (tasks_in t)) (Within on)

-- the answer on the region of `on`: a placement without a late set, or that there is none
abbrev pub DecidedAs : Table → (ℕ → ℕ → Bool) → Option (List ℕ) → Type 0
DecidedAs t on (Some sets) = Witness t (λ x. LateSet (tasks_in t) x → ⊥) on sets
DecidedAs t on None = NoneGood t on

-- the same of one run, which gives up only where it is limited
abbrev pub AttemptedAs : Table → Bool → (ℕ → ℕ → Bool) → Outcome → Type 0
AttemptedAs t limited on (Found sets) = DecidedAs t on (Some sets)
AttemptedAs t limited on Nothing = DecidedAs t on None
AttemptedAs t limited on GaveUp = limited ≡ true

-- the mark of the region: each of its placements holds a listed conflict, or the list is full and one holds none
abbrev pub CutAs : Bool → Table → (ℕ → ℕ → Bool) → List ℕ → ℕ → Type 0
CutAs false t on list count = Refuted t (Covered list count) (Within on)
CutAs true t on list count = (sets : List ℕ) × Witness t (Clear (tasks_in t) true list count) on sets

-- what listing a region's conflicts leaves
pub record CoveringAs (t : Table) (on : ℕ → ℕ → Bool) (old : List ℕ) (before : ℕ) (new : List ℕ) (r : Listed) : Type 0 where
  pub list : Extended (Met t (Within on)) (tasks_in t) old before new r.count
  pub mark : CutAs r.cut t on new r.count
