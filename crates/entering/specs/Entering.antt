-- What is known of a task that was tried on a processor.
use Rattle.std.specs.Prelude.{◌≡◌, Option, Some, None, IfSome, List, ℕ}
use Rattle.table.specs.declared.Table.{Table}
use Rattle.rules.specs.Placement.{and_task}
use Rattle.rules.specs.Sets.{standing}
use Rattle.timing.specs.Timing.{tasks_in}
use Rattle.nogoods.specs.declared.Mode.{Mode}
use Rattle.nogoods.specs.Nogoods.{Extended, Bad}
use Rattle.partial.specs.declared.State.{State}
use Rattle.partial.specs.Partial.{Stepped}
use Rattle.region.specs.Region.{Within, Refuted, Met}
use Rattle.region.specs.Begins.{Stands, Begins}
use Rattle.entering.specs.declared.Entered.{Entered}

-- the answer on task k on processor p: no placement there, or a state to go on from, of which After is known
abbrev pub EntersAs : (State → Type 0) → Table → Mode → State → ℕ → ℕ → List ℕ → ℕ → Option State → Type 0
EntersAs After t mode s k p list count None = Refuted t (Bad (tasks_in t) mode.listing list count) (Within (and_task (standing s.on) k p))
EntersAs After t mode s k p list count (Some next) = Stepped t s k p next × After next

pub record TestedAs (After : List ℕ → ℕ → State → Type 0) (t : Table) (mode : Mode) (s : State) (k p : ℕ) (old : List ℕ) (before : ℕ) (new : List ℕ) (r : Entered) : Type 0 where
  pub list : Extended (Met t (Within (and_task (standing s.on) k p))) (tasks_in t) old before new r.count
  pub answer : EntersAs (After new r.count) t mode s k p new r.count r.next

-- the test alone: what may stand on each processor is as it was
pub record AdmittedAs (t : Table) (mode : Mode) (s : State) (k p : ℕ) (old : List ℕ) (before : ℕ) (new : List ℕ) (r : Entered) : Type 0 where
  pub tested : TestedAs (λ list count next. Stands t mode next list count) t mode s k p old before new r
  pub same_may : IfSome r.next (λ next. next.may ≡ s.may)

-- with what may stand on each processor then
abbrev pub EnteredAs : Table → Mode → State → ℕ → ℕ → List ℕ → ℕ → List ℕ → Entered → Type 0
EnteredAs t mode = TestedAs (λ list count next. Begins t mode next list count) t mode
