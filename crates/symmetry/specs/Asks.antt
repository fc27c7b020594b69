-- What the functions ask of their callers, and what the loops sum.
use Rattle.std.specs.Prelude.{◌≡◌, Bool, List, ℕ, ◌<◌, T, get_or}
use Rattle.mask.specs.Mask.{below, sum_over}
use Rattle.table.specs.declared.Table.{Table}
use Rattle.table.specs.Sound.{Sound}
use Rattle.schedule.specs.Arrays.{Says}
use Rattle.rows.specs.Rows.{loads_of}
use Rattle.partial.specs.declared.State.{State}
use Rattle.partial.specs.Partial.{Fits}
use Rattle.symmetry.specs.Symmetry.{Alike}
use Rattle.rows.specs.declared.Rows.{Rows}

-- a state and a processor of the table whose rows are lent
pub record Asks (t : Table) (rows : Rows) (s : State) (p : ℕ) : Type 0 where
  pub sound : Sound t
  pub same_residence : rows.residence ≡ t.tasks.residence
  pub same_memory : rows.memory ≡ t.tasks.memory
  pub same_loads : rows.load ≡ loads_of t
  pub fits : Fits t s
  pub known : p < t.processors.count

-- the answer r on two rooms is right of the row's sum over the set, among any n tasks that hold it
abbrev pub SaysAlike : Bool → List ℕ → ℕ → ℕ → ℕ → Type 0
SaysAlike r column set a b = (n : ℕ) → T (below n set) → Says r (Alike (sum_over n set (λ k. get_or column k 0)) a b)
