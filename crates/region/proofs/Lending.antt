-- What the response calculation needs of the rows that are lent. Assumes nothing.
use mathlib.Core.Path.{◌≡◌, refl}
use mathlib.Core.List.{List}
use Prim.Native.Nat.{ℕ}
use lib.Dec.{T}
use lib.ListN.{get_or}
use Rattle.mask.specs.Mask.{has, below, insert_of}
use Rattle.mask.proofs.Laws.{has_below, insert_below}
use Rattle.table.specs.declared.Table.{Table}
use Rattle.schedule.specs.Arrays.{tasks_of, InLimits}
use Rattle.timing.specs.Timing.{tasks_in}
use Rattle.timing.proofs.Limits.{limits_of}
use Rattle.partial.specs.declared.Sizes.{Sizes}
use Rattle.partial.specs.declared.State.{State}
use Rattle.partial.specs.Partial.{Partial, Fits}
use Rattle.region.specs.Lends.{Lends}
use Rattle.schedule.specs.declared.Timing.{Timing}
use Rattle.rows.specs.declared.Rows.{Rows}
use Rattle.rows.specs.declared.Messages.{Messages}

-- the tasks on a processor
pub set_below : {t : Table} {sets : List ℕ} → Partial t sets → (p : ℕ) → T (below t.tasks.count (get_or sets p 0))
set_below {t} {sets} w p = has_below t.tasks.count (get_or sets p 0) (λ k. w.task k p)

module _ {t : Table} {sizes : Sizes} {timing : Timing} {rows : Rows} {links : Messages} (l : Lends t sizes timing rows links) where
  pub lent_tasks : tasks_of sizes.tasks timing ≡ tasks_in t
  lent_tasks = rw (l.rules.tasks, l.same_timing) refl

  pub lent_limits : {set : ℕ} → T (below t.tasks.count set) → InLimits sizes.tasks timing set
  lent_limits {set} b = rw (l.rules.tasks, l.same_timing) (limits_of l.rules.sound set b)

  -- the tasks on a processor, and an open one
  pub limits_with : {s : State} → Fits t s → (k : ℕ) → T (has s.left k) → (p : ℕ) → InLimits sizes.tasks timing (insert_of (get_or s.on p 0) k)
  limits_with {s} f k waits p = lent_limits (insert_below t.tasks.count (get_or s.on p 0) k (set_below f.partial p) (f.open_task k waits).0)
