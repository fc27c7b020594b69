-- The tasks of a sound table are within the limits of the response calculation.
use mathlib.Core.Path.{refl}
use Prim.Native.Nat.{ℕ, ◌^◌}
use borrow.Author.Tests.{lt-ltb}
use lib.Dec.{T}
use lib.Pow.{pow_pos}
use Rattle.mask.specs.Mask.{below}
use Rattle.table.specs.declared.Table.{Table}
use Rattle.table.specs.Sound.{Sound}
use Rattle.schedule.specs.Periodic.{Valid, Constrained}
use Rattle.schedule.specs.Arrays.{InLimits}
use Rattle.schedule.proofs.TasksOfArrays.{valid_of, constrained_of}
use Rattle.timing.specs.Timing.{timing_of, tasks_in}

pub none_below : (n : ℕ) → T (below n 0)
none_below n = rw (lt-ltb 0 (2 ^ n) (pow_pos n)) tt

module _ {t : Table} (h : Sound t) where
  pub limits_of : (set : ℕ) → T (below t.tasks.count set) → InLimits t.tasks.count (timing_of t) set
  limits_of set e = record {
    few = h.tasks.most;
    some_work = h.tasks.works;
    in_deadline = h.tasks.c_d;
    in_period = h.tasks.d_t;
    short_period = h.tasks.ticks;
    distinct = h.tasks.distinct;
    ranked = refl;
    inside = e;
  }

  pub valid_tasks : Valid (tasks_in t)
  valid_tasks = valid_of (limits_of 0 (none_below t.tasks.count))

  pub constrained_tasks : Constrained (tasks_in t)
  constrained_tasks = constrained_of (limits_of 0 (none_below t.tasks.count))
