-- The times of a sound table's tasks: what holds of C, T and D whatever D may be beside T. Assumes nothing.
use Prim.Native.Nat.{ℕ, ◌≤◌, ◌<◌}
use native.Mathlib.Omega.{arith}
use lib.ListN.{get_or}
use Rattle.table.specs.declared.Table.{Table}
use Rattle.table.specs.Sound.{Sound}

module _ {t : Table} (s : Sound t) (j : ℕ) (l : j < t.tasks.count) where
  -- a job's work fits into its period
  pub work_in_period : get_or t.tasks.c j 0 ≤ get_or t.tasks.t j 0
  work_in_period = omega (arith, s.tasks.c_d j l, s.tasks.d_t j l)

  -- no period is empty
  pub some_period : 1 ≤ get_or t.tasks.t j 0
  some_period = omega (arith, s.tasks.works j l, work_in_period)

  -- no deadline is 0
  pub some_deadline : 1 ≤ get_or t.tasks.d j 0
  some_deadline = omega (arith, s.tasks.works j l, s.tasks.c_d j l)

  -- no deadline is beyond 1,000,000 ticks
  pub deadline_most : get_or t.tasks.d j 0 ≤ 1000000
  deadline_most = omega (arith, s.tasks.d_t j l, s.tasks.ticks j l)
