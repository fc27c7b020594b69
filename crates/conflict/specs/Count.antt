-- How many of some sets are late.
use Rattle.std.specs.Prelude.{◌&&◌, List, ℕ, get_or, length, Result, Ok, Err}
use Rattle.finite.specs.Finite.{only, sum_to}
use Rattle.mask.specs.Mask.{has, below}
use Rattle.table.specs.declared.Table.{Table}
use Rattle.table.specs.declared.Refusal.{Refusal}
use Rattle.table.specs.Table.{read_of}
use Rattle.schedule.specs.Periodic.{Tasks}
use Rattle.schedule.specs.Response.{late_test}
use Rattle.timing.specs.Timing.{tasks_in}

-- 1 for a late set of tasks
abbrev pub late_as_number : Tasks → ℕ → ℕ
late_as_number s set = only (below s.count set && late_test s (has set)) 1

-- the late ones among the sets
abbrev pub late_count : Tasks → List ℕ → ℕ
late_count s sets = sum_to (length sets) (λ j. late_as_number s (get_or sets j 0))

-- of a file; none where it is refused
abbrev pub late_count_by : Result Table Refusal → List ℕ → ℕ
late_count_by (Ok t) sets = late_count (tasks_in t) sets
late_count_by (Err r) sets = 0

abbrev pub late_count_of : List ℕ → List ℕ → ℕ
late_count_of s sets = late_count_by (read_of s) sets
