-- The tasks of a table in the tick run.
use Rattle.table.specs.declared.Table.{Table}
use Rattle.schedule.specs.Periodic.{Tasks}
use Rattle.schedule.specs.Arrays.{tasks_of, higher_of}
use Rattle.schedule.specs.declared.Timing.{Timing}

-- their rows: C, T, D, the priority, and the tasks of larger priority
abbrev pub timing_of : Table → Timing
timing_of t = record { work = t.tasks.c; period = t.tasks.t; deadline = t.tasks.d; priority = t.tasks.priority; higher = higher_of t.tasks.count t.tasks.priority }

-- 01: C is the worst execution time, T the period, D the deadline; the larger priority number goes first
abbrev pub tasks_in : Table → Tasks
tasks_in t = tasks_of t.tasks.count (timing_of t)
