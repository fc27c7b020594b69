-- The interference is that of the set's tasks of larger priority.
use native.Mathlib.Omega.{arith}
use Rattle.schedule.proofs.TasksOfArrays.{work_bound, small_shares, demand_of}
use Rattle.schedule.proofs.demand_at.Goals as goal

pub interference-requires : goal.interference-requires
interference-requires c = let p = c.requires in (small_shares p.0 _ p.1, p.2)

pub overflow_add-result : goal.overflow_add-result
overflow_add-result c =
    let p = c.requires in
    record { fits = omega (arith, c.wide.ensures.0, c.interference.ensures.1, work_bound p.0 _ p.1) }

pub returns : goal.returns
returns c =
    demand_of c.requires.0 c.args.i c.args.x c.requires.1 c.wide.ensures.0 c.interference.ensures.0
