-- The least solution up to the period.
use native.Mathlib.Omega.{arith}
use Rattle.mask.specs.Mask.{has}
use Rattle.schedule.specs.Response.{worst_response}
use Rattle.schedule.specs.Arrays.{tasks_of}
use Rattle.schedule.proofs.FixedPoint.{least_small}
use Rattle.schedule.proofs.TasksOfArrays.{valid_of, work_in_period}
use Rattle.schedule.proofs.LateSets.{worst_least}
use Rattle.schedule.proofs.worst_response.Goals as goal

pub least_solution-requires : goal.least_solution-requires
least_solution-requires c = let p = c.requires in (p.0, p.1, work_in_period p.0 _ p.1, p.0.short_period _ p.1)

pub returns : goal.returns
unfolding worst_response
returns c =
    let p = c.requires in
    let a = c.args in
    let small = least_small (worst_least (tasks_of a.n a.timing.now) (valid_of p.0) (has a.set) a.i p.1) in
    (c.least_solution.ensures, omega (arith, c.least_solution.ensures, small, p.0.short_period a.i p.1))
