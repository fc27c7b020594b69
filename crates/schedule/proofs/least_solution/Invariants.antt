-- The loop keeps x within the limit and on the way to the least solution.
use Prim.Native.Nat.{◌-◌}
use Rattle.mask.specs.Mask.{has}
use Rattle.schedule.specs.Response.{demand}
use Rattle.schedule.specs.Arrays.{tasks_of}
use Rattle.schedule.proofs.ResponseLoop.{Repeating}
use Rattle.schedule.proofs.least_solution.Given as goal

abbrev pub invariant-loop-y : goal.invariant-loop-y
invariant-loop-y l = Repeating (demand (tasks_of l.n l.timing) (has l.set) l.i) l.limit l.most l.x

abbrev pub decreases-loop-y : goal.decreases-loop-y
decreases-loop-y l = l.most - l.x
