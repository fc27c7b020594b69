-- The members that have come have a response; one without makes the set late.
use Prim.Native.Nat.{◌<◌}
use Rattle.mask.specs.Mask.{has}
use Rattle.mask.proofs.Visit.{Visit}
use Rattle.schedule.specs.Response.{response}
use Rattle.schedule.specs.Arrays.{tasks_of}
use Rattle.schedule.proofs.is_late.Given as goal

abbrev pub invariant-loop-i : goal.invariant-loop-i
invariant-loop-i l = Visit l.set l.i-iterator.left (λ k. 0 < response (tasks_of l.n l.timing) (has l.set) k)
