-- The tasks tried are needed: the set is in time without each.
use Rattle.mask.proofs.Visit.{Visit}
use Rattle.schedule.specs.Arrays.{tasks_of}
use Rattle.conflict.specs.Conflict.{Needed}
use Rattle.conflict.proofs.classify.Given as goal

abbrev pub invariant-loop-k : goal.invariant-loop-k
invariant-loop-k l = Visit l.set l.k-iterator.left (Needed (tasks_of l.n l.timing) l.set)
