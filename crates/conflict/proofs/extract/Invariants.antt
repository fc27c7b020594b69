-- What is kept stays late and needs each task that was tried.
use Rattle.schedule.specs.Arrays.{tasks_of}
use Rattle.conflict.proofs.ExtractLoop.{Dropping}
use Rattle.conflict.proofs.extract.Given as goal

abbrev pub invariant-loop-k : goal.invariant-loop-k
invariant-loop-k l = Dropping (tasks_of l.n l.timing) l.set l.kept l.k-iterator.left
