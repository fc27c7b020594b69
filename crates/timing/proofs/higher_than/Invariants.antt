-- The loop has the tasks of larger priority below j.
use Rattle.timing.proofs.HigherLoops.{Row}
use Rattle.timing.proofs.higher_than.Given as goal

abbrev pub invariant-loop-j : goal.invariant-loop-j
invariant-loop-j l = Row l.n l.priority l.i l.set l.j
