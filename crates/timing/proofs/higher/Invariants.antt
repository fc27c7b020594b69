-- The loop has the masks of the tasks below i.
use Rattle.timing.proofs.HigherLoops.{Rows}
use Rattle.timing.proofs.higher.Given as goal

abbrev pub invariant-loop-i : goal.invariant-loop-i
invariant-loop-i l = Rows l.n l.priority l.rows l.i
