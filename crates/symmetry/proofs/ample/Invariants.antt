-- The room left falls by what each task of the set needs. Assumes nothing.
use Rattle.symmetry.proofs.Taking.{Taking}
use Rattle.symmetry.proofs.ample.Given as goal

abbrev pub invariant-loop-k : goal.invariant-loop-k
invariant-loop-k l = Taking l.row l.set l.room l.free l.k-iterator.left
