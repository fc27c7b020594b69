-- The sum is that of the members that have come.
use Rattle.mask.proofs.Summed.{Summed}
use Rattle.subgradient.proofs.Laws.{square}
use Rattle.subgradient.proofs.norm.Given as goal

abbrev pub invariant-loop-k : goal.invariant-loop-k
invariant-loop-k l = Summed l.left l.k-iterator.left (square l.direction) l.sum
