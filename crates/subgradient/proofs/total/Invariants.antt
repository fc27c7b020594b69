-- The sum is that of the members that have come.
use lib.ListN.{get_or}
use Rattle.mask.proofs.Summed.{Summed}
use Rattle.subgradient.proofs.total.Given as goal

abbrev pub invariant-loop-k : goal.invariant-loop-k
invariant-loop-k l = Summed l.set l.k-iterator.left (λ k. get_or l.weights k 0) l.sum
