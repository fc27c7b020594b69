-- The members that have come have moved.
use lib.ListN.{get_or}
use Rattle.mask.proofs.Visit.{Visit}
use Rattle.subgradient.specs.Subgradient.{moved_weight}
use Rattle.subgradient.proofs.Rows.{Changed}
use Rattle.subgradient.proofs.moved.Given as goal

abbrev pub invariant-loop-k : goal.invariant-loop-k
invariant-loop-k l =
    let left = l.k-iterator.left in
    Visit l.left left (λ k. Unit {0}) × Changed (λ k. moved_weight (get_or l.weights k 0) (get_or l.direction k 0) l.stride l.norm) l.weights l.left left l.next
