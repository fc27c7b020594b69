-- The members that have come are counted.
use Prim.Native.Nat.{◌+◌}
use lib.ListN.{get_or}
use Rattle.mask.proofs.Visit.{Visit}
use Rattle.subgradient.proofs.Rows.{Changed}
use Rattle.subgradient.proofs.Laws.{tasks_in}
use Rattle.subgradient.proofs.counted.Given as goal

abbrev pub invariant-loop-k : goal.invariant-loop-k
invariant-loop-k l =
    Changed (λ k. get_or l.counts k 0 + 1) l.counts (tasks_in l.set) l.k-iterator.left l.next × Visit (tasks_in l.set) l.k-iterator.left (λ k. Unit {0})
