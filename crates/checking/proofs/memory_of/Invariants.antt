-- `memory_of` meets its contract. Assumes nothing.
use lib.ListN.{get_or}
use Rattle.mask.specs.Mask.{has}
use Rattle.finite.proofs.SumLoop.{Summing}
use Rattle.checking.proofs.memory_of.Given as goal

abbrev pub invariant-loop-k : goal.invariant-loop-k
invariant-loop-k l = Summing l.tasks.count (has l.set) (λ j. get_or l.tasks.memory j 0) 4294967295 l.k l.sum
