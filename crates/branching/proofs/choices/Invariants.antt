-- The processors are asked one by one.
use Prim.Native.Nat.{◌-◌}
use lib.ListN.{get_or}
use Rattle.mask.specs.Mask.{has}
use Rattle.finite.proofs.SumLoop.{Summing}
use Rattle.branching.proofs.choices.Given as goal

abbrev pub invariant-loop-p : goal.invariant-loop-p
invariant-loop-p l = Summing l.processors (λ r. has (get_or l.may r 0) l.k) (λ r. 1) 1 l.p l.found
