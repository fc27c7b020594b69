-- `sum_of` meets its contract. Assumes nothing.
use mathlib.Core.Bool.{true}
use lib.ListN.{get_or}
use Rattle.finite.proofs.SumLoop.{Summing}
use Rattle.subgradient.specs.Subgradient.{heaviest}
use Rattle.capacity_bound.proofs.sum_of.Given as goal

abbrev pub invariant-loop-p : goal.invariant-loop-p
invariant-loop-p l = Summing l.m (λ r. true) (λ r. get_or l.tops r 0) heaviest l.p l.sum
