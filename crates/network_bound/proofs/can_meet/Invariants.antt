-- `can_meet` meets its contract. Assumes nothing.
use mathlib.Core.Bool.{◌&&◌}
use Prim.Native.Nat.{◌-◌}
use lib.ListN.{get_or}
use Rattle.finite.proofs.Search.{Searched}
use Rattle.knapsack.specs.Knapsack.{joined}
use Rattle.network_bound.proofs.can_meet.Given as goal

abbrev pub invariant-loop-p : goal.invariant-loop-p
invariant-loop-p l = Searched l.m (λ r. joined (get_or l.s.on r 0) (get_or l.sets r 0) l.from && joined (get_or l.s.on r 0) (get_or l.sets r 0) l.to) l.p
