-- The rooms are added one by one, each below 2^40.
use mathlib.Core.Bool.{true}
use Prim.Native.Nat.{◌-◌}
use lib.ListN.{get_or}
use Rattle.finite.proofs.SumLoop.{Summing}
use Rattle.static_order.specs.StaticOrder.{short}
use Rattle.static_order.proofs.sum_of.Given as goal

abbrev pub invariant-loop-p : goal.invariant-loop-p
invariant-loop-p l = Summing 8 (λ j. true) (λ j. short (get_or l.rooms j 0)) 1099511627776 l.p l.sum
