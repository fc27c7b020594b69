-- The messages are weighed one by one, each at most 4,096.
use mathlib.Core.Bool.{true}
use Prim.Native.Nat.{◌-◌}
use lib.ListN.{get_or}
use Rattle.finite.proofs.SumLoop.{Summing}
use Rattle.static_order.specs.StaticOrder.{message_weight}
use Rattle.static_order.proofs.messages_weight.Given as goal

abbrev pub invariant-loop-j : goal.invariant-loop-j
invariant-loop-j l = Summing l.count (λ i. true) (λ i. message_weight (get_or l.messages.sender i 0) (get_or l.messages.receiver i 0) l.task (get_or l.messages.amount i 0) l.capacity) 4096 l.j l.sum
