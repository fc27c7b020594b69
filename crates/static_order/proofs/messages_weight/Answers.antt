-- The messages are weighed one by one, each at most 4,096.
use mathlib.Core.Path.{refl}
use mathlib.Core.Bool.{true}
use Prim.Native.Nat.{◌-◌}
use borrow.Author.Rules.{rules}
use Rattle.finite.proofs.SumLoop.{summing_start, summing_in, summing_end}
use Rattle.static_order.specs.StaticOrder.{messages_weight}
use Rattle.static_order.proofs.messages_weight.Goals as goal

pub loop-j-init : goal.loop-j-init
unfolding messages_weight
loop-j-init c = summing_start

pub message_weight-sum-requires : goal.message_weight-sum-requires
unfolding messages_weight
message_weight-sum-requires c = search rules

pub loop-j-preserved : goal.loop-j-preserved
unfolding messages_weight
loop-j-preserved c =
    summing_in c.loop-j.invariant c.loop-j-test.true refl (rw (c.wide-from.ensures.0, c.wide-to.ensures.0) at c.message_weight-sum.ensures.0) c.message_weight-sum.ensures.1

pub returns : goal.returns
unfolding messages_weight
returns c = (summing_end c.loop-j.invariant c.loop-j-test.false, search rules)
