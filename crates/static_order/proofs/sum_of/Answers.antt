-- The rooms are added one by one, each below 2^40.
use mathlib.Core.Path.{refl}
use mathlib.Core.Bool.{true}
use Prim.Native.Nat.{◌-◌}
use native.Mathlib.Omega.{arith}
use borrow.Author.Rules.{rules}
use Rattle.finite.proofs.SumLoop.{summing_start, summing_in, summing_end}
use Rattle.static_order.specs.StaticOrder.{sum_of}
use Rattle.static_order.proofs.sum_of.Goals as goal

pub loop-p-init : goal.loop-p-init
unfolding sum_of
loop-p-init c = summing_start

pub short-sum-requires : goal.short-sum-requires
unfolding sum_of
short-sum-requires c = search rules

pub loop-p-preserved : goal.loop-p-preserved
unfolding sum_of
loop-p-preserved c = summing_in c.loop-p.invariant c.loop-p-test.true refl c.short-sum.ensures (omega arith)

pub returns : goal.returns
unfolding sum_of
returns c = (summing_end c.loop-p.invariant c.loop-p-test.false, search rules)
