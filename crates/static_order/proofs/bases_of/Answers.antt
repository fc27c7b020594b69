-- The tasks are rated one by one.
use Prim.Native.Nat.{◌-◌}
use borrow.Author.Rules.{rules}
use Rattle.table.proofs.Filling.{fill_start, fill_put, fill_end}
use Rattle.static_order.specs.StaticOrder.{bases_of}
use Rattle.static_order.proofs.bases_of.Goals as goal

pub loop-k-init : goal.loop-k-init
unfolding bases_of
loop-k-init c = fill_start _ _ _

pub base_of-base-requires : goal.base_of-base-requires
unfolding bases_of
base_of-base-requires c = search rules

pub loop-k-preserved : goal.loop-k-preserved
unfolding bases_of
loop-k-preserved c = fill_put c.loop-k.invariant (search rules) c.base_of-base.ensures

pub returns : goal.returns
unfolding bases_of
returns c = fill_end c.loop-k.invariant c.loop-k-test.false
