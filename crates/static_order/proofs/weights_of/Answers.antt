-- The tasks are weighed one by one.
use mathlib.Core.Path.{◌∙◌}
use Prim.Native.Nat.{◌-◌}
use borrow.Author.Rules.{rules}
use borrow.Author.Tests.{lt-ltb}
use Rattle.table.proofs.Filling.{fill_start, fill_put, fill_end}
use Rattle.static_order.specs.StaticOrder.{weights_of}
use Rattle.static_order.proofs.weights_of.Goals as goal

pub sum_of-all_memory-requires : goal.sum_of-all_memory-requires
unfolding weights_of
sum_of-all_memory-requires c = search rules

pub sum_of-all_load-requires : goal.sum_of-all_load-requires
unfolding weights_of
sum_of-all_load-requires c = search rules

pub loop-k-init : goal.loop-k-init
unfolding weights_of
loop-k-init c = fill_start _ _ _

pub wide-requires : goal.wide-requires
unfolding weights_of
wide-requires c = search rules

pub millionths-requires : goal.millionths-requires
unfolding weights_of
millionths-requires c = search rules

pub loop-k-preserved : goal.loop-k-preserved
unfolding weights_of
loop-k-preserved c =
    fill_put c.loop-k.invariant c.loop-k-test.true
    (rw (lt-ltb _ _ c.loop-k-test.true, c.millionths.ensures.0, c.wide.ensures.0, c.millionths-in-loop-k.ensures.0, c.wide-in-loop-k.ensures.0))

pub returns : goal.returns
unfolding weights_of
returns c =
    fill_end c.loop-k.invariant c.loop-k-test.false ∙ rw (c.sum_of-all_load.ensures.0, c.sum_of-all_memory.ensures.0)
