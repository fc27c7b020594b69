-- The tasks are weighed one by one.
use Prim.Native.Nat.{◌+◌, ◌-◌}
use lib.ListN.{get_or}
use Rattle.table.proofs.Filling.{Filled}
use Rattle.static_order.specs.StaticOrder.{millionths_of}
use Rattle.static_order.proofs.weights_of.Given as goal

abbrev pub invariant-loop-k : goal.invariant-loop-k
invariant-loop-k l = Filled 24 24 (λ j. millionths_of (get_or l.rows.load j 0) l.all_load + millionths_of (get_or l.rows.memory j 0) l.all_memory) l.k l.weights
