-- The tasks are rated one by one.
use Prim.Native.Nat.{◌-◌}
use Rattle.table.proofs.Filling.{Filled}
use Rattle.static_order.specs.StaticOrder.{base_of}
use Rattle.static_order.proofs.bases_of.Given as goal

abbrev pub invariant-loop-k : goal.invariant-loop-k
invariant-loop-k l = Filled 24 l.instance.sizes.tasks (base_of l.instance.timing l.instance.rows l.instance.messages l.instance.sizes l.s) l.k l.bases
