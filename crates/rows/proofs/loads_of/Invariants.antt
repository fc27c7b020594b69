-- `loads_of` meets its contract. Assumes nothing.
use Prim.Native.Nat.{◌*◌, ◌/◌}
use lib.ListN.{get_or}
use Rattle.table.proofs.Filling.{Filled}
use Rattle.rows.proofs.loads_of.Given as goal

abbrev pub invariant-loop-k : goal.invariant-loop-k
invariant-loop-k l = Filled 24 l.t.tasks.count (λ j. get_or l.t.tasks.c j 0 * l.t.hyperperiod / get_or l.t.tasks.t j 0) l.k l.loads
