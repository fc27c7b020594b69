-- `load_on` meets its contract: the load of the first k tasks that stand on p.
use Prim.Native.Nat.{◌*◌, ◌/◌}
use lib.ListN.{get_or}
use Rattle.rules.specs.Placement.{placed}
use Rattle.finite.proofs.SumLoop.{Summing}
use Rattle.report.proofs.load_on.Given as goal

abbrev pub invariant-loop-k : goal.invariant-loop-k
invariant-loop-k l = Summing l.table.tasks.count (λ j. placed l.placement j l.p) (λ j. get_or l.table.tasks.c j 0 * l.table.hyperperiod / get_or l.table.tasks.t j 0) 1000000000 l.k l.load.0
