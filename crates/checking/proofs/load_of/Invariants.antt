-- `load_of` meets its contract. Assumes nothing.
use Prim.Native.Nat.{◌*◌, ◌/◌}
use lib.ListN.{get_or}
use Rattle.mask.specs.Mask.{has}
use Rattle.finite.proofs.SumLoop.{Summing}
use Rattle.checking.proofs.load_of.Given as goal

abbrev pub invariant-loop-k : goal.invariant-loop-k
invariant-loop-k l = Summing l.tasks.count (has l.set) (λ j. get_or l.tasks.c j 0 * l.h / get_or l.tasks.t j 0) l.h l.k l.load.0
