-- `stands_outside` meets its contract. Assumes nothing.
use mathlib.Core.Bool.{not, ◌&&◌}
use lib.ListN.{get_or}
use Rattle.finite.proofs.Search.{Searched}
use Rattle.mask.specs.Mask.{has}
use Rattle.checking.proofs.stands_outside.Given as goal

abbrev pub invariant-loop-p : goal.invariant-loop-p
invariant-loop-p l = Searched l.m (λ q. has (get_or l.sets q 0) l.k && not (has l.residence q)) l.p
