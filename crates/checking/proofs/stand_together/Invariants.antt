-- `stand_together` meets its contract. Assumes nothing.
use lib.ListN.{get_or}
use Rattle.finite.proofs.Search.{Searched}
use Rattle.rules.specs.Sets.{two_of}
use Rattle.checking.proofs.stand_together.Given as goal

abbrev pub invariant-loop-p : goal.invariant-loop-p
invariant-loop-p l = Searched l.m (λ q. two_of l.group (get_or l.sets q 0)) l.p
