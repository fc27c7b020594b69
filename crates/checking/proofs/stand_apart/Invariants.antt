-- `stand_apart` meets its contract. Assumes nothing.
use mathlib.Core.Bool.{◌&&◌}
use lib.ListN.{get_or}
use Rattle.finite.proofs.Search.{Searched}
use Rattle.rules.specs.Placement.{elsewhere}
use Rattle.rules.specs.Sets.{meets}
use Rattle.checking.proofs.stand_apart.Given as goal

abbrev pub invariant-loop-p : goal.invariant-loop-p
invariant-loop-p l = Searched l.m (λ q. meets (get_or l.sets q 0) l.one && elsewhere l.m q (λ r. meets (get_or l.sets r 0) l.other)) l.p
