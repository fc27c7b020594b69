-- `stands_elsewhere` meets its contract. Assumes nothing.
use mathlib.Core.Bool.{not, ◌&&◌}
use lib.Dec.{eqb}
use lib.ListN.{get_or}
use Rattle.finite.proofs.Search.{Searched}
use Rattle.rules.specs.Sets.{meets}
use Rattle.checking.proofs.stands_elsewhere.Given as goal

abbrev pub invariant-loop-q : goal.invariant-loop-q
invariant-loop-q l = Searched l.m (λ r. not (eqb r l.p) && meets (get_or l.sets r 0) l.group) l.q
