-- Of the tasks looked at, each may reside on both or on neither. Assumes nothing.
use mathlib.Core.Path.{◌≡◌}
use lib.ListN.{get_or}
use Rattle.mask.specs.Mask.{has}
use Rattle.mask.proofs.Visit.{Visit}
use Rattle.symmetry.proofs.same_residence.Given as goal

abbrev pub invariant-loop-k : goal.invariant-loop-k
invariant-loop-k l = Visit l.set l.k-iterator.left (λ k. has (get_or l.residence k 0) l.p ≡ has (get_or l.residence k 0) l.q)
