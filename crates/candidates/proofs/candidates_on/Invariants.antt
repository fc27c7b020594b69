-- The open tasks are looked at one after the other.
use mathlib.Core.Path.{◌≡◌}
use lib.ListN.{length}
use Rattle.mask.proofs.Visit.{Visit}
use Rattle.timing.specs.Timing.{tasks_in}
use Rattle.nogoods.specs.Nogoods.{KnownSets}
use Rattle.region.specs.Begins.{Opens}
use Rattle.region.specs.Given.{Gives}
use Rattle.candidates.proofs.Choosing.{Choosing}
use Rattle.candidates.proofs.candidates_on.Given as goal

abbrev pub invariant-loop-k : goal.invariant-loop-k
invariant-loop-k l =
    Visit l.fn.s.left l.k-iterator.left (λ k. Unit {0}) × (length l.list ≡ length l.initial.list)
    × Gives l.instance (λ t. Opens t l.fn.s l.initial.list l.count) (λ t. KnownSets (tasks_in t) l.initial.list l.count l.initial.lateness)
    (λ t. Choosing t l.mode l.fn.s l.p l.initial.list l.count l.set l.k-iterator.left l.list l.listed × KnownSets (tasks_in t) l.list l.listed l.lateness)
