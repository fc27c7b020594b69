-- The tasks of the set are looked at one after the other; those that may not stand are taken out.
use Rattle.mask.proofs.Visit.{Visit}
use Rattle.schedule.specs.Arrays.{tasks_of}
use Rattle.nogoods.specs.Nogoods.{KnownSets}
use Rattle.narrowing.specs.Narrowing.{may_stand}
use Rattle.narrowing.proofs.Filtering.{Filtering}
use Rattle.narrowing.proofs.narrow.Given as goal

abbrev pub invariant-loop-k : goal.invariant-loop-k
invariant-loop-k l =
    Visit l.set l.k-iterator.left (λ k. Unit {0}) × Filtering (may_stand l.instance.timing l.instance.rows l.instance.messages l.instance.sizes l.full l.list l.count l.site l.p) l.set l.k-iterator.left l.kept
    × KnownSets (tasks_of l.instance.sizes.tasks l.instance.timing) l.list l.count l.lateness
