-- The processors are looked at one after the other.
use mathlib.Core.Path.{◌≡◌}
use Prim.Native.Nat.{◌-◌, ◌≤◌}
use lib.ListN.{length}
use Rattle.timing.specs.Timing.{tasks_in}
use Rattle.nogoods.specs.Nogoods.{KnownSets}
use Rattle.region.specs.Begins.{Opens}
use Rattle.region.specs.Given.{Gives}
use Rattle.candidates.proofs.Choosing.{Collecting}
use Rattle.candidates.proofs.candidates_of.Given as goal

abbrev pub invariant-loop-p : goal.invariant-loop-p
invariant-loop-p l =
    (l.p ≤ l.instance.sizes.processors) × (length l.sets ≡ 8) × (length l.list ≡ length l.initial.list)
    × Gives l.instance (λ t. Opens t l.s l.initial.list l.count) (λ t. KnownSets (tasks_in t) l.initial.list l.count l.initial.lateness)
    (λ t. Collecting t l.mode l.s l.initial.list l.count l.p l.sets l.list l.listed × KnownSets (tasks_in t) l.list l.listed l.lateness)
