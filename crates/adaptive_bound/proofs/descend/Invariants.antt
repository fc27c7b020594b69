-- One round after another, each after the bounds before it. The measure is how many rounds are left, and one more while the region is not given up.
use mathlib.Core.Path.{◌≡◌}
use mathlib.Core.Bool.{cond}
use Prim.Native.Nat.{◌+◌}
use lib.ListN.{length}
use Rattle.region.specs.Given.{Gives}
use Rattle.bound_cache.specs.BoundCache.{LearntOf}
use Rattle.capacity_bound.specs.Bound.{BoundedAs}
use Rattle.capacity_bound.specs.CapacityBound.{Weighable}
use Rattle.descent.specs.Descent.{Moves}
use Rattle.adaptive_bound.proofs.descend.Given as goal

abbrev pub invariant-loop-hopeless : goal.invariant-loop-hopeless
invariant-loop-hopeless l =
    (length l.list ≡ length l.initial.list) × Moves l.descent
    × Gives l.instance (λ t. Weighable t l.mode l.s l.sets l.initial.list l.count) (λ t. LearntOf t l.initial.list l.count l.instance.rows l.initial.caches.lateness l.initial.caches.bounds)
    (λ t. BoundedAs t l.mode l.s l.initial.list l.count l.list (record { hopeless = l.hopeless; count = l.listed }) × LearntOf t l.list l.listed l.instance.rows l.caches.lateness l.caches.bounds)

abbrev pub decreases-loop-hopeless : goal.decreases-loop-hopeless
decreases-loop-hopeless l = cond l.hopeless 0 (l.descent.rounds + 1)
