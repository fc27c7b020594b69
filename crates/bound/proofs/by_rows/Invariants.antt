-- One measure after another, until the region is given up.
use mathlib.Core.Path.{◌≡◌}
use mathlib.Core.Bool.{false}
use lib.ListN.{length}
use Rattle.region.specs.Given.{Gives}
use Rattle.bound_cache.specs.BoundCache.{LearntOf}
use Rattle.capacity_bound.specs.Bound.{BoundedAs}
use Rattle.capacity_bound.specs.CapacityBound.{Weighable}
use Rattle.bound.proofs.by_rows.Given as goal

abbrev pub invariant-loop-measure : goal.invariant-loop-measure
invariant-loop-measure l =
    (length l.list ≡ length l.initial.list)
    × Gives l.instance (λ t. Weighable t l.mode l.s l.sets l.initial.list l.count) (λ t. LearntOf t l.initial.list l.count l.instance.rows l.initial.caches.lateness l.initial.caches.bounds)
    (λ t. BoundedAs t l.mode l.s l.initial.list l.count l.list (record { hopeless = false; count = l.listed }) × LearntOf t l.list l.listed l.instance.rows l.caches.lateness l.caches.bounds)
